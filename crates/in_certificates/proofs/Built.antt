-- The net that steps build, by the numbers of the steps.
use Rattle.std.proofs.Common.{◌≡◌, ◌↔◌, ◌∙◌, ℕ, Bool, IsTrue, IfOk, List, Option, Some, Result, option_map, ap, subst, sym}
use Rattle.in_open_nets.specs.OpenNets.{OpenNet}
use Rattle.in_open_nets.specs.declared.derivations.Step.{Step}
use Rattle.in_open_nets.specs.Derivations.{IsDerivation}
use Rattle.in_check.specs.Programs.{Certified, certificate_of}
use Rattle.in_check.specs.declared.checked.Item.{Item}
use Rattle.in_certificates.specs.Verifying.{AreStepsOf, item_of, shape_of}

pub by_steps : {E : Type 0} (shape : OpenNet) (steps : List Step) (found : Option (List Step)) (r : Result Bool E) → Some steps ≡ found → IfOk r (λ b. IsTrue b ↔ IsDerivation shape steps) → IfOk r (λ b. IsTrue b ↔ AreStepsOf (Some shape) found)
by_steps shape steps found r is builds = subst (λ (z : Option (List Step)). IfOk r (λ b. IsTrue b ↔ AreStepsOf (Some shape) z)) is builds

shape_at : (p : Certified) (k : ℕ) (i : Item) (shape : OpenNet) → Some i ≡ item_of p.program k → option_map (λ c. c.shape) (certificate_of p i) ≡ Some shape → shape_of p (item_of p.program k) ≡ Some shape
shape_at p k i shape is made = ap (λ (z : Option Item). shape_of p z) (sym is) ∙ made

pub by_item : {E : Type 0} (p : Certified) (k : ℕ) (i : Item) (shape : OpenNet) (found : Option (List Step)) (r : Result Bool E) → Some i ≡ item_of p.program k → option_map (λ c. c.shape) (certificate_of p i) ≡ Some shape
    → IfOk r (λ b. IsTrue b ↔ AreStepsOf (Some shape) found) → IfOk r (λ b. IsTrue b ↔ AreStepsOf (shape_of p (item_of p.program k)) found)
by_item p k i shape found r is made builds = subst (λ (z : Option OpenNet). IfOk r (λ b. IsTrue b ↔ AreStepsOf z found)) (sym (shape_at p k i shape is made)) builds
