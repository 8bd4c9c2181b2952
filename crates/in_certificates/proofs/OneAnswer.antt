-- Given steps are judged once: a text has one program, or one refusal.
use Rattle.std.proofs.Common.{◌≡◌, ◌↔◌, ◌∙◌, ℕ, Bool, IsTrue, List, Option, Some, None, Ok, Err, option_map, slice_get, refl, sym, ap, subst}
use Rattle.in_syntax.specs.declared.faults.Fault.TheVariants.{Refused, Memory}
use Rattle.in_open_nets.specs.OpenNets.{OpenNet}
use Rattle.in_open_nets.proofs.Public.{same_test}
use Rattle.in_check.specs.Laws.{AreOneCertified}
use Rattle.in_check.specs.Programs.{Certified}
use Rattle.in_check.specs.declared.checked.Certificate.{Certificate}
use Rattle.in_check.specs.declared.checked.Item.{Item}
use Rattle.in_check.specs.declared.checked.Item.TheVariants.{RuleItem, NetItem}
use Rattle.in_check.proofs.Public.{checked_once}
use Rattle.in_certificates.specs.declared.given.GivenStep.{GivenStep}
use Rattle.in_certificates.specs.Given.{steps_of}
use Rattle.in_certificates.specs.Laws.{StepsAreJudgedOnce}
use Rattle.in_certificates.specs.Verifying.{AreStepsOf, item_of, shape_of}

module _ (p q : Certified) (one : AreOneCertified p q) (k : ℕ) where
  item_same : item_of p.program k ≡ item_of q.program k
  item_same = let e = one.program.rules in cc

  shapes : (i : Option Item) → shape_of p i ≡ shape_of q i
  shapes None = refl
  shapes (Some NetItem) = ap (λ (c : Certificate). let z : Option OpenNet = Some c.shape in z) one.net_certificate
  shapes (Some (RuleItem n)) = ap (λ (c : List Certificate). option_map (λ (z : Certificate). z.shape) (slice_get c n.0)) one.rule_certificates

  shape_same : shape_of p (item_of p.program k) ≡ shape_of q (item_of q.program k)
  shape_same = shapes (item_of p.program k) ∙ ap (shape_of q) item_same

  pub judged_alike : (given : List GivenStep) (parts : List ℕ) (b c : Bool) → (IsTrue b ↔ AreStepsOf (shape_of p (item_of p.program k)) (steps_of parts given)) → (IsTrue c ↔ AreStepsOf (shape_of q (item_of q.program k)) (steps_of parts given)) → b ≡ c
  judged_alike given parts b c h g =
      let same = λ (z : Option OpenNet). AreStepsOf z (steps_of parts given) in
      same_test b c (λ yes. g.1 (subst same shape_same (h.0 yes))) (λ yes. h.1 (subst same (sym shape_same) (g.0 yes)))

pub steps_are_judged_once : StepsAreJudgedOnce
steps_are_judged_once limits text k given parts (Ok b) (Ok c) (p, accepted, h) (q, accepted_too, g) = judged_alike p q (checked_once limits text (Ok p) (Ok q) accepted accepted_too) k given parts b c h g
steps_are_judged_once limits text k given parts (Ok b) (Err (Refused r)) (p, accepted, h) refused = checked_once limits text (Ok p) (Err (Refused r)) accepted refused
steps_are_judged_once limits text k given parts (Ok b) (Err (Memory e)) h g = tt
steps_are_judged_once limits text k given parts (Err (Refused r)) (Ok b) refused (p, accepted, h) = checked_once limits text (Err (Refused r)) (Ok p) refused accepted
steps_are_judged_once limits text k given parts (Err (Refused r)) (Err (Refused s)) one other = checked_once limits text (Err (Refused r)) (Err (Refused s)) one other
steps_are_judged_once limits text k given parts (Err (Refused r)) (Err (Memory e)) h g = tt
steps_are_judged_once limits text k given parts (Err (Memory e)) b h g = tt
