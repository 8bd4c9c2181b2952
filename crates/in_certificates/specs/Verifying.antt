-- Whether given steps build a rule or the net of a text.
use Rattle.std.specs.Prelude.{ℕ, nat_lt, ◌==◌, if◌then◌else◌, Bool, IsTrue, ◌↔◌, List, length, Option, Some, None, option_map, Result, Ok, Err}
use Rattle.in_syntax.specs.declared.text_limits.TextLimits.{TextLimits}
use Rattle.in_syntax.specs.declared.faults.Fault.{Fault}
use Rattle.in_syntax.specs.declared.faults.Fault.TheVariants.{Refused, Memory}
use Rattle.in_open_nets.specs.OpenNets.{OpenNet}
use Rattle.in_open_nets.specs.declared.derivations.Step.{Step}
use Rattle.in_open_nets.specs.Derivations.{IsDerivation}
use Rattle.in_check.specs.Checking.{IsCertified, IsRefused}
use Rattle.in_check.specs.Programs.{Certified, Program, certificate_of}
use Rattle.in_check.specs.declared.checked.Item.{Item}
use Rattle.in_check.specs.declared.checked.Item.TheVariants.{RuleItem, NetItem}
use Rattle.in_certificates.specs.declared.given.GivenStep.{GivenStep}
use Rattle.in_certificates.specs.Given.{steps_of}

-- the rule of that number; the net has the number after the last one
abbrev pub item_of : Program → ℕ → Option Item
item_of p k = if nat_lt k (length p.rules) then Some (RuleItem (record { 0 = k })) else (if k == length p.rules then Some NetItem else None)

-- its open net
abbrev pub shape_of : Certified → Option Item → Option OpenNet
shape_of c None = None
shape_of c (Some i) = option_map (λ x. x.shape) (certificate_of c i)

-- there is an open net, there are steps, and these build it
abbrev pub AreStepsOf : Option OpenNet → Option (List Step) → Type 0
AreStepsOf (Some shape) (Some steps) = IsDerivation shape steps
AreStepsOf _ _ = ⊥

-- whether the numbers are steps that build the rule of that number, or the net, of the accepted program; or the text has this refusal
abbrev pub Verifies : TextLimits → List ℕ → ℕ → List GivenStep → List ℕ → Result Bool Fault → Type 0
Verifies limits text k given parts (Ok builds) = (c : Certified) × IsCertified limits text c × (IsTrue builds ↔ AreStepsOf (shape_of c (item_of c.program k)) (steps_of parts given))
Verifies limits text k given parts (Err (Refused r)) = IsRefused limits text r
Verifies limits text k given parts (Err (Memory e)) = Unit {0}
