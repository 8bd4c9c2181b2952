-- The semi-simple rules and nets: their open nets with the steps that build them, or the first stuck sub-net. Lafont 1990 asks
-- for semi-simple right members and nets; the codes and the places are this project's own choice.
use Rattle.std.specs.Prelude.{◌≡◌, ℕ, ◌<◌, List, length, slice_get, Some, None, Result, Ok, Err}
use Rattle.in_syntax.specs.declared.faults.Code.{Code}
use Rattle.in_syntax.specs.declared.faults.Code.TheVariants.{E12, E13}
use Rattle.in_syntax.specs.declared.faults.Fault.{Fault}
use Rattle.in_syntax.specs.declared.faults.Fault.TheVariants.{Refused, Memory}
use Rattle.in_syntax.specs.declared.faults.Refusal.{Refusal}
use Rattle.in_symbols.specs.Tables.{Tables}
use Rattle.in_net.specs.Parts.{Parts}
use Rattle.in_net.specs.Rules.{RuleParts}
use Rattle.in_open_nets.specs.Derivations.{IsDerivation}
use Rattle.in_open_nets.specs.OpenNets.{OpenNet, IsDerivable}
use Rattle.in_open_nets_of_programs.specs.Opening.{Opens}
use Rattle.in_open_nets_of_programs.specs.OpeningRules.{OpensRule}
use Rattle.in_open_nets.specs.Stuck.{IsStuckAt}
use Rattle.in_simple_deriving.specs.TakenOrder.{AreTaken}
use Rattle.in_check.specs.declared.checked.Certificate.{Certificate}

-- ---- an open net

-- the open net is built by the steps, which come in their order
abbrev pub IsCertificate : Certificate → Type 0
IsCertificate c = IsDerivation c.shape c.derivation.steps × AreTaken c.shape c.derivation.steps

-- no steps build it, and so it is refused there with this code
pub record IsRefusedAt (o : OpenNet) (code : Code) (r : Refusal) : Type 0 where
  pub underivable : IsDerivable o → ⊥
  pub at : IsStuckAt o r.place
  pub code_is : r.code ≡ code
  pub other : r.other ≡ None

abbrev pub Certifies : OpenNet → Code → Result Certificate Fault → Type 0
Certifies o code (Ok c) = (c.shape ≡ o) × IsCertificate c
Certifies o code (Err (Refused r)) = IsRefusedAt o code r
Certifies o code (Err (Memory e)) = Unit {0}

-- ---- a rule, and the net

-- an open net with this property is built by the steps, or one is refused
abbrev pub CertifiesSome : (OpenNet → Type 0) → Code → Result Certificate Fault → Type 0
CertifiesSome P code (Ok c) = P c.shape × IsCertificate c
CertifiesSome P code (Err (Refused r)) = (o : OpenNet) × P o × IsRefusedAt o code r
CertifiesSome P code (Err (Memory e)) = Unit {0}

-- the result for the rule's open net
abbrev pub CertifiesRule : Tables → RuleParts → Result Certificate Fault → Type 0
CertifiesRule t p = CertifiesSome (OpensRule t p) E12

-- the result for the net's open net
abbrev pub CertifiesNet : Tables → Parts → Result Certificate Fault → Type 0
CertifiesNet t n = CertifiesSome (Opens t n) E13

-- ---- rule by rule

-- each rule has its certificate
pub record AreCertified (t : Tables) (rules : List RuleParts) (certificates : List Certificate) : Type 0 where
  pub count : length certificates ≡ length rules
  pub each : (i : ℕ) (p : RuleParts) (c : Certificate) → slice_get rules i ≡ Some p → slice_get certificates i ≡ Some c → CertifiesRule t p (Ok c)

-- a rule is refused, and no rule before it is
pub record IsRuleStuck (t : Tables) (rules : List RuleParts) (r : Refusal) : Type 0 where
  pub number : ℕ
  pub rule : RuleParts
  pub stands : slice_get rules number ≡ Some rule
  pub refused : CertifiesRule t rule (Err (Refused r))
  pub first : (i : ℕ) (p : RuleParts) → i < number → slice_get rules i ≡ Some p → (c : Certificate) × CertifiesRule t p (Ok c)

abbrev pub CertifiesRules : Tables → List RuleParts → Result (List Certificate) Fault → Type 0
CertifiesRules t rules (Ok cs) = AreCertified t rules cs
CertifiesRules t rules (Err (Refused r)) = IsRuleStuck t rules r
CertifiesRules t rules (Err (Memory e)) = Unit {0}
