-- The invariant of a reducer's net, which has free ends and is a part of a net: it is sound, and the program needn't reach it.
use Rattle.std.specs.Prelude.{◌≡◌, ◌≤◌, ℕ, suc, List, count_by, is_some}
use Rattle.in_net.specs.declared.nets.AgentNo.{AgentNo}
use Rattle.in_net.specs.Built.{IsOver}
use Rattle.in_net.specs.Nets.{Net, net_of}
use Rattle.in_net.specs.Parts.{IsWhole}
use Rattle.in_interaction.specs.Interacting.{most_agents}
use Rattle.in_check.specs.Checking.{IsAccepted}
use Rattle.in_check.specs.Plain.{PlainParts, IsPlain, StepsTo, StepsAs, IsPairAt, HasItsRules}
use Rattle.in_check.specs.Promises.{IsAsPromised}
use Rattle.in_check.specs.Systems.{IsSound, system_of}
use Rattle.in_order.specs.PartRuns.{Run}
use Rattle.in_syntax.specs.declared.text_limits.TextLimits.{TextLimits}

-- the net is sound for the program's rules, and has its symbols
pub record IsReducible (p : PlainParts) : Type 0 where
  pub sound : IsSound (system_of p.program) (net_of p.net)
  pub over : IsOver p.program.tables p.net

-- a net that the program reaches is such a net
abbrev pub PlainIsReducible : Type 0
PlainIsReducible = (limits : TextLimits) (text : List ℕ) (p : PlainParts) → IsAccepted limits text p.program → IsPlain p → IsReducible p

-- q's net is such a net, and each run that leads to p's leads to it by one interaction more
abbrev pub IsOneStepOn : PlainParts → PlainParts → Type 0
IsOneStepOn p q = IsReducible q × ((k : ℕ) (n : Net ℕ) → Run (system_of p.program) k n (net_of p.net) → Run (system_of p.program) (suc k) n (net_of q.net))

-- a step leads from such a net to such a net, and is one interaction more of a run
abbrev pub ReducibleSteps : Type 0
ReducibleSteps = (limits : TextLimits) (text : List ℕ) (p q : PlainParts) (a b : AgentNo) → IsAccepted limits text p.program → IsReducible p → IsPairAt p a b → StepsTo p a b q →
    IsOneStepOn p q

-- .. also under other names of the new agents
abbrev pub ReducibleStepsUnderNames : Type 0
ReducibleStepsUnderNames = (limits : TextLimits) (text : List ℕ) (p q : PlainParts) (a b : AgentNo) (name : ℕ → ℕ) → IsAccepted limits text p.program → IsReducible p → IsPairAt p a b → StepsAs p a b name q →
    IsOneStepOn p q

-- each active pair matches, and has its rule
abbrev pub ReduciblePairsHaveTheirRule : Type 0
ReduciblePairsHaveTheirRule = (limits : TextLimits) (text : List ℕ) (p : PlainParts) (a b : AgentNo) → IsAccepted limits text p.program → IsReducible p → (at : IsPairAt p a b) →
    HasItsRules p a b at

-- a step leads to one net
abbrev pub ReducibleStepsAreOne : Type 0
ReducibleStepsAreOne = (limits : TextLimits) (text : List ℕ) (p q r : PlainParts) (a b : AgentNo) →
    IsAccepted limits text p.program → IsReducible p → IsPairAt p a b → count_by is_some p.net.cells ≤ most_agents →
    IsWhole q.net → IsWhole r.net → StepsTo p a b q → StepsTo p a b r → q ≡ r

-- .. and the net is as promised
abbrev pub ReducibleAsPromised : Type 0
ReducibleAsPromised = (limits : TextLimits) (text : List ℕ) (p : PlainParts) → IsAccepted limits text p.program → IsReducible p → IsAsPromised (system_of p.program) (net_of p.net)
