-- The state of a run: the slow reducer's program, net and count, and the result of one step. That its
-- agents are numbers, and which numbers new agents get, is this project's own choice; the interaction is that of Lafont 1990.
use Rattle.std.specs.Prelude.{◌≡◌, ◌≤◌, count_by, is_some, ◌++◌, ℕ, zero, suc, true, List, map, slice_get, Some}
use Rattle.in_syntax.specs.declared.symbol_no.SymbolNo.{SymbolNo}
use Rattle.in_symbols.specs.Tables.{is_constructor}
use Rattle.in_net.specs.declared.nets.AgentNo.{AgentNo}
use Rattle.in_net.specs.declared.nets.Point.TheVariants.{Port}
use Rattle.in_net.specs.Built.{IsOver}
use Rattle.in_interaction.specs.Interacting.{most_agents, Interacts, InteractsAs}
use Rattle.in_net.specs.Nets.{net_of}
use Rattle.in_net.specs.Parts.{Parts, IsWhole, symbol_in, partner_in}
use Rattle.in_net.specs.Rules.{RuleParts, IsRuleOver, auxiliary_types}
use Rattle.in_cover.specs.Cover.{IsPair, IsRuleOfSymbols}
use Rattle.in_check.specs.Checking.{IsAccepted}
use Rattle.in_check.specs.Programs.{Program}
use Rattle.in_check.specs.Promises.{IsAsPromised}
use Rattle.in_check.specs.Runs.{Reached}
use Rattle.in_check.specs.Systems.{system_of}
use Rattle.in_syntax.specs.declared.text_limits.TextLimits.{TextLimits}

-- the program and its net
pub record PlainParts : Type 0 where
  pub program : Program
  pub net : Parts

-- the program reaches the net by k interactions
abbrev pub IsReachedBy : PlainParts → ℕ → Type 0
IsReachedBy p k = Reached (system_of p.program) k (net_of p.net)

-- the program reaches the net, and the net has the program's symbols and the names of its free ends
pub record IsPlain (p : PlainParts) : Type 0 where
  pub reached : (k : ℕ) × IsReachedBy p k
  pub over : IsOver p.program.tables p.net
  pub names : map (λ f. f.name) p.net.free ≡ map (λ f. f.name) p.program.net.free

-- the two agents are an active pair, and the first one's symbol is a constructor
pub record IsPairAt (p : PlainParts) (a b : AgentNo) : Type 0 where
  pub first : SymbolNo
  pub second : SymbolNo
  pub one : symbol_in p.net a.0 ≡ Some first
  pub two : symbol_in p.net b.0 ≡ Some second
  pub active : partner_in p.net (Port a 0) ≡ Some (Port b 0)
  pub constructor : is_constructor p.program.tables first.0 ≡ true

-- the rule of that number is for the symbols of the two agents in this order, and its right member fits them
pub record IsRuleAt (p : PlainParts) (a b : AgentNo) (i : ℕ) (r : RuleParts) : Type 0 where
  pub stands : slice_get p.program.rules i ≡ Some r
  pub over : IsRuleOver p.program.tables r
  pub declared : map (λ f. f.kind) r.member.free ≡ auxiliary_types p.program.tables r.heads.0.0 ++ auxiliary_types p.program.tables r.heads.1.0
  pub one : symbol_in p.net a.0 ≡ Some r.heads.0
  pub two : symbol_in p.net b.0 ≡ Some r.heads.1

-- one interaction at the pair, by its rule, as `interact` does it: so the net after is determined. The program is kept
pub record StepsTo (p : PlainParts) (a b : AgentNo) (q : PlainParts) : Type 0 where
  pub number : ℕ
  pub rule : RuleParts
  pub is_rule : IsRuleAt p a b number rule
  pub acts : Interacts p.net rule a b q.net
  pub program : q.program ≡ p.program

-- .. with any new names for the new agents
pub record StepsAs (p : PlainParts) (a b : AgentNo) (name : ℕ → ℕ) (q : PlainParts) : Type 0 where
  pub number : ℕ
  pub rule : RuleParts
  pub is_rule : IsRuleAt p a b number rule
  pub acts : InteractsAs p.program.tables p.net rule a b name q.net
  pub program : q.program ≡ p.program

-- ---- laws

-- the initial net is reached by no interaction
abbrev pub PlainStarts : Type 0
PlainStarts = (p : Program) → IsOver p.tables p.net → IsPlain (record { program = p; net = p.net }) × IsReachedBy (record { program = p; net = p.net }) zero

-- a step leads from a net that is reached to a net that is reached by one interaction more
abbrev pub PlainSteps : Type 0
PlainSteps = (p q : PlainParts) (a b : AgentNo) → IsPlain p → IsPairAt p a b → StepsTo p a b q → IsPlain q × ((k : ℕ) → IsReachedBy p k → IsReachedBy q (suc k))

-- .. also under other names of the new agents
abbrev pub PlainStepsUnderNames : Type 0
PlainStepsUnderNames = (p q : PlainParts) (a b : AgentNo) (name : ℕ → ℕ) → IsPlain p → IsPairAt p a b → StepsAs p a b name q → IsPlain q × ((k : ℕ) → IsReachedBy p k → IsReachedBy q (suc k))

-- .. and in an accepted program a step leads to one net: its net with its numbers, its wires in their order, and its free ends
abbrev pub PlainStepsAreOne : Type 0
PlainStepsAreOne = (limits : TextLimits) (text : List ℕ) (p q r : PlainParts) (a b : AgentNo) → IsAccepted limits text p.program → IsPlain p → IsPairAt p a b → count_by is_some p.net.cells ≤ most_agents →
    IsWhole q.net → IsWhole r.net → StepsTo p a b q → StepsTo p a b r → q ≡ r

-- the symbols of an active pair match, and each rule for them, in either order, has them in this order
abbrev pub HasItsRules : (p : PlainParts) (a b : AgentNo) → IsPairAt p a b → Type 0
HasItsRules p a b at =
    IsPair p.program.tables at.first.0 at.second.0 × ((i : ℕ) (r : RuleParts) → slice_get p.program.rules i ≡ Some r → IsRuleOfSymbols r at.first.0 at.second.0 → IsRuleAt p a b i r)

-- .. and so for each active pair of an accepted program
abbrev pub PairsHaveTheirRule : Type 0
PairsHaveTheirRule = (limits : TextLimits) (text : List ℕ) (p : PlainParts) (a b : AgentNo) → IsAccepted limits text p.program → IsPlain p → (at : IsPairAt p a b) →
    HasItsRules p a b at

-- .. and each net that is reached is as promised
abbrev pub PlainAsPromised : Type 0
PlainAsPromised = (limits : TextLimits) (text : List ℕ) (p : PlainParts) → IsAccepted limits text p.program → IsPlain p → IsAsPromised (system_of p.program) (net_of p.net)
