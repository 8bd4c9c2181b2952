-- One interaction of a machine in place: its new agents may have the pair's numbers.
use Rattle.std.specs.Prelude.{◌≡◌, ◌⊎◌, ◌+◌, ℕ, List, ◌++◌, map, Some, None, slice_get, remove}
use Rattle.in_arena.specs.declared.content.CellClass.{CellClass}
use Rattle.in_net.specs.declared.nets.AgentNo.{AgentNo}
use Rattle.in_net.specs.Built.{IsOver}
use Rattle.in_net.specs.Interactions.{Redex, redex_at}
use Rattle.in_net.specs.Nets.{Point, Net, net_of, signature_of}
use Rattle.in_net.specs.Rules.{RuleParts}
use Rattle.in_interaction.specs.Queues.{IsFirstQueue, agents_at, both, numbers_of}
use Rattle.in_check.specs.Plain.{IsPairAt, IsRuleAt}
use Rattle.in_compile.specs.Cells.{agents_of, count_of}
use Rattle.in_overwriting.specs.MadeByWires.{AreOverEnds, MakeInTurn}
use Rattle.in_overwriting.specs.Overwriting.{NoneLeadsBack}
use Rattle.in_reducer.specs.Machines.{MachineParts, parts_of, plain_of}
use Rattle.in_reducer.specs.Reducers.{IsReducer}
use Rattle.in_reducer.specs.Steps.{HasRoomAt}
use Rattle.in_reducer.specs.Same.{AreSame, StepsUpToNumbers}
pub use Rattle.in_reducer.specs.Aside.{IsNamingInPlace}
use Rattle.in_reusing.specs.InPlace.{IsOverwrittenInPlace}

-- the interaction of the active pair of that number by its rule, if no wire leads back to the pair: partners are overwritten, and the right member's
-- wires make the new pairs in turn
pub record StepsInPlace (m : MachineParts) (i : ℕ) (o : MachineParts) : Type 0 where
  pub pair : ℕ × ℕ
  pub stands : slice_get m.queue i ≡ Some pair
  pub active : IsPairAt (plain_of m) (agents_at pair).0 (agents_at pair).1
  pub room : HasRoomAt m i
  pub number : ℕ
  pub rule : RuleParts
  pub is_rule : IsRuleAt (plain_of m) (agents_at pair).0 (agents_at pair).1 number rule
  pub none_back : NoneLeadsBack (net_of (parts_of m)) (redex_at rule pair.0 pair.1)
  pub name : ℕ → ℕ
  pub naming : IsNamingInPlace (net_of (parts_of m)) (redex_at rule pair.0 pair.1) name
  pub over : IsOverwrittenInPlace (signature_of m.program.tables) (net_of (parts_of m)) (redex_at rule pair.0 pair.1) name (net_of (parts_of o))
  pub shown : IsOver m.program.tables (parts_of o)
  pub names : map (λ f. f.name) o.free ≡ map (λ f. f.name) m.free
  pub program : o.program ≡ m.program
  pub wires : List (ℕ × Point ℕ)
  pub are_wires : AreOverEnds (net_of rule.member) wires
  pub made : List (AgentNo × AgentNo)
  pub in_turn : MakeInTurn m.program.tables (parts_of m) rule (agents_at pair).0 (agents_at pair).1 name wires made
  pub own : List (ℕ × ℕ)
  pub are_own : IsFirstQueue m.program.tables rule.member own
  pub queue : o.queue ≡ remove m.queue i ++ map numbers_of (made ++ map (λ q. agents_at (both name q)) own)
  pub cells : (c : CellClass) → count_of o.vacant c + agents_of m.program.tables c o.agents ≡ count_of m.vacant c + agents_of m.program.tables c m.agents

-- it is an interaction up to numbers
abbrev pub StepsInPlaceAreSteps : Type 0
StepsInPlaceAreSteps = (m o : MachineParts) (i : ℕ) → IsReducer m → StepsInPlace m i o → StepsUpToNumbers m i o

-- and it leads to one machine, up to numbers
abbrev pub StepsInPlaceAreSame : Type 0
StepsInPlaceAreSame = (m n o : MachineParts) (i : ℕ) → IsReducer m → StepsInPlace m i n → StepsInPlace m i o → AreSame n o
