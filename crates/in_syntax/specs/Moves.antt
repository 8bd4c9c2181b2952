-- The state after a sign.
use Rattle.std.specs.Prelude.{List}
use Rattle.in_syntax.specs.declared.faults.Code.{Code}
use Rattle.in_syntax.specs.declared.tree.Name.{Name}
use Rattle.in_syntax.specs.declared.tree.SourceSymbol.{SourceSymbol}
use Rattle.in_syntax.specs.declared.tree.SourceRule.{SourceRule}
use Rattle.in_syntax.specs.declared.states.State.{State}

pub data Move : Type 0 where
  -- to a state
  Goes : State → Move
  -- past a whole item
  Types : List Name → Move
  Symbol : SourceSymbol → Move
  Rule : SourceRule → Move
  -- no state: the token is the fault
  Refuses : Code → Move
