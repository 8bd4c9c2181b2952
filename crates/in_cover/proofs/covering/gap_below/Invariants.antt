use Rattle.in_cover.specs.Covering.{HasNoGapBelow}
use Rattle.in_cover.proofs.covering.gap_below.Given as goal

abbrev pub invariant-loop-number : goal.invariant-loop-number
invariant-loop-number l = HasNoGapBelow l.symbols l.table l.later.0 l.number
