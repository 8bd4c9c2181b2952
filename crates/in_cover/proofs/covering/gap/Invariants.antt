use Rattle.in_cover.specs.Covering.{HasNoGapIn}
use Rattle.in_cover.proofs.covering.gap.Given as goal

abbrev pub invariant-loop-number : goal.invariant-loop-number
invariant-loop-number l = HasNoGapIn l.symbols l.table l.number
