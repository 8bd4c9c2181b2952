use Rattle.std.proofs.Common.{ℕ, ◌<◌}
use Rattle.in_typing.specs.Typed.{FitsAt}
use Rattle.in_typing.proofs.typing.type_net.Given as goal

abbrev pub invariant-loop-number : goal.invariant-loop-number
invariant-loop-number l = (w : ℕ) → w < l.number → FitsAt l.symbols l.net w
