use Rattle.std.proofs.Common.{◌≡◌, ℕ, List, length}
use Rattle.in_syntax.specs.Characters.{continues_name}
use Rattle.in_syntax.specs.Cursors.{RunsThrough}
use Rattle.in_syntax.proofs.lexer.run.Given as goal

abbrev pub invariant-loop-c : goal.invariant-loop-c
invariant-loop-c l = (w : List ℕ) × RunsThrough continues_name l.fn.spot l.text w l.end l.rest × (l.count ≡ length w)

abbrev pub decreases-loop-c : goal.decreases-loop-c
decreases-loop-c l = length l.rest
