use Rattle.std.proofs.Common.{ℕ, List, length}
use Rattle.in_syntax.specs.Characters.{stays_in_comment}
use Rattle.in_syntax.specs.Cursors.{RunsThrough}
use Rattle.in_syntax.proofs.lexer.comment.Given as goal

abbrev pub invariant-loop-c : goal.invariant-loop-c
invariant-loop-c l = (w : List ℕ) × RunsThrough stays_in_comment l.fn.spot l.text w l.end l.rest

abbrev pub decreases-loop-c : goal.decreases-loop-c
decreases-loop-c l = length l.rest
