use Rattle.std.proofs.Common.{◌≡◌, ◌<◌, ℕ, Some, slice_get}
use Rattle.in_arena.specs.EndWords.{HasWord}
use Rattle.in_arena.specs.declared.content.End.{End}
use Rattle.in_tests.proofs.leases.expect_words.Given as goal

abbrev pub invariant-loop-number : goal.invariant-loop-number
invariant-loop-number g l = (k : ℕ) (e : End) → k < l.number → slice_get l.ends k ≡ Some e → HasWord e
