-- Choices, one after another.
use Rattle.std.proofs.Common.{◌≡◌, ◌<◌, ◌≤◌, ℕ, List, [], ◌∷◌, ◌++◌, length, slice_get, Some, refl, subst, arith}
use Rattle.std.proofs.lemmas.Option.{slice_get_within}
use Rattle.in_reducer.specs.Machines.{MachineParts}
use Rattle.in_reducer.specs.Steps.{StepsAt}
use Rattle.in_chosen_runs.specs.Choosing.{CannotStep, StepsBy}

-- one choice more
pub one_more : (m middle after : MachineParts) (choices : List ℕ) (i : ℕ) → StepsBy m choices middle → StepsAt middle i after → StepsBy m (choices ++ i ∷ []) after
one_more m middle after [] i is step = (after, subst (λ (z : MachineParts). StepsAt z i after) is step, refl)
one_more m middle after (j ∷ choices) i (next, first, rest) step = (next, first, one_more next middle after choices i rest step)

-- no choice is left after all of them
pub none_past : (choices : List ℕ) (m : MachineParts) (c : ℕ) → slice_get choices (length choices) ≡ Some c → CannotStep m c
none_past choices m c at = let lt : length choices < length choices = slice_get_within choices (length choices) c at in absurd (omega (arith, lt))

-- at most none
pub none_at_most : (k most : ℕ) → k ≤ most → most ≡ 0 → k ≡ 0
none_at_most k most le none = omega (arith, le, none)

pub fewer_than : (k most limit : ℕ) → most ≡ limit → k < limit → k < most
fewer_than k most limit is lt = omega (arith, is, lt)

pub at_most : (k most limit : ℕ) → k ≤ most → most ≤ limit → k ≤ limit
at_most k most limit one other = omega (arith, one, other)
