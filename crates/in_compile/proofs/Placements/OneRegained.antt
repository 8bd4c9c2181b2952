-- What an arena regains makes one arena.
use Rattle.std.proofs.Common.{◌≡◌, ◌⊎◌, inl, inr, ℕ, length, sym, ◌∙◌}
use Rattle.in_arena.specs.Arenas.{ArenaView, state_at}
use Rattle.in_arena.specs.Bags.{IsInBag}
use Rattle.in_arena.specs.States.{Leased}
use Rattle.in_arena.proofs.Public.{leased_or}
use Rattle.in_compile.specs.PlacingLaws.{RegainsAreOne}
use Rattle.in_compile.proofs.Placements.Back.{same_states}

-- arenas of one memory with the same cells are one
pub one_arena : (a b : ArenaView) → a.memory ≡ b.memory → a.cells ≡ b.cells → length a.states ≡ length b.states → ((n : ℕ) → state_at a n ≡ state_at b n) → a ≡ b
one_arena a b memory cells many same = λ i. record { memory = memory i; cells = cells i; states = same_states a.states b.states many same i }

pub regained_once : RegainsAreOne
regained_once f a b new other x y =
    one_arena new other (x.memory ∙ sym y.memory) (x.cells ∙ sym y.cells) (x.count ∙ sym y.count) (λ n. at n (leased_or (state_at b n)))
  where
    at : (n : ℕ) → (state_at b n ≡ Leased) ⊎ IsInBag b n → state_at new n ≡ state_at other n
    at n (inl out) = x.others n out ∙ sym (y.others n out)
    at n (inr in_it) = x.back n in_it ∙ sym (y.back n in_it)
