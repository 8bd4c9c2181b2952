-- The number of a cell, from its state.
use Rattle.std.proofs.Common.{◌≡◌, ℕ, ◌<◌, Some, None, length, subst, ⊎_elim, sym, ap, ◌∙◌, arith}
use Rattle.std.proofs.lemmas.List.{get_or_past}
use Rattle.std.proofs.lemmas.Bool.{cases_lt}
use Rattle.in_arena.specs.Arenas.{ArenaView, LeaseView, state_at, changed, IsOf}
use Rattle.in_arena.specs.States.{State, Vacant, Leased, Live, IsLeased, IsLive, places, word_of}

-- a cell that isn't leased is not past the last one
pub state_inside : (a : ArenaView) (n : ℕ) → (state_at a n ≡ Leased → ⊥) → n < length a.states
state_inside a n here = ⊎_elim (λ lt. lt) (λ past. absurd (here (get_or_past a.states n Leased past))) (cases_lt n (length a.states))

pub vacant_inside : (a : ArenaView) (n : ℕ) → state_at a n ≡ Vacant → n < length a.states
vacant_inside a n free = state_inside a n (λ e. subst IsLeased (sym e ∙ free) tt)

-- a live cell isn't leased
pub live_here : (x : State) → IsLive x → x ≡ Leased → ⊥
live_here x live e = subst IsLive e live

pub live_inside : (a : ArenaView) (n : ℕ) → IsLive (state_at a n) → n < length a.states
live_inside a n live = state_inside a n (live_here (state_at a n) live)

pub word_live : (x : State) (s : ℕ) → word_of x ≡ Some s → IsLive x
word_live Vacant s h = let f : None ≡ Some s = h in cc
word_live Leased s h = let f : None ≡ Some s = h in cc
word_live (Live w es) s h = tt

pub placed_here : (x : State) (p : ℕ) → p < places x → x ≡ Leased → ⊥
placed_here x p lt e = let none : places x ≡ 0 = ap places e in omega (arith, lt, none)

pub changed_same : {a b : ArenaView} {n m : ℕ} {x y : State} → a ≡ b → n ≡ m → x ≡ y → changed a n x ≡ changed b m y
changed_same e f g = λ i. changed (e i) (f i) (g i)

pub is_of_same : {l m : LeaseView} {a b : ArenaView} → l ≡ m → a ≡ b → IsOf l a → IsOf m b
is_of_same {m} {a} e f o = subst (λ v. IsOf m v) f (subst (λ v. IsOf v a) e o)
