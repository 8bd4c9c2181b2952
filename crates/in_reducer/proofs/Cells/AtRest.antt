-- An arena with each leased cell free: its agents are as before, and if no cell is leased the arena is the same.
use Rattle.std.proofs.Common.{◌≡◌, ◌<◌, ℕ, zero, suc, Option, List, [], ◌∷◌, length, map, get_or, refl, ap, subst, ◌∙◌, arith}
use Rattle.std.proofs.lemmas.List.{length-map}
use Rattle.in_arena.specs.Arenas.{ArenaView, NoneLeased, state_at}
use Rattle.in_arena.specs.Changes.{HasAllCells}
use Rattle.in_arena.specs.States.{State, Vacant, Leased, Live, IsLeased, word_of}
use Rattle.in_symbols.specs.Tables.{Tables}
use Rattle.in_net.specs.declared.nets.Cell.{Cell}
use Rattle.in_reducer.specs.Standing.{IsNetIn, agent_in, agents_in, at_rest, rested}

word_rested : (xs : List State) (n : ℕ) → word_of (get_or (map rested xs) n Leased) ≡ word_of (get_or xs n Leased)
word_rested [] n = refl
word_rested (Vacant ∷ xs) zero = refl
word_rested (Leased ∷ xs) zero = refl
word_rested (Live w es ∷ xs) zero = refl
word_rested (x ∷ xs) (suc n) = word_rested xs n

-- the symbol word of a cell stays
pub word_at : (a : ArenaView) (n : ℕ) → word_of (state_at (at_rest a) n) ≡ word_of (state_at a n)
word_at a n = word_rested a.states n

agents_rested : (xs : List State) → map agent_in (map rested xs) ≡ map agent_in xs
agents_rested [] = refl
agents_rested (Vacant ∷ xs) = ap (λ (cs : List (Option Cell)). agent_in Vacant ∷ cs) (agents_rested xs)
agents_rested (Leased ∷ xs) = ap (λ (cs : List (Option Cell)). agent_in Leased ∷ cs) (agents_rested xs)
agents_rested (Live w es ∷ xs) = ap (λ (cs : List (Option Cell)). agent_in (Live w es) ∷ cs) (agents_rested xs)

pub agents_same : (a : ArenaView) → agents_in (at_rest a) ≡ agents_in a
agents_same a = agents_rested a.states

pub as_many : (a : ArenaView) → length (at_rest a).states ≡ length a.states
as_many a = length-map a.states rested

none_rested : (xs : List State) (n : ℕ) → n < length (map rested xs) → IsLeased (get_or (map rested xs) n Leased) → ⊥
none_rested [] n l h = omega (arith, l)
none_rested (Vacant ∷ xs) zero l h = h
none_rested (Leased ∷ xs) zero l h = h
none_rested (Live w es ∷ xs) zero l h = h
none_rested (x ∷ xs) (suc n) l h = none_rested xs n (omega (arith, l)) h

-- no cell is leased in it
pub none_at_rest : (a : ArenaView) → NoneLeased (at_rest a)
none_at_rest a n l leased = none_rested a.states n l leased

pub all_at_rest : (a : ArenaView) → HasAllCells a → HasAllCells (at_rest a)
all_at_rest a all = as_many a ∙ all

same_rested : (xs : List State) → ((n : ℕ) → n < length xs → IsLeased (get_or xs n Leased) → ⊥) → map rested xs ≡ xs
same_rested [] none = refl
same_rested (Vacant ∷ xs) none = ap (λ (ys : List State). Vacant ∷ ys) (same_rested xs (λ n l h. none (suc n) (omega (arith, l)) h))
same_rested (Leased ∷ xs) none = absurd (none zero (omega arith) tt)
same_rested (Live w es ∷ xs) none = ap (λ (ys : List State). Live w es ∷ ys) (same_rested xs (λ n l h. none (suc n) (omega (arith, l)) h))

-- if none is leased, it is the same
pub rests : (a : ArenaView) → NoneLeased a → at_rest a ≡ a
rests a none = ap (λ (xs : List State). record { memory = a.memory; cells = a.cells; states = xs }) (same_rested a.states none)

pub net_rests : (t : Tables) (a : ArenaView) → NoneLeased a → IsNetIn t (at_rest a) → IsNetIn t a
net_rests t a none net = subst (IsNetIn t) (rests a none) net
