-- A stock that is filled from an arena while other cells may be on lease.
use Rattle.std.proofs.Common.{◌≡◌, ◌⊎◌, inl, inr, ◌≤◌, ◌<◌, ℕ, [], ◌∷◌, length, Some, slice_get, refl, ap, ◌∙◌, subst, arith}
use Rattle.std.proofs.lemmas.List.Elements.{All-cons, All-nil}
use Rattle.in_base.proofs.Each.{all_at}
use Rattle.in_arena.specs.Arenas.{ArenaView, NoneLeased, state_at}
use Rattle.in_arena.specs.Bags.{IsBagOf, empty_bag}
use Rattle.in_arena.specs.Changes.{HasAllCells}
use Rattle.in_arena.specs.States.{Vacant, Leased, IsLeased}
use Rattle.in_arena.specs.declared.content.CellNo.{CellNo}
use Rattle.in_arena.proofs.Public.{vacant_inside, empty_is_of}
use Rattle.in_compile.specs.declared.cells.Need.{Need}
use Rattle.in_compile.specs.Stocks.{StockParts, AddsTo, empty_stock, with_all}
use Rattle.in_compile.proofs.Public.{one_or_same, one_of_all, count_all, none_in_empty}
use Rattle.in_rounds.specs.Holding.{HaveAllLeased, holders}
use Rattle.in_rounds.proofs.Holding.{InOrOut, in_or_out, in_one, out_of_one}
use Rattle.in_rounds.proofs.Holding.InOrOut.{IsHere, IsOut}

-- a cell is lent to the stock, or stays as it was
pub data Change (a' a'' : ArenaView) (s : StockParts) (n : ℕ) : Type 0 where
  Lends : state_at a' n ≡ Vacant → state_at a'' n ≡ Leased → holders n (s.bag ∷ []) ≡ 1 → Change a' a'' s n
  Stays : state_at a'' n ≡ state_at a' n → holders n (s.bag ∷ []) ≡ 0 → Change a' a'' s n

-- .. and so it is with each cell
abbrev pub Changes : ArenaView → ArenaView → StockParts → Type 0
Changes a' a'' s = (n : ℕ) → Change a' a'' s n

-- the stock was empty, and is of an arena with as many cells
module _ (share : Need) (a a' a'' : ArenaView) (s : StockParts) (all : HasAllCells a) (count : length a'.states ≡ length a.states) (adds : AddsTo share a' (empty_stock a share) a'' s) where
  lends : (n k : ℕ) → slice_get adds.0.cells k ≡ Some (record { 0 = n }) → Change a' a'' s n
  lends n k at =
      let free : state_at a' n ≡ Vacant = all_at (λ (m : CellNo). state_at a' m.0 ≡ Vacant) adds.0.cells k (record { 0 = n }) adds.0.free at in
      let inside = vacant_inside a' n free in
      let room = (empty_is_of a).1 in
      let held : state_at s.bag n ≡ Vacant = ap (λ v. state_at v n) adds.0.bag ∙ one_of_all (empty_bag a) adds.0.cells Vacant (record { 0 = n }) k (omega (arith, inside, room, count, all)) at in
      Lends free (ap (λ v. state_at v n) adds.0.arena ∙ one_of_all a' adds.0.cells Leased (record { 0 = n }) k inside at) (in_one s.bag n (λ leased. subst IsLeased held leased))

  change_by : (n : ℕ) → ((k : ℕ) × (slice_get adds.0.cells k ≡ Some (record { 0 = n }))) ⊎ (state_at (with_all a' adds.0.cells Leased) n ≡ state_at a' n)
      → ((k : ℕ) × (slice_get adds.0.cells k ≡ Some (record { 0 = n }))) ⊎ (state_at (with_all (empty_bag a) adds.0.cells Vacant) n ≡ state_at (empty_bag a) n) → Change a' a'' s n
  change_by n (inl at) other = lends n at.0 at.1
  change_by n (inr same) (inl at) = lends n at.0 at.1
  change_by n (inr same) (inr none) = Stays (ap (λ v. state_at v n) adds.0.arena ∙ same) (out_of_one s.bag n (ap (λ v. state_at v n) adds.0.bag ∙ none ∙ none_in_empty a n))

  pub change : Changes a' a'' s
  change n = change_by n (one_or_same a' adds.0.cells Leased n) (one_or_same (empty_bag a) adds.0.cells Vacant n)

-- the stock has all leased cells, if none was leased before
module _ (need : Need) (a a' : ArenaView) (s : StockParts) (all : HasAllCells a) (whole : NoneLeased a) (adds : AddsTo need a (empty_stock a need) a' s) where
  has_by : (n : ℕ) → Change a a' s n → n < length a'.states → IsLeased (state_at a' n) → holders n (s.bag ∷ []) ≡ 1
  has_by n (Lends free leased one) inside is = one
  has_by n (Stays same none) inside is = absurd (whole n (inside_before n inside) (subst IsLeased same is))
    where
      inside_before : (n : ℕ) → n < length a'.states → n < length a.states
      inside_before n lt = let e = ap (λ v. length v.states) adds.0.arena ∙ count_all a adds.0.cells Leased in omega (arith, lt, e)

  pub filled_has_all : HaveAllLeased (s.bag ∷ []) a'
  filled_has_all = record {
    bags = record {
      each = All-cons (λ b. IsBagOf b a') s.bag [] adds.0.of (All-nil (λ b. IsBagOf b a'));
      once = λ n. once n (in_or_out s.bag n);
    };
    all = λ n inside leased. has_by n (change need a a a' s all refl adds n) inside leased;
  }
    where
      once : (n : ℕ) → InOrOut s.bag n → holders n (s.bag ∷ []) ≤ 1
      once n (IsHere in_it one) = omega (arith, one)
      once n (IsOut out none) = omega (arith, none)
