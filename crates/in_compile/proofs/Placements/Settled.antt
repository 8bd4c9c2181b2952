-- Settled cells, once the rest of their stock is given back.
use Rattle.std.proofs.Common.{◌≡◌, ◌⊎◌, inl, inr, ℕ, ◌<◌, length, Some, slice_get, sym, ap, subst, ◌∙◌, arith}
use Rattle.in_base.proofs.Each.{all_at}
use Rattle.in_arena.specs.Arenas.{ArenaView, state_at}
use Rattle.in_arena.specs.Bags.{empty_bag}
use Rattle.in_arena.specs.Changes.{HasAllCells}
use Rattle.in_arena.specs.States.{Vacant, Leased, IsLeased}
use Rattle.in_arena.specs.declared.content.CellClass.{CellClass}
use Rattle.in_arena.specs.declared.content.CellNo.{CellNo}
use Rattle.in_arena.proofs.Public.{vacant_inside, empty_is_of}
use Rattle.in_compile.specs.declared.cells.Need.{Need}
use Rattle.in_compile.specs.Placing.{PlacedParts, AreCellsOf, TakesCells}
use Rattle.in_compile.specs.Stocks.{StockParts, Adds, Regains, with_all}
use Rattle.in_compile.proofs.Placements.Back.{as_left, one_or_same, one_of_all}
use Rattle.in_compile.proofs.Placements.Stocked.{count_all, cells_all, memory_all, none_in_empty}

module _ (count : CellClass → ℕ) (a a1 : ArenaView) (s : StockParts) (all : HasAllCells a) (adds : Adds count a (empty_bag a) a1 s.bag) where
  -- a cell was free and is the stock's, or is as it was
  IsHeldOrSame : ℕ → Type 0
  IsHeldOrSame n = ((state_at a n ≡ Vacant) × (state_at s.bag n ≡ Vacant)) ⊎ ((state_at a1 n ≡ state_at a n) × (state_at s.bag n ≡ Leased))

  was_added : (n k : ℕ) → slice_get adds.cells k ≡ Some (record { 0 = n }) → (state_at a n ≡ Vacant) × (state_at s.bag n ≡ Vacant)
  was_added n k at =
      let free : state_at a n ≡ Vacant = all_at (λ (m : CellNo). state_at a m.0 ≡ Vacant) adds.cells k (record { 0 = n }) adds.free at in
      let inside : n < length (empty_bag a).states = (let l = vacant_inside a n free in let e = (empty_is_of a).1 in omega (arith, l, e, all)) in
      (free, ap (λ v. state_at v n) adds.bag ∙ one_of_all (empty_bag a) adds.cells Vacant (record { 0 = n }) k inside at)

  held_or_same : (n : ℕ) → IsHeldOrSame n
  unfolding IsHeldOrSame
  held_or_same n = go (one_or_same a adds.cells Leased n) (one_or_same (empty_bag a) adds.cells Vacant n)
    where
      go : ((k : ℕ) × (slice_get adds.cells k ≡ Some (record { 0 = n }))) ⊎ (state_at (with_all a adds.cells Leased) n ≡ state_at a n) → ((k : ℕ) × (slice_get adds.cells k ≡ Some (record { 0 = n }))) ⊎ (state_at (with_all (empty_bag a) adds.cells Vacant) n ≡ state_at (empty_bag a) n)
          → ((state_at a n ≡ Vacant) × (state_at s.bag n ≡ Vacant)) ⊎ ((state_at a1 n ≡ state_at a n) × (state_at s.bag n ≡ Leased))
      go (inl at) other = inl (was_added n at.0 at.1)
      go (inr same) (inl at) = inl (was_added n at.0 at.1)
      go (inr same) (inr none) = inr (ap (λ v. state_at v n) adds.arena ∙ same, ap (λ v. state_at v n) adds.bag ∙ none ∙ none_in_empty a n)

  module _ (need : Need) (s' : StockParts) (p : PlacedParts) (a2 a3 : ArenaView) (takes : TakesCells need p.cells s s') (cells : AreCellsOf p.bag p.cells) (first : Regains (λ _. Vacant) a1 s'.bag a2) (second : Regains (λ x. x) a2 p.bag a3) where
    others : (n : ℕ) → state_at p.bag n ≡ Leased → IsHeldOrSame n → state_at a2 n ≡ state_at a n
    unfolding IsHeldOrSame
    others n out (inl held) = first.back n (λ leased. subst IsLeased (as_left need s s' p takes cells n out ∙ held.1) leased) ∙ sym held.0
    others n out (inr same) = first.others n (as_left need s s' p takes cells n out ∙ same.1) ∙ same.0

    pub settled : Regains (λ x. x) a p.bag a3
    settled = record {
      memory = second.memory ∙ first.memory ∙ ap (λ v. v.memory) adds.arena ∙ memory_all a adds.cells Leased;
      cells = second.cells ∙ first.cells ∙ ap (λ v. v.cells) adds.arena ∙ cells_all a adds.cells Leased;
      count = second.count ∙ first.count ∙ ap (λ v. length v.states) adds.arena ∙ count_all a adds.cells Leased;
      back = second.back;
      others = λ n out. second.others n out ∙ others n out (held_or_same n);
    }
