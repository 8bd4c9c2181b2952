-- A stock that is filled, and the cells placed from it.
use Rattle.std.proofs.Common.{◌≡◌, ◌⊎◌, inl, inr, ℕ, ◌<◌, sym, ap, subst, ◌∙◌}
use Rattle.in_arena.specs.Arenas.{ArenaView, NoneLeased, state_at}
use Rattle.in_arena.specs.Bags.{IsBagOf, IsInBag, AreOfOne, empty_bag}
use Rattle.in_arena.specs.Changes.{HasAllCells}
use Rattle.in_arena.specs.States.{Vacant, Leased, IsLeased}
use Rattle.in_arena.specs.declared.content.CellClass.{CellClass}
use Rattle.in_arena.proofs.Public.{leased_or}
use Rattle.in_compile.specs.declared.cells.Need.{Need}
use Rattle.in_compile.specs.Placing.{PlacedParts, AreCellsOf, TakesCells}
use Rattle.in_compile.specs.Stocks.{StockParts, Adds, Regains, IsStockOf}
use Rattle.in_compile.proofs.Public.{all_back, both_back, other_stays, shared_out, settled, memory_all, cells_all}

-- an empty bag of an arena is of it
pub is_empty : (a b : ArenaView) → b ≡ empty_bag a → AreOfOne (empty_bag a) b
is_empty a b e = (ap (λ (v : ArenaView). v.memory) e, ap (λ (v : ArenaView). v.cells) e)

-- an arena of which no cell is on lease still is one when a bag's cells are live
pub still_whole : (a b a' : ArenaView) → NoneLeased a → Regains (λ x. x) a b a' → NoneLeased a'
still_whole a b a' whole back n inside leased = go (leased_or (state_at b n))
  where
    go : (state_at b n ≡ Leased) ⊎ IsInBag b n → ⊥
    go (inl out) = whole n (subst (λ z. n < z) back.count inside) (subst IsLeased (back.others n out) leased)
    go (inr in_it) = in_it (subst IsLeased (back.back n in_it) leased)

module _ (count : CellClass → ℕ) (a a1 : ArenaView) (s : StockParts) (adds : Adds count a (empty_bag a) a1 s.bag) (b : ArenaView) (same_arena : AreOfOne (empty_bag a) b) where
  pub of_one : AreOfOne s.bag b
  of_one = (
    same_arena.0 ∙ sym (ap (λ (v : ArenaView). v.memory) adds.bag ∙ memory_all (empty_bag a) adds.cells Vacant),
    same_arena.1 ∙ sym (ap (λ (v : ArenaView). v.cells) adds.bag ∙ cells_all (empty_bag a) adds.cells Vacant),
  )

  module _ (need : Need) (s' : StockParts) (p : PlacedParts) (takes : TakesCells need p.cells s s') (cells : AreCellsOf p.bag p.cells) (same : AreOfOne b p.bag) where
    shared : IsStockOf s' a1 × IsBagOf p.bag a1 × ((n : ℕ) → IsInBag s'.bag n → IsInBag p.bag n → ⊥)
    shared = shared_out need s s' p a1 adds.of takes cells (same.0 ∙ of_one.0, same.1 ∙ of_one.1)

    pub stock_of : IsStockOf s' a1
    stock_of = shared.0

    module _ (a2 : ArenaView) (first : Regains (λ _. Vacant) a1 s'.bag a2) where
      pub placed_of : IsBagOf p.bag a2
      placed_of = other_stays (λ _. Vacant) a1 s'.bag p.bag a2 first shared.1 (λ n placed stock. shared.2 n stock placed)

      pub in_place : (a3 : ArenaView) → NoneLeased a → HasAllCells a → Regains (λ x. x) a2 p.bag a3 → NoneLeased a3
      in_place a3 whole all second = still_whole a p.bag a3 whole (settled count a a1 s all adds need s' p a2 a3 takes cells first second)

      pub as_it_was : (a3 : ArenaView) → HasAllCells a → Regains (λ _. Vacant) a2 p.bag a3 → a3 ≡ a
      as_it_was a3 all second = all_back count a a1 s.bag a3 all adds (both_back need s s' p a1 a2 a3 takes cells first second)
