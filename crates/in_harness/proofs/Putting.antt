-- A stock, a gather and a hand have together all cells that are on lease.
use Rattle.std.proofs.Common.{ℕ, List, [], ◌∷◌, All, Some, Ok, sym, ap, ◌∙◌, subst, arith}
use Rattle.std.proofs.lemmas.List.Elements.{All-cons, All-head, All-nil, All-tail}
use Rattle.in_arena.specs.Arenas.{ArenaView, NoneLeased}
use Rattle.in_arena.specs.Bags.{AreOfOne}
use Rattle.in_arena.specs.States.{Vacant}
use Rattle.in_compile.specs.Stocks.{StockParts, Regains}
use Rattle.in_rounds.specs.Dones.{DoneParts}
use Rattle.in_rounds.specs.Gathers.{GatherParts, Puts, TakesDone, bags_of}
use Rattle.in_rounds.specs.Holding.{HaveAllLeased, Returns, holders}
use Rattle.in_rounds.specs.Laws.{Shares}
use Rattle.in_rounds.specs.declared.gather.JobState.{JobState}
use Rattle.in_rounds.proofs.Public.{same_have_all, one_less, bags_are_of_one, holders-cons, left_have_all, none_leased_by, put_all}
use Rattle.in_rounds.proofs.Public.{put_holders, take_all, take_holders, one_of_one}

module _ (s s' : StockParts) (d : DoneParts) (g : GatherParts) (a : ArenaView) (have : HaveAllLeased (s.bag ∷ bags_of g.slots) a) (shares : Shares (s'.bag ∷ []) (d.placed.placed.bag ∷ []) (s.bag ∷ [])) (of_stock : AreOfOne s.bag s'.bag) (of_done : AreOfOne s.bag d.placed.placed.bag) where
  one : All (AreOfOne a) (s.bag ∷ bags_of g.slots)
  one = bags_are_of_one (s.bag ∷ bags_of g.slots) a have.bags

  here : AreOfOne a s.bag
  here = All-head (AreOfOne a) s.bag (bags_of g.slots) one

  -- a job is done
  pub in_hand : HaveAllLeased (d.placed.placed.bag ∷ s'.bag ∷ bags_of g.slots) a
  in_hand =
      let bag = d.placed.placed.bag in
      same_have_all (s.bag ∷ bags_of g.slots) (bag ∷ s'.bag ∷ bags_of g.slots) a have
      (All-cons (AreOfOne a) bag (s'.bag ∷ bags_of g.slots) (one_of_one a s.bag bag here of_done)
      (All-cons (AreOfOne a) s'.bag (bags_of g.slots) (one_of_one a s.bag s'.bag here of_stock) (All-tail (AreOfOne a) s.bag (bags_of g.slots) one)))
      (λ n.
      let share = shares n in
      let first = holders-cons n bag (s'.bag ∷ bags_of g.slots) in
      let second = holders-cons n s'.bag (bags_of g.slots) in
      let old = holders-cons n s.bag (bags_of g.slots) in
      omega (arith, share, first, second, old))

  -- .. and kept
  pub kept : (h : GatherParts) (u : Unit {0}) → Puts g d (Ok u) h → HaveAllLeased (s'.bag ∷ bags_of h.slots) a
  kept h u puts =
      let bag = d.placed.placed.bag in
      let slots = ap (λ (z : GatherParts). z.slots) puts.2 in
      let rest = All-tail (AreOfOne a) s.bag (bags_of g.slots) one in
      same_have_all (bag ∷ s'.bag ∷ bags_of g.slots) (s'.bag ∷ bags_of h.slots) a in_hand
      (All-cons (AreOfOne a) s'.bag (bags_of h.slots) (one_of_one a s.bag s'.bag here of_stock)
      (subst (λ (z : List JobState). All (AreOfOne a) (bags_of z)) (sym slots) (put_all (AreOfOne a) g.slots d.job d (one_of_one a s.bag bag here of_done) rest)))
      (λ n.
      let put = ap (λ (z : List JobState). holders n (bags_of z)) slots ∙ put_holders n g.slots d.job d puts.1 in
      let first = holders-cons n bag (s'.bag ∷ bags_of g.slots) in
      let second = holders-cons n s'.bag (bags_of g.slots) in
      let new = holders-cons n s'.bag (bags_of h.slots) in
      omega (arith, put, first, second, new))

-- a taken result is in hand
pub taken_in_hand : (s : StockParts) (d : DoneParts) (g h : GatherParts) (job : ℕ) (a : ArenaView) → HaveAllLeased (s.bag ∷ bags_of g.slots) a → TakesDone g job (Some d) h → HaveAllLeased (d.placed.placed.bag ∷ s.bag ∷ bags_of h.slots) a
taken_in_hand s d g h job a have takes =
    let bag = d.placed.placed.bag in
    let one = bags_are_of_one (s.bag ∷ bags_of g.slots) a have.bags in
    let slots = ap (λ (z : GatherParts). z.slots) takes.1 in
    let parts = take_all (AreOfOne a) g.slots job d takes.0 (All-tail (AreOfOne a) s.bag (bags_of g.slots) one) in
    same_have_all (s.bag ∷ bags_of g.slots) (bag ∷ s.bag ∷ bags_of h.slots) a have
    (All-cons (AreOfOne a) bag (s.bag ∷ bags_of h.slots) parts.0
    (All-cons (AreOfOne a) s.bag (bags_of h.slots) (All-head (AreOfOne a) s.bag (bags_of g.slots) one) (subst (λ (z : List JobState). All (AreOfOne a) (bags_of z)) (sym slots) parts.1)))
    (λ n.
    let take = take_holders n g.slots job d takes.0 in
    let now = ap (λ (z : List JobState). holders n (bags_of z)) slots in
    let first = holders-cons n bag (s.bag ∷ bags_of h.slots) in
    let second = holders-cons n s.bag (bags_of h.slots) in
    let old = holders-cons n s.bag (bags_of g.slots) in
    omega (arith, take, now, first, second, old))

-- the end: the cells of the stock and then those of the gather are freed
module _ (s : StockParts) (g : GatherParts) (a a' : ArenaView) (have : HaveAllLeased (s.bag ∷ bags_of g.slots) a) (back : Regains (λ _. Vacant) a s.bag a') where
  pub gather_has_all : HaveAllLeased (bags_of g.slots) a'
  gather_has_all = one_less s.bag (bags_of g.slots) a a' have back

  pub none_left : (a'' : ArenaView) → Returns (bags_of g.slots) [] a' a'' → NoneLeased a''
  none_left a'' returns = none_leased_by a'' (left_have_all (bags_of g.slots) [] a' a'' gather_has_all (All-nil (AreOfOne a')) returns)
