-- Cells that are lent to one more worker.
use Rattle.std.proofs.Common.{◌≡◌, ◌≤◌, ◌<◌, ◌+◌, ◌*◌, ℕ, zero, suc, List, [], ◌∷◌, ◌++◌, length, All, refl, sym, ap, ◌∙◌, subst, arith}
use Rattle.std.proofs.lemmas.List.{append_assoc}
use Rattle.std.proofs.lemmas.List.Elements.{All-append, All-cons, All-nil, All-weaker}
use Rattle.in_arena.specs.Arenas.{ArenaView, free_of, state_at}
use Rattle.in_arena.specs.Bags.{AreOfOne, empty_bag}
use Rattle.in_arena.specs.Changes.{HasAllCells}
use Rattle.in_arena.specs.States.{Vacant, Leased, IsLeased}
use Rattle.in_arena.specs.declared.content.CellClass.{CellClass}
use Rattle.in_arena.proofs.Public.{empty_is_of}
use Rattle.in_compile.specs.declared.cells.Need.{Need}
use Rattle.in_compile.specs.Cells.{count_of}
use Rattle.in_compile.specs.Placing.{PlacedParts}
use Rattle.in_compile.specs.Stocks.{StockParts, AddsTo, HasRoom, IsStockOf, empty_stock}
use Rattle.in_compile.proofs.Public.{count_all, cells_all, memory_all, none_in_empty}
use Rattle.in_claims.specs.Seats.{BoardView}
use Rattle.in_compile.specs.Templates.{AreMostAgents, TemplateParts}
use Rattle.in_rounds.specs.Holding.{holders}
use Rattle.in_rounds.proofs.Filling.{Change, Changes, change}
use Rattle.in_rounds.proofs.Filling.Change.{Lends, Stays}
use Rattle.in_rounds.proofs.Holding.{leased_of, each_of, bags_are_of_one, no_bags, of_one_by, holders-append}
use Rattle.in_rounds.specs.Bringing.{in_hand, in_hands}
use Rattle.in_rounds.specs.Lending.{AreLentOut, IsFreshHand, IsShare}
use Rattle.in_rounds.specs.Plans.{PlanParts}
use Rattle.in_rounds.specs.Works.{IsEmptyRoom, IsReady, bags}
use Rattle.in_rounds.specs.declared.hand.Hand.{Hand}

pub in_hands-append : (ps qs : List Hand) → in_hands (ps ++ qs) ≡ in_hands ps ++ in_hands qs
in_hands-append [] qs = refl
in_hands-append (p ∷ ps) qs = ap (λ bs. in_hand p ++ bs) (in_hands-append ps qs) ∙ sym (append_assoc (in_hand p) (in_hands ps) (in_hands qs))

pub none_lent : (a : ArenaView) → AreLentOut [] a a
none_lent a = record { memory = refl; cells = refl; count = refl; bags = no_bags a; free = λ n one. absurd (let e : 0 ≡ 1 = one in omega (arith, e)); others = λ n none. refl }

-- an empty stock is one of its arena for any lent cells, and has room for its share
pub empty_stock_of : (a a' : ArenaView) (room : Need) → a'.memory ≡ a.memory → a'.cells ≡ a.cells → IsStockOf (empty_stock a room) a'
empty_stock_of a a' room memory cells = record { memory = sym memory; cells = sym cells; leased = λ n in_it. absurd (in_it (subst IsLeased (sym (none_in_empty a n)) tt)) }

pub empty_has_room : (a : ArenaView) (share : Need) → HasRoom (empty_stock a share) share
empty_has_room a share c = let none = (empty_is_of a).2 c in omega (arith, none)

-- a room for a template that is made of this arena is one of a stock of the same arena
pub empty_room : (ts : List TemplateParts) (s : StockParts) (a : ArenaView) (p : PlacedParts) (room : ℕ) → (s.bag.memory ≡ a.memory) × (s.bag.cells ≡ a.cells) → AreMostAgents ts room → p ≡ record { cells = []; bag = empty_bag a; room = room } → IsEmptyRoom ts s p
empty_room ts s a p room same most is = subst (IsEmptyRoom ts s) (sym is) (record { one = (sym same.0, sym same.1); none = none_in_empty a; room = (room, most, omega arith) })

no_more : (k : ℕ) → (0 < k → ⊥) → k ≡ 0
no_more zero never = refl
no_more (suc k) never = absurd (never (omega arith))

-- ---- one more share

module _ (bs : List ArenaView) (share : Need) (a a' a'' : ArenaView) (s : StockParts) (all : HasAllCells a) (lent : AreLentOut bs a a') (adds : AddsTo share a' (empty_stock a share) a'' s) where
  changes : Changes a' a'' s
  changes n = change share a a' a'' s all lent.count adds n

  -- a free cell is in no bag
  no_holder : (n : ℕ) → state_at a' n ≡ Vacant → (0 < holders n bs) → ⊥
  no_holder n free some = subst IsLeased (sym (leased_of bs a' n lent.bags some) ∙ free) tt

  memory : a''.memory ≡ a'.memory
  memory = ap (λ v. v.memory) adds.0.arena ∙ memory_all a' adds.0.cells Leased

  cells : a''.cells ≡ a'.cells
  cells = ap (λ v. v.cells) adds.0.arena ∙ cells_all a' adds.0.cells Leased

  module _ (cs : List ArenaView) (split : (n : ℕ) → holders n cs ≡ holders n bs + holders n (s.bag ∷ [])) (one : All (AreOfOne a'') cs) where
    none_before : (n : ℕ) → state_at a' n ≡ Vacant → holders n bs ≡ 0
    none_before n free = no_more (holders n bs) (no_holder n free)

    leased_by : (n : ℕ) → Change a' a'' s n → 0 < holders n cs → state_at a'' n ≡ Leased
    leased_by n (Lends free leased one) some = leased
    leased_by n (Stays same none) some = same ∙ leased_of bs a' n lent.bags (let e = split n in omega (arith, e, none, some))

    once_by : (n : ℕ) → Change a' a'' s n → holders n cs ≤ 1
    once_by n (Lends free leased one) = let e = split n in let none = none_before n free in omega (arith, e, none, one)
    once_by n (Stays same none) = let e = split n in let o = lent.bags.once n in omega (arith, e, none, o)

    free_by : (n : ℕ) → Change a' a'' s n → holders n cs ≡ 1 → state_at a n ≡ Vacant
    free_by n (Lends free leased one) e = sym (lent.others n (none_before n free)) ∙ free
    free_by n (Stays same none) e = lent.free n (let f = split n in omega (arith, e, f, none))

    others_by : (n : ℕ) → Change a' a'' s n → holders n cs ≡ 0 → state_at a'' n ≡ state_at a n
    others_by n (Lends free leased one) e = absurd (let f = split n in omega (arith, e, f, one))
    others_by n (Stays same none) e = same ∙ lent.others n (let f = split n in omega (arith, e, f))

    pub lent_more : AreLentOut cs a a''
    lent_more = record {
      memory = memory ∙ lent.memory;
      cells = cells ∙ lent.cells;
      count = ap (λ v. length v.states) adds.0.arena ∙ count_all a' adds.0.cells Leased ∙ lent.count;
      bags = record { each = each_of a'' cs one (λ n some. leased_by n (changes n) some); once = λ n. once_by n (changes n) };
      free = λ n e. free_by n (changes n) e;
      others = λ n e. others_by n (changes n) e;
    }

-- ---- one more hand

pub rooms_of : (ts : List TemplateParts) (s s' : StockParts) (rooms : List PlacedParts) → AreOfOne s.bag s'.bag → All (IsEmptyRoom ts s) rooms → All (IsEmptyRoom ts s') rooms
rooms_of ts s s' rooms one all = All-weaker (IsEmptyRoom ts s) (IsEmptyRoom ts s') (λ p is. record { one = (is.one.0 ∙ sym one.0, is.one.1 ∙ sym one.1); none = is.none; room = is.room }) rooms all

-- a fresh hand that has got its share
module _ (plan : PlanParts) (board : BoardView) (share : Need) (ps : List Hand) (a a' a'' : ArenaView) (p : Hand) (s : StockParts) (all : HasAllCells a) (lent : AreLentOut (in_hands ps) a a') (is : IsFreshHand plan board a share p) (added : AddsTo share a' p.stock a'' s) where
  abbrev got : Hand
  got = record p { stock = s }

  adds : AddsTo share a' (empty_stock a share) a'' s
  adds = subst (λ (z : StockParts). AddsTo share a' z a'' s) is.stock added

  bags_got : in_hands (got ∷ []) ≡ s.bag ∷ []
  bags_got = ap (λ ds. s.bag ∷ (bags ds ++ [])) is.done

  pub lent_one : AreLentOut (in_hands (ps ++ got ∷ [])) a a''
  lent_one =
      let whole : in_hands (ps ++ got ∷ []) ≡ in_hands ps ++ s.bag ∷ [] = in_hands-append ps (got ∷ []) ∙ ap (λ bs. in_hands ps ++ bs) bags_got in
      let now = of_one_by a' a'' (in_hands ps) (memory (in_hands ps) share a a' a'' s all lent adds) (cells (in_hands ps) share a a' a'' s all lent adds) (bags_are_of_one (in_hands ps) a' lent.bags) in
      subst (λ bs. AreLentOut bs a a'') (sym whole)
      (lent_more (in_hands ps) share a a' a'' s all lent adds (in_hands ps ++ s.bag ∷ []) (λ n. holders-append n (in_hands ps) (s.bag ∷ []))
      (All-append (AreOfOne a'') (in_hands ps) (s.bag ∷ []) now (All-cons (AreOfOne a'') s.bag [] (adds.0.of.memory, adds.0.of.cells) (All-nil (AreOfOne a'')))))

  pub is_ready : IsReady plan board got
  is_ready = record {
    of_board = is.ready.of_board;
    limit = is.ready.limit;
    rooms = rooms_of plan.templates.templates p.stock s p.rooms.items
        (ap (λ v. v.memory) added.0.bag ∙ memory_all p.stock.bag added.0.cells Vacant, ap (λ v. v.cells) added.0.bag ∙ cells_all p.stock.bag added.0.cells Vacant) is.ready.rooms;
    list = is.ready.list;
  }

-- the rest is enough for the others
pub share_left : (m k : ℕ) (share : Need) (a a' : ArenaView) → m ≡ k + 1 → IsShare m share (free_of a) → ((c : CellClass) → free_of a' c + count_of share c ≡ free_of a c) → IsShare k share (free_of a')
share_left m k share a a' e enough left c =
    let all = subst (λ z. z * count_of share c ≤ free_of a c) e (enough c) in let rest = left c in less k (count_of share c) (free_of a c) (free_of a' c) all rest
  where
    less : (k x f g : ℕ) → (k + 1) * x ≤ f → g + x ≡ f → k * x ≤ g
    less k x f g all rest = omega (arith, all, rest)
