-- Small cells that are begun one after another, those of the free list while it is held beside the arena.
use Rattle.std.proofs.Common.{◌≡◌, ◌≢◌, ◌⊎◌, inl, inr, ◌≤◌, ◌<◌, ◌+◌, ◌-◌, ◌*◌, ℕ, zero, suc, List, [], ◌∷◌, ◌++◌, length, set, get_or, slice_get, Some, None, refl, sym, ap, subst, ◌∙◌, arith}
use Rattle.std.proofs.lemmas.Bool.{cases_eq}
use Rattle.std.proofs.lemmas.List.{length-set}
use Rattle.std.proofs.lemmas.Option.{same_Some, slice_get_within}
use Rattle.in_base.proofs.Places.{set_here, set_there}
use Rattle.in_memory.specs.declared.cells.Cells.{Cells}
use Rattle.in_arena.specs.Arenas.{ArenaView, BeginsCell}
use Rattle.in_arena.specs.Beginning.{AreBegunInTurn, AreSmall, BeginsFrom}
use Rattle.in_arena.specs.ByClass.{IsPlace, view_of}
use Rattle.in_arena.specs.Classes.{Holds, amount, width}
use Rattle.in_arena.specs.FreeLists.{ListsFree, list_in}
use Rattle.in_arena.specs.Inside.{IsArena, arena_view}
use Rattle.in_arena.specs.Words.{head, row_in, spot}
use Rattle.in_arena.specs.declared.arena.Arena.TheInside.{Inside}
use Rattle.in_arena.specs.declared.content.CellClass.{CellClass}
use Rattle.in_arena.specs.declared.content.CellClass.TheVariants.{Small, Large, Wide}
use Rattle.in_arena.specs.declared.content.CellNo.{CellNo}
use Rattle.in_arena.specs.declared.content.End.{End}
use Rattle.in_arena.specs.declared.content.End.TheVariants.{Cell}
use Rattle.in_arena.specs.declared.free_list.FreeList.{FreeList}
use Rattle.in_arena.specs.declared.free_list.FreeLists.{FreeLists}
use Rattle.in_arena.specs.declared.head.NewCell.{NewCell}
use Rattle.in_arena.proofs.Classes.{held_some}
use Rattle.in_arena.proofs.FreeLists.{list_with}
use Rattle.in_arena.proofs.Inside.{begun_in, first_free_head, first_head, first_inside, near_spot, with_row}
use Rattle.in_arena.proofs.Rewriting.{first, free_some, next_few}

-- ---- the lists with another one of small cells

abbrev pub with_small : FreeLists → FreeList → FreeLists
with_small lists l = record { lists = l ∷ list_in lists Large ∷ list_in lists Wide ∷ [] }

with_itself : (lists : FreeLists) (d : CellClass) → list_in (with_small lists (list_in lists Small)) d ≡ list_in lists d
with_itself lists Small = refl
with_itself lists Large = refl
with_itself lists Wide = refl

with_same : (lists lists' : FreeLists) (l : FreeList) → list_in lists' Small ≡ l → ((d : CellClass) → d ≢ Small → list_in lists' d ≡ list_in lists d) → (d : CellClass) → list_in lists' d ≡ list_in (with_small lists l) d
with_same lists lists' l own others Small = own
with_same lists lists' l own others Large = others Large (λ e. cc)
with_same lists lists' l own others Wide = others Wide (λ e. cc)

others_same : (lists : FreeLists) (l m : FreeList) (d : CellClass) → d ≢ Small → list_in (with_small lists m) d ≡ list_in (with_small lists l) d
others_same lists l m Small e = absurd (e refl)
others_same lists l m Large e = refl
others_same lists l m Wide e = refl

arena_alike : (a : Inside) (words : Cells End) (lists lists' : FreeLists) → IsArena (with_row a words lists) → ((d : CellClass) → list_in lists' d ≡ list_in lists d) → IsArena (with_row a words lists')
arena_alike a words lists lists' h same = record {
  few = h.few;
  block = h.block;
  starts = h.starts;
  whole = h.whole;
  free = λ d. subst (ListsFree (width d) (row_in a.cells words.slots d)) (sym (same d)) (h.free d);
}

-- ---- points

-- a later point is written
still_begun : (cells : List NewCell) (from first_ : ℕ) (points : List End) (old : ArenaView) (k : ℕ) (ns : List CellNo) (now : ArenaView) (j : ℕ) (v : End) → first_ + (from + k) ≤ j → AreBegunInTurn cells from first_ points old k ns now → AreBegunInTurn cells from first_ (set points j v) old k ns now
still_begun cells from first_ points old zero ns now j v le h = h
still_begun cells from first_ points old (suc k) ns now j v le h =
    let i = first_ + (from + k) in let e : End = Cell h.2 0 in
    let there = set_there points j i v (λ same. (let z : i ≡ j = same in omega (arith, le, z))) in
    (h.0, h.1, h.2, h.3, h.4, h.5, there ∙ h.6, h.7, still_begun cells from first_ points old k h.1 h.3 j v (omega (arith, le)) h.8)

-- ---- one more

module _ (cells : List NewCell) (from to : ℕ) where
  pub one_more_small : (c : NewCell) → AreSmall cells from to → slice_get cells to ≡ Some c → c.class ≡ Small → AreSmall cells from (to + 1)
  one_more_small c so_far at small k x le lt there = go (cases_eq k to)
    where
      go : (k ≡ to) ⊎ (k ≢ to) → x.class ≡ Small
      go (inl same) = ap (λ (y : NewCell). y.class) (same_Some x c (sym there ∙ ap (slice_get cells) same ∙ at)) ∙ small
      go (inr other) = so_far k x le (omega (arith, lt, other)) there

  pub begins_one_more : (first_ : ℕ) (v middle new : ArenaView) (old_points points : List End) → first_ + length cells ≤ length old_points → BeginsFrom cells from first_ v old_points to middle points → (c : NewCell) → slice_get cells to ≡ Some c
      → (n : ℕ) → BeginsCell c.class c.head.word c.head.count middle n new → (x : End) → x ≡ Cell (record { 0 = n }) 0 → BeginsFrom cells from first_ v old_points (to + 1) new (set points (first_ + to) x)
  begins_one_more first_ v middle new old_points points room b c at n z x is =
      let l : to < length cells = slice_get_within cells to c at in
      let k = b.many in let end = b.end in let long = b.long in
      let room_here : first_ + to < length points = omega (arith, l, long, room) in
      record {
        many = suc k;
        end = omega (arith, end);
        within = omega (arith, l);
        numbers = b.numbers ++ record { 0 = n } ∷ [];
        begun = (
          c,
          b.numbers,
          record { 0 = n },
          middle,
          ap (slice_get cells) (sym end) ∙ at,
          refl,
          ap (λ j. slice_get (set points (first_ + to) x) (first_ + j)) (sym end) ∙ set_here points (first_ + to) x room_here ∙ ap Some is,
          z,
          still_begun cells from first_ points v k b.numbers middle (first_ + to) x (omega (arith, end)) b.begun,
        );
        before = λ j lt. set_there points (first_ + to) j x (λ same. omega (arith, lt, end, same)) ∙ b.before j lt;
        after = λ j le. set_there points (first_ + to) j x (λ same. omega (arith, le, same)) ∙ b.after j (omega (arith, le));
        long = length-set points (first_ + to) x ∙ long;
      }

-- ---- the listed ones

-- some of the cells are begun, the arena has these words and another list of small cells, all else of it is as it was, and this end is the principal
-- port of the first listed one
pub record IsListing (a : Inside) (v : ArenaView) (cells : List NewCell) (from first_ : ℕ) (old_points : List End) (words : Cells End) (next : End) (to : ℕ) (points : List End) : Type 0 where
  pub list : FreeList
  pub arena : IsArena (with_row a words (with_small a.lists list))
  pub begins : BeginsFrom cells from first_ v old_points to (view_of words.at a.cells words.slots) points
  pub small : AreSmall cells from to
  pub fresh : list.fresh ≡ (list_in a.lists Small).fresh
  pub free : list.free + to ≡ (list_in a.lists Small).free + from
  pub is : next ≡ Cell (record { 0 = list.next }) 0

module _ (a : Inside) (h : IsArena a) (v : ArenaView) (e : arena_view a ≡ v) (cells : List NewCell) (from first_ : ℕ) (old_points : List End) where
  pub none_listed : (next : End) (l : FreeList) → l ≡ list_in a.lists Small → next ≡ Cell (record { 0 = l.next }) 0 → from ≤ length cells → IsListing a v cells from first_ old_points a.words next from old_points
  none_listed next l is at le = record {
    list = list_in a.lists Small;
    arena = arena_alike a a.words a.lists (with_small a.lists (list_in a.lists Small)) h (with_itself a.lists);
    begins = record {
      many = 0;
      end = omega arith;
      within = le;
      numbers = [];
      begun = (refl, e);
      before = λ j lt. refl;
      after = λ j le. refl;
      long = refl;
    };
    small = λ k c le lt at. absurd (let none : ⊥ = omega (arith, le, lt) in none);
    fresh = refl;
    free = refl;
    is = at ∙ ap (λ (l : FreeList). Cell (record { 0 = l.next }) 0) is;
  }

  module _ (room : first_ + length cells ≤ length old_points) (words : Cells End) (next : End) (to : ℕ) (points : List End) (b : IsListing a v cells from first_ old_points words next to points) where
    abbrev held : Inside
    held = with_row a words (with_small a.lists b.list)

    -- the first listed one has a number of a small cell, or ends the list
    pub next_at_most : b.list.next ≤ amount a.cells Small
    next_at_most = next_few a.cells Small words (with_small a.lists b.list) b.arena.whole b.arena.free

    module _ (some : b.list.next ≢ amount a.cells Small) where
      place : IsPlace a.cells b.list.next Small b.list.next
      place = (first_inside held b.arena (arena_view held) refl Small some, omega arith)

      here : 4 * b.list.next + 3 ≡ spot Small a.cells b.list.next head
      here = near_spot a.cells b.list.next Small b.list.next 3 place (omega arith)

      pub there : (x : End) × (get_or words.slots (4 * b.list.next + 3) None ≡ Some (Some x))
      there = let x = first_head held b.arena (arena_view held) refl Small some in (x.0, ap (λ k. get_or words.slots k None) here ∙ x.1)

      pub one_more_listed : (c : NewCell) → slice_get cells to ≡ Some c → c.class ≡ Small → Holds c.class c.head.count → (x : End) → get_or words.slots (4 * b.list.next + 3) None ≡ Some (Some x)
          → (words' : Cells End) (y : End) → words'.at ≡ words.at → words'.slots ≡ set words.slots (4 * b.list.next + 3) (Some (Some y)) → y ≡ Cell (record { 0 = c.head.word }) c.head.count
          → IsListing a v cells from first_ old_points words' x (to + 1) (set points (first_ + to) next)
      one_more_listed c at small holds x read words' y same now is =
          let n = b.list.next in let h = b.arena in let p = first a.cells Small words (with_small a.lists b.list) h.whole h.free some in
          let list : FreeList = list_with p.cell.word b.list.fresh (b.list.free - 1) in
          let some_free = free_some a.cells Small words (with_small a.lists b.list) h.whole h.free some in
          let held_ = subst (λ d. Holds d c.head.count) small holds in
          let z = begun_in held h (arena_view held) refl Small some n words' (with_small a.lists list) y p.cell.word c.head.word c.head.count place same is
          (held_some Small c.head.count held_) held_.1 (now ∙ ap (λ j. set words.slots j (Some (Some y))) here) refl refl (others_same a.lists b.list list) in
          record {
            list = list;
            arena = z.0;
            begins = begins_one_more cells from to first_ v (arena_view held) (view_of words'.at a.cells words'.slots) old_points points room b.begins c at n
                (subst (λ d. BeginsCell d c.head.word c.head.count (arena_view held) n (view_of words'.at a.cells words'.slots)) (sym small) z.1) next b.is;
            small = one_more_small cells from to c b.small at small;
            fresh = b.fresh;
            free = (let f = b.free in omega (arith, f, some_free));
            is = first_free_head held h (arena_view held) refl Small some x (ap (λ j. get_or words.slots j None) (sym here) ∙ read);
          }

    -- the list is back in the arena
    pub given_back : (lists : FreeLists) (n : ℕ) → list_in lists Small ≡ list_with n (list_in a.lists Small).fresh ((list_in a.lists Small).free - (to - from)) → n ≡ b.list.next → ((d : CellClass) → d ≢ Small → list_in lists d ≡ list_in a.lists d) → IsArena (with_row a words lists)
    given_back lists n own next_is others =
        let f = b.free in let left : (list_in a.lists Small).free - (to - from) ≡ b.list.free = (let end = b.begins.end in omega (arith, end, f)) in
        arena_alike a words (with_small a.lists b.list) lists b.arena (with_same a.lists lists b.list (own ∙ (λ i. list_with (next_is i) (sym b.fresh i) (left i))) others)
