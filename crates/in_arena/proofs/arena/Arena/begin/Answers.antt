use Rattle.std.proofs.Common.{◌≡◌, ◌≢◌, ◌*◌, ◌+◌, ◌-◌, ◌∙◌, ℕ, ap, get_or, set, refl, sym, subst, None, Some, arith}
use Rattle.in_arena.specs.ByClass.{IsPlace, view_of}
use Rattle.in_arena.specs.Classes.{Holds, amount, first_of}
use Rattle.in_arena.specs.FreeLists.{list_in}
use Rattle.in_arena.specs.Inside.{IsArena, arena_view}
use Rattle.in_memory.specs.declared.cells.Cells.{Cells}
use Rattle.in_arena.specs.declared.arena.Arena.TheInside.{Inside}
use Rattle.in_arena.specs.declared.content.CellClass.{CellClass}
use Rattle.in_arena.specs.declared.content.CellNo.{CellNo}
use Rattle.in_arena.specs.declared.content.End.{End}
use Rattle.in_arena.specs.declared.content.End.TheVariants.{Cell}
use Rattle.in_arena.specs.declared.free_list.FreeList.{FreeList}
use Rattle.in_arena.specs.declared.free_list.FreeLists.{FreeLists}
use Rattle.in_arena.specs.Arenas.{ArenaView, BeginsCell}
use Rattle.in_arena.specs.Words.{IsHead, head, count_in, spot}
use Rattle.in_arena.proofs.Classes.{class_few, held_some}
use Rattle.in_arena.proofs.FreeLists.{list_with}
use Rattle.in_arena.proofs.Inside.{begun_in, first_head, first_inside, first_next, near_spot, new_in, none_new_in, with_row}
use Rattle.in_arena.proofs.Rewriting.{free_some}
use Rattle.in_arena.proofs.Seen.{place_inside}
use Rattle.in_arena.proofs.arena.Arena.begin.Goals as goal

-- the list of the class has a cell
listed : (a : Inside) (h : IsArena a) (k : CellClass) (l : FreeList) (end : ℕ) → l ≡ list_in a.lists k → end ≡ amount a.cells k → (l.next ≡ end → ⊥) → (list_in a.lists k).next ≢ amount a.cells k
listed a h k l end is is_end some e = some (ap (λ (z : FreeList). z.next) is ∙ e ∙ sym is_end)

-- .. or none
unlisted : (a : Inside) (k : CellClass) (l : FreeList) (end : ℕ) → l ≡ list_in a.lists k → end ≡ amount a.cells k → l.next ≡ end → (list_in a.lists k).next ≡ amount a.cells k
unlisted a k l end is is_end none = sym (ap (λ (z : FreeList). z.next) is) ∙ none ∙ is_end

-- the place of its first cell
place : (a : Inside) (h : IsArena a) (v : ArenaView) (e : arena_view a ≡ v) (k : CellClass) (some : (list_in a.lists k).next ≢ amount a.cells k) (l : FreeList) (n first : ℕ) → l ≡ list_in a.lists k → first ≡ first_of a.cells k → n ≡ first + l.next → IsPlace a.cells n k (list_in a.lists k).next
place a h v e k some l n first is is_first num = (first_inside a h v e k some, num ∙ ap (λ f. f + l.next) is_first ∙ ap (λ (m : FreeList). first_of a.cells k + m.next) is)

all : (a : Inside) (h : IsArena a) (v : ArenaView) (e : arena_view a ≡ v) (k : CellClass) (some : (list_in a.lists k).next ≢ amount a.cells k) (n : ℕ) → IsPlace a.cells n k (list_in a.lists k).next
    → (at : ℕ) → at ≡ 4 * n + 3 → (x : End) → get_or a.words.slots at None ≡ Some (Some x) → (next : ℕ) → ((d : CellNo) (p : ℕ) → x ≡ Cell d p → next ≡ d.0) → (y : End) (symbol count : ℕ) → y ≡ Cell (record { 0 = symbol }) count → Holds k count
    → (words : Cells End) → words.at ≡ a.words.at → words.slots ≡ set a.words.slots at (Some (Some y)) → (lists : FreeLists) → list_in lists k ≡ list_with next (list_in a.lists k).fresh ((list_in a.lists k).free - 1) → ((d : CellClass) → d ≢ k → list_in lists d ≡ list_in a.lists d)
    → IsArena (with_row a words lists) × BeginsCell k symbol count v n (view_of words.at a.cells words.slots)
all a h v e k some n at_place at word x here next named y symbol count head_is held words same now lists own others =
    let spot_is : at ≡ spot k a.cells (list_in a.lists k).next head = word ∙ near_spot a.cells n k (list_in a.lists k).next 3 at_place (omega arith) in
    let there = ap (λ j. get_or a.words.slots j None) (sym spot_is) ∙ here in
    begun_in a h v e k some n words lists y next symbol count at_place same head_is (held_some k count held) held.1 (now ∙ ap (λ j. set a.words.slots j (Some (Some y))) spot_is) (first_next a h v e k some x next there named) own others

-- ---- all of its cells were used, or are

pub begin_new-begun-requires-clause-empty : goal.begin_new-begun-requires-clause-empty
begin_new-begun-requires-clause-empty c = unlisted c.self.inside c.args.class c.of-list.result c.amount.result c.of-list.ensures (c.amount.ensures c.self.inside.cells c.self.invariant.starts) c.if-list-amount.true

pub begin_new-begun-requires-clause-words : goal.begin_new-begun-requires-clause-words
begin_new-begun-requires-clause-words c = let h = c.self.invariant in (sym h.block.0, h.few, h.whole)

pub begin_new-begun-requires-clause-head : goal.begin_new-begun-requires-clause-head
begin_new-begun-requires-clause-head c = (subst IsHead (sym c.word.ensures) tt, subst (λ n. Holds c.args.class n) (sym (ap count_in c.word.ensures)) c.requires)

pub returns-in_default : goal.returns-in_default
returns-in_default c = none_new_in c.self.inside c.self.invariant c.args.self.now c.self.view_is c.args.class c.word.result c.begin_new-begun.new.words c.begin_new-begun.new.lists c.in_default.ensures

pub returns-then-list-amount : goal.returns-then-list-amount
returns-then-list-amount c =
    let a = c.self.inside in let v = c.args.self.now in let words = c.begin_new-begun.new.words in
    subst (λ (n : ℕ). BeginsCell c.args.class c.args.head.word c.args.head.count v n (view_of words.at a.cells words.slots)) (ap (λ (m : CellNo). m.0) (sym c.of.ensures))
    (new_in a c.self.invariant v c.self.view_is c.args.class c.word.result c.args.head.word c.args.head.count c.in-Some.cell words c.begin_new-begun.new.lists c.word.ensures c.requires c.in-Some.ensures).1

-- ---- its list has one

pub overflow_add-cell : goal.overflow_add-cell
overflow_add-cell c =
    let a = c.self.inside in let h = c.self.invariant in let k = c.args.class in let l = c.of-list.result in
    let some = listed a h k l c.amount.result c.of-list.ensures (c.amount.ensures a.cells h.starts) c.if-list-amount.false in
    let inside = first_inside a h c.args.self.now c.self.view_is k some in let next = ap (λ (z : FreeList). z.next) c.of-list.ensures in
    record { fits = omega (arith, c.first.ensures a.cells h.starts, next, place_inside a.cells k (list_in a.lists k).next inside, (class_few a.cells h.few k).1) }

pub get-requires : goal.get-requires
get-requires c =
    let a = c.self.inside in let h = c.self.invariant in let v = c.args.self.now in let k = c.args.class in let l = c.of-list.result in
    let some = listed a h k l c.amount.result c.of-list.ensures (c.amount.ensures a.cells h.starts) c.if-list-amount.false in
    let at_place = place a h v c.self.view_is k some l (c.first.result + l.next) c.first.result c.of-list.ensures (c.first.ensures a.cells h.starts) refl in
    let word = c.near_word-at.ensures ∙ near_spot a.cells (c.first.result + l.next) k (list_in a.lists k).next 3 at_place (omega arith) in
    let at = first_head a h v c.self.view_is k some in
    (sym h.block.0, (at.0, ap (λ j. get_or a.words.slots j None) word ∙ at.1))

pub pop-requires : goal.pop-requires
pop-requires c =
    let a = c.self.inside in let h = c.self.invariant in let k = c.args.class in
    free_some a.cells k a.words a.lists h.whole h.free (listed a h k c.of-list.result c.amount.result c.of-list.ensures (c.amount.ensures a.cells h.starts) c.if-list-amount.false)

pub of-requires-2 : goal.of-requires-2
of-requires-2 c =
    let a = c.self.inside in let h = c.self.invariant in let k = c.args.class in let l = c.of-list.result in
    let some = listed a h k l c.amount.result c.of-list.ensures (c.amount.ensures a.cells h.starts) c.if-list-amount.false in
    let inside = first_inside a h c.args.self.now c.self.view_is k some in let next = ap (λ (z : FreeList). z.next) c.of-list.ensures in
    omega (arith, c.first.ensures a.cells h.starts, next, place_inside a.cells k (list_in a.lists k).next inside, (class_few a.cells h.few k).1)

pub invariant_of-self-2 : goal.invariant_of-self-2
invariant_of-self-2 c =
    let a = c.self.inside in let h = c.self.invariant in let v = c.args.self.now in let k = c.args.class in let l = c.of-list.result in let n = c.first.result + l.next in
    let some = listed a h k l c.amount.result c.of-list.ensures (c.amount.ensures a.cells h.starts) c.if-list-amount.false in
    (all a h v c.self.view_is k some n (place a h v c.self.view_is k some l n c.first.result c.of-list.ensures (c.first.ensures a.cells h.starts) refl) c.near_word-at.result c.near_word-at.ensures c.get.result.now c.get.ensures c.number-next.result c.number-next.ensures.cell
    c.word-2.result c.args.head.word c.args.head.count c.word-2.ensures c.requires c.write.new.self c.write.ensures.0 c.write.ensures.1 c.pop.new.self c.pop.ensures.class c.pop.ensures.others).0

pub returns : goal.returns
returns c =
    let a = c.self.inside in let h = c.self.invariant in let v = c.args.self.now in let k = c.args.class in let l = c.of-list.result in let n = c.first.result + l.next in
    let some = listed a h k l c.amount.result c.of-list.ensures (c.amount.ensures a.cells h.starts) c.if-list-amount.false in
    subst (λ (n : ℕ). BeginsCell k c.args.head.word c.args.head.count v n (view_of c.write.new.self.at a.cells c.write.new.self.slots)) (ap (λ (m : CellNo). m.0) (sym c.of-2.ensures))
    (all a h v c.self.view_is k some n (place a h v c.self.view_is k some l n c.first.result c.of-list.ensures (c.first.ensures a.cells h.starts) refl) c.near_word-at.result c.near_word-at.ensures c.get.result.now c.get.ensures c.number-next.result c.number-next.ensures.cell
    c.word-2.result c.args.head.word c.args.head.count c.word-2.ensures c.requires c.write.new.self c.write.ensures.0 c.write.ensures.1 c.pop.new.self c.pop.ensures.class c.pop.ensures.others).1
