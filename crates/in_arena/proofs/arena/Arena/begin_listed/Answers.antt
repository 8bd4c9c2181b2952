use Rattle.std.proofs.Common.{◌≡◌, ◌≢◌, ◌*◌, ◌+◌, ◌-◌, ◌∙◌, ℕ, ap, sym, subst, refl, length, get_or, set, slice_get, None, Some, arith}
use Rattle.std.proofs.lemmas.Option.{slice_get_read}
use Rattle.in_arena.specs.Beginning.{BeginsFrom}
use Rattle.in_arena.specs.ByClass.{view_of}
use Rattle.in_arena.specs.Classes.{amount}
use Rattle.in_arena.specs.FreeLists.{list_in}
use Rattle.in_arena.specs.Inside.{IsArena}
use Rattle.in_arena.specs.declared.arena.Arena.TheInside.{Inside}
use Rattle.in_arena.specs.declared.content.CellClass.TheVariants.{Small}
use Rattle.in_arena.specs.declared.free_list.FreeList.{FreeList}
use Rattle.in_arena.specs.declared.free_list.FreeLists.{FreeLists}
use Rattle.in_arena.proofs.Beginning.{IsListing, given_back, next_at_most, none_listed, one_more_listed, there}
use Rattle.in_arena.proofs.Classes.{class_few, same_class}
use Rattle.in_arena.proofs.FreeLists.{list_with}
use Rattle.in_arena.proofs.Inside.{with_row}
use Rattle.in_arena.proofs.Rewriting.{next_few}
use Rattle.in_arena.proofs.arena.Arena.begin_listed.Goals as goal

pub port-next-requires : goal.port-next-requires
port-next-requires c =
    let a = c.self.inside in let h = c.self.invariant in
    let few = next_few a.cells Small a.words a.lists h.whole h.free in let most = class_few a.cells h.few Small in let is = ap (λ (l : FreeList). l.next) c.of-first_free.ensures in
    (omega (arith, few, most.0, is), omega arith)

pub loop-number-init : goal.loop-number-init
loop-number-init c = record {
  begun = none_listed c.self.inside c.self.invariant c.args.self.now c.self.view_is c.args.cells.now c.args.from c.args.first c.args.points.now c.port-next.result c.of-first_free.result c.of-first_free.ensures c.port-next.ensures c.requires.some;
  rest = refl;
  same = refl;
}

pub near_word-at-requires : goal.near_word-at-requires
near_word-at-requires c = (record { 0 = c.loop-number.invariant.begun.list.next }, 0, c.loop-number.invariant.begun.is, omega arith)

-- the number of the place that is written
at_is : (n at : ℕ) → at ≡ 4 * n + 0 → at + 3 ≡ 4 * n + 3
at_is n at e = omega (arith, e)

-- the list has a cell
some_of : (n end at amount : ℕ) → at ≡ 4 * n + 0 → end ≡ 4 * amount + 0 → (at ≡ end → ⊥) → n ≢ amount
some_of n end at amount at_ end_ apart e = apart (at_ ∙ ap (λ (k : ℕ). 4 * k + 0) e ∙ sym end_)

pub overflow_add-head : goal.overflow_add-head
overflow_add-head c =
    let a = c.self.inside in let h = c.self.invariant in let b = c.loop-number.invariant.begun in
    let few = next_at_most a h c.args.self.now c.self.view_is c.args.cells.now c.args.from c.args.first c.args.points.now c.requires.room c.loop-number.self-inside.words c.loop-number.next c.loop-number.begun c.loop-number.points b in
    let most = class_few a.cells h.few Small in let at = c.near_word-at.ensures (record { 0 = b.list.next }) 0 b.is in
    record { fits = omega (arith, few, most.0, at) }

pub get-next-requires : goal.get-next-requires
get-next-requires c =
    let a = c.self.inside in let h = c.self.invariant in let b = c.loop-number.invariant.begun in let words = c.loop-number.self-inside.words in
    let at = c.near_word-at.ensures (record { 0 = b.list.next }) 0 b.is in
    let x = there a h c.args.self.now c.self.view_is c.args.cells.now c.args.from c.args.first c.args.points.now c.requires.room words c.loop-number.next c.loop-number.begun c.loop-number.points b
    (some_of b.list.next c.near_word-end.result c.near_word-at.result (amount a.cells Small) at c.near_word-end.ensures c.if-at-end.false) in
    (sym b.arena.block.0, (x.0, ap (λ k. get_or words.slots k None) (at_is b.list.next c.near_word-at.result at) ∙ x.1))

pub write-requires : goal.write-requires
write-requires c =
    let a = c.self.inside in let h = c.self.invariant in let b = c.loop-number.invariant.begun in let words = c.loop-number.self-inside.words in
    let at = c.near_word-at.ensures (record { 0 = b.list.next }) 0 b.is in
    let x = there a h c.args.self.now c.self.view_is c.args.cells.now c.args.from c.args.first c.args.points.now c.requires.room words c.loop-number.next c.loop-number.begun c.loop-number.points b
    (some_of b.list.next c.near_word-end.result c.near_word-at.result (amount a.cells Small) at c.near_word-end.ensures c.if-at-end.false) in
    (sym b.arena.block.0, (Some x.0, ap (λ k. get_or words.slots k None) (at_is b.list.next c.near_word-at.result at) ∙ x.1))

pub loop-number-preserved : goal.loop-number-preserved
loop-number-preserved c =
    let a = c.self.inside in let h = c.self.invariant in let i = c.loop-number.invariant in let b = i.begun in let words = c.loop-number.self-inside.words in
    let number = c.loop-number.number in let x = c.index-cells-number.result in
    let at = c.near_word-at.ensures (record { 0 = b.list.next }) 0 b.is in
    let some = some_of b.list.next c.near_word-end.result c.near_word-at.result (amount a.cells Small) at c.near_word-end.ensures c.if-at-end.false in
    let stands : slice_get c.args.cells.now number ≡ Some x = slice_get_read c.args.cells.now (length c.args.cells.now) number x refl c.loop-number-test.true c.index-cells-number.is in
    let small : x.class ≡ Small = same_class x.class Small (sym c.number.ensures ∙ c.if-number.false ∙ c.number-else-at-end.ensures) in
    let is = at_is b.list.next c.near_word-at.result at in
    let more = one_more_listed a h c.args.self.now c.self.view_is c.args.cells.now c.args.from c.args.first c.args.points.now c.requires.room words c.loop-number.next c.loop-number.begun c.loop-number.points b some
    x (ap (slice_get c.args.cells.now) i.same ∙ stands) small (c.requires.fits number x stands) c.get-next.result.now (ap (λ k. get_or words.slots k None) (sym is) ∙ c.get-next.ensures)
    c.write.new.self c.word.result c.write.ensures.0 (c.write.ensures.1 ∙ ap (λ k. set words.slots k (Some (Some c.word.result))) is) c.word.ensures in
    record {
      begun = subst (λ (m : ℕ). IsListing a c.args.self.now c.args.cells.now c.args.from c.args.first c.args.points.now c.write.new.self c.get-next.result.now (m + 1) (set c.loop-number.points (c.args.first + m) c.loop-number.next)) i.same more;
      rest = ap (λ (z : Inside). with_row z c.write.new.self z.lists) i.rest;
      same = refl;
    }

pub overflow_sub-begun : goal.overflow_sub-begun
overflow_sub-begun c = let end = c.loop-number.invariant.begun.begins.end in omega (arith, end)

pub pop_many-requires : goal.pop_many-requires
pop_many-requires c =
    let i = c.loop-number.invariant in let b = i.begun in let end = b.begins.end in let f = b.free in let is = ap (λ (z : Inside). (list_in z.lists Small).free) i.rest in
    omega (arith, end, f, is)

pub invariant_of-self : goal.invariant_of-self
invariant_of-self c =
    let a = c.self.inside in let h = c.self.invariant in let i = c.loop-number.invariant in let b = i.begun in let words = c.loop-number.self-inside.words in
    let lists = ap (λ (z : Inside). z.lists) i.rest in
    let back = given_back a h c.args.self.now c.self.view_is c.args.cells.now c.args.from c.args.first c.args.points.now c.requires.room words c.loop-number.next c.loop-number.begun c.loop-number.points b
    c.pop_many.new.self c.number-2.result (c.pop_many.ensures.class ∙ ap (λ (z : FreeLists). list_with c.number-2.result (list_in z Small).fresh ((list_in z Small).free - (c.loop-number.begun - c.args.from))) lists)
    (c.number-2.ensures.cell (record { 0 = b.list.next }) 0 b.is) (λ d other. c.pop_many.ensures.others d other ∙ ap (λ (z : FreeLists). list_in z d) lists) in
    subst (λ (z : Inside). IsArena (with_row z words c.pop_many.new.self)) (sym i.rest) back

pub returns : goal.returns
returns c =
    let i = c.loop-number.invariant in record {
      begun = subst (λ (z : Inside). BeginsFrom c.args.cells.now c.args.from c.args.first c.args.self.now c.args.points.now c.loop-number.begun (view_of c.loop-number.self-inside.words.at z.cells c.loop-number.self-inside.words.slots) c.loop-number.points) (sym i.rest) i.begun.begins;
      small = i.begun.small;
    }
