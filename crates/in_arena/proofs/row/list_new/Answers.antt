use Rattle.std.proofs.Common.{◌≡◌, ◌+◌, ◌∙◌, ap, Some, sym, subst, arith}
use Rattle.in_arena.specs.Classes.{width}
use Rattle.in_arena.specs.FreeLists.{ListsFree, list_in}
use Rattle.in_arena.specs.Words.{IsHead, row_in, cell_in, count_in, word_in, Content, ChangesCell, IsInOneState}
use Rattle.in_arena.specs.declared.free_list.FreeList.{FreeList}
use Rattle.in_arena.proofs.Classes.{class_few}
use Rattle.in_arena.proofs.FreeLists.{list_with}
use Rattle.in_arena.proofs.Rewriting.{fresh_below, fresh_new, listed_ready, none_ready}
use Rattle.in_arena.proofs.row.list_new.Goals as goal

pub returns-then-list-end : goal.returns-then-list-end
returns-then-list-end c =
    let w = c.requires.words in
    none_ready c.args.cells c.args.class c.args.words.now c.args.lists.now w.2 c.requires.lists c.requires.empty (sym (ap (λ (l : FreeList). l.fresh) c.of-list.ensures) ∙ c.if-list-end.true ∙ (c.amount-end.ensures c.args.cells c.requires.starts))

pub write_new-requires-clause-words : goal.write_new-requires-clause-words
write_new-requires-clause-words c =
    let k = c.args.class in let cells = c.args.cells in let ws = c.args.words.now.slots in let l = c.of-list.result in let w = c.requires.words in
    let free : ListsFree (width k) (row_in cells ws k) l = subst (ListsFree (width k) (row_in cells ws k)) (sym c.of-list.ensures) (c.requires.lists k) in
    (w.0, w.1, fresh_below cells ws k l free (λ e. c.if-list-end.false (e ∙ sym (c.amount-end.ensures cells c.requires.starts))), w.2.long)

pub write_new-requires-clause-new : goal.write_new-requires-clause-new
write_new-requires-clause-new c =
    let k = c.args.class in let cells = c.args.cells in let ws = c.args.words.now.slots in let l = c.of-list.result in
    let free : ListsFree (width k) (row_in cells ws k) l = subst (ListsFree (width k) (row_in cells ws k)) (sym c.of-list.ensures) (c.requires.lists k) in
    fresh_new cells ws k l c.requires.words.2 free (λ e. c.if-list-end.false (e ∙ sym (c.amount-end.ensures cells c.requires.starts)))

pub write_new-requires-clause-head : goal.write_new-requires-clause-head
write_new-requires-clause-head c = subst IsHead (sym c.port.ensures) tt

pub overflow_add-list : goal.overflow_add-list
overflow_add-list c =
    let k = c.args.class in let cells = c.args.cells in let ws = c.args.words.now.slots in let l = c.of-list.result in let few = class_few cells c.requires.words.1 k in
    let free : ListsFree (width k) (row_in cells ws k) l = subst (ListsFree (width k) (row_in cells ws k)) (sym c.of-list.ensures) (c.requires.lists k) in
    let inside = fresh_below cells ws k l free (λ e. c.if-list-end.false (e ∙ sym (c.amount-end.ensures cells c.requires.starts))) in
    record { fits = omega (arith, inside, few.0) }

pub returns : goal.returns
returns c =
    let k = c.args.class in let cells = c.args.cells in let ws = c.args.words.now.slots in let l = c.of-list.result in let f = c.write_new.ensures in let new = c.write_new.new.words.slots in
    let is = c.of-list.ensures in let fresh = ap (λ (z : FreeList). z.fresh) is in let m = list_in c.args.lists.now k in let h = c.port.result in
    let x : Content = record { word = word_in h; count = count_in h; ends = f.ends } in
    listed_ready cells k c.args.words.now c.args.lists.now c.requires.words.2 c.requires.lists c.write_new.new.words c.set.new.self x c.requires.empty
    (λ e. c.if-list-end.false (fresh ∙ e ∙ sym (c.amount-end.ensures cells c.requires.starts))) f.same (subst (IsInOneState cells new k) fresh f.state) (subst (ChangesCell cells ws new k) fresh f.changes)
    (subst (λ i. cell_in cells new k i ≡ Some (Some x)) fresh f.cell) (ap count_in c.port.ensures) (ap word_in c.port.ensures ∙ c.amount-end.ensures cells c.requires.starts)
    (c.set.ensures.class ∙ ap (λ (y : FreeList). list_with y.fresh (y.fresh + 1) y.free) is) c.set.ensures.others
