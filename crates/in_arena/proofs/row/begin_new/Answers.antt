use Rattle.std.proofs.Common.{◌≡◌, ◌∙◌, ap, sym, subst, arith}
use Rattle.in_arena.specs.Classes.{amount, width}
use Rattle.in_arena.specs.FreeLists.{ListsFree, list_in, state_of}
use Rattle.in_arena.specs.Rows.{IsFirstWritten}
use Rattle.in_arena.specs.Words.{row_in, count_in}
use Rattle.in_arena.specs.declared.free_list.FreeList.{FreeList}
use Rattle.in_arena.specs.declared.spot.Spot.{Spot}
use Rattle.in_arena.proofs.Classes.{class_few, held_some}
use Rattle.in_arena.proofs.Rewriting.{fresh_below, fresh_new, new_free, new_live, none_ready}
use Rattle.in_arena.proofs.Seen.{place_inside}
use Rattle.in_arena.proofs.Words.{row_at, row_long}
use Rattle.in_arena.proofs.row.begin_new.Goals as goal

pub returns-then-list-amount : goal.returns-then-list-amount
returns-then-list-amount c =
    let w = c.requires.words in
    none_ready c.args.cells c.args.class c.args.words.now c.args.lists.now w.2 c.requires.lists c.requires.empty (sym (ap (λ (l : FreeList). l.fresh) c.of-list.ensures) ∙ c.if-list-amount.true ∙ (c.amount.ensures c.args.cells c.requires.starts))

pub overflow_add-cell : goal.overflow_add-cell
overflow_add-cell c =
    let k = c.args.class in let cells = c.args.cells in let ws = c.args.words.now.slots in let l = c.of-list.result in let w = c.requires.words in
    let free : ListsFree (width k) (row_in cells ws k) l = subst (ListsFree (width k) (row_in cells ws k)) (sym c.of-list.ensures) (c.requires.lists k) in
    let inside = fresh_below cells ws k l free (λ e. c.if-list-amount.false (e ∙ sym (c.amount.ensures cells c.requires.starts))) in
    record { fits = omega (arith, c.first.ensures cells c.requires.starts, place_inside cells k l.fresh inside, (class_few cells w.1 k).1) }

pub write_new-requires-clause-words : goal.write_new-requires-clause-words
write_new-requires-clause-words c =
    let k = c.args.class in let cells = c.args.cells in let ws = c.args.words.now.slots in let l = c.of-list.result in let w = c.requires.words in
    let free : ListsFree (width k) (row_in cells ws k) l = subst (ListsFree (width k) (row_in cells ws k)) (sym c.of-list.ensures) (c.requires.lists k) in
    (w.0, w.1, fresh_below cells ws k l free (λ e. c.if-list-amount.false (e ∙ sym (c.amount.ensures cells c.requires.starts))), w.2.long)

pub write_new-requires-clause-new : goal.write_new-requires-clause-new
write_new-requires-clause-new c =
    let k = c.args.class in let cells = c.args.cells in let ws = c.args.words.now.slots in let l = c.of-list.result in
    let free : ListsFree (width k) (row_in cells ws k) l = subst (ListsFree (width k) (row_in cells ws k)) (sym c.of-list.ensures) (c.requires.lists k) in
    fresh_new cells ws k l c.requires.words.2 free (λ e. c.if-list-amount.false (e ∙ sym (c.amount.ensures cells c.requires.starts)))

pub use_fresh-requires : goal.use_fresh-requires
use_fresh-requires c =
    let k = c.args.class in let cells = c.args.cells in let words = c.args.words.now in let w = c.requires.words in let m = list_in c.args.lists.now k in
    let some : m.fresh ≡ amount cells k → ⊥ = λ e. c.if-list-amount.false (ap (λ (z : FreeList). z.fresh) c.of-list.ensures ∙ e ∙ sym (c.amount.ensures cells c.requires.starts)) in
    let inside = fresh_below cells words.slots k m (c.requires.lists k) some in
    (omega (arith, inside, (class_few cells w.1 k).0), new_free cells k words c.args.lists.now w.2 c.requires.lists some)

pub returns : goal.returns
returns c =
    let k = c.args.class in let cells = c.args.cells in let words = c.args.words.now in let h = c.args.head in let l = c.of-list.result in let w = c.requires.words in let m = list_in c.args.lists.now k in
    let fresh = ap (λ (z : FreeList). z.fresh) c.of-list.ensures in
    let some : m.fresh ≡ amount cells k → ⊥ = λ e. c.if-list-amount.false (fresh ∙ e ∙ sym (c.amount.ensures cells c.requires.starts)) in
    let inside = fresh_below cells words.slots k m (c.requires.lists k) some in
    let written = subst (λ i. let s : Spot = record { class = k; index = i; cells = cells } in IsFirstWritten words s h c.write_new.new.words) fresh c.write_new.ensures in
    let live = new_live cells k words c.args.lists.now w.2 c.requires.lists some c.write_new.new.words c.use_fresh.new.self h written (held_some k (count_in h) c.requires.head.1) c.requires.head.1.1 c.use_fresh.ensures.class c.use_fresh.ensures.others in
    let new = sym (row_at cells words.slots k m.fresh inside) ∙ (c.requires.lists k).unused.1 m.fresh (omega arith) (omega (arith, inside, row_long cells words.slots k)) in
    record {
      same = written.same;
      whole = live.0;
      free = live.1;
      index = m.fresh;
      place = (inside, (let first = c.first.ensures cells c.requires.starts in omega (arith, first, fresh)));
      was = ap state_of new;
      ends = written.ends;
      long = written.long;
      rows = live.2;
    }
