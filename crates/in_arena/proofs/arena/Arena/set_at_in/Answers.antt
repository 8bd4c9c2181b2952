use Rattle.std.proofs.Common.{◌∙◌, sym, Some}
use Rattle.in_arena.specs.Arenas.{state_at}
use Rattle.in_arena.proofs.FreeLists.{places_live}
use Rattle.in_arena.proofs.Inside.{end_set, live_of, near_place, place_found, width_of}
use Rattle.in_arena.proofs.RowStarts.{row_at}
use Rattle.in_arena.proofs.arena.Arena.set_at_in.Goals as goal

pub write-requires : goal.write-requires
write-requires c =
    let a = c.self.inside in let h = c.self.invariant in let v = c.args.self.now in let x = c.in-Some.ensures in let n = x.0.0 in let p = x.1 in
    let lt = c.requires.place x.0 p x.2 in
    let l = live_of a h v c.self.view_is n (places_live (state_at v n) p lt) in
    let e = place_found a.words a.cells n h.whole l p c.in-Some.word (width_of a h v c.self.view_is n l p lt) (x.4 ∙ near_place a.cells n l.class l.index p l.place x.3) in
    (row_at a v c.self.view_is c.args.row c.requires.row, (Some e.0, e.1))

pub invariant_of-self : goal.invariant_of-self
invariant_of-self c =
    let a = c.self.inside in let h = c.self.invariant in let v = c.args.self.now in let x = c.in-Some.ensures in let n = x.0.0 in let p = x.1 in
    let lt = c.requires.place x.0 p x.2 in
    let l = live_of a h v c.self.view_is n (places_live (state_at v n) p lt) in
    (end_set a h v c.self.view_is n l c.write.new.self c.write.ensures.0 p c.args.end c.in-Some.word (width_of a h v c.self.view_is n l p lt) (x.4 ∙ near_place a.cells n l.class l.index p l.place x.3) c.write.ensures.1).0

pub returns-in-Some-clause-cell : goal.returns-in-Some-clause-cell
returns-in-Some-clause-cell c = λ yes.
    let a = c.self.inside in let h = c.self.invariant in let v = c.args.self.now in let x = c.in-Some.ensures in let n = x.0.0 in let p = x.1 in
    let lt = c.requires.place x.0 p x.2 in
    let l = live_of a h v c.self.view_is n (places_live (state_at v n) p lt) in
    (x.0, p, x.2, (end_set a h v c.self.view_is n l c.write.new.self c.write.ensures.0 p c.args.end c.in-Some.word (width_of a h v c.self.view_is n l p lt) (x.4 ∙ near_place a.cells n l.class l.index p l.place x.3) c.write.ensures.1).1)

pub far_word-word-requires-clause-cells : goal.far_word-word-requires-clause-cells
far_word-word-requires-clause-cells c =
    let a = c.self.inside in let h = c.self.invariant in let n = c.in-Cell.cell.0 in let p = c.in-Cell.place in let v = c.args.self.now in
    let lt = c.requires.place c.in-Cell.cell p (sym c.in-Cell.ensures) in
    let l = live_of a h v c.self.view_is n (places_live (state_at v n) p lt) in
    (h.few, (l.class, l.index, l.place, width_of a h v c.self.view_is n l p lt))

pub write-requires-in-Cell : goal.write-requires-in-Cell
write-requires-in-Cell c =
    let a = c.self.inside in let h = c.self.invariant in let n = c.in-Cell.cell.0 in let p = c.in-Cell.place in let v = c.args.self.now in
    let lt = c.requires.place c.in-Cell.cell p (sym c.in-Cell.ensures) in
    let l = live_of a h v c.self.view_is n (places_live (state_at v n) p lt) in
    let e = place_found a.words a.cells n h.whole l p c.far_word-word.result (width_of a h v c.self.view_is n l p lt) (c.far_word-word.ensures l.class l.index l.place) in
    (row_at a v c.self.view_is c.args.row c.requires.row, (Some e.0, e.1))

pub invariant_of-self-in-Cell : goal.invariant_of-self-in-Cell
invariant_of-self-in-Cell c =
    let a = c.self.inside in let h = c.self.invariant in let n = c.in-Cell.cell.0 in let p = c.in-Cell.place in let v = c.args.self.now in
    let lt = c.requires.place c.in-Cell.cell p (sym c.in-Cell.ensures) in
    let l = live_of a h v c.self.view_is n (places_live (state_at v n) p lt) in
    (end_set a h v c.self.view_is n l c.write-in-Cell.new.self c.write-in-Cell.ensures.0 p c.args.end c.far_word-word.result (width_of a h v c.self.view_is n l p lt) (c.far_word-word.ensures l.class l.index l.place) c.write-in-Cell.ensures.1).0

pub returns-in-Cell-clause-cell : goal.returns-in-Cell-clause-cell
returns-in-Cell-clause-cell c = λ yes.
    let a = c.self.inside in let h = c.self.invariant in let n = c.in-Cell.cell.0 in let p = c.in-Cell.place in let v = c.args.self.now in
    let lt = c.requires.place c.in-Cell.cell p (sym c.in-Cell.ensures) in
    let l = live_of a h v c.self.view_is n (places_live (state_at v n) p lt) in
    (c.in-Cell.cell, p, sym c.in-Cell.ensures, (end_set a h v c.self.view_is n l c.write-in-Cell.new.self c.write-in-Cell.ensures.0 p c.args.end c.far_word-word.result (width_of a h v c.self.view_is n l p lt) (c.far_word-word.ensures l.class l.index l.place) c.write-in-Cell.ensures.1).1)
