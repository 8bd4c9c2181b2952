use Rattle.std.proofs.Common.{◌<◌, ◌∙◌, ap, subst}
use Rattle.in_arena.specs.Arenas.{state_at}
use Rattle.in_arena.specs.States.{end_at, places}
use Rattle.in_arena.proofs.FreeLists.{places_live}
use Rattle.in_arena.proofs.Inside.{few_ends, live_of, live_state, place_found, place_says, width_of}
use Rattle.in_arena.proofs.RowStarts.{row_at}
use Rattle.in_arena.proofs.arena.Arena.far_in.Goals as goal

pub get-requires : goal.get-requires
get-requires c =
    let a = c.self.inside in let h = c.self.invariant in let n = c.args.cell.0 in let p = c.args.place in let v = c.args.self.now in
    let l = live_of a h v c.self.view_is n (places_live (state_at v n) p c.requires.place) in
    (row_at a v c.self.view_is c.args.row c.requires.row, place_found a.words a.cells n h.whole l p c.far_word-at.result (width_of a h v c.self.view_is n l p c.requires.place) (c.far_word-at.ensures l.class l.index l.place))

pub returns : goal.returns
returns c =
    let a = c.self.inside in let h = c.self.invariant in let n = c.args.cell.0 in let p = c.args.place in let v = c.args.self.now in
    let l = live_of a h v c.self.view_is n (places_live (state_at v n) p c.requires.place) in
    let is = live_state a.words.at a.cells a.words.slots v n c.self.view_is l in
    ap (λ s. end_at s p) is
    ∙ place_says a.words a.cells n h.whole l p c.far_word-at.result c.get.result.now (width_of a h v c.self.view_is n l p c.requires.place) (subst (λ s. p < places s) is c.requires.place) (few_ends a h n l) (c.far_word-at.ensures l.class l.index l.place) c.get.ensures

pub far_word-at-requires-clause-cells : goal.far_word-at-requires-clause-cells
far_word-at-requires-clause-cells c =
    let a = c.self.inside in let h = c.self.invariant in let n = c.args.cell.0 in let p = c.args.place in let v = c.args.self.now in
    let l = live_of a h v c.self.view_is n (places_live (state_at v n) p c.requires.place) in
    (h.few, (l.class, l.index, l.place, width_of a h v c.self.view_is n l p c.requires.place))

pub far_word-at-requires-clause-starts : goal.far_word-at-requires-clause-starts
far_word-at-requires-clause-starts c = c.self.invariant.starts
