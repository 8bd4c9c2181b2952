use Rattle.std.proofs.Common.{sym, Some}
use Rattle.in_arena.specs.Arenas.{state_at}
use Rattle.in_arena.proofs.FreeLists.{places_live}
use Rattle.in_arena.proofs.Inside.{end_set, live_of, place_found, width_of}
use Rattle.in_arena.proofs.arena.Arena.set_word.Goals as goal

pub write-requires : goal.write-requires
write-requires c =
    let a = c.self.inside in let h = c.self.invariant in let n = c.args.cell.0 in let p = c.args.place in let v = c.args.self.now in
    let l = live_of a h v c.self.view_is n (places_live (state_at v n) p c.requires) in
    let e = place_found a.words a.cells n h.whole l p c.place_word-at.result (width_of a h v c.self.view_is n l p c.requires) (c.place_word-at.ensures l.class l.index l.place) in
    (sym h.block.0, (Some e.0, e.1))

pub invariant_of-self : goal.invariant_of-self
invariant_of-self c =
    let a = c.self.inside in let h = c.self.invariant in let n = c.args.cell.0 in let p = c.args.place in let v = c.args.self.now in
    let l = live_of a h v c.self.view_is n (places_live (state_at v n) p c.requires) in
    (end_set a h v c.self.view_is n l c.write.new.self c.write.ensures.0 p c.args.end c.place_word-at.result (width_of a h v c.self.view_is n l p c.requires) (c.place_word-at.ensures l.class l.index l.place) c.write.ensures.1).0

pub returns : goal.returns
returns c =
    let a = c.self.inside in let h = c.self.invariant in let n = c.args.cell.0 in let p = c.args.place in let v = c.args.self.now in
    let l = live_of a h v c.self.view_is n (places_live (state_at v n) p c.requires) in
    (end_set a h v c.self.view_is n l c.write.new.self c.write.ensures.0 p c.args.end c.place_word-at.result (width_of a h v c.self.view_is n l p c.requires) (c.place_word-at.ensures l.class l.index l.place) c.write.ensures.1).1

pub place_word-at-requires-clause-cells : goal.place_word-at-requires-clause-cells
place_word-at-requires-clause-cells c =
    let a = c.self.inside in let h = c.self.invariant in let n = c.args.cell.0 in let p = c.args.place in let v = c.args.self.now in
    let l = live_of a h v c.self.view_is n (places_live (state_at v n) p c.requires) in
    (h.few, (l.class, l.index, l.place, width_of a h v c.self.view_is n l p c.requires))

pub place_word-at-requires-clause-starts : goal.place_word-at-requires-clause-starts
place_word-at-requires-clause-starts c = c.self.invariant.starts
