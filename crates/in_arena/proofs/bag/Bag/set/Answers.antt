use Rattle.std.proofs.Common.{◌≡◌, ◌<◌, set, sym, subst, ap, refl, ◌∙◌, Some}
use Rattle.in_arena.specs.Arenas.{state_at}
use Rattle.in_arena.specs.Classes.{width}
use Rattle.in_arena.specs.FreeLists.{state_in, state_of}
use Rattle.in_arena.specs.States.{places, with_end}
use Rattle.in_arena.specs.Words.{Content, cell_in}
use Rattle.in_arena.proofs.Arenas.{placed_here}
use Rattle.in_arena.proofs.Bags.{placed_in}
use Rattle.in_arena.proofs.FreeLists.{end_written, place_within}
use Rattle.in_arena.proofs.Kept.{bag_cell, bag_long, bag_rewritten, bag_state, in_bag_all}
use Rattle.in_arena.proofs.bag.Bag.set.Goals as goal

pub spot_of-spot-requires : goal.spot_of-spot-requires
spot_of-spot-requires c =
    let w = c.args.self.now in let n = c.args.cell.0 in
    (c.self.invariant.few, in_bag_all c.self.inside c.self.invariant w c.self.view_is n (placed_here (state_at w n) c.args.place c.requires))

pub set_end-requires-clause-written : goal.set_end-requires-clause-written
set_end-requires-clause-written c =
    let b = c.self.inside in let s = c.spot_of-spot.result in let w = c.args.self.now in let n = c.args.cell.0 in
    let x = bag_cell b c.self.invariant w c.self.view_is n s.class s.index c.spot_of-spot.ensures.1 (placed_in (state_at w n) c.args.place c.requires) in
    (x.0, subst (λ m. cell_in m b.words.slots s.class s.index ≡ Some (Some x.0)) (sym c.spot_of-spot.ensures.0) x.1)

-- a place of a cell is one that its class has
pub set_end-requires-clause-place : goal.set_end-requires-clause-place
set_end-requires-clause-place c =
    let b = c.self.inside in let k = c.self.invariant in let w = c.args.self.now in let f = c.self.view_is in let n = c.args.cell.0 in let s = c.spot_of-spot.result in let p = c.spot_of-spot.ensures.1 in
    let x = bag_cell b k w f n s.class s.index p (placed_in (state_at w n) c.args.place c.requires) in
    place_within x.0.count x.0.word x.0.ends c.args.place (width s.class) (subst (λ z. c.args.place < places z) (bag_state b k w f n s.class s.index p ∙ ap state_of x.1) c.requires) x.2 (sym (bag_long b k w f s.class s.index p.0 x.0 x.1))

pub invariant_of-self : goal.invariant_of-self
invariant_of-self c =
    let b = c.self.inside in let k = c.self.invariant in let w = c.args.self.now in let f = c.self.view_is in let n = c.args.cell.0 in let s = c.spot_of-spot.result in let p = c.spot_of-spot.ensures.1 in
    let x = bag_cell b k w f n s.class s.index p (placed_in (state_at w n) c.args.place c.requires) in let y : Content = record { word = x.0.word; count = x.0.count; ends = set x.0.ends c.args.place c.args.end } in
    (bag_rewritten b k w f c.set_end.new.words n s y (state_in y) c.spot_of-spot.ensures.0 p (c.set_end.ensures x.0 (subst (λ m. cell_in m b.words.slots s.class s.index ≡ Some (Some x.0)) (sym c.spot_of-spot.ensures.0) x.1)) x.2 refl).0

pub returns : goal.returns
returns c =
    let b = c.self.inside in let k = c.self.invariant in let w = c.args.self.now in let f = c.self.view_is in let n = c.args.cell.0 in let s = c.spot_of-spot.result in let p = c.spot_of-spot.ensures.1 in
    let x = bag_cell b k w f n s.class s.index p (placed_in (state_at w n) c.args.place c.requires) in let y : Content = record { word = x.0.word; count = x.0.count; ends = set x.0.ends c.args.place c.args.end } in
    (bag_rewritten b k w f c.set_end.new.words n s y (with_end (state_at w n) c.args.place c.args.end) c.spot_of-spot.ensures.0 p (c.set_end.ensures x.0 (subst (λ m. cell_in m b.words.slots s.class s.index ≡ Some (Some x.0)) (sym c.spot_of-spot.ensures.0) x.1)) x.2
    (end_written x.0.word x.0.count x.0.ends c.args.place c.args.end ∙ ap (λ z. with_end z c.args.place c.args.end) (sym (bag_state b k w f n s.class s.index p ∙ ap state_of x.1)))).1
