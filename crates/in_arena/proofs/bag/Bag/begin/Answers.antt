use Rattle.std.proofs.Common.{◌≡◌, sym, subst, refl, arith, Some}
use Rattle.in_arena.specs.Arenas.{ArenaView}
use Rattle.in_arena.specs.Classes.{Holds, IsNumberOf}
use Rattle.in_arena.specs.FreeLists.{state_in}
use Rattle.in_arena.specs.Words.{Content, cell_in}
use Rattle.in_arena.proofs.Classes.{held_some, numbers_apart}
use Rattle.in_arena.proofs.FreeLists.{begun}
use Rattle.in_arena.proofs.Kept.{bag_cell, bag_long, bag_rewritten}
use Rattle.in_arena.proofs.Seen.{number_of_place}
use Rattle.in_arena.proofs.bag.Bag.begin.Goals as goal

pub begin_cell-requires-clause-written : goal.begin_cell-requires-clause-written
begin_cell-requires-clause-written c =
    let b = c.self.inside in let s = c.spot_of-spot.result in let x = bag_cell b c.self.invariant c.args.self.now c.self.view_is c.args.cell.0 s.class s.index c.spot_of-spot.ensures.1 c.requires.is_in in
    (x.0, subst (λ m. cell_in m b.words.slots s.class s.index ≡ Some (Some x.0)) (sym c.spot_of-spot.ensures.0) x.1)

pub invariant_of-self : goal.invariant_of-self
invariant_of-self c =
    let b = c.self.inside in let k = c.self.invariant in let w = c.args.self.now in let f = c.self.view_is in let n = c.args.cell.0 in let s = c.spot_of-spot.result in let p = c.spot_of-spot.ensures.1 in
    let x = bag_cell b k w f n s.class s.index p c.requires.is_in in let y : Content = record { word = c.args.head.word; count = c.args.head.count; ends = x.0.ends } in let for = c.requires.many in
    let held = subst (λ d. Holds d c.args.head.count) (numbers_apart w.cells n for.0 s.class for.1 (subst (λ (v : ArenaView). IsNumberOf v.cells s.class n) f (number_of_place b.cells n s.class s.index p))) for.2 in
    (bag_rewritten b k w f c.begin_cell.new.words n s y (state_in y) c.spot_of-spot.ensures.0 p (c.begin_cell.ensures x.0 (subst (λ m. cell_in m b.words.slots s.class s.index ≡ Some (Some x.0)) (sym c.spot_of-spot.ensures.0) x.1)) held.1 refl).0

pub returns : goal.returns
returns c =
    let b = c.self.inside in let k = c.self.invariant in let w = c.args.self.now in let f = c.self.view_is in let n = c.args.cell.0 in let s = c.spot_of-spot.result in let p = c.spot_of-spot.ensures.1 in
    let x = bag_cell b k w f n s.class s.index p c.requires.is_in in let y : Content = record { word = c.args.head.word; count = c.args.head.count; ends = x.0.ends } in let for = c.requires.many in
    let held = subst (λ d. Holds d c.args.head.count) (numbers_apart w.cells n for.0 s.class for.1 (subst (λ (v : ArenaView). IsNumberOf v.cells s.class n) f (number_of_place b.cells n s.class s.index p))) for.2 in let few = held.1 in (
      state_in y,
      begun y (held_some s.class c.args.head.count held) (omega (arith, few, bag_long b k w f s.class s.index p.0 x.0 x.1)),
      (bag_rewritten b k w f c.begin_cell.new.words n s y (state_in y) c.spot_of-spot.ensures.0 p (c.begin_cell.ensures x.0 (subst (λ m. cell_in m b.words.slots s.class s.index ≡ Some (Some x.0)) (sym c.spot_of-spot.ensures.0) x.1)) few refl).1,
    )
