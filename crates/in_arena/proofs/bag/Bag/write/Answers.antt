use Rattle.std.proofs.Common.{◌≡◌, ◌≤◌, length, sym, subst, Some}
use Rattle.in_arena.specs.Arenas.{ArenaView}
use Rattle.in_arena.specs.Classes.{Holds, IsNumberOf, width}
use Rattle.in_arena.specs.States.{Live}
use Rattle.in_arena.specs.Words.{cell_in}
use Rattle.in_arena.proofs.Classes.{held_some, numbers_apart}
use Rattle.in_arena.proofs.Inside.{written_state}
use Rattle.in_arena.proofs.Kept.{bag_cell, bag_rewritten}
use Rattle.in_arena.proofs.Seen.{number_of_place}
use Rattle.in_arena.proofs.bag.Bag.write.Goals as goal

pub write_cell-requires-clause-written : goal.write_cell-requires-clause-written
write_cell-requires-clause-written c =
    let b = c.self.inside in let s = c.spot_of-spot.result in let x = bag_cell b c.self.invariant c.args.self.now c.self.view_is c.args.cell.0 s.class s.index c.spot_of-spot.ensures.1 c.requires.is_in in
    (x.0, subst (λ m. cell_in m b.words.slots s.class s.index ≡ Some (Some x.0)) (sym c.spot_of-spot.ensures.0) x.1)

pub write_cell-requires-clause-few : goal.write_cell-requires-clause-few
write_cell-requires-clause-few c =
    let b = c.self.inside in let w = c.args.self.now in let n = c.args.cell.0 in let s = c.spot_of-spot.result in let for = c.requires.many in
    (subst (λ d. Holds d (length c.args.ends.now)) (numbers_apart w.cells n for.0 s.class for.1 (subst (λ (v : ArenaView). IsNumberOf v.cells s.class n) c.self.view_is (number_of_place b.cells n s.class s.index c.spot_of-spot.ensures.1))) for.2).1

pub invariant_of-self : goal.invariant_of-self
invariant_of-self c =
    let b = c.self.inside in let k = c.self.invariant in let w = c.args.self.now in let f = c.self.view_is in let n = c.args.cell.0 in let s = c.spot_of-spot.result in let p = c.spot_of-spot.ensures.1 in let for = c.requires.many in let x = c.write_cell.ensures in let es = c.args.ends.now in
    let held = subst (λ d. Holds d (length es)) (numbers_apart w.cells n for.0 s.class for.1 (subst (λ (v : ArenaView). IsNumberOf v.cells s.class n) f (number_of_place b.cells n s.class s.index p))) for.2 in
    (bag_rewritten b k w f c.write_cell.new.words n s x.0 (Live c.args.symbol es) c.spot_of-spot.ensures.0 p x.2 (subst (λ m. m ≤ width s.class) (sym x.1.count) held.1) (written_state c.args.symbol es x.0 x.1 (held_some s.class (length es) held))).0

pub returns : goal.returns
returns c =
    let b = c.self.inside in let k = c.self.invariant in let w = c.args.self.now in let f = c.self.view_is in let n = c.args.cell.0 in let s = c.spot_of-spot.result in let p = c.spot_of-spot.ensures.1 in let for = c.requires.many in let x = c.write_cell.ensures in let es = c.args.ends.now in
    let held = subst (λ d. Holds d (length es)) (numbers_apart w.cells n for.0 s.class for.1 (subst (λ (v : ArenaView). IsNumberOf v.cells s.class n) f (number_of_place b.cells n s.class s.index p))) for.2 in
    (bag_rewritten b k w f c.write_cell.new.words n s x.0 (Live c.args.symbol es) c.spot_of-spot.ensures.0 p x.2 (subst (λ m. m ≤ width s.class) (sym x.1.count) held.1) (written_state c.args.symbol es x.0 x.1 (held_some s.class (length es) held))).1
