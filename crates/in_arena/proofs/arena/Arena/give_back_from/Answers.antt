use Rattle.std.proofs.Common.{◌≡◌, ◌<◌, ◌+◌, sym, subst, ap, ◌∙◌, None}
use Rattle.in_arena.specs.Arenas.{state_at}
use Rattle.in_arena.specs.ByClass.{IsPlace}
use Rattle.in_arena.specs.Classes.{amount, first_of}
use Rattle.in_arena.specs.States.{Vacant}
use Rattle.in_arena.specs.Words.{cell_in}
use Rattle.in_arena.proofs.Bags.{bag_less, in_here}
use Rattle.in_arena.proofs.Inside.{back_in}
use Rattle.in_arena.proofs.Kept.{bag_of_is, in_bag_all, memory_one, none_where_leased, owned, taken_from}
use Rattle.in_arena.proofs.arena.Arena.give_back_from.Goals as goal

pub spot_of-spot-requires : goal.spot_of-spot-requires
spot_of-spot-requires c = (c.bag.invariant.few, in_bag_all c.bag.inside c.bag.invariant c.args.bag.now c.bag.view_is c.args.cell.0 (in_here (state_at c.args.bag.now c.args.cell.0) c.requires.is_in))

pub take_back-requires-clause-one : goal.take_back-requires-clause-one
take_back-requires-clause-one c =
    let b = c.bag.inside in let a = c.self.inside in let v = c.args.self.now in let w = c.args.bag.now in let s = c.spot_of-spot.result in let n = c.args.cell.0 in let p = c.spot_of-spot.ensures.1 in let of = c.requires.of_this_arena in
    let m = memory_one b.words.at a.words.at b.cells a.cells b.words.slots a.words.slots w v c.bag.view_is c.self.view_is (sym of.memory, sym of.cells) in
    let q = subst (λ k. IsPlace k n s.class s.index) m.1 p in let many = c.spot_of-spot.ensures.0 ∙ m.1 in
    let out = subst (λ k. cell_in k a.words.slots s.class s.index ≡ None) (sym many) (none_where_leased a.words.at a.cells a.words.slots v n s.class s.index c.self.view_is q (of.leased n c.requires.is_in)) in
    owned b c.bag.invariant w c.bag.view_is n s c.spot_of-spot.ensures.0 p c.requires.is_in c.part_by.result a.words c.part_by.ensures.one m.0 out

pub invariant_of-bag : goal.invariant_of-bag
invariant_of-bag c =
    let w = c.args.bag.now in let n = c.args.cell.0 in let s = c.spot_of-spot.result in
    (taken_from c.bag.inside c.bag.invariant w c.bag.view_is n s c.spot_of-spot.ensures.0 c.spot_of-spot.ensures.1 c.requires.is_in c.part_by.new.self c.part_by.ensures.rest).0

pub returns : goal.returns
returns c =
    let b = c.bag.inside in let a = c.self.inside in let v = c.args.self.now in let w = c.args.bag.now in let s = c.spot_of-spot.result in let n = c.args.cell.0 in let p = c.spot_of-spot.ensures.1 in let of = c.requires.of_this_arena in let t = c.take_back.ensures in
    let m = memory_one b.words.at a.words.at b.cells a.cells b.words.slots a.words.slots w v c.bag.view_is c.self.view_is (sym of.memory, sym of.cells) in
    let many = c.spot_of-spot.ensures.0 ∙ m.1 in
    let here = (back_in a c.self.invariant v c.self.view_is n s c.take_back.new.words c.take_back.new.lists Vacant many (p.1 ∙ ap (λ k. first_of k s.class + s.index) (sym c.spot_of-spot.ensures.0)) (subst (λ k. s.index < amount k s.class) (sym c.spot_of-spot.ensures.0) p.0) t.same t.whole t.free t.rows).1 in
    let rest = (taken_from b c.bag.invariant w c.bag.view_is n s c.spot_of-spot.ensures.0 p c.requires.is_in c.part_by.new.self c.part_by.ensures.rest).1 in
    (here, rest, bag_of_is (sym rest) (sym here) (bag_less w v n Vacant of))
