use Rattle.std.proofs.Common.{◌≡◌, ◌+◌, length, sym, subst, ap, ◌∙◌, None}
use Rattle.in_memory.proofs.Public.{length-those_of}
use Rattle.in_arena.specs.Arenas.{state_at}
use Rattle.in_arena.specs.ByClass.{IsPlace}
use Rattle.in_arena.specs.Classes.{first_of}
use Rattle.in_arena.specs.States.{IsLive}
use Rattle.in_arena.specs.Words.{cell_in, is_spot, words_of}
use Rattle.in_arena.proofs.Arenas.{live_here}
use Rattle.in_arena.proofs.Bags.{bag_less, live_in}
use Rattle.in_arena.proofs.Inside.{settled_in}
use Rattle.in_arena.proofs.Kept.{bag_of_is, cell_state, in_bag_all, memory_one, none_where_leased, owned, taken_from}
use Rattle.in_arena.proofs.arena.Arena.settle_from.Goals as goal

pub spot_of-spot-requires : goal.spot_of-spot-requires
spot_of-spot-requires c = (c.bag.invariant.few, in_bag_all c.bag.inside c.bag.invariant c.args.bag.now c.bag.view_is c.args.cell.0 (live_here (state_at c.args.bag.now c.args.cell.0) c.requires.written))

pub join-requires : goal.join-requires
join-requires c =
    let b = c.bag.inside in let a = c.self.inside in let one = c.part_by.ensures.one in let s = c.spot_of-spot.result in let of = c.requires.of_this_arena in
    let m = memory_one b.words.at a.words.at b.cells a.cells b.words.slots a.words.slots c.args.bag.now c.args.self.now c.bag.view_is c.self.view_is (sym of.memory, sym of.cells) in
    (one.0 ∙ m.0, ap length one.1 ∙ length-those_of (is_spot s.class s.cells s.index) b.words.slots ∙ c.bag.invariant.whole.long ∙ ap words_of m.1 ∙ sym c.self.invariant.whole.long)

pub invariant_of-self : goal.invariant_of-self
invariant_of-self c =
    let b = c.bag.inside in let a = c.self.inside in let v = c.args.self.now in let w = c.args.bag.now in let s = c.spot_of-spot.result in let n = c.args.cell.0 in let p = c.spot_of-spot.ensures.1 in let of = c.requires.of_this_arena in
    let in_it = live_in (state_at w n) c.requires.written in
    let m = memory_one b.words.at a.words.at b.cells a.cells b.words.slots a.words.slots w v c.bag.view_is c.self.view_is (sym of.memory, sym of.cells) in
    let q = subst (λ k. IsPlace k n s.class s.index) m.1 p in let many = c.spot_of-spot.ensures.0 ∙ m.1 in
    let out = subst (λ k. cell_in k a.words.slots s.class s.index ≡ None) (sym many) (none_where_leased a.words.at a.cells a.words.slots v n s.class s.index c.self.view_is q (of.leased n in_it)) in
    let is = cell_state b c.bag.invariant w c.bag.view_is n s c.spot_of-spot.ensures.0 p in_it in
    (settled_in a c.self.invariant v c.self.view_is s c.part_by.result (owned b c.bag.invariant w c.bag.view_is n s c.spot_of-spot.ensures.0 p in_it c.part_by.result a.words c.part_by.ensures.one m.0 out) c.join.new.self n (state_at w n) many
    (p.1 ∙ ap (λ k. first_of k s.class + s.index) (sym c.spot_of-spot.ensures.0)) (subst IsLive (sym is) c.requires.written) c.join.ensures.0 c.join.ensures.1 is).0

pub invariant_of-bag : goal.invariant_of-bag
invariant_of-bag c =
    let w = c.args.bag.now in let n = c.args.cell.0 in let s = c.spot_of-spot.result in
    (taken_from c.bag.inside c.bag.invariant w c.bag.view_is n s c.spot_of-spot.ensures.0 c.spot_of-spot.ensures.1 (live_in (state_at w n) c.requires.written) c.part_by.new.self c.part_by.ensures.rest).0

pub returns : goal.returns
returns c =
    let b = c.bag.inside in let a = c.self.inside in let v = c.args.self.now in let w = c.args.bag.now in let s = c.spot_of-spot.result in let n = c.args.cell.0 in let p = c.spot_of-spot.ensures.1 in let of = c.requires.of_this_arena in
    let in_it = live_in (state_at w n) c.requires.written in
    let m = memory_one b.words.at a.words.at b.cells a.cells b.words.slots a.words.slots w v c.bag.view_is c.self.view_is (sym of.memory, sym of.cells) in
    let q = subst (λ k. IsPlace k n s.class s.index) m.1 p in let many = c.spot_of-spot.ensures.0 ∙ m.1 in
    let out = subst (λ k. cell_in k a.words.slots s.class s.index ≡ None) (sym many) (none_where_leased a.words.at a.cells a.words.slots v n s.class s.index c.self.view_is q (of.leased n in_it)) in
    let is = cell_state b c.bag.invariant w c.bag.view_is n s c.spot_of-spot.ensures.0 p in_it in
    let here = (settled_in a c.self.invariant v c.self.view_is s c.part_by.result (owned b c.bag.invariant w c.bag.view_is n s c.spot_of-spot.ensures.0 p in_it c.part_by.result a.words c.part_by.ensures.one m.0 out) c.join.new.self n (state_at w n) many
    (p.1 ∙ ap (λ k. first_of k s.class + s.index) (sym c.spot_of-spot.ensures.0)) (subst IsLive (sym is) c.requires.written) c.join.ensures.0 c.join.ensures.1 is).1 in
    let rest = (taken_from b c.bag.invariant w c.bag.view_is n s c.spot_of-spot.ensures.0 p in_it c.part_by.new.self c.part_by.ensures.rest).1 in
    (here, rest, bag_of_is (sym rest) (sym here) (bag_less w v n (state_at w n) of))
