use Rattle.std.proofs.Common.{◌≡◌, length, sym, subst, ap, ◌∙◌, None}
use Rattle.in_memory.proofs.Public.{length-those_of}
use Rattle.in_arena.specs.Arenas.{changed, state_at}
use Rattle.in_arena.specs.ByClass.{IsPlace}
use Rattle.in_arena.specs.Words.{cell_in, is_spot, words_of}
use Rattle.in_arena.proofs.Bags.{in_here}
use Rattle.in_arena.proofs.Kept.{cell_state, in_bag_all, memory_one, none_where_leased, owned, put_into, taken_from}
use Rattle.in_arena.proofs.bag.Bag.move_to.Goals as goal

pub spot_of-spot-requires : goal.spot_of-spot-requires
spot_of-spot-requires c = (c.self.invariant.few, in_bag_all c.self.inside c.self.invariant c.args.self.now c.self.view_is c.args.cell.0 (in_here (state_at c.args.self.now c.args.cell.0) c.requires.is_in))

pub join-requires : goal.join-requires
join-requires c =
    let b = c.self.inside in let d = c.other.inside in let one = c.part_by.ensures.one in let s = c.spot_of-spot.result in
    let m = memory_one b.words.at d.words.at b.cells d.cells b.words.slots d.words.slots c.args.self.now c.args.other.now c.self.view_is c.other.view_is c.requires.of_one in
    (one.0 ∙ m.0, ap length one.1 ∙ length-those_of (is_spot s.class s.cells s.index) b.words.slots ∙ c.self.invariant.whole.long ∙ ap words_of m.1 ∙ sym c.other.invariant.whole.long)

pub invariant_of-self : goal.invariant_of-self
invariant_of-self c =
    let s = c.spot_of-spot.result in
    (taken_from c.self.inside c.self.invariant c.args.self.now c.self.view_is c.args.cell.0 s c.spot_of-spot.ensures.0 c.spot_of-spot.ensures.1 c.requires.is_in c.part_by.new.self c.part_by.ensures.rest).0

pub invariant_of-other : goal.invariant_of-other
invariant_of-other c =
    let b = c.self.inside in let d = c.other.inside in let s = c.spot_of-spot.result in let n = c.args.cell.0 in let p = c.spot_of-spot.ensures.1 in
    let m = memory_one b.words.at d.words.at b.cells d.cells b.words.slots d.words.slots c.args.self.now c.args.other.now c.self.view_is c.other.view_is c.requires.of_one in
    let q = subst (λ k. IsPlace k n s.class s.index) m.1 p in let many = c.spot_of-spot.ensures.0 ∙ m.1 in
    let out = subst (λ k. cell_in k d.words.slots s.class s.index ≡ None) (sym many) (none_where_leased d.words.at d.cells d.words.slots c.args.other.now n s.class s.index c.other.view_is q c.requires.apart) in
    (put_into d c.other.invariant c.args.other.now c.other.view_is c.join.new.self c.part_by.result n s
    (owned b c.self.invariant c.args.self.now c.self.view_is n s c.spot_of-spot.ensures.0 p c.requires.is_in c.part_by.result d.words c.part_by.ensures.one m.0 out) many q c.join.ensures.0 c.join.ensures.1).0

pub returns : goal.returns
returns c =
    let b = c.self.inside in let d = c.other.inside in let s = c.spot_of-spot.result in let n = c.args.cell.0 in let p = c.spot_of-spot.ensures.1 in
    let m = memory_one b.words.at d.words.at b.cells d.cells b.words.slots d.words.slots c.args.self.now c.args.other.now c.self.view_is c.other.view_is c.requires.of_one in
    let q = subst (λ k. IsPlace k n s.class s.index) m.1 p in let many = c.spot_of-spot.ensures.0 ∙ m.1 in
    let out = subst (λ k. cell_in k d.words.slots s.class s.index ≡ None) (sym many) (none_where_leased d.words.at d.cells d.words.slots c.args.other.now n s.class s.index c.other.view_is q c.requires.apart) in (
      (put_into d c.other.invariant c.args.other.now c.other.view_is c.join.new.self c.part_by.result n s
          (owned b c.self.invariant c.args.self.now c.self.view_is n s c.spot_of-spot.ensures.0 p c.requires.is_in c.part_by.result d.words c.part_by.ensures.one m.0 out) many q c.join.ensures.0 c.join.ensures.1).1
          ∙ ap (changed c.args.other.now n) (cell_state b c.self.invariant c.args.self.now c.self.view_is n s c.spot_of-spot.ensures.0 p c.requires.is_in),
      (taken_from b c.self.invariant c.args.self.now c.self.view_is n s c.spot_of-spot.ensures.0 p c.requires.is_in c.part_by.new.self c.part_by.ensures.rest).1,
    )
