use Rattle.std.proofs.Common.{◌≡◌, ◌+◌, ℕ, length, ap, subst, ◌∙◌, arith}
use Rattle.in_arena.proofs.Public.{row_still}
use Rattle.in_cells.proofs.Public.{keep_on}
use Rattle.in_compile.specs.Wires.{over_of, place_in, slot_of, within_of}
use Rattle.in_reducer.specs.Wiring.{IsWiring, wires_of}
use Rattle.in_reducer.proofs.Steps.OneWire as one
use Rattle.in_reducer.proofs.Steps.Points.{listed_at, wires_many}
use Rattle.in_reducer.proofs.wiring.write_within.Goals as goal

pub side-one-requires : goal.side-one-requires
side-one-requires c =
    let q = c.requires.ready in
    let w = c.index-wires-number.result in
    let at = listed_at (within_of c.args.template.now.member) c.within-wires.result.now c.loop-number.number w c.within-wires.ensures c.loop-number-test.true c.index-wires-number.is in
    one.one_can_read q.0 q.1 c.args.template.now q.2 q.3 c.args.points.now c.loop-number.number c.loop-number.arena c.loop-number.ends (c.loop-number.invariant.written q.0 q.1 q.2 q.3 q.4) w at
    c.slot.result c.step.result (c.slot.ensures.slot ∙ ap slot_of c.one.ensures) (c.step.ensures.place ∙ ap place_in c.one-in-loop-number.ensures)

pub side-other-requires : goal.side-other-requires
side-other-requires c =
    let q = c.requires.ready in
    let w = c.index-wires-number.result in
    let at = listed_at (within_of c.args.template.now.member) c.within-wires.result.now c.loop-number.number w c.within-wires.ensures c.loop-number-test.true c.index-wires-number.is in
    one.other_can_read q.0 q.1 c.args.template.now q.2 q.3 c.args.points.now c.loop-number.number c.loop-number.arena c.loop-number.ends (c.loop-number.invariant.written q.0 q.1 q.2 q.3 q.4) w at
    c.slot-in-loop-number.result c.step-in-loop-number.result (c.slot-in-loop-number.ensures.slot ∙ ap slot_of c.other.ensures) (c.step-in-loop-number.ensures.place ∙ ap place_in c.other-in-loop-number.ensures)

pub exchange_in-requires-clause-row : goal.exchange_in-requires-clause-row
exchange_in-requires-clause-row c = row_still c.row-row.result c.args.arena.now c.loop-number.arena c.loop-number.invariant.kept.memory c.row-row.ensures

pub exchange_in-requires-clause-one : goal.exchange_in-requires-clause-one
exchange_in-requires-clause-one c =
    let q = c.requires.ready in
    let w = c.index-wires-number.result in
    let at = listed_at (within_of c.args.template.now.member) c.within-wires.result.now c.loop-number.number w c.within-wires.ensures c.loop-number-test.true c.index-wires-number.is in
    one.within_place_u q.0 q.1 c.args.template.now q.2 q.3 c.args.points.now c.loop-number.number c.loop-number.arena c.loop-number.ends (c.loop-number.invariant.written q.0 q.1 q.2 q.3 q.4) w at c.side-one.result c.side-other.result
    (record {
      slot = c.slot.result;
      place = c.step.result;
      other_slot = c.slot-in-loop-number.result;
      other_place = c.step-in-loop-number.result;
      is_slot = c.slot.ensures.slot ∙ ap slot_of c.one.ensures;
      is_place = c.step.ensures.place ∙ ap place_in c.one-in-loop-number.ensures;
      is_other_slot = c.slot-in-loop-number.ensures.slot ∙ ap slot_of c.other.ensures;
      is_other_place = c.step-in-loop-number.ensures.place ∙ ap place_in c.other-in-loop-number.ensures;
      one = c.side-one.ensures;
      other = c.side-other.ensures;
    })

pub exchange_in-requires-clause-other : goal.exchange_in-requires-clause-other
exchange_in-requires-clause-other c =
    let q = c.requires.ready in
    let w = c.index-wires-number.result in
    let at = listed_at (within_of c.args.template.now.member) c.within-wires.result.now c.loop-number.number w c.within-wires.ensures c.loop-number-test.true c.index-wires-number.is in
    one.within_place_v q.0 q.1 c.args.template.now q.2 q.3 c.args.points.now c.loop-number.number c.loop-number.arena c.loop-number.ends (c.loop-number.invariant.written q.0 q.1 q.2 q.3 q.4) w at c.side-one.result c.side-other.result
    (record {
      slot = c.slot.result;
      place = c.step.result;
      other_slot = c.slot-in-loop-number.result;
      other_place = c.step-in-loop-number.result;
      is_slot = c.slot.ensures.slot ∙ ap slot_of c.one.ensures;
      is_place = c.step.ensures.place ∙ ap place_in c.one-in-loop-number.ensures;
      is_other_slot = c.slot-in-loop-number.ensures.slot ∙ ap slot_of c.other.ensures;
      is_other_place = c.step-in-loop-number.ensures.place ∙ ap place_in c.other-in-loop-number.ensures;
      one = c.side-one.ensures;
      other = c.side-other.ensures;
    })

pub loop-number-preserved : goal.loop-number-preserved
loop-number-preserved c =
    let q = c.requires.ready in
    let p = c.args.template.now in
    let points = c.args.points.now in
    let n = c.loop-number.number in
    let a = c.loop-number.arena in
    let es = c.loop-number.ends in
    let i = c.loop-number.invariant in
    let w = c.index-wires-number.result in
    let u = c.side-one.result in
    let v = c.side-other.result in
    let b = c.exchange_in.new.arena in
    let fs = c.exchange_in.new.ends in
    let at = listed_at (within_of p.member) c.within-wires.result.now n w c.within-wires.ensures c.loop-number-test.true c.index-wires-number.is in
    let read : one.HasReadWithin points w u v = record {
      slot = c.slot.result;
      place = c.step.result;
      other_slot = c.slot-in-loop-number.result;
      other_place = c.step-in-loop-number.result;
      is_slot = c.slot.ensures.slot ∙ ap slot_of c.one.ensures;
      is_place = c.step.ensures.place ∙ ap place_in c.one-in-loop-number.ensures;
      is_other_slot = c.slot-in-loop-number.ensures.slot ∙ ap slot_of c.other.ensures;
      is_other_place = c.step-in-loop-number.ensures.place ∙ ap place_in c.other-in-loop-number.ensures;
      one = c.side-one.ensures;
      other = c.side-other.ensures;
    } in
    let kept = one.within_kept q.0 q.1 p q.2 q.3 points n a es (i.written q.0 q.1 q.2 q.3 q.4) w at u v read b fs c.exchange_in.ensures in
    record {
      written = λ t s own ns h. one.within_written t s p own ns points n a es (i.written t s own ns h) w at u v read b fs c.exchange_in.ensures;
      kept = keep_on c.args.arena.now a b i.kept kept.0;
      long = kept.1 ∙ i.long;
    }

pub returns-clause-written : goal.returns-clause-written
returns-clause-written c = λ t s own ns h. (
    let m = c.args.template.now.member in
    let many = ap length c.within-wires.ensures in
    let wires = wires_many m in
    let all : length (over_of m) + c.loop-number.number ≡ length (wires_of m) = omega (arith, many, wires) in
    subst (λ (n : ℕ). IsWiring t s c.args.template.now own ns c.args.points.now n c.loop-number.arena c.loop-number.ends) all (c.loop-number.invariant.written t s own ns h)
    )
