use Rattle.std.proofs.Common.{◌≡◌, ℕ, [], length, map, slice_get, refl, sym, ap, subst, ◌∙◌, append-nil, arith}
use Rattle.in_arena.proofs.Public.{row_still}
use Rattle.in_cells.proofs.Public.{keep_on, keeps}
use Rattle.in_compile.specs.Wires.{over_of, over_point}
use Rattle.in_overwriting.specs.MadeByWires.{of_none}
use Rattle.in_reducer.specs.Interacting.{interaction_of}
use Rattle.in_reducer.specs.Wiring.{HasQueued, IsWiring}
use Rattle.in_reducer.proofs.Steps.Points.{listed_at}
use Rattle.in_reducer.proofs.Steps.OneWire as one
use Rattle.in_reducer.proofs.wiring.write_over.Goals as goal

pub loop-number-init : goal.loop-number-init
loop-number-init c = record {
  written = λ t s own ns h. h;
  queued = λ t s own ns h. ([], of_none, sym (append-nil c.args.queue.now.items));
  kept = keeps c.args.arena.now;
  long = refl;
  room = omega arith;
  capacity = refl;
}

pub bounds-points-end : goal.bounds-points-end
bounds-points-end c =
    let q = c.requires.ready in
    let w = c.index-wires-number.result in
    let at = listed_at (over_of c.args.template.now.member) c.over-wires.result.now c.loop-number.number w c.over-wires.ensures c.loop-number-test.true c.index-wires-number.is in
    one.over_low q.0 q.1 c.args.template.now q.2 q.3 c.args.points.now c.loop-number.number c.loop-number.arena c.loop-number.ends (c.loop-number.invariant.written q.0 q.1 q.2 q.3 q.4) w at c.end.result c.end.ensures.end

pub side-inner-requires : goal.side-inner-requires
side-inner-requires c =
    let q = c.requires.ready in
    let w = c.index-wires-number.result in
    let at = listed_at (over_of c.args.template.now.member) c.over-wires.result.now c.loop-number.number w c.over-wires.ensures c.loop-number-test.true c.index-wires-number.is in
    one.over_can_read q.0 q.1 c.args.template.now q.2 q.3 c.args.points.now c.loop-number.number c.loop-number.arena c.loop-number.ends (c.loop-number.invariant.written q.0 q.1 q.2 q.3 q.4) w at
    c.slot.result c.step.result c.slot.ensures.slot c.step.ensures.place

pub exchange_in-requires-clause-row : goal.exchange_in-requires-clause-row
exchange_in-requires-clause-row c = row_still c.row-row.result c.args.arena.now c.loop-number.arena c.loop-number.invariant.kept.memory c.row-row.ensures

pub exchange_in-requires-clause-one : goal.exchange_in-requires-clause-one
exchange_in-requires-clause-one c =
    let q = c.requires.ready in
    let w = c.index-wires-number.result in
    let at = listed_at (over_of c.args.template.now.member) c.over-wires.result.now c.loop-number.number w c.over-wires.ensures c.loop-number-test.true c.index-wires-number.is in
    one.over_place_u q.0 q.1 c.args.template.now q.2 q.3 c.args.points.now c.loop-number.number c.loop-number.arena c.loop-number.ends (c.loop-number.invariant.written q.0 q.1 q.2 q.3 q.4) w at
    c.index-points-end.result c.side-inner.result (record {
      end = c.end.result;
      slot = c.slot.result;
      place = c.step.result;
      is_end = c.end.ensures.end;
      is_slot = c.slot.ensures.slot;
      is_place = c.step.ensures.place;
      outer = c.index-points-end.is;
      inner = c.side-inner.ensures;
    })

pub exchange_in-requires-clause-other : goal.exchange_in-requires-clause-other
exchange_in-requires-clause-other c =
    let q = c.requires.ready in
    let w = c.index-wires-number.result in
    let at = listed_at (over_of c.args.template.now.member) c.over-wires.result.now c.loop-number.number w c.over-wires.ensures c.loop-number-test.true c.index-wires-number.is in
    one.over_place_v q.0 q.1 c.args.template.now q.2 q.3 c.args.points.now c.loop-number.number c.loop-number.arena c.loop-number.ends (c.loop-number.invariant.written q.0 q.1 q.2 q.3 q.4) w at
    c.index-points-end.result c.side-inner.result (record {
      end = c.end.result;
      slot = c.slot.result;
      place = c.step.result;
      is_end = c.end.ensures.end;
      is_slot = c.slot.ensures.slot;
      is_place = c.step.ensures.place;
      outer = c.index-points-end.is;
      inner = c.side-inner.ensures;
    })

pub queue_pair-requires-clause-there : goal.queue_pair-requires-clause-there
queue_pair-requires-clause-there c =
    let q = c.requires.ready in
    let w = c.index-wires-number.result in
    let at = listed_at (over_of c.args.template.now.member) c.over-wires.result.now c.loop-number.number w c.over-wires.ensures c.loop-number-test.true c.index-wires-number.is in
    one.over_signed q.0 q.1 c.args.template.now q.2 q.3 c.args.points.now c.loop-number.number c.loop-number.arena c.loop-number.ends (c.loop-number.invariant.written q.0 q.1 q.2 q.3 q.4) w at
    c.end-in-loop-number.result c.end-in-loop-number.ensures.end

pub loop-number-preserved : goal.loop-number-preserved
loop-number-preserved c =
    let q = c.requires.ready in
    let p = c.args.template.now in
    let points = c.args.points.now in
    let k = c.loop-number.number in
    let a = c.loop-number.arena in
    let es = c.loop-number.ends in
    let i = c.loop-number.invariant in
    let w = c.index-wires-number.result in
    let u = c.index-points-end.result in
    let v = c.side-inner.result in
    let b = c.exchange_in.new.arena in
    let fs = c.exchange_in.new.ends in
    let at = listed_at (over_of p.member) c.over-wires.result.now k w c.over-wires.ensures c.loop-number-test.true c.index-wires-number.is in
    let read : one.HasReadOver points w u v = record {
      end = c.end.result;
      slot = c.slot.result;
      place = c.step.result;
      is_end = c.end.ensures.end;
      is_slot = c.slot.ensures.slot;
      is_place = c.step.ensures.place;
      outer = c.index-points-end.is;
      inner = c.side-inner.ensures;
    } in
    let kept = one.over_kept q.0 q.1 p q.2 q.3 points k a es (i.written q.0 q.1 q.2 q.3 q.4) w at u v read b fs c.exchange_in.ensures in
    record {
      written = λ t s own ns h. one.over_written t s p own ns points k a es (i.written t s own ns h) w at u v read b fs c.exchange_in.ensures;
      queued = λ t s own ns h. (
          let signed = one.over_sign t s p own ns points k a es (i.written t s own ns h) w at in
          one.over_queued t s p own ns points k a es (i.written t s own ns h) w at u v read b fs c.exchange_in.ensures signed.0 signed.1 c.args.queue.now.items c.loop-number.queue.items c.queue_pair.new.queue.items (i.queued t s own ns h)
          (c.queue_pair.ensures.added signed.0 (ap (slice_get p.outputs) c.end-in-loop-number.ensures.end ∙ signed.1))
          );
      kept = keep_on c.args.arena.now a b i.kept kept.0;
      long = kept.1 ∙ i.long;
      room = (let r = i.room in let l = c.queue_pair.ensures.longer in omega (arith, r, l));
      capacity = c.queue_pair.ensures.capacity ∙ i.capacity;
    }

pub returns-clause-written : goal.returns-clause-written
returns-clause-written c = λ t s own ns h. (
    let many = ap length c.over-wires.ensures in
    let all : c.loop-number.number ≡ length (over_of c.args.template.now.member) = omega (arith, many) in
    subst (λ (n : ℕ). IsWiring t s c.args.template.now own ns c.args.points.now n c.loop-number.arena c.loop-number.ends) all (c.loop-number.invariant.written t s own ns h)
    )

pub returns-clause-queued : goal.returns-clause-queued
returns-clause-queued c = λ t s own ns h. (
    let many = ap length c.over-wires.ensures in
    let all : c.loop-number.number ≡ length (over_of c.args.template.now.member) = omega (arith, many) in
    subst (λ (n : ℕ). HasQueued t (interaction_of s ns) (map over_point (over_of c.args.template.now.member)) n c.args.queue.now.items c.loop-number.queue.items) all (c.loop-number.invariant.queued t s own ns h)
    )
