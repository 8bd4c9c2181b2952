use Rattle.in_arena.proofs.Public.{row_still}
use Rattle.in_cells.proofs.Writes.{near_place, near_written, place_stays, write_keeps}
use Rattle.in_cells.proofs.exchanging.exchange_in.Goals as goal

pub set_near_in-requires-then-is_near-2-clause-row : goal.set_near_in-requires-then-is_near-2-clause-row
set_near_in-requires-then-is_near-2-clause-row c =
    let b = c.set_near_in.new.self in let ends = c.args.ends.now in
    let first = near_written c.args.one c.args.other c.args.arena.now ends b (c.is_near.ensures.0 c.if-is_near.true) c.set_near_in.ensures in
    let k = write_keeps c.args.one c.args.other c.args.arena.now ends b ends first in
    row_still c.args.row c.args.arena.now b k.0.memory c.requires.row

pub set_near_in-requires-then-is_near-2-clause-place : goal.set_near_in-requires-then-is_near-2-clause-place
set_near_in-requires-then-is_near-2-clause-place c =
    let b = c.set_near_in.new.self in let ends = c.args.ends.now in
    let first = near_written c.args.one c.args.other c.args.arena.now ends b (c.is_near.ensures.0 c.if-is_near.true) c.set_near_in.ensures in
    let k = write_keeps c.args.one c.args.other c.args.arena.now ends b ends first in
    near_place c.args.other b ends (place_stays c.args.other c.args.arena.now ends b ends k.0 k.1 c.requires.other)

pub returns-then-is_near-2 : goal.returns-then-is_near-2
returns-then-is_near-2 c =
    let b = c.set_near_in.new.self in let ends = c.args.ends.now in
    record {
      middle = b;
      list = ends;
      first = near_written c.args.one c.args.other c.args.arena.now ends b (c.is_near.ensures.0 c.if-is_near.true) c.set_near_in.ensures;
      second = near_written c.args.other c.args.one b ends c.set_near_in-then-is_near-2.new.self (c.is_near-then-is_near.ensures.0 c.if-is_near-2.true) c.set_near_in-then-is_near-2.ensures;
    }

pub write-requires-2-clause-row : goal.write-requires-2-clause-row
write-requires-2-clause-row c =
    let k = write_keeps c.args.one c.args.other c.args.arena.now c.args.ends.now c.write.new.arena c.write.new.ends c.write.ensures in
    row_still c.args.row c.args.arena.now c.write.new.arena k.0.memory c.requires.row

pub write-requires-2-clause-place : goal.write-requires-2-clause-place
write-requires-2-clause-place c =
    let k = write_keeps c.args.one c.args.other c.args.arena.now c.args.ends.now c.write.new.arena c.write.new.ends c.write.ensures in
    place_stays c.args.other c.args.arena.now c.args.ends.now c.write.new.arena c.write.new.ends k.0 k.1 c.requires.other

pub returns : goal.returns
returns c = record { middle = c.write.new.arena; list = c.write.new.ends; first = c.write.ensures; second = c.write-2.ensures }
