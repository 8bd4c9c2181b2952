use Rattle.std.proofs.Common.{arith}
use Rattle.in_reducer.proofs.Steps.RoomOn.{fewer_have_room, one_has_room}
use Rattle.in_reducer.proofs.reducer.Reducer.sure_steps.Goals as goal

pub returns-then-any-gt0-clause-room : goal.returns-then-any-gt0-clause-room
returns-then-any-gt0-clause-room c = fewer_have_room c.args.self.now c.min.result c.room_for_any-any.result (let e = c.min.ensures in omega (arith, e)) c.room_for_any-any.ensures

pub returns-clause-room : goal.returns-clause-room
returns-clause-room c = one_has_room c.args.self.now (c.has_room.ensures.0 c.if-not-has_room.false)
