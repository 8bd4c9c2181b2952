use Rattle.std.proofs.Common.{◌-◌, length, arith}
use Rattle.in_reducer.proofs.Cuts.Reduced.{reductions_go_on, stays_reduce, steps_up_to_numbers_reduce}
use Rattle.in_reducer.proofs.Steps.TakesNeed.{takes_its_need_up_to_numbers}
use Rattle.in_reducer.proofs.reducer.Reducer.take_newest.Goals as goal

pub loop-count-init : goal.loop-count-init
loop-count-init c = record { reduces = stays_reduce c.args.self.now; most = omega arith; floor = λ h. h }

pub loop-count-preserved : goal.loop-count-preserved
loop-count-preserved c =
    let m = c.args.self.now in
    let now = c.loop-count.self in
    let after = c.step_last.new.self in
    let i = length now.queue - 1 in
    let of = c.pairs.ensures.reducer in
    let done = c.step_last.ensures.done c.if-not-step_last.false in
    record {
      reduces = reductions_go_on m now after c.loop-count.count 1 c.loop-count.invariant.reduces (steps_up_to_numbers_reduce now after i of done.0);
      most = (let low = c.loop-count-test.true in omega (arith, low));
      floor = λ h d. (
          let room = done.1.2 d in
          let need = takes_its_need_up_to_numbers now after i of done.0 done.1.0 done.1.1 d in
          omega (arith, room, need)
          );
    }
