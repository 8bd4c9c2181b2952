use Rattle.std.proofs.Common.{◌≡◌, ◌+◌, ◌-◌, ℕ, suc, Some, subst, ◌∙◌, arith}
use Rattle.std.proofs.lemmas.List.{length-set}
use Rattle.in_arena.specs.Arenas.{state_at}
use Rattle.in_arena.specs.States.{end_at}
use Rattle.in_reducer.proofs.Steps.Points.{one_more_read}
use Rattle.in_reducer.proofs.wiring.read_far.Goals as goal

pub loop-number-preserved : goal.loop-number-preserved
loop-number-preserved c =
    let a = c.args.arena.now in
    let cell = c.args.cell in
    let first = c.args.first in
    let x = c.loop-number.number in
    let points = c.loop-number.points in
    let v = c.far_in.result in
    let from = c.loop-number.auto.number in
    let to = c.loop-number-test.true in
    let few = c.requires.ports.few in
    let room = c.requires.ports.room in
    let same = c.loop-number.invariant.long in
    record {
      read = λ before near. one_more_read a cell first x before points v (c.loop-number.invariant.read before near) (omega (arith, from)) (omega (arith, to, few)) (omega (arith, room, same))
          (λ has. subst (λ (i : ℕ). end_at (state_at a cell.0) i ≡ Some v) (let z : x - first + 1 ≡ suc (x - first) = omega arith in z) c.far_in.ensures);
      long = length-set points x v ∙ same;
    }
