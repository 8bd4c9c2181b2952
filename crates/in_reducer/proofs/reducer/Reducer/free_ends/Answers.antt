use Rattle.std.proofs.Common.{length, ap, arith}
use Rattle.std.proofs.lemmas.List.{length-map}
use Rattle.in_reducer.specs.Inside.{declared_as, own_free}
use Rattle.in_reducer.specs.Machines.{MachineParts}
use Rattle.in_reducer.proofs.reducer.Reducer.free_ends.Goals as goal
use Rattle.in_reducer.proofs.Cells.Shown.{same_many}

pub returns : goal.returns
returns c =
    let r = c.self.inside.body in
    let es = r.ends.items in
    let room = c.self.invariant.all.net.ends in
    let many = length-map r.free.items (declared_as r.checked.now.program) in
    let same = same_many (own_free r) es (omega (arith, room, many)) in
    let seen = ap (λ (m : MachineParts). length m.free) c.self.view_is in
    omega (arith, many, same, seen, c.len.ensures, r.free.ok.0)
