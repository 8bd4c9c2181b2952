use Rattle.std.proofs.Common.{◌≡◌, length, ap, subst, arith}
use Rattle.in_interaction.specs.Following.{IsSite}
use Rattle.in_interaction.proofs.Stepping.Cells.{numbers_fit}
use Rattle.in_interaction.proofs.following.Site.after.Goals as goal

pub wires-requires-clause-cells : goal.wires-requires-clause-cells
wires-requires-clause-cells c =
    let fit = numbers_fit c.args.self.now (subst IsSite c.self.view_is c.self.invariant) in
    let made = (c.in_ok-cells.ensures {u = tt}).0 in
    let same : length c.as_slice.result.now ≡ length c.in_ok-cells.cells = ap length c.as_slice.ensures in
    omega (arith, fit, made, same)
