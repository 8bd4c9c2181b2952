use Rattle.std.proofs.Common.{◌≡◌, ℕ, length, sym, subst, arith}
use Rattle.in_interaction.specs.Listing.{AreListed}
use Rattle.in_net.specs.TextNet.{ComesBefore}
use Rattle.in_net.specs.declared.nets.Point.TheVariants.{Free}
use Rattle.in_interaction.proofs.Stepping.Wires.{no_point, one_free}
use Rattle.in_interaction.proofs.listing.wires_of_free.Goals as goal

pub loop-number-init : goal.loop-number-init
loop-number-init c = λ n is. subst (AreListed n (λ p. ComesBefore p (Free 0))) (sym c.new-wires.ensures) (no_point n)

pub loop-number-preserved : goal.loop-number-preserved
loop-number-preserved c =
    let k = c.loop-number.number in
    let added = c.in_ok-add_wire.ensures {u = tt} in
    λ n is. one_free n k c.args.ends.now _ c.loop-number.wires c.add_wire.new.wires is c.loop-number-test.true added (c.loop-number.invariant n is)

pub returns : goal.returns
returns c = λ n is. (
    let last : c.loop-number.number ≡ length c.args.ends.now = omega (arith, c.loop-number.auto.number-end, c.loop-number-test.false) in
    subst (λ (k : ℕ). AreListed n (λ p. ComesBefore p (Free k)) c.loop-number.wires) last (c.loop-number.invariant n is)
    )
