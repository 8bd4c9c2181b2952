use Rattle.std.proofs.Common.{◌<◌, length, ap, ◌∙◌, arith, sym}
use Rattle.in_export.specs.Parts.{joins_principals}
use Rattle.in_export.proofs.ActiveWires.{one_taken, none_taken}
use Rattle.in_export.proofs.nets.active_wires.Goals as goal
use Rattle.in_export.proofs.nets.active_wires.Goals.{then-is_active+in_ok-push, else-is_active}

pub loop-number-preserved : goal.loop-number-preserved
loop-number-preserved c =
    let n = c.args.net.now in
    let k = c.loop-number.number in
    let within : k < length n.wires = omega (arith, c.loop-number-test.true, c.wires-number-end.ensures) in
    elim c.if-is_active.branch [
      | then-is_active+in_ok-push w ↦
          one_taken n k c.loop-number.active.items _ within (ap joins_principals (sym c.wire.ensures.wire) ∙ sym c.is_active.ensures ∙ w.if-is_active.true) (ap (λ v. v.items) w.active-is ∙ w.in_ok-push.ensures.items)
          ∙ c.loop-number.invariant
      | else-is_active w ↦
          none_taken n k c.loop-number.active.items _ within (ap joins_principals (sym c.wire.ensures.wire) ∙ sym c.is_active.ensures ∙ w.if-is_active.false) (ap (λ v. v.items) w.active-is)
          ∙ c.loop-number.invariant
    ]
