use Rattle.std.proofs.Common.{◌≡◌, ◌<◌, ◌≤◌, ℕ, ◌+◌, length, sym, subst, inl, inr, arith}
use Rattle.in_net.proofs.Public.{none_read, some_read}
use Rattle.in_interaction.proofs.Stepping.Unused.{AreFound, none_yet, one_found, not_found, all_found}
use Rattle.in_interaction.proofs.interacting.empty_numbers.Goals as goal
use Rattle.in_interaction.proofs.interacting.empty_numbers.Goals.{then-is_none+then-len-count+in_ok-push, else-is_none, else-is_none-via-then-is_none+else-len-count, else-is_none-via-else-is_none}

pub loop-number-init : goal.loop-number-init
loop-number-init c = subst (AreFound c.args.cells.now c.args.count 0) (sym c.new-names.ensures.items) (none_yet c.args.cells.now c.args.count)

pub loop-number-preserved : goal.loop-number-preserved
loop-number-preserved c =
    let cs = c.args.cells.now in
    let i = c.loop-number.number in
    let d = c.index-cells-number.result in
    elim c.if-is_none.branch [
      | then-is_none+then-len-count+in_ok-push w ↦
          let less : length c.loop-number.names.items < c.args.count = omega (arith, w.if-len-count.true, w.len.ensures) in
          subst (λ v. AreFound cs c.args.count (i + 1) v.items) (sym w.names-is)
          (subst (AreFound cs c.args.count (i + 1)) (sym (w.in_ok-push.ensures {u = tt}).items)
          (one_found cs c.args.count i c.loop-number.names.items c.loop-number.invariant (none_read cs i d c.loop-number-test.true c.index-cells-number.is (w.if-is_none.ensures {u = tt})) less))
      | else-is_none w ↦
          subst (λ v. AreFound cs c.args.count (i + 1) v.items) (sym w.names-is)
          (elim w.else-is_none.branch [
            | else-is_none-via-then-is_none+else-len-count u ↦
                let full : c.args.count ≤ length c.loop-number.names.items = omega (arith, u.if-len-count.false, u.len.ensures) in
                not_found cs c.args.count i c.loop-number.names.items c.loop-number.invariant (inr full)
            | else-is_none-via-else-is_none u ↦ not_found cs c.args.count i c.loop-number.names.items c.loop-number.invariant (inl (some_read cs i d c.loop-number-test.true c.index-cells-number.is (u.if-is_none.ensures {u = tt})))
          ])
    ]

pub returns : goal.returns
returns c =
    let last : c.loop-number.number ≡ length c.args.cells.now = omega (arith, c.loop-number-test.false, c.loop-number.auto) in
    all_found c.args.cells.now c.args.count c.loop-number.names.items (subst (λ (z : ℕ). AreFound c.args.cells.now c.args.count z c.loop-number.names.items) last c.loop-number.invariant)
