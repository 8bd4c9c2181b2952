use Rattle.std.proofs.Common.{◌≡◌, ◌+◌, ◌++◌, ℕ, List, [], ◌∷◌, drop, sym, ap, ◌∙◌}
use Rattle.std.specs.List.{enumerate_from, filter}
use Rattle.in_compile.specs.declared.joints.Joint.{Joint}
use Rattle.in_compile.specs.declared.joints.Joint.TheVariants.{ToBoundary}
use Rattle.in_compile.specs.Wires.{is_from_lowest, over_of}
use Rattle.in_base.proofs.Places.{left_from}
use Rattle.in_compile.proofs.Listed.Filtered.{fails, passes}
use Rattle.in_compile.proofs.Listed.Slots.{small_joint}
use Rattle.in_compile.proofs.wires.over_wires.Goals as goal
use Rattle.in_compile.proofs.wires.over_wires.Goals.{then-starts_lowest+in_ok-push, else-starts_lowest}

pub of-requires : goal.of-requires
of-requires c = small_joint c.args.member.now c.requires c.is_sound.ensures (ToBoundary c.loop-number.number) c.joint-to.result c.joint-to.ensures

pub loop-number-preserved : goal.loop-number-preserved
loop-number-preserved c =
    let m = c.args.member.now in
    let e = c.loop-number.number in
    let wire : ℕ × Joint = (e, c.joint-to.result) in
    let before : List (ℕ × Joint) = c.loop-number.wires in
    let rest : List (ℕ × Joint) = enumerate_from (e + 1) (drop (e + 1) m.joints) in
    let so_far : before ++ filter is_from_lowest (wire ∷ rest) ≡ over_of m =
    ap (λ (js : List Joint). before ++ filter is_from_lowest (enumerate_from e js)) (sym (left_from m.joints e c.joint-to.result c.joint-to.ensures)) ∙ c.loop-number.invariant in
    elim c.if-starts_lowest.branch [
      | then-starts_lowest+in_ok-push w ↦
          let added = w.wires-is ∙ (w.in_ok-push.ensures {u = tt}).ok ∙ ap (λ (j : Joint). before ++ (e, j) ∷ []) w.of.ensures in
          passes is_from_lowest wire rest before (over_of m) so_far c.if-starts_lowest.wires (sym c.starts_lowest.ensures ∙ w.if-starts_lowest.true) added
      | else-starts_lowest w ↦
          fails is_from_lowest wire rest before (over_of m) so_far c.if-starts_lowest.wires (sym c.starts_lowest.ensures ∙ w.if-starts_lowest.false) w.wires-is
    ]
