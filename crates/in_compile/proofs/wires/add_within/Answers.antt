use Rattle.std.proofs.Common.{◌≡◌, ◌+◌, ◌++◌, ℕ, Option, Some, List, [], ◌∷◌, drop, map, slice_get, sym, ap, ◌∙◌}
use Rattle.std.specs.Prelude.{option_and_then}
use Rattle.std.specs.List.{enumerate_from, filter}
use Rattle.in_compile.specs.declared.joints.Joint.{Joint}
use Rattle.in_compile.specs.declared.joints.Joint.TheVariants.{ToAgent}
use Rattle.in_compile.specs.Members.{AgentParts}
use Rattle.in_compile.specs.Wires.{is_from_first, wires_at}
use Rattle.in_base.proofs.Places.{left_from}
use Rattle.in_compile.proofs.Listed.Filtered.{fails, passes}
use Rattle.in_compile.proofs.Listed.Slots.{small_joint, small_place}
use Rattle.in_compile.proofs.wires.add_within.Goals as goal
use Rattle.in_compile.proofs.wires.add_within.Goals.{then-starts_first+in_ok-push, else-starts_first}

pub of-requires : goal.of-requires
of-requires c = small_place c.args.member.now c.requires.small c.is_sound.ensures (ToAgent c.args.agent c.loop-place.place) c.end-to.result c.end-to.ensures

pub of-requires-then-starts_first : goal.of-requires-then-starts_first
of-requires-then-starts_first c = small_joint c.args.member.now c.requires.small c.is_sound.ensures (ToAgent c.args.agent c.loop-place.place) c.end-to.result c.end-to.ensures

pub loop-place-preserved : goal.loop-place-preserved
loop-place-preserved c = λ a stands.
    let m = c.args.member.now in
    let k = c.args.agent in
    let i = c.loop-place.place in
    let to = c.end-to.result in
    let from : ℕ × Joint → Joint × Joint = λ (x : ℕ × Joint). (ToAgent k x.0, x.1) in
    let wire : Joint × Joint = (ToAgent k i, to) in
    let before : List (Joint × Joint) = c.loop-place.wires in
    let rest : List (Joint × Joint) = map from (enumerate_from (i + 1) (drop (i + 1) a.ends)) in
    let all : List (Joint × Joint) = c.args.wires.now ++ filter is_from_first (wires_at (k, a)) in
    let at : slice_get a.ends i ≡ Some to = sym (ap (λ (o : Option AgentParts). option_and_then (λ (a : AgentParts). slice_get a.ends i) o) stands) ∙ c.end-to.ensures in
    let so_far : before ++ filter is_from_first (wire ∷ rest) ≡ all =
    ap (λ (js : List Joint). before ++ filter is_from_first (map from (enumerate_from i js))) (sym (left_from a.ends i to at)) ∙ c.loop-place.invariant a stands in
    elim c.if-starts_first.branch [
      | then-starts_first+in_ok-push w ↦
          let added = w.wires-is ∙ (w.in_ok-push.ensures {u = tt}).ok ∙ (λ n. before ++ (w.of.ensures n, w.of-then-starts_first.ensures n) ∷ []) in
          passes is_from_first wire rest before all so_far c.if-starts_first.wires (sym c.starts_first.ensures ∙ w.if-starts_first.true) added
      | else-starts_first w ↦
          fails is_from_first wire rest before all so_far c.if-starts_first.wires (sym c.starts_first.ensures ∙ w.if-starts_first.false) w.wires-is
    ]
