use Rattle.std.proofs.Common.{◌<◌, ◌+◌, ◌++◌, List, length, drop, append_assoc, sym, ap, ◌∙◌, arith}
use Rattle.std.specs.List.{enumerate_from, filter, flat_map}
use Rattle.std.proofs.lemmas.List.Elements.{filter-append}
use Rattle.in_base.proofs.Each.{at_index}
use Rattle.in_compile.specs.declared.joints.Joint.{Joint}
use Rattle.in_compile.specs.Members.{AgentParts}
use Rattle.in_compile.specs.Wires.{is_from_first, wires_at}
use Rattle.in_base.proofs.Places.{left_from}
use Rattle.in_compile.proofs.wires.within_wires.Goals as goal

pub loop-agent-preserved : goal.loop-agent-preserved
loop-agent-preserved c =
    let m = c.args.member.now in
    let k = c.loop-agent.agent in
    let low : k < length m.agents = (let e = c.agents-agent-end.ensures in let t = c.loop-agent-test.true in omega (arith, e, t)) in
    let a = at_index m.agents k low in
    let before : List (Joint × Joint) = c.loop-agent.wires in
    let here : List (Joint × Joint) = wires_at (k, a.0) in
    let rest : List (Joint × Joint) = flat_map wires_at (enumerate_from (k + 1) (drop (k + 1) m.agents)) in
    ap (λ (ws : List (Joint × Joint)). ws ++ filter is_from_first rest) (c.in_ok-add_within.ensures {u = tt} a.0 a.1)
    ∙ append_assoc before (filter is_from_first here) (filter is_from_first rest)
    ∙ ap (λ (ws : List (Joint × Joint)). before ++ ws) (sym (filter-append is_from_first here rest))
    ∙ ap (λ (xs : List AgentParts). before ++ filter is_from_first (flat_map wires_at (enumerate_from k xs))) (sym (left_from m.agents k a.0 a.1))
    ∙ c.loop-agent.invariant
