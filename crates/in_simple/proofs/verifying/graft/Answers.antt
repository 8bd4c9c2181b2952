use Rattle.std.proofs.Common.{◌∙◌, length, ap, sym}
use Rattle.in_open_nets.proofs.Public.{not_both}
use Rattle.in_simple.proofs.VerifyGraft.{none_grafts}
use Rattle.in_simple.proofs.verifying.graft.Goals as goal

pub returns-then-not-is_agent_with : goal.returns-then-not-is_agent_with
returns-then-not-is_agent_with c =
    none_grafts c.args.open.now c.args.node c.args.steps.now c.args.parts.now.items c.args.parts.now.items
    (λ h. not_both c.is_agent_with.result (c.is_agent_with.ensures.agent.1 (h.0, ap length c.as_slice.ensures ∙ h.1)) c.if-not-is_agent_with.true)

pub graft-requires-clause-agent : goal.graft-requires-clause-agent
graft-requires-clause-agent c =
    let a = c.is_agent_with.ensures.agent.0 c.if-not-is_agent_with.false in
    (a.0, sym (ap length c.as_slice.ensures) ∙ a.1)

pub returns-then-branch : goal.returns-then-branch
returns-then-branch c = c.in_ok-graft.ensures.0 c.if-branch.true

pub returns-else-branch : goal.returns-else-branch
returns-else-branch c = c.in_ok-graft.ensures.1 c.if-branch.false
