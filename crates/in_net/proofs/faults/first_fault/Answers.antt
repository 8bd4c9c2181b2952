use Rattle.std.proofs.Common.{◌≡◌, ◌∙◌, IfOk, ap, subst}
use Rattle.in_net.specs.Searching.{misfit_in_equations, fault_of}
use Rattle.in_net.proofs.faults.first_fault.Goals as goal
use Rattle.in_syntax.specs.TextLimits.{max_agents}

pub returns : goal.returns
returns c =
    let t = c.args.symbols.now in
    let n = c.args.net.now in
    subst (λ free. IfOk c.fault_of.result (λ fault. fault ≡ fault_of (max_agents c.args.limits) (misfit_in_equations t n.equations) free c.args.reading.now)) c.as_slice-2.ensures
    (subst (λ z. IfOk c.fault_of.result (λ fault. fault ≡ fault_of (max_agents c.args.limits) z c.as_slice-2.result.now c.args.reading.now)) (c.misfit_in_equations.ensures ∙ ap (misfit_in_equations t) c.as_slice.ensures)
    (subst (λ most. IfOk c.fault_of.result (λ fault. fault ≡ fault_of most c.misfit_in_equations.result c.as_slice-2.result.now c.args.reading.now)) c.agents.ensures c.fault_of.ensures))
