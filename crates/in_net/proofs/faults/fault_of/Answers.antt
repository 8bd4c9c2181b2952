use Rattle.std.proofs.Common.{◌∙◌, ap, length}
use Rattle.in_syntax.specs.declared.faults.Code.TheVariants.{E03, E07, E08}
use Rattle.in_syntax.specs.Refusals.{earlier_refusal, refused}
use Rattle.in_net.specs.Counting.{miscounted}
use Rattle.in_net.specs.Searching.{too_many}
use Rattle.in_net.proofs.faults.fault_of.Goals as goal

pub returns : goal.returns
returns c =
    let most = c.args.most in
    let free = c.args.free.now in
    let r = c.args.reading.now in
    let agents = c.found.ensures ∙ ap (refused E03) (c.too_many-agents.ensures ∙ ap (too_many most) c.as_slice.ensures) in
    let counted = c.in_ok-names.ensures ∙ ap (λ k. miscounted k c.as_slice-2.result.now free) c.len.ensures ∙ ap (λ z. miscounted (length r.names) z free) c.as_slice-2.ensures in
    let names = c.found-3.ensures ∙ ap (refused E08) counted in
    c.earlier.ensures
    ∙ ap (λ x. earlier_refusal x c.found-3.result) (c.earlier-fault.ensures ∙ ap (λ x. earlier_refusal x c.found-2.result) agents ∙ ap (earlier_refusal (refused E03 (too_many most r.agents))) c.found-2.ensures)
    ∙ ap (earlier_refusal (earlier_refusal (refused E03 (too_many most r.agents)) (refused E07 c.args.misfit))) names
