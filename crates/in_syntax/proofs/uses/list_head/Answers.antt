use Rattle.std.proofs.Common.{◌∙◌}
use Rattle.std.proofs.lemmas.Result.{on_ok_weaker}
use Rattle.in_syntax.proofs.Trees.Uses.{head_listed}
use Rattle.in_syntax.proofs.uses.list_head.Goals as goal

pub returns : goal.returns
returns c =
    on_ok_weaker c.walk_terms.result
    (λ e. e ∙ head_listed c.args.head.now c.args.listed.now c.push.new.self c.of.result c.len.result c.as_slice.result.now c.in_ok-push.ensures.ok c.of.ensures c.len.ensures c.as_slice.ensures)
    c.walk_terms.ensures
