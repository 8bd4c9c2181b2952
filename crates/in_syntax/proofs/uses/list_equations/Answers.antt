use Rattle.std.proofs.Common.{◌∙◌}
use Rattle.std.proofs.lemmas.Result.{on_ok_weaker}
use Rattle.in_syntax.proofs.Trees.Uses.{equations_listed}
use Rattle.in_syntax.proofs.uses.list_equations.Goals as goal

pub returns : goal.returns
returns c = on_ok_weaker c.walk_equations.result (λ e. e ∙ equations_listed c.args.equations.now c.args.listed.now) c.walk_equations.ensures
