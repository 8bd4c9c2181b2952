use Rattle.std.proofs.Common.{◌∙◌}
use Rattle.std.proofs.lemmas.Result.{on_ok_weaker}
use Rattle.in_symbols.proofs.Looking.{equations_looked}
use Rattle.in_symbols.proofs.searching.look_in_equations.Goals as goal

pub returns : goal.returns
returns c = on_ok_weaker c.walk_equations.result (λ e. e ∙ equations_looked c.args.equations.now c.args.lookup.now) c.walk_equations.ensures
