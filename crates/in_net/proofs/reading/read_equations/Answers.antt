use Rattle.std.proofs.Common.{◌∙◌}
use Rattle.std.proofs.lemmas.Result.{on_ok_weaker}
use Rattle.in_net.proofs.Texts.Walked.{equations_walked}
use Rattle.in_net.proofs.reading.read_equations.Goals as goal

pub returns : goal.returns
returns c = on_ok_weaker c.walk_equations.result (λ e. e ∙ equations_walked c.args.equations.now c.args.reader.now) c.walk_equations.ensures
