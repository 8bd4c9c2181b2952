use Rattle.std.proofs.Common.{sym, ◌∙◌}
use Rattle.in_check.specs.Checking.{ChecksNames}
use Rattle.in_check.proofs.Chain.{some_accepted}
use Rattle.in_check.proofs.checking.refusal_of.Goals as goal

pub returns-in-None-clause-found : goal.returns-in-None-clause-found
returns-in-None-clause-found c = some_accepted (ChecksNames c.args.source.now) c.check_names.result c.check_names.ensures (sym c.err.ensures.value ∙ c.in-None.is)
