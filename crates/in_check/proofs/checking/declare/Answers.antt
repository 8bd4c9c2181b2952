use Rattle.in_symbols.specs.Tables.{Tabulates}
use Rattle.in_check.specs.Checking.{DeclaresRules}
use Rattle.in_check.proofs.Chain.{then_rest}
use Rattle.in_check.proofs.checking.declare.Goals as goal

pub returns-in-Ok : goal.returns-in-Ok
returns-in-Ok c = then_rest (Tabulates c.args.source.now) (DeclaresRules c.args.source.now) c.in-Ok.symbols c.declare_rules.result c.in-Ok.ensures c.declare_rules.ensures
