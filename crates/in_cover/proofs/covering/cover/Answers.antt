use Rattle.std.proofs.Common.{inr}
use Rattle.in_cover.proofs.Completed.{complete, table_of, first_missing}
use Rattle.in_cover.proofs.covering.cover.Goals as goal

pub returns-in-Some : goal.returns-in-Some
returns-in-Some c =
    let rules = c.in_ok-table.ensures in
    let gap = c.in-Some.ensures in
    inr (
      rules.2,
      first_missing c.args.symbols.now c.args.rules.now c.in_ok-table.table c.requires.pairs rules.1 c.in-Some.later.0 c.in-Some.earlier.0 c.missing.result gap.0 gap.2.0 gap.2.1 gap.1 gap.2.2 c.missing.ensures,
    )

pub returns-in-None : goal.returns-in-None
returns-in-None c =
    let rules = c.in_ok-table.ensures in (
      complete c.args.symbols.now c.args.rules.now c.in_ok-table.table c.requires.pairs rules.1 c.in-None.ensures,
      table_of c.args.symbols.now c.args.rules.now c.in_ok-table.table c.requires.pairs rules.1 c.in-None.ensures,
    )
