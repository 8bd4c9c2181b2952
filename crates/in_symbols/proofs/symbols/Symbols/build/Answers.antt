use Rattle.std.proofs.Common.{◌∙◌, sym}
use Rattle.in_symbols.proofs.First.{is_first}
use Rattle.in_symbols.proofs.symbols.Symbols.build.Goals as goal

pub returns-in-Some : goal.returns-in-Some
returns-in-Some c =
    is_first c.args.source.now c.in_ok-types.types c.in_ok-symbols.symbols c.in-Some.refusal c.in_ok-types.ensures c.in_ok-symbols.ensures (sym c.in-Some.is ∙ c.in_ok-refusal.ensures {u = tt})
