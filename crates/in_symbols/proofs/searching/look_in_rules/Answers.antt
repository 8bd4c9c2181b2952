use Rattle.std.proofs.Common.{refl, map}
use Rattle.in_symbols.specs.Searching.{unknown_in_rule}
use Rattle.in_symbols.proofs.Looking.{found_before}
use Rattle.in_symbols.proofs.searching.look_in_rules.Goals as goal

pub loop-rule-init : goal.loop-rule-init
loop-rule-init c = record { symbols = refl; found = found_before c.args.lookup.now.found (map (unknown_in_rule c.args.lookup.now.symbols.now) c.args.rules.now) }
