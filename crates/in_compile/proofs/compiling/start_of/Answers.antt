use Rattle.std.proofs.Common.{◌≤◌, length, sym, subst}
use Rattle.in_syntax.specs.TextLimits.{most_symbols}
use Rattle.in_symbols.specs.Tables.{Tables}
use Rattle.in_net.specs.Built.{IsOver}
use Rattle.in_syntax.specs.TextLimits.{most_net_agents}
use Rattle.in_net.specs.Parts.{Parts}
use Rattle.in_open_nets_of_programs.specs.Opening.{AreAllThere}
use Rattle.in_compile.proofs.Compiled.Accepted.{few_symbols, net_over, net_there, net_few}
use Rattle.in_compile.proofs.compiling.start_of.Goals as goal

pub member_of-requires-clause-over : goal.member_of-requires-clause-over
member_of-requires-clause-over c =
    subst (λ (q : Tables × Parts). IsOver q.0 q.1) (λ i. (sym c.symbols.ensures i, sym c.net.ensures i)) (net_over c.is_accepted.ensures.accepted.0 c.is_accepted.ensures.accepted.1 c.args.checked.now.program c.is_accepted.ensures.accepted.2)

pub member_of-requires-clause-there : goal.member_of-requires-clause-there
member_of-requires-clause-there c = subst AreAllThere (sym c.net.ensures) (net_there c.is_accepted.ensures.accepted.0 c.is_accepted.ensures.accepted.1 c.args.checked.now.program c.is_accepted.ensures.accepted.2)

pub member_of-requires-clause-few_symbols : goal.member_of-requires-clause-few_symbols
member_of-requires-clause-few_symbols c = subst (λ (t : Tables). length t.names ≤ most_symbols) (sym c.symbols.ensures) (few_symbols c.is_accepted.ensures.accepted.0 c.is_accepted.ensures.accepted.1 c.args.checked.now.program c.is_accepted.ensures.accepted.2)

pub member_of-requires-clause-few : goal.member_of-requires-clause-few
member_of-requires-clause-few c = subst (λ (n : Parts). length n.cells ≤ most_net_agents) (sym c.net.ensures) (net_few c.is_accepted.ensures.accepted.0 c.is_accepted.ensures.accepted.1 c.args.checked.now.program c.is_accepted.ensures.accepted.2)
