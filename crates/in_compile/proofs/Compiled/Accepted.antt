-- An accepted program's rules and net are over its tables, with an agent at each number, and each pair has one rule.
use Rattle.std.proofs.Common.{◌≡◌, ◌≤◌, ℕ, List, Some, Ok, length, slice_get, ap, arith}
use Rattle.std.proofs.lemmas.List.{length-map}
use Rattle.in_syntax.specs.TextLimits.{max_agents, most_net_agents, most_symbols}
use Rattle.in_syntax.specs.declared.tree.SourceRule.{SourceRule}
use Rattle.in_syntax.specs.declared.tree.SourceSymbol.{SourceSymbol}
use Rattle.in_syntax.proofs.Public.{agents_few, symbols_few, tree_sized}
use Rattle.in_symbols.specs.Tables.{Tables}
use Rattle.in_net.specs.Built.{IsOver}
use Rattle.in_net.specs.Parts.{IsWhole}
use Rattle.in_net.specs.TextNet.{body_of}
use Rattle.in_net.proofs.Public.{few_agents}
use Rattle.in_net.specs.Rules.{RuleParts, BuildsRuleOf, IsRuleOver}
use Rattle.in_cover.specs.Cover.{IsComplete, IsTableOf}
use Rattle.in_open_nets_of_programs.specs.Opening.{AreAllThere}
use Rattle.in_open_nets_of_programs.specs.OpeningRules.{IsRuleWhole}
use Rattle.in_open_nets_of_programs.proofs.Public.{text_net_there, rule_whole}
use Rattle.in_check.specs.Checking.{IsAccepted, IsProgramOf}
use Rattle.in_check.specs.Programs.{Program}
use Rattle.in_check.proofs.Public.{program_of}
use Rattle.in_syntax.specs.declared.text_limits.TextLimits.{TextLimits}

module _ (limits : TextLimits) (text : List ℕ) (p : Program) (accepted : IsAccepted limits text p) where
  of : IsProgramOf limits text p
  of = program_of limits text p accepted

  pub complete : IsComplete p.tables p.rules
  complete = of.covers.0

  pub table : IsTableOf p.tables p.rules p.numbers
  table = of.covers.1

  pub net_over : IsOver p.tables p.net
  net_over = of.builds.0

  pub net_there : AreAllThere p.net
  net_there = text_net_there p.tables of.source.net p.net of.builds.1

  pub net_few : length p.net.cells ≤ most_net_agents
  net_few = omega (arith, few_agents (max_agents of.source.limits) p.tables (body_of of.source.net) p.net.cells of.builds.2 of.builds.1.agents.agents, agents_few of.source.limits)

  pub few_symbols : length p.tables.names ≤ most_symbols
  few_symbols =
      let are = ap (λ (t : Tables). length t.names) of.tabulates.0.tables in
      omega (arith, are, length-map of.source.symbols (λ (s : SourceSymbol). s.name.text), (tree_sized limits text of.source of.parses).symbols, symbols_few of.source.limits)

  module _ (k : ℕ) (r : RuleParts) (stands : slice_get p.rules k ≡ Some r) where
    written : (s : SourceRule) × (slice_get of.source.rules k ≡ Some s) × BuildsRuleOf of.source.limits p.tables s (Ok r)
    written = of.builds_rules.each k r stands

    pub rule_over : IsRuleOver p.tables r
    rule_over = written.2.0

    pub whole_rule : IsRuleWhole p.tables r
    whole_rule = rule_whole of.source.limits p.tables written.0 r written.2

    pub member_whole : IsWhole r.member
    member_whole = written.2.1.member.whole
