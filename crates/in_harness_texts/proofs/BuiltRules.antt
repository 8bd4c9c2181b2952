-- Each rule of an accepted program is over its tables, and its right member's free ends are as the heads' auxiliary ports.
use Rattle.std.proofs.Common.{◌≡◌, ◌++◌, ◌∙◌, ℕ, List, Some, slice_get, sym, ap}
use Rattle.in_syntax.specs.declared.symbol_no.SymbolNo.{SymbolNo}
use Rattle.in_net.specs.Rules.{HasTypesOfHeads, RuleParts, IsRuleOver, auxiliary_types}
use Rattle.in_check.specs.Checking.{IsAccepted}
use Rattle.in_check.specs.Programs.{Program}
use Rattle.in_check.proofs.Public.{program_of}
use Rattle.in_syntax.specs.declared.text_limits.TextLimits.{TextLimits}

module _ (limits : TextLimits) (text : List ℕ) (p : Program) (accepted : IsAccepted limits text p) (i : ℕ) (r : RuleParts) (stands : slice_get p.rules i ≡ Some r) where
  pub rule_over : IsRuleOver p.tables r
  rule_over = ((program_of limits text p accepted).builds_rules.each i r stands).2.0

  pub rule_types : HasTypesOfHeads p.tables r
  rule_types =
      let b = (program_of limits text p accepted).builds_rules.each i r stands in
      b.2.1.member.types ∙ ap (λ (h : SymbolNo × SymbolNo). auxiliary_types p.tables h.0.0 ++ auxiliary_types p.tables h.1.0) (sym b.2.1.heads)
