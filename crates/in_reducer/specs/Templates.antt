-- The template of an active pair.
use Rattle.std.specs.Prelude.{◌≡◌, ℕ, Some, slice_get}
use Rattle.in_syntax.specs.declared.symbol_no.SymbolNo.{SymbolNo}
use Rattle.in_net.specs.Parts.{symbol_in}
use Rattle.in_net.specs.Rules.{RuleParts}
use Rattle.in_check.specs.Plain.{IsPairAt, IsRuleAt}
use Rattle.in_interaction.specs.Queues.{agents_at}
use Rattle.in_compile.specs.Templates.{TemplateParts, IsTemplateOf}
use Rattle.in_reducer.specs.Machines.{MachineParts, parts_of, plain_of}

-- the template is that of the rule of the pair of that number
pub record IsTemplateAt (m : MachineParts) (i : ℕ) (p : TemplateParts) : Type 0 where
  pub pair : ℕ × ℕ
  pub stands : slice_get m.queue i ≡ Some pair
  pub active : IsPairAt (plain_of m) (agents_at pair).0 (agents_at pair).1
  pub number : ℕ
  pub rule : RuleParts
  pub is_rule : IsRuleAt (plain_of m) (agents_at pair).0 (agents_at pair).1 number rule
  pub template : IsTemplateOf m.program.tables rule p

-- these are the symbols of the pair of that number, in its order
pub record HasHeadsAt (m : MachineParts) (i : ℕ) (h : SymbolNo × SymbolNo) : Type 0 where
  pub pair : ℕ × ℕ
  pub stands : slice_get m.queue i ≡ Some pair
  pub one : symbol_in (parts_of m) pair.0 ≡ Some h.0
  pub two : symbol_in (parts_of m) pair.1 ≡ Some h.1
