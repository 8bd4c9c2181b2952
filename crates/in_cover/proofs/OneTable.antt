-- Covering has one result.
use Rattle.std.proofs.Common.{◌≡◌, List, Option, Some, None, Ok, Err, sym, ◌∙◌, refl}
use Rattle.in_syntax.specs.declared.faults.Fault.TheVariants.{Refused, Memory}
use Rattle.in_symbols.specs.Tables.{Tables}
use Rattle.in_net.specs.Rules.{RuleParts}
use Rattle.in_cover.specs.declared.table.RuleNo.{RuleNo}
use Rattle.in_cover.specs.Cover.{IsTableOf}
use Rattle.in_cover.specs.Laws.{AreOneTable, RulesAreCoveredOnce}
use Rattle.in_cover.specs.Table.{Cells, rule_at}
use Rattle.in_cover.proofs.FirstFault.{incomplete, one_refusal}

two_tables : (t : Tables) (rules : List RuleParts) (a b : Cells) → IsTableOf t rules a → IsTableOf t rules b → AreOneTable a b
two_tables t rules a b h k c d = by_cell (rule_at a c d) (rule_at b c d) refl refl
  where
    by_cell : (x y : Option RuleNo) → rule_at a c d ≡ x → rule_at b c d ≡ y → rule_at a c d ≡ rule_at b c d
    by_cell (Some x) y is at = is ∙ sym ((k.numbers c d x).1 ((h.numbers c d x).0 is))
    by_cell None (Some y) is at = (h.numbers c d y).1 ((k.numbers c d y).0 at) ∙ sym at
    by_cell None None is at = is ∙ sym at

pub covered_once : RulesAreCoveredOnce
covered_once t rules (Ok a) (Ok b) h k = two_tables t rules a b h.1 k.1
covered_once t rules (Ok a) (Err (Refused r)) h k = incomplete t rules r k h.0
covered_once t rules (Ok a) (Err (Memory e)) h k = tt
covered_once t rules (Err (Refused q)) (Ok b) h k = incomplete t rules q h k.0
covered_once t rules (Err (Refused q)) (Err (Refused r)) h k = one_refusal t rules q r h k
covered_once t rules (Err (Refused q)) (Err (Memory e)) h k = tt
covered_once t rules (Err (Memory e)) b h k = tt
