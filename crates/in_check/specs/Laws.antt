-- Laws on the result of checking a text.
use Rattle.std.specs.Prelude.{◌≡◌, ℕ, List, Option}
use Rattle.in_syntax.specs.declared.faults.Fault.{Fault}
use Rattle.in_syntax.specs.declared.faults.Refusal.{Refusal}
use Rattle.in_syntax.specs.Answers.{IsOneBy}
use Rattle.in_cover.specs.Laws.{AreOneTable}
use Rattle.in_check.specs.Checking.{IsChecked, IsFound}
use Rattle.in_check.specs.Programs.{Certified, Program}
use Rattle.in_syntax.specs.declared.text_limits.TextLimits.{TextLimits}

-- two programs of one text: their values for each accessor are equal
pub record AreOneProgram (p q : Program) : Type 0 where
  pub tables : p.tables ≡ q.tables
  pub rules : p.rules ≡ q.rules
  pub net : p.net ≡ q.net
  pub numbers : AreOneTable p.numbers q.numbers

-- .. with their certificates
pub record AreOneCertified (c d : Certified) : Type 0 where
  pub program : AreOneProgram c.program d.program
  pub rule_certificates : c.rule_certificates ≡ d.rule_certificates
  pub net_certificate : c.net_certificate ≡ d.net_certificate

-- all results that checking may have for a text agree
abbrev pub TextsAreCheckedOnce : Type 0
TextsAreCheckedOnce = (limits : TextLimits) (text : List ℕ) → IsOneBy AreOneCertified (IsChecked limits text)

-- after a fault there is one finding
abbrev pub FindingsAreOne : Type 0
FindingsAreOne = (before one other : Option Refusal) (f : Fault) → IsFound before one f → IsFound before other f → one ≡ other
