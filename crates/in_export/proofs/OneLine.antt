-- A text has one line.
use Rattle.std.proofs.Common.{◌≡◌, ℕ, List, Ok, Err, sym, ◌∙◌}
use Rattle.in_syntax.specs.declared.faults.Fault.{Fault}
use Rattle.in_syntax.specs.declared.faults.Fault.TheVariants.{Refused, Memory}
use Rattle.in_syntax.specs.declared.text_limits.TextLimits.{TextLimits}
use Rattle.in_check.specs.Checking.{IsChecked}
use Rattle.in_check.specs.Laws.{AreOneCertified}
use Rattle.in_check.specs.Programs.{Certified}
use Rattle.in_check.proofs.Public.{checked_once}
use Rattle.in_export.specs.Programs.{program_line}
use Rattle.in_export.specs.Exporting.{Exports, TextsAreExportedOnce}

-- the line doesn't depend on the table of rules
same_line : (p q : Certified) → AreOneCertified p q → program_line p ≡ program_line q
same_line p q same =
    λ i. program_line (record { program = record { tables = same.program.tables i; rules = same.program.rules i; net = same.program.net i; numbers = p.program.numbers }; rule_certificates = same.rule_certificates i; net_certificate = same.net_certificate i })

pub exported_once : TextsAreExportedOnce
exported_once limits text (Ok one) (Ok other) (p, valid, is) (q, too, was) = is ∙ same_line p q (checked_once limits text (Ok p) (Ok q) valid too) ∙ sym was
exported_once limits text (Ok one) (Err (Refused r)) (p, valid, is) refused = checked_once limits text (Ok p) (Err (Refused r)) valid refused
exported_once limits text (Ok one) (Err (Memory e)) l r = tt
exported_once limits text (Err (Refused q)) (Ok other) refused (p, valid, is) = checked_once limits text (Err (Refused q)) (Ok p) refused valid
exported_once limits text (Err (Refused q)) (Err (Refused r)) l r2 = checked_once limits text (Err (Refused q)) (Err (Refused r)) l r2
exported_once limits text (Err (Refused q)) (Err (Memory e)) l r = tt
exported_once limits text (Err (Memory e)) b l r = tt

-- a text that the check refuses is refused
pub refused_so : (limits : TextLimits) (text : List ℕ) (f : Fault) → IsChecked limits text (Err f) → Exports limits text (Err f)
refused_so limits text (Refused r) h = h
refused_so limits text (Memory e) h = tt
