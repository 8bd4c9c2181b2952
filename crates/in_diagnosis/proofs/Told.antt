-- The refused texts: those whose passes refuse them.
use Rattle.std.proofs.Common.{List, ℕ, Option, Some, None, Result, Ok, Err}
use Rattle.std.specs.Prelude.{IfOk}
use Rattle.in_syntax.specs.declared.faults.Refusal.{Refusal}
use Rattle.in_syntax.specs.declared.text_limits.TextLimits.{TextLimits}
use Rattle.in_syntax.specs.declared.faults.Fault.TheVariants.{Refused}
use Rattle.in_syntax.specs.declared.tree.Source.{Source}
use Rattle.in_syntax.specs.Parsing.{Parses}
use Rattle.in_check.specs.Checking.{ChecksNames}
use Rattle.in_check.proofs.Public.{chain_of, then_refused, then_rest}
use Rattle.in_diagnosis.specs.Programs.{Refuses, RefusesTree}

-- a refusal of a tree is one of its text
pub of_tree : {E : Type 0} (limits : TextLimits) (text : List ℕ) (s : Source) (answer : Result (Option Refusal) E) → Parses limits text (Ok s) → IfOk answer (RefusesTree s) → IfOk answer (Refuses limits text)
of_tree limits text s (Ok (Some r)) parses refuses = chain_of limits text (Err (Refused r)) (then_rest (Parses limits text) ChecksNames s (Err (Refused r)) parses refuses)
of_tree limits text s (Ok None) parses (p, accepts) = (p, chain_of limits text (Ok p) (then_rest (Parses limits text) ChecksNames s (Ok p) parses accepts))
of_tree limits text s (Err e) parses told = tt

-- a text without a tree is refused
pub without_tree : (limits : TextLimits) (text : List ℕ) (r : Refusal) → Parses limits text (Err (Refused r)) → Refuses limits text (Some r)
without_tree limits text r refuses = chain_of limits text (Err (Refused r)) (then_refused (Parses limits text) ChecksNames (Refused r) refuses)
