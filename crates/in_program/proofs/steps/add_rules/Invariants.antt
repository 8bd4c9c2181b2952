use Rattle.std.proofs.Common.{◌≡◌, ◌++◌, drop}
use Rattle.in_program.specs.Steps.{rules_lines}
use Rattle.in_program.proofs.steps.add_rules.Given as goal

abbrev pub invariant-loop-number : goal.invariant-loop-number
invariant-loop-number l =
    l.bytes.items ++ rules_lines l.checked.program.tables (drop l.number l.checked.program.rules) (drop l.number l.checked.rule_certificates) ≡ l.fn.bytes.items ++ rules_lines l.checked.program.tables l.checked.program.rules l.checked.rule_certificates
