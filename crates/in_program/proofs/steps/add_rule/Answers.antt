use Rattle.in_program.proofs.Written.{rule_made}
use Rattle.in_program.proofs.steps.add_rule.Goals as goal

pub returns : goal.returns
returns c =
    rule_made c.args.checked.now.program.tables c.symbols-symbols.result.now c.args.checked.now.program.rules c.args.checked.now.rule_certificates c.args.bytes.now.items c.add_heads.new.bytes.items c.add_lines.new.bytes.items c.args.number
    c.rule.result.now c.shape.result.now c.certificate.result.now c.symbols-symbols.ensures c.rule.ensures c.shape.ensures c.certificate.ensures c.in_ok-add_heads.ensures c.in_ok-add_lines.ensures
