use Rattle.std.proofs.Common.{arith}
use Rattle.in_simple.proofs.VerifyMade.{link_alone, link_refused}
use Rattle.in_simple.proofs.verifying.link.Goals as goal

pub returns-in_ok-built : goal.returns-in_ok-built
returns-in_ok-built c =
    let a = c.if-number-wires.true in
    let b = c.wires.ensures.count in
    link_alone c.args.open.now c.args.wire c.in_ok-built.built c.insert.new.self c.set.new.self c.in_ok-built.ensures (omega arith) c.insert.ensures c.set.ensures

pub returns-else-number-wires : goal.returns-else-number-wires
returns-else-number-wires c =
    let a = c.if-number-wires.false in
    let b = c.wires.ensures.count in
    link_refused c.args.open.now c.args.wire (omega arith)
