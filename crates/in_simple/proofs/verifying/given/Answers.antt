use Rattle.in_simple.proofs.VerifyMade.{given_alone}
use Rattle.in_simple.proofs.verifying.given.Goals as goal

pub returns-in_ok-built : goal.returns-in_ok-built
returns-in_ok-built c =
    given_alone c.args.open.now c.args.node c.in_ok-built.built c.insert.new.self c.lead.new.ends c.in_ok-built.ensures
    (c.is_class_node.ensures.class.0 c.if-is_class_node.true) (c.is_class_node.ensures.within c.if-is_class_node.true) c.insert.ensures c.lead.ensures.size c.lead.ensures.led
