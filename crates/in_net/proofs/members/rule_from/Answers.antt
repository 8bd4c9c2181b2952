use Rattle.std.proofs.Common.{◌∙◌, sym, subst, length}
use Rattle.in_net.specs.Counting.{NamesInside}
use Rattle.in_net.specs.NetFaults.{of_names}
use Rattle.in_net.specs.Rules.{body_of_rule}
use Rattle.in_net.proofs.Texts.Bodies.{rule_ready}
use Rattle.in_net.proofs.Refusals.FirstFault.{is_first, names_inside}
use Rattle.in_net.proofs.members.rule_from.Goals as goal
use Rattle.in_syntax.specs.TextLimits.{max_member_agents}

pub first_rule_fault-requires : goal.first_rule_fault-requires
first_rule_fault-requires c =
    let t = c.args.symbols.now in
    let b = body_of_rule t c.args.rule.now in
    subst (λ r. NamesInside (length r.names) r.spots) (sym c.requires.read) (names_inside t b)

pub returns-in-Some : goal.returns-in-Some
returns-in-Some c =
    let t = c.args.symbols.now in
    let r = c.args.rule.now in
    let fault = is_first (max_member_agents c.args.limits) t (body_of_rule t r) c.args.reading.now c.in-Some.refusal (rule_ready t r c.requires.readable.known c.requires.readable.order) c.requires.read (sym c.in-Some.is ∙ c.in_ok-refusal.ensures {u = tt}) in
    (of_names c.in-Some.refusal.code c.in-Some.refusal.place fault.0, fault.1)
