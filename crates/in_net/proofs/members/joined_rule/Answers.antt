use Rattle.std.proofs.Common.{◌≡◌, ◌∙◌, ap, sym, subst, refl, length, Some, Err}
use Rattle.in_net.specs.Counting.{NamesInside}
use Rattle.in_net.specs.Joining.{JointsInside, joining_of}
use Rattle.in_net.specs.NetFaults.{of_wires}
use Rattle.in_net.specs.Reading.{reading_of}
use Rattle.in_net.specs.Rules.{body_of_rule, BuildsRuleOf}
use Rattle.in_net.proofs.Texts.Bodies.{rule_ready}
use Rattle.in_net.proofs.Refusals.FirstFault.{no_fault, names_inside}
use Rattle.in_net.proofs.Texts.ReadFrom as read_from
use Rattle.in_net.proofs.Wiring.TextWires.{read, read_closed, read_first}
use Rattle.in_net.proofs.Refusals.GoodRules.{good}
use Rattle.in_net.proofs.members.joined_rule.Goals as goal
use Rattle.in_syntax.specs.TextLimits.{max_member_agents}

pub join_all-requires-clause-joints : goal.join_all-requires-clause-joints
join_all-requires-clause-joints c =
    let t = c.args.symbols.now in
    let r = c.args.rule.now in
    let g = good c.args.limits t r c.args.reading.now c.requires.readable c.requires.read c.requires.clear in
    subst (λ r. JointsInside (length r.spots) r.joints) (sym c.requires.read) (read_from.joints t (body_of_rule t r) (read t (body_of_rule t r) g))

pub join_all-requires-clause-names : goal.join_all-requires-clause-names
join_all-requires-clause-names c =
    let t = c.args.symbols.now in
    let b = body_of_rule t c.args.rule.now in
    subst (λ r. NamesInside (length r.names) r.spots) (sym c.requires.read) (names_inside t b)

pub returns-in-Some : goal.returns-in-Some
returns-in-Some c =
    let t = c.args.symbols.now in
    let r = c.args.rule.now in
    let is = c.requires.read in
    let clear = c.requires.clear in
    let ready = rule_ready t r c.requires.readable.known c.requires.readable.order in
    let g = good c.args.limits t r c.args.reading.now c.requires.readable is clear in
    let closed : (joining_of c.args.reading.now).closed ≡ Some c.in-Some.place = sym (ap (λ j. j.closed) c.in_ok-joined.ensures) ∙ c.in-Some.is in
    let found : (joining_of (reading_of t (body_of_rule t r))).closed ≡ Some c.in-Some.place = sym (ap (λ r. (joining_of r).closed) is) ∙ closed in
    subst (λ f. BuildsRuleOf c.args.limits t r (Err f)) (sym c.closed_at.ensures) (
      of_wires c.in-Some.place (no_fault (max_member_agents c.args.limits) t (body_of_rule t r) c.args.reading.now ready is clear) (read_closed t (body_of_rule t r) g c.in-Some.place found)
          (λ q wire. read_first t (body_of_rule t r) g c.in-Some.place q found wire),
      refl,
    )
