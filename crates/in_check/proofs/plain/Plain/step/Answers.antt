use Rattle.std.proofs.Common.{◌≤◌, count_by, is_some, sym, subst, ◌∙◌}
use Rattle.in_interaction.specs.Interacting.{most_agents}
use Rattle.in_net.specs.Parts.{Parts}
use Rattle.in_check.specs.Plain.{PlainParts, IsPlain, IsReachedBy, IsPairAt, StepsTo}
use Rattle.in_check.proofs.Reached.Plain.{steps, promised}
use Rattle.in_check.proofs.Reached.Stepped.{pair_of, rule_is, can, stepped, on_ok, either_way}
use Rattle.in_check.proofs.plain.Plain.step.Goals as goal

pub rule_of-requires : goal.rule_of-requires
rule_of-requires c =
    let p : PlainParts = record { program = c.self.inside.checked.now.program; net = c.self.inside.net } in
    let at : IsPairAt p c.args.a c.args.b = subst (λ (z : PlainParts). IsPairAt z c.args.a c.args.b) (sym c.self.view_is) c.requires.pair in
    pair_of c.is_accepted.ensures.accepted.0 c.is_accepted.ensures.accepted.1 p c.args.a c.args.b c.is_accepted.ensures.accepted.2 c.self.invariant at c.in-Some-Some.one c.in-Some-Some.two
    (sym c.symbol.ensures ∙ c.in-Some-Some.is-0) (sym c.symbol-2.ensures ∙ c.in-Some-Some.is-1)

pub interact-requires : goal.interact-requires
interact-requires c =
    let p : PlainParts = record { program = c.self.inside.checked.now.program; net = c.self.inside.net } in
    let at : IsPairAt p c.args.a c.args.b = subst (λ (z : PlainParts). IsPairAt z c.args.a c.args.b) (sym c.self.view_is) c.requires.pair in
    let is = rule_is c.is_accepted.ensures.accepted.0 c.is_accepted.ensures.accepted.1 p c.args.a c.args.b c.is_accepted.ensures.accepted.2 c.self.invariant at c.in-Some-Some.one c.in-Some-Some.two
    (sym c.symbol.ensures ∙ c.in-Some-Some.is-0) (sym c.symbol-2.ensures ∙ c.in-Some-Some.is-1) c.rule_of.result.0 c.rule-rule.result.now c.rule_of.ensures c.rule-rule.ensures in (
      (p.program.tables, can c.is_accepted.ensures.accepted.0 c.is_accepted.ensures.accepted.1 p c.args.a c.args.b c.is_accepted.ensures.accepted.2 c.self.invariant at c.rule_of.result.0 c.rule-rule.result.now is),
      subst (λ (z : PlainParts). count_by is_some z.net.cells ≤ most_agents) (sym c.self.view_is) c.requires.few,
    )

pub returns-clause-ok : goal.returns-clause-ok
returns-clause-ok c =
    let p : PlainParts = record { program = c.self.inside.checked.now.program; net = c.self.inside.net } in
    let q : PlainParts = record { program = c.self.inside.checked.now.program; net = c.interact.new.net } in
    let at : IsPairAt p c.args.a c.args.b = subst (λ (z : PlainParts). IsPairAt z c.args.a c.args.b) (sym c.self.view_is) c.requires.pair in
    let is = rule_is c.is_accepted.ensures.accepted.0 c.is_accepted.ensures.accepted.1 p c.args.a c.args.b c.is_accepted.ensures.accepted.2 c.self.invariant at c.in-Some-Some.one c.in-Some-Some.two
    (sym c.symbol.ensures ∙ c.in-Some-Some.is-0) (sym c.symbol-2.ensures ∙ c.in-Some-Some.is-1) c.rule_of.result.0 c.rule-rule.result.now c.rule_of.ensures c.rule-rule.ensures in
    on_ok c.interact.result c.interact.ensures.ok
    (λ act. subst (λ (z : PlainParts). StepsTo z c.args.a c.args.b q) c.self.view_is
    (stepped c.is_accepted.ensures.accepted.0 c.is_accepted.ensures.accepted.1 p c.args.a c.args.b c.is_accepted.ensures.accepted.2 c.self.invariant at c.rule_of.result.0 c.rule-rule.result.now c.interact.new.net is act))

pub returns-clause-counted : goal.returns-clause-counted
returns-clause-counted c =
    let p : PlainParts = record { program = c.self.inside.checked.now.program; net = c.self.inside.net } in
    let q : PlainParts = record { program = c.self.inside.checked.now.program; net = c.interact.new.net } in
    let at : IsPairAt p c.args.a c.args.b = subst (λ (z : PlainParts). IsPairAt z c.args.a c.args.b) (sym c.self.view_is) c.requires.pair in
    let is = rule_is c.is_accepted.ensures.accepted.0 c.is_accepted.ensures.accepted.1 p c.args.a c.args.b c.is_accepted.ensures.accepted.2 c.self.invariant at c.in-Some-Some.one c.in-Some-Some.two
    (sym c.symbol.ensures ∙ c.in-Some-Some.is-0) (sym c.symbol-2.ensures ∙ c.in-Some-Some.is-1) c.rule_of.result.0 c.rule-rule.result.now c.rule_of.ensures c.rule-rule.ensures in
    on_ok c.interact.result c.interact.ensures.ok
    (λ act k h. (steps p q c.args.a c.args.b c.self.invariant at
    (stepped c.is_accepted.ensures.accepted.0 c.is_accepted.ensures.accepted.1 p c.args.a c.args.b c.is_accepted.ensures.accepted.2 c.self.invariant at c.rule_of.result.0 c.rule-rule.result.now c.interact.new.net is act)).1
    k (subst (λ (z : PlainParts). IsReachedBy z k) (sym c.self.view_is) h))

pub invariant_of-self : goal.invariant_of-self
invariant_of-self c =
    let p : PlainParts = record { program = c.self.inside.checked.now.program; net = c.self.inside.net } in
    let q : PlainParts = record { program = c.self.inside.checked.now.program; net = c.interact.new.net } in
    let at : IsPairAt p c.args.a c.args.b = subst (λ (z : PlainParts). IsPairAt z c.args.a c.args.b) (sym c.self.view_is) c.requires.pair in
    let is = rule_is c.is_accepted.ensures.accepted.0 c.is_accepted.ensures.accepted.1 p c.args.a c.args.b c.is_accepted.ensures.accepted.2 c.self.invariant at c.in-Some-Some.one c.in-Some-Some.two
    (sym c.symbol.ensures ∙ c.in-Some-Some.is-0) (sym c.symbol-2.ensures ∙ c.in-Some-Some.is-1) c.rule_of.result.0 c.rule-rule.result.now c.rule_of.ensures c.rule-rule.ensures in
    either_way c.interact.result c.interact.ensures.ok c.interact.ensures.err
    (λ act. (steps p q c.args.a c.args.b c.self.invariant at
    (stepped c.is_accepted.ensures.accepted.0 c.is_accepted.ensures.accepted.1 p c.args.a c.args.b c.is_accepted.ensures.accepted.2 c.self.invariant at c.rule_of.result.0 c.rule-rule.result.now c.interact.new.net is act)).0)
    (λ same. subst (λ (n : Parts). IsPlain (record { program = p.program; net = n })) (sym same) c.self.invariant)

pub returns-clause-promised : goal.returns-clause-promised
returns-clause-promised c = promised c.is_accepted.ensures.accepted.0 c.is_accepted.ensures.accepted.1 (record { program = c.self.inside.checked.now.program; net = c.interact.new.net }) c.is_accepted.ensures.accepted.2 (invariant_of-self c)
