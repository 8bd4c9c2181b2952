use Rattle.std.proofs.Common.{◌≡◌, ◌<◌, ◌≤◌, ◌+◌, ◌-◌, ◌++◌, ◌∷◌, [], ◌∙◌, ℕ, Bool, List, map, ap, sym, subst, arith, length}
use Rattle.in_simple_deriving.specs.Procedure.{AreMakes}
use Rattle.in_open_nets.specs.OpenNets.{OpenNet}
use Rattle.in_simple_deriving.specs.Stacks.{SetsBeside, EndsInWhole}
use Rattle.in_simple_deriving.specs.declared.plans.Task.{Task}
use Rattle.in_simple_deriving.specs.declared.plans.Task.TheVariants.{Make}
use Rattle.in_simple_deriving.specs.declared.plans.StackStep.TheVariants.{Empty, Link, Mix}
use Rattle.in_simple_deriving.specs.TakenOrder.{links_from}
use Rattle.in_simple_deriving.proofs.Taking.{LinksCome, links_more, links_first, links_past, links_done, links_none}
use Rattle.in_simple_deriving.proofs.Working.{makes_more}
use Rattle.in_simple_deriving.proofs.Finishing.{beside_start, beside_past, beside_first, beside_more, beside_end, beside_nothing}
use Rattle.in_simple_deriving.proofs.procedure.loose.Goals as goal
use Rattle.in_simple_deriving.proofs.procedure.loose.Goals.{then-is_loose+in_ok-push+then-some+in_ok-push-2, then-is_loose+in_ok-push+else-some, else-is_loose, then-not-some+in_ok-push-3, else-not-some}

abbrev all_links : OpenNet → Bool → List Task
all_links o begun = map Make (links_from o begun 0 (length o.wires))

abbrev AreLoose : OpenNet → Bool → ℕ → Bool → List Task → Type 0
AreLoose o begun b some tasks = record { makes : AreMakes tasks; steps : SetsBeside o begun b some tasks; order : LinksCome o b some tasks (all_links o begun) }

pub loop-wire-init : goal.loop-wire-init
loop-wire-init c =
    subst (λ z. AreLoose c.args.open.now c.args.begun 0 c.args.begun z) (sym c.new-tasks.ensures) (record { makes = tt; steps = beside_start c.args.open.now c.args.begun; order = let e : length c.args.open.now.wires - 0 ≡ length c.args.open.now.wires = omega arith in ap (λ k. map Make (links_from c.args.open.now c.args.begun 0 k)) e })

pub loop-wire-preserved : goal.loop-wire-preserved
loop-wire-preserved c =
    let o = c.args.open.now in
    let begun = c.args.begun in
    let b = c.loop-wire.wire in
    let ts = c.loop-wire.tasks in
    let i = c.loop-wire.invariant in
    let net = c.wires-wire-end.ensures.net.net in
    let here : c.loop-wire.wire < length c.args.open.now.wires = let t = c.loop-wire-test.true in let n = c.wires-wire-end.ensures.count in omega arith in
    elim c.if-is_loose.branch [
      | then-is_loose+in_ok-push+then-some+in_ok-push-2 w ↦
          let e = w.in_ok-push-2.ensures.ok ∙ ap (λ z. z ++ Make Mix ∷ []) w.in_ok-push.ensures.ok in
          subst (λ z. AreLoose o begun (b + 1) c.if-is_loose.some z) (sym (w.tasks-is ∙ e)) (subst (λ z. AreLoose o begun (b + 1) z ((ts ++ Make (Link b) ∷ []) ++ Make Mix ∷ [])) (sym w.some-is) (record {
            makes = makes_more (ts ++ Make (Link b) ∷ []) Mix (makes_more ts (Link b) i.makes);
            steps = beside_more o net begun b ts (sym c.is_loose.ensures ∙ w.if-is_loose.true) (subst (λ z. SetsBeside o begun b z ts) w.if-some.true i.steps);
            order = links_more o b ts (all_links o begun) here (sym c.is_loose.ensures ∙ w.if-is_loose.true) (subst (λ z. LinksCome o b z ts (all_links o begun)) w.if-some.true i.order);
          }))
      | then-is_loose+in_ok-push+else-some w ↦
          subst (λ z. AreLoose o begun (b + 1) c.if-is_loose.some z) (sym (w.tasks-is ∙ w.in_ok-push.ensures.ok)) (subst (λ z. AreLoose o begun (b + 1) z (ts ++ Make (Link b) ∷ [])) (sym w.some-is) (record {
            makes = makes_more ts (Link b) i.makes;
            steps = beside_first o net begun b ts (sym c.is_loose.ensures ∙ w.if-is_loose.true) (subst (λ z. SetsBeside o begun b z ts) w.if-some.false i.steps);
            order = links_first o b ts (all_links o begun) here (sym c.is_loose.ensures ∙ w.if-is_loose.true) (subst (λ z. LinksCome o b z ts (all_links o begun)) w.if-some.false i.order);
          }))
      | else-is_loose w ↦
          subst (λ z. AreLoose o begun (b + 1) c.if-is_loose.some z) (sym w.tasks-is) (subst (λ z. AreLoose o begun (b + 1) z ts) (sym w.some-is) (record {
            makes = i.makes;
            steps = beside_past o begun b c.loop-wire.some ts (sym c.is_loose.ensures ∙ w.if-is_loose.false) i.steps;
            order = links_past o b ts (all_links o begun) here c.loop-wire.some (sym c.is_loose.ensures ∙ w.if-is_loose.false) i.order;
          }))
    ]

pub returns-clause-makes : goal.returns-clause-makes
returns-clause-makes c = elim c.if-not-some.branch [
  | then-not-some+in_ok-push-3 w ↦ subst AreMakes (sym (w.tasks-is ∙ w.in_ok-push-3.ensures.ok)) (makes_more c.loop-wire.tasks Empty c.loop-wire.invariant.makes)
  | else-not-some w ↦ subst AreMakes (sym w.tasks-is) c.loop-wire.invariant.makes
]

pub returns-clause-steps : goal.returns-clause-steps
returns-clause-steps c =
    let o = c.args.open.now in
    let begun = c.args.begun in
    let ts = c.loop-wire.tasks in
    let net = c.wires-wire-end.ensures.net.net in
    let a = c.wires-wire-end.ensures.count in
    let b = c.loop-wire-test.false in
    let d = c.loop-wire.auto.wire-end in
    let e : c.loop-wire.wire ≡ length o.wires = omega arith in
    let all = subst (λ z. SetsBeside o begun z c.loop-wire.some ts) e c.loop-wire.invariant.steps in
    elim c.if-not-some.branch [
      | then-not-some+in_ok-push-3 w ↦ subst (EndsInWhole o begun) (sym (w.tasks-is ∙ w.in_ok-push-3.ensures.ok)) (beside_nothing o net begun ts (subst (λ z. SetsBeside o begun (length o.wires) z ts) w.if-not-some.true all))
      | else-not-some w ↦ subst (EndsInWhole o begun) (sym w.tasks-is) (beside_end o net begun ts (subst (λ z. SetsBeside o begun (length o.wires) z ts) w.if-not-some.false all))
    ]

pub returns-clause-order : goal.returns-clause-order
returns-clause-order c =
    let o = c.args.open.now in
    let begun = c.args.begun in
    let b = c.loop-wire.wire in
    let ts = c.loop-wire.tasks in
    let a = c.wires-wire-end.ensures.count in
    let t = c.loop-wire-test.false in
    let past : length c.args.open.now.wires ≤ c.loop-wire.wire = omega arith in
    elim c.if-not-some.branch [
      | then-not-some+in_ok-push-3 w ↦ w.tasks-is ∙ w.in_ok-push-3.ensures.ok ∙ links_none o b ts (all_links o begun) past (subst (λ z. LinksCome o b z ts (all_links o begun)) w.if-not-some.true c.loop-wire.invariant.order)
      | else-not-some w ↦ w.tasks-is ∙ links_done o b ts (all_links o begun) past (subst (λ z. LinksCome o b z ts (all_links o begun)) w.if-not-some.false c.loop-wire.invariant.order)
    ]
