use Rattle.std.proofs.Common.{◌≡◌, suc, false, nat_eq, sym, subst, arith}
use Rattle.in_simple_deriving.specs.Procedure.{StaysForRest, IsPlanAtTurn}
use Rattle.in_open_nets.specs.Members.{nodes_in}
use Rattle.in_simple_deriving.specs.Stacks.{shape, no_wires}
use Rattle.in_open_nets.specs.Stuck.{turn}
use Rattle.in_simple_deriving.specs.declared.plans.Fate.TheVariants.{Waits, Derived, Outside}
use Rattle.in_simple_deriving.proofs.Fates.{along, back_at, derives_near, fate_of_port, later_port, leads_away, met_derived, met_none, plan_own}
use Rattle.in_simple_deriving.proofs.Taking.{comes_done, comes_own, comes_component, comes_link}
use Rattle.in_simple_deriving.proofs.ClassNets.{nothing_done, nothing_own, adds_component, adds_link}
use Rattle.in_simple_deriving.proofs.Planning.{port_pass, port_derive, goes_make}
use Rattle.in_open_nets.proofs.Public.{not_both}
use Rattle.in_simple_deriving.proofs.Stages.{own_turn}
use Rattle.in_simple_deriving.proofs.plans.TaskPlan.port.Goals as goal

pub fate-requires-clause-plan : goal.fate-requires-clause-plan
fate-requires-clause-plan c = plan_own c.args.wired.now c.args.node c.args.port c.args.self c.requires.plan

pub fate-requires-clause-turn : goal.fate-requires-clause-turn
fate-requires-clause-turn c = let most = c.requires.plan.most in let port = c.requires.port.port in omega arith

pub returns-in_ok-push-in-Waits : goal.returns-in_ok-push-in-Waits
returns-in_ok-push-in-Waits c =
    let o = c.args.wired.now in
    let n = c.args.node in
    let i = c.args.port in
    let p = c.args.self in
    let a = c.requires.port in
    let own = own_turn o n i a in
    let h = subst (λ z. IsPlanAtTurn o n z p) (sym own) c.requires.plan in
    let net = c.partner-wire.ensures.net.net in
    let w = c.partner-wire.result.0 in
    let q = c.partner-wire.result.1 in
    let wire = c.partner-wire.ensures.wire in
    let f = fate_of_port o n i i w q p (Waits c.in-Waits.part) c.requires.plan.net c.requires.plan.node c.in-Waits.ensures wire own in
    let l = f.0 in
    let there = along o net n p i w q wire l f.1 f.2 in
    let r = c.in_ok-push-in-Waits.field-0 in
    let d = derives_near o n i l p r c.in-Waits.part c.requires.plan f.3 c.in_ok-push-in-Waits.ensures in
    record {
      plan = subst (λ z. StaysForRest o n (suc z) p r) own (port_derive o net n p r i w l f.1 h there f.4 f.5 d);
      adds = (shape (nodes_in d.component.nodes) no_wires, adds_component o net n i p c.requires.plan i w l f.1 r there f.4 f.5 d);
      comes = comes_component o net n p i w a.agent a.auxiliary a.port h r l f.1 there f.4 f.5 d;
    }

pub returns-in-Derived : goal.returns-in-Derived
returns-in-Derived c =
    let o = c.args.wired.now in
    let n = c.args.node in
    let i = c.args.port in
    let p = c.args.self in
    let a = c.requires.port in
    let own = own_turn o n i a in
    let h = subst (λ z. IsPlanAtTurn o n z p) (sym own) c.requires.plan in
    let net = c.partner-wire.ensures.net.net in
    let w = c.partner-wire.result.0 in
    let q = c.partner-wire.result.1 in
    let wire = c.partner-wire.ensures.wire in
    let f = fate_of_port o n i i w q p Derived c.requires.plan.net c.requires.plan.node c.in-Derived.ensures wire own in
    let there = along o net n p i w q wire f.0 f.1 f.2 in
    record {
      plan = subst (λ z. StaysForRest o n (suc z) p p) own (port_pass o net n p i a.port h (met_derived o net n p i w q wire f));
      adds = nothing_done o net n i p c.requires.plan i w f.0 f.1 there f.3 f.4;
      comes = comes_done o net n p i w a.agent a.auxiliary a.port h f.0 f.1 there f.3 f.4;
    }

pub returns-then-leads_back : goal.returns-then-leads_back
returns-then-leads_back c =
    let o = c.args.wired.now in
    let n = c.args.node in
    let i = c.args.port in
    let p = c.args.self in
    let a = c.requires.port in
    let own = own_turn o n i a in
    let h = subst (λ z. IsPlanAtTurn o n z p) (sym own) c.requires.plan in
    let net = c.partner-wire.ensures.net.net in
    let w = c.partner-wire.result.0 in
    let q = c.partner-wire.result.1 in
    let wire = c.partner-wire.ensures.wire in
    let f = fate_of_port o n i i w q p Outside c.requires.plan.net c.requires.plan.node c.in-Outside.ensures wire own in
    let b = back_at n i q (c.leads_back.ensures.0 c.if-leads_back.true) in
    let there = along o net n p i w q wire b.0 b.1 b.2 in
    let out = subst (λ z. nodes_in p.rest z ≡ false) (sym b.3) h.out in
    record {
      plan = subst (λ z. StaysForRest o n (suc z) p p) own (port_pass o net n p i a.port h (λ v l k g here. absurd (met_none o net n p i w q wire f v l k g here)));
      adds = nothing_own o net n i p c.requires.plan i w b.0 b.1 there out b.3 b.4;
      comes = comes_own o net n p i w a.agent a.auxiliary a.port h b.0 b.1 there out b.3 b.4;
    }

pub returns-in_ok-make-in-Outside : goal.returns-in_ok-make-in-Outside
returns-in_ok-make-in-Outside c =
    let o = c.args.wired.now in
    let n = c.args.node in
    let i = c.args.port in
    let p = c.args.self in
    let a = c.requires.port in
    let own = own_turn o n i a in
    let h = subst (λ z. IsPlanAtTurn o n z p) (sym own) c.requires.plan in
    let net = c.partner-wire.ensures.net.net in
    let w = c.partner-wire.result.0 in
    let q = c.partner-wire.result.1 in
    let wire = c.partner-wire.ensures.wire in
    let f = fate_of_port o n i i w q p Outside c.requires.plan.net c.requires.plan.node c.in-Outside.ensures wire own in
    let m = c.in_ok-make-in-Outside in
    let away = leads_away (nodes_in p.rest) n i q f (λ b. not_both c.leads_back.result (c.leads_back.ensures.1 b) c.if-leads_back.false) in
    record {
      plan = subst (λ z. StaysForRest o n (suc z) p m.field-0) own (goes_make o n (suc (turn o n i)) p p m.field-0 _ (port_pass o net n p i a.port h (λ v l k g here. absurd (met_none o net n p i w q wire f v l k g here))) m.ensures);
      adds = (shape (λ m. false) (λ v. nat_eq v w), adds_link o net n i p c.requires.plan i w q m.field-0 wire f (later_port (nodes_in p.rest) n i q away) m.ensures);
      comes = comes_link o net n p i w a.agent a.auxiliary a.port h m.field-0 q wire away m.ensures;
    }
