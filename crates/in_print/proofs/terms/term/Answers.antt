use Rattle.std.proofs.Common.{◌<◌, ◌≤◌, ◌∙◌, ℕ, length, List, Option, None, sym, ap, subst, arith, option_map, count_by, is_some}
use Rattle.in_arena.specs.declared.content.End.{End}
use Rattle.in_print.specs.declared.terms.Frame.{Frame}
use Rattle.in_print.specs.Points.{point_at}
use Rattle.in_print.specs.Texts.{setting_of}
use Rattle.in_print.specs.Writings.{with_parts}
use Rattle.in_print.specs.Terms.{remaining, IsInHand, LeadsDown}
use Rattle.in_print.proofs.Depths.{deep_enough}
use Rattle.in_print.proofs.Looking.{agent_there, net}
use Rattle.in_print.proofs.Remaining.{leads_pop, last_there}
use Rattle.in_print.proofs.terms.term.Goals as goal

pub begin-requires-clause-point : goal.begin-requires-clause-point
begin-requires-clause-point c =
    let m = c.args.machine.now in let l = c.loop-focus in
    let at = subst (λ x. IsInHand (point_at c.args.from) l.stack.items (option_map point_at x)) c.in-Some.is l.invariant.2 in
    last_there (setting_of m) (net m c.requires.machine) (point_at c.args.from) l.stack.items (point_at c.in-Some.end) c.requires.point l.invariant.1 at

pub loop-focus-smaller-in-Some : goal.loop-focus-smaller-in-Some
loop-focus-smaller-in-Some c =
    let m = c.args.machine.now in let s = setting_of m in let l = c.loop-focus in let d = count_by is_some m.agents in let p = point_at c.args.from in
    let at = subst (λ x. IsInHand p l.stack.items (option_map point_at x)) c.in-Some.is l.invariant.2 in
    let goes = c.in_ok-focus-in-Some.ensures d p (deep_enough m c.requires.machine c.args.from c.requires.point d (omega arith)) l.invariant.1 at in
    subst (λ x. length (remaining s d c.begin.new.stack.items (option_map point_at c.in_ok-focus-in-Some.focus)) < length (remaining s d l.stack.items (option_map point_at x))) (sym c.in-Some.is) goes.fewer

pub loop-focus-preserved-in-Some : goal.loop-focus-preserved-in-Some
loop-focus-preserved-in-Some c =
    let m = c.args.machine.now in let s = setting_of m in let l = c.loop-focus in let p = point_at c.args.from in
    let at = subst (λ x. IsInHand p l.stack.items (option_map point_at x)) c.in-Some.is l.invariant.2 in
    let goes = λ (d : ℕ) (le : count_by is_some m.agents ≤ d). c.in_ok-focus-in-Some.ensures d p (deep_enough m c.requires.machine c.args.from c.requires.point d le) l.invariant.1 at in
    let now = goes (count_by is_some m.agents) (omega arith) in
    (λ d le. (goes d le).text ∙ ap (λ x. with_parts s l.sheet (remaining s d l.stack.items (option_map point_at x))) (sym c.in-Some.is) ∙ l.invariant.0 d le, now.leads, now.in_hand)

pub go_on-requires : goal.go_on-requires
go_on-requires c =
    let m = c.args.machine.now in let s = setting_of m in let l = c.loop-focus in let p = point_at c.args.from in
    let whole = c.in-Some-pop.ensures.items in
    let leads = leads_pop s p c.pop.new.self.items c.in-Some-pop.frame (subst (LeadsDown s p) whole l.invariant.1) in
    agent_there m c.requires.machine _ c.in-Some-pop.frame.cell.0 leads.1

pub loop-focus-smaller : goal.loop-focus-smaller
loop-focus-smaller c =
    let m = c.args.machine.now in let s = setting_of m in let l = c.loop-focus in let d = count_by is_some m.agents in let p = point_at c.args.from in
    let whole = c.in-Some-pop.ensures.items in
    let goes = c.in_ok-focus-in-Some-pop.ensures d p (deep_enough m c.requires.machine c.args.from c.requires.point d (omega arith)) (subst (LeadsDown s p) whole l.invariant.1) in
    subst (λ (z : List Frame × Option End). length (remaining s d c.go_on.new.stack.items (option_map point_at c.in_ok-focus-in-Some-pop.focus)) < length (remaining s d z.0 (option_map point_at z.1))) (λ i. (sym whole i, sym c.in-None.is i)) goes.fewer

pub loop-focus-preserved : goal.loop-focus-preserved
loop-focus-preserved c =
    let m = c.args.machine.now in let s = setting_of m in let l = c.loop-focus in let p = point_at c.args.from in
    let whole = c.in-Some-pop.ensures.items in
    let goes = λ (d : ℕ) (le : count_by is_some m.agents ≤ d). c.in_ok-focus-in-Some-pop.ensures d p (deep_enough m c.requires.machine c.args.from c.requires.point d le) (subst (LeadsDown s p) whole l.invariant.1) in
    let now = goes (count_by is_some m.agents) (omega arith) in (
      λ d le. (goes d le).text ∙ ap (λ fs. with_parts s l.sheet (remaining s d fs None)) (sym whole) ∙ ap (λ x. with_parts s l.sheet (remaining s d l.stack.items (option_map point_at x))) (sym c.in-None.is) ∙ l.invariant.0 d le,
      now.leads,
      now.in_hand,
    )
