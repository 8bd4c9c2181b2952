use Rattle.std.proofs.Common.{◌≡◌, [], ◌∷◌, ◌∙◌, List, Some, None, sym, ap, subst, arith}
use Rattle.in_net.specs.Nets.{Port}
use Rattle.in_check.specs.NetText.{Head}
use Rattle.in_print.specs.declared.terms.Frame.{Frame}
use Rattle.in_print.specs.Points.{point_at}
use Rattle.in_print.specs.Texts.{setting_of}
use Rattle.in_print.specs.Writings.{TextSoFar, with_bytes, with_parts}
use Rattle.in_print.specs.Terms.{WritesOn}
use Rattle.in_print.proofs.Looking.{shown_partner, shown_arity, shown_name, agent_there}
use Rattle.in_print.proofs.Remaining.{writes_variable, writes_head, writes_agent}
use Rattle.in_print.proofs.terms.begin.Goals as goal

pub returns-in_default : goal.returns-in_default
returns-in_default c = λ d p shallow leads at.
    let s = setting_of c.args.machine.now in
    let e = shown_partner c.args.machine.now c.args.end c.partner-partner.result c.partner-partner.ensures in
    subst (λ w. WritesOn s d p c.args.sheet.now c.args.stack.now.items (Some (point_at c.args.end)) w c.args.stack.now.items None) (sym c.in_ok-add_variable.ensures)
    (writes_variable s d p c.args.sheet.now c.args.stack.now.items (point_at c.args.end) (point_at c.partner-partner.result) shallow leads e c.in_default.ensures)

pub symbol_name-requires : goal.symbol_name-requires
symbol_name-requires c =
    agent_there c.args.machine.now c.requires.machine (point_at c.args.end) c.in-Some.cell.0 (shown_partner c.args.machine.now c.args.end c.partner-partner.result c.partner-partner.ensures ∙ ap (λ p. Some p) c.in-Some.ensures)

pub returns-then-arity-eq0 : goal.returns-then-arity-eq0
returns-then-arity-eq0 c = λ d p shallow leads at.
    let m = c.args.machine.now in let s = setting_of m in let y = c.in-Some.cell in let fs = c.args.stack.now.items in let x = point_at c.args.end in
    let e = shown_partner m c.args.end c.partner-partner.result c.partner-partner.ensures ∙ ap (λ p. Some p) c.in-Some.ensures in
    let head : c.add.new.self ≡ with_parts s c.args.sheet.now (Head y.0 ∷ []) = c.in_ok-add.ensures ∙ ap (with_bytes c.args.sheet.now) (c.as_bytes.ensures.value ∙ sym (shown_name m y.0 c.symbol_name.result.now c.symbol_name.ensures)) in
    subst (λ w. WritesOn s d p c.args.sheet.now fs (Some x) w fs None) (sym head)
    (writes_head s d p c.args.sheet.now fs x y shallow leads at e (shown_arity m y.0 c.arity.result c.arity.ensures ∙ c.if-arity-eq0.true))

pub returns : goal.returns
returns c = λ d p shallow leads at.
    let m = c.args.machine.now in let s = setting_of m in let y = c.in-Some.cell in let fs = c.args.stack.now.items in let x = point_at c.args.end in
    let e = shown_partner m c.args.end c.partner-partner.result c.partner-partner.ensures ∙ ap (λ p. Some p) c.in-Some.ensures in
    let head : c.add.new.self ≡ with_parts s c.args.sheet.now (Head y.0 ∷ []) = c.in_ok-add.ensures ∙ ap (with_bytes c.args.sheet.now) (c.as_bytes.ensures.value ∙ sym (shown_name m y.0 c.symbol_name.result.now c.symbol_name.ensures)) in
    let written = c.in_ok-add-2.ensures ∙ ap (λ w. with_bytes w (40 ∷ [])) head in
    let some = shown_arity m y.0 c.arity.result c.arity.ensures in
    subst (λ (z : TextSoFar × List Frame). WritesOn s d p c.args.sheet.now fs (Some x) z.0 z.1 (Some (Port y.0 1))) (λ i. (sym written i, sym c.in_ok-push.ensures.items i))
    (writes_agent s d p c.args.sheet.now fs x y shallow leads at e (omega (arith, some, c.if-arity-eq0.false)))
