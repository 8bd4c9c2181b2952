use Rattle.std.proofs.Common.{◌+◌, ◌++◌, [], ◌∷◌, List, Some, None, sym, subst, arith}
use Rattle.in_net.specs.Nets.{Port}
use Rattle.in_print.specs.declared.terms.Frame.{Frame}
use Rattle.in_print.specs.Texts.{setting_of}
use Rattle.in_print.specs.Writings.{TextSoFar}
use Rattle.in_print.specs.Terms.{WritesOn}
use Rattle.in_print.proofs.Looking.{shown_arity}
use Rattle.in_print.proofs.Remaining.{writes_close, writes_comma}
use Rattle.in_print.proofs.terms.go_on.Goals as goal

pub returns-then-place-arity : goal.returns-then-place-arity
returns-then-place-arity c = λ d p shallow leads.
    let m = c.args.machine.now in let s = setting_of m in let fs = c.args.stack.now.items in let f = c.args.frame in
    let many = shown_arity m f.cell.0 c.arity.result c.arity.ensures in
    subst (λ w. WritesOn s d p c.args.sheet.now (fs ++ f ∷ []) None w fs None) (sym c.in_ok-add.ensures)
    (writes_close s d p c.args.sheet.now fs f shallow leads (omega (arith, many, c.if-place-arity.true)))

pub returns : goal.returns
returns c = λ d p shallow leads.
    let m = c.args.machine.now in let s = setting_of m in let fs = c.args.stack.now.items in let f = c.args.frame in
    let many = shown_arity m f.cell.0 c.arity.result c.arity.ensures in
    subst (λ (z : TextSoFar × List Frame). WritesOn s d p c.args.sheet.now (fs ++ f ∷ []) None z.0 z.1 (Some (Port f.cell.0 (f.place + 1)))) (λ i. (sym c.in_ok-add-2.ensures i, sym c.in_ok-push.ensures.items i))
    (writes_comma s d p c.args.sheet.now fs f.cell f.place shallow leads (omega (arith, many, c.if-place-arity.false)))
