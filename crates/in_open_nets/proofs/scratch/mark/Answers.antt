use Rattle.std.proofs.Common.{◌-◌, ◌∙◌, sym, subst, ap, arith}
use Rattle.in_open_nets.specs.Members.{AreMarks, marked}
use Rattle.in_open_nets.proofs.PartsOf.Marks.{fewer, marked_in, put_in, same_set}
use Rattle.in_open_nets.proofs.scratch.mark.Goals as goal

pub returns-then-is_marked-clause-set : goal.returns-then-is_marked-clause-set
returns-then-is_marked-clause-set c = same_set (marked c.args.last c.args.marks.now) c.args.number _ (sym c.is_marked.ensures ∙ c.if-is_marked.true)

pub overflow_sub-result : goal.overflow_sub-result
overflow_sub-result c =
    let a = fewer c.args.marks.now c.args.last c.args.absent c.requires.marks c.args.number c.requires.number (sym c.is_marked.ensures ∙ c.if-is_marked.false) in
    omega arith

pub returns-clause-marks : goal.returns-clause-marks
returns-clause-marks c =
    let k = c.args.absent in
    let out = sym c.is_marked.ensures ∙ c.if-is_marked.false in
    let a = fewer c.args.marks.now c.args.last k c.requires.marks c.args.number c.requires.number out in
    subst (λ z. AreMarks z c.args.last (k - 1)) (sym c.set.ensures) (put_in c.args.marks.now c.args.last k c.requires.marks c.args.number c.requires.number (k - 1) out (omega arith))

pub returns-clause-set : goal.returns-clause-set
returns-clause-set c = ap (marked c.args.last) c.set.ensures ∙ marked_in c.args.marks.now c.args.last c.args.absent c.requires.marks c.args.number c.requires.number
