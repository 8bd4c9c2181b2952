use Rattle.std.proofs.Common.{◌≡◌, ◌+◌, ◌∙◌, length, sym, subst, arith}
use Rattle.in_open_nets.specs.Members.{marked}
use Rattle.in_open_nets.proofs.PartsOf.Marks.{marked_many}
use Rattle.in_open_nets.proofs.PartsOf.Members.{past, unite_next, unite_small, unite_end}
use Rattle.in_open_nets.proofs.PartsOf.Places.{IsUnitedTo}
use Rattle.in_open_nets.proofs.scratch.mark_all.Goals as goal

pub mark-left-requires-clause-number : goal.mark-left-requires-clause-number
mark-left-requires-clause-number c =
    let old = marked c.args.last c.args.marks.now in
    let size = c.requires.size ∙ sym (marked_many c.args.last c.args.marks.now) in
    let small = unite_small c.args.list.now old size c.members-node-items.result.now c.members-node-items.ensures c.loop-node.node-index (marked c.args.last c.loop-node.marks) c.loop-node-test.true c.loop-node.invariant.united in
    let many = marked_many c.args.last c.loop-node.marks in
    omega arith

pub loop-node-preserved : goal.loop-node-preserved
loop-node-preserved c =
    let nodes = c.args.list.now in
    let old = marked c.args.last c.args.marks.now in
    let size = c.requires.size ∙ sym (marked_many c.args.last c.args.marks.now) in
    let ns = c.members-node-items.result.now in
    let i = c.loop-node.node-index in
    record {
      marks = c.mark-left.ensures.marks;
      united =
          subst (λ z. IsUnitedTo nodes old z (past ns (i + 1))) (sym c.mark-left.ensures.set)
          (unite_next nodes old size ns c.members-node-items.ensures i (marked c.args.last c.loop-node.marks) c.loop-node-test.true c.loop-node.invariant.united);
    }

pub returns-clause-size : goal.returns-clause-size
returns-clause-size c = sym (marked_many c.args.last c.loop-node.marks) ∙ c.loop-node.invariant.united.size ∙ marked_many c.args.last c.args.marks.now

pub returns-clause-union : goal.returns-clause-union
returns-clause-union c =
    let nodes = c.args.list.now in
    let old = marked c.args.last c.args.marks.now in
    let new = marked c.args.last c.loop-node.marks in
    let size = c.requires.size ∙ sym (marked_many c.args.last c.args.marks.now) in
    let ns = c.members-node-items.result.now in
    let f = c.loop-node-test.false in
    let g = c.loop-node.auto in
    let end : c.loop-node.node-index ≡ length ns = omega arith in
    unite_end nodes old size ns c.members-node-items.ensures new (subst (λ z. IsUnitedTo nodes old new (past ns z)) end c.loop-node.invariant.united)
