use Rattle.std.proofs.Common.{◌≡◌, ◌+◌, ◌∙◌, true, false, sym, subst, ap, arith}
use Rattle.std.proofs.Math.ListN.{set}
use Rattle.std.proofs.lemmas.List.{length-set}
use Rattle.in_open_nets.specs.Members.{AreMarks, marked, nodes_in}
use Rattle.in_open_nets.proofs.PartsOf.Absent.{missing_within}
use Rattle.in_open_nets.proofs.PartsOf.Marks.{has_mark, marked_many, marked_out, more, put_out, same_set}
use Rattle.in_open_nets.proofs.Reached.Reaching.{in_length}
use Rattle.in_open_nets.proofs.scratch.Scratch.take.Goals as goal

pub overflow_add-self : goal.overflow_add-self
overflow_add-self c =
    let s = c.self.inside in
    let n = c.args.number in
    let here = sym c.has.ensures ∙ c.if-has.true in
    let small = has_mark s.last s.marks c.args.self.now n c.self.view_is (in_length c.args.self.now n here) in
    let a = more s.marks s.last s.absent c.self.invariant n small (subst (λ z. nodes_in z n ≡ true) (sym c.self.view_is) here) in
    let b = missing_within (set (marked s.last s.marks) n false) in
    let l = length-set (marked s.last s.marks) n false in
    let k = marked_many s.last s.marks in
    let f = c.self.invariant.few in
    omega arith

pub invariant_of-self : goal.invariant_of-self
invariant_of-self c =
    let s = c.self.inside in
    let n = c.args.number in
    let here = sym c.has.ensures ∙ c.if-has.true in
    let small = has_mark s.last s.marks c.args.self.now n c.self.view_is (in_length c.args.self.now n here) in
    subst (λ z. AreMarks z s.last (s.absent + 1)) (sym c.set.ensures)
    (put_out s.marks s.last s.absent c.self.invariant n small (s.absent + 1) (subst (λ z. nodes_in z n ≡ true) (sym c.self.view_is) here) (omega arith))

pub returns-then-has : goal.returns-then-has
returns-then-has c =
    let s = c.self.inside in
    let n = c.args.number in
    let here = sym c.has.ensures ∙ c.if-has.true in
    let small = has_mark s.last s.marks c.args.self.now n c.self.view_is (in_length c.args.self.now n here) in
    ap (marked s.last) c.set.ensures ∙ marked_out s.marks s.last s.absent c.self.invariant n small ∙ ap (λ z. set z n false) c.self.view_is

pub set-requires : goal.set-requires
set-requires c =
    let here = sym c.has.ensures ∙ c.if-has.true in
    has_mark c.self.inside.last c.self.inside.marks c.args.self.now c.args.number c.self.view_is (in_length c.args.self.now c.args.number here)

pub returns-else-has : goal.returns-else-has
returns-else-has c = same_set c.args.self.now c.args.number false (sym c.has.ensures ∙ c.if-has.false)
