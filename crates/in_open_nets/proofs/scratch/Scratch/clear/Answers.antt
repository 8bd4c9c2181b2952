use Rattle.std.proofs.Common.{◌≡◌, ◌+◌, false, sym, subst, arith}
use Rattle.in_open_nets.specs.Members.{AreMarks, marked, nodes_in}
use Rattle.in_open_nets.proofs.PartsOf.Marks.{marks_next, none_marked}
use Rattle.in_open_nets.proofs.scratch.Scratch.clear.Goals as goal

pub invariant_of-self : goal.invariant_of-self
invariant_of-self c =
    let s = c.self.inside in
    let next : c.in-Some.next ≡ s.last + 1 = let a = c.in-Some.ensures in omega arith in
    subst (λ z. AreMarks s.marks z c.len-self-inside.result) (sym next)
    (subst (AreMarks s.marks (s.last + 1)) (sym c.len-self-inside.ensures) (marks_next s.marks s.last s.absent c.self.invariant))

pub returns-in-Some-clause-none : goal.returns-in-Some-clause-none
returns-in-Some-clause-none c =
    let s = c.self.inside in
    let next : c.in-Some.next ≡ s.last + 1 = let a = c.in-Some.ensures in omega arith in
    λ n. subst (λ z. nodes_in (marked z s.marks) n ≡ false) (sym next) (none_marked s.last s.marks c.self.invariant.most n)
