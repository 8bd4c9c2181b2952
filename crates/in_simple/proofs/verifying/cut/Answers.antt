use Rattle.in_simple.proofs.verifying.cut.Goals as goal

pub returns-then-branch : goal.returns-then-branch
returns-then-branch c = c.in_ok-join_along.ensures.0 c.if-branch.true

pub returns : goal.returns
returns c = c.in_ok-join_along.ensures.1 c.if-branch.false
