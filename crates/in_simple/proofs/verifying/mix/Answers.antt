use Rattle.in_simple.proofs.VerifyMade.{mix_pair, mix_refused}
use Rattle.in_simple.proofs.verifying.mix.Goals as goal

pub returns-then-branch : goal.returns-then-branch
returns-then-branch c = mix_pair c.args.open.now c.args.a c.args.b c.beside.new.built (c.in_ok-beside.ensures.beside.0 c.if-branch.true) c.beside.ensures.sized

pub returns : goal.returns
returns c = mix_refused c.args.open.now c.args.a c.args.b (c.in_ok-beside.ensures.beside.1 c.if-branch.false)
