use Rattle.std.proofs.Common.{false, refl, arith}
use Rattle.in_open_nets.proofs.Public.{not_both}
use Rattle.in_simple.proofs.VerifyGraft.{classes_start, classes_more, classes_refused}
use Rattle.in_simple.proofs.VerifyTaken.{taken_sized}
use Rattle.in_simple.proofs.verifying.Root.take_classes.Goals as goal

pub loop-class-init : goal.loop-class-init
loop-class-init c = record {
  within = omega arith;
  parts = c.requires.parts;
  sized = c.requires.built.sized;
  gathered = classes_start c.args.self.now.net.now c.args.self.now.node c.args.steps.now c.args.parts.now.items c.args.built.now c.requires.built;
}

pub returns-then-not-branch-clause-answer : goal.returns-then-not-branch-clause-answer
returns-then-not-branch-clause-answer c = (
  (λ e. absurd (not_both false e refl)),
  λ e. classes_refused c.args.self.now.net.now c.args.self.now.node c.args.steps.now c.args.parts.now.items c.loop-class.parts.items c.loop-class.built c.loop-class.class c.loop-class-test.true c.loop-class.invariant.within c.loop-class.invariant.gathered
      (c.in_ok-take_class.ensures.answer.1 c.if-not-branch.true),
)

pub loop-class-preserved : goal.loop-class-preserved
loop-class-preserved c =
    let o = c.args.self.now.net.now in
    let t = c.in_ok-take_class.ensures.answer.0 c.if-not-branch.false in
    let w = c.loop-class.invariant.within in
    record {
      within = omega arith;
      parts = taken_sized o _ c.loop-class.parts.items c.take_class.new.parts.items t.0 t.1 c.loop-class.invariant.parts;
      sized = c.take_class.ensures.sized;
      gathered = classes_more o c.args.self.now.node c.args.steps.now c.args.parts.now.items c.loop-class.parts.items c.take_class.new.parts.items c.loop-class.built c.take_class.new.built c.loop-class.class c.loop-class-test.true w c.loop-class.invariant.gathered t;
    }
