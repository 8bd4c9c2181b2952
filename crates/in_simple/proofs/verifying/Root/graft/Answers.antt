use Rattle.std.proofs.Common.{◌∙◌, true, false, length, refl, ap, sym, subst, arith}
use Rattle.std.proofs.lemmas.List.{length-set}
use Rattle.in_simple.specs.Checking.{AreGathered, AreRefused}
use Rattle.in_open_nets.proofs.Public.{not_both}
use Rattle.in_simple.proofs.VerifyGraft.{graft_made, node_again, classes_none, ends_lack}
use Rattle.in_simple.proofs.VerifyMade.{set_node}
use Rattle.in_simple.proofs.verifying.Root.graft.Goals as goal

pub returns-then-not-branch : goal.returns-then-not-branch
returns-then-not-branch c =
    let o = c.args.self.now.net.now in
    let is = c.args.steps.now in (
      (λ e. absurd (not_both false e refl)),
      λ _. classes_none o c.args.self.now.node is c.args.parts.now.items c.take_classes.new.parts.items
          (subst (λ z. AreRefused o c.args.self.now.node 0 z c.args.parts.now.items) c.as_slice.ensures (c.in_ok-take_classes.ensures.answer.1 c.if-not-branch.true)),
    )

pub returns-then-has : goal.returns-then-has
returns-then-has c =
    let o = c.args.self.now.net.now in
    let built = c.take_classes.new.built in
    let g = subst (λ z. AreGathered o c.args.self.now.node 0 z c.args.parts.now.items c.take_classes.new.parts.items built) c.as_slice.ensures (c.in_ok-take_classes.ensures.answer.0 c.if-not-branch.false) in (
      (λ e. absurd (not_both false e refl)),
      λ _. node_again o c.args.self.now.node c.args.steps.now c.args.parts.now.items c.take_classes.new.parts.items built g (sym c.has.ensures ∙ c.if-has.true),
    )

pub returns-then-branch : goal.returns-then-branch
returns-then-branch c =
    let o = c.args.self.now.net.now in
    let n = c.args.self.now.node in
    let is = c.args.steps.now in
    let built = c.take_classes.new.built in
    let a = c.requires.agent in
    let g = subst (λ z. AreGathered o n 0 z c.args.parts.now.items c.take_classes.new.parts.items built) c.as_slice.ensures (c.in_ok-take_classes.ensures.answer.0 c.if-not-branch.false) in
    let s = c.take_classes.ensures.sized in
    let within = c.args.self.now.within in
    let size = s.nodes in (
      (λ _. graft_made o n is c.args.parts.now.items c.take_classes.new.parts.items built (record { nodes = c.insert.new.self; links = built.links; ends = c.graft_ends.new.ends }) a.0 a.1 g
          (record {
            new = sym c.has.ensures ∙ c.if-has.false;
            nodes = set_node o built n c.insert.new.self (omega arith) c.insert.ensures;
            links = refl;
            ends = c.in_ok-graft_ends.ensures.grafted.0 c.if-branch.true;
          })
          (record {
            nodes = ap length c.insert.ensures ∙ length-set built.nodes n true ∙ s.nodes;
            links = s.links;
            ends = c.graft_ends.ensures.size ∙ s.ends;
          })),
      λ e. absurd (not_both true refl e),
    )

pub returns-else-branch : goal.returns-else-branch
returns-else-branch c =
    let o = c.args.self.now.net.now in
    let is = c.args.steps.now in
    let g = subst (λ z. AreGathered o c.args.self.now.node 0 z c.args.parts.now.items c.take_classes.new.parts.items c.take_classes.new.built) c.as_slice.ensures (c.in_ok-take_classes.ensures.answer.0 c.if-not-branch.false) in (
      (λ e. absurd (not_both false e refl)),
      λ _. ends_lack o c.args.self.now.node is c.args.parts.now.items c.take_classes.new.parts.items c.take_classes.new.built g (c.in_ok-graft_ends.ensures.grafted.1 c.if-branch.false),
    )
