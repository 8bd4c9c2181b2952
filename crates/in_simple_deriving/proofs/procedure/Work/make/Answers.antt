use Rattle.std.proofs.Common.{◌++◌, ◌∷◌, [], length, ◌∙◌, ap}
use Rattle.in_open_nets.specs.declared.derivations.Step.TheVariants.{Graft, Cut, Mix}
use Rattle.in_simple_deriving.proofs.Stacking.{makes_graft, makes_cut, makes_mix, on_both}
use Rattle.in_simple_deriving.proofs.procedure.Work.make.Goals as goal

pub returns-in_ok-classes-in-Graft-clause-made : goal.returns-in_ok-classes-in-Graft-clause-made
returns-in_ok-classes-in-Graft-clause-made c =
    let a = c.args.self.now in
    let f = c.forget in
    let p = c.push-in-Graft in
    on_both p.result _ _ _
    (λ h k. makes_graft c.args.joint c.in-Graft.node c.in-Graft.count a.steps a.roots f.new.self.roots c.in_ok-classes-in-Graft.classes p.new.self.steps p.new.self.roots c.in-Graft.is c.in_ok-classes-in-Graft.ensures f.ensures.roots
    (h ∙ ap (λ z. z ++ Graft c.in-Graft.node c.in_ok-classes-in-Graft.classes ∷ []) f.ensures.steps) (k ∙ ap (λ z. f.new.self.roots ++ length z ∷ []) f.ensures.steps))
    p.ensures.steps p.ensures.roots

pub returns-in-Cut-clause-made : goal.returns-in-Cut-clause-made
returns-in-Cut-clause-made c =
    let a = c.args.self.now in
    let b = c.pop-b in
    let d = c.pop-a in
    let p = c.push-in-Cut in
    let e = d.ensures.steps ∙ b.ensures.steps in
    on_both p.result _ _ _
    (λ h k. makes_cut c.args.joint c.in-Cut.wire a.steps a.roots b.new.self.roots d.new.self.roots p.new.self.steps p.new.self.roots d.result b.result c.in-Cut.is b.ensures.roots d.ensures.roots
    (h ∙ ap (λ z. z ++ Cut c.in-Cut.wire d.result b.result ∷ []) e) (k ∙ ap (λ z. d.new.self.roots ++ length z ∷ []) e))
    p.ensures.steps p.ensures.roots

pub returns-in-Mix-clause-made : goal.returns-in-Mix-clause-made
returns-in-Mix-clause-made c =
    let a = c.args.self.now in
    let b = c.pop-b-in-Mix in
    let d = c.pop-a-in-Mix in
    let p = c.push-in-Mix in
    let e = d.ensures.steps ∙ b.ensures.steps in
    on_both p.result _ _ _
    (λ h k. makes_mix c.args.joint a.steps a.roots b.new.self.roots d.new.self.roots p.new.self.steps p.new.self.roots d.result b.result c.in-Mix.is b.ensures.roots d.ensures.roots
    (h ∙ ap (λ z. z ++ Mix d.result b.result ∷ []) e) (k ∙ ap (λ z. d.new.self.roots ++ length z ∷ []) e))
    p.ensures.steps p.ensures.roots
