use Rattle.std.proofs.Common.{◌≡◌, ◌<◌, ◌++◌, ◌∷◌, [], length, sym, ap, ◌∙◌, arith}
use Rattle.std.specs.Prelude.{option_map}
use Rattle.std.proofs.lemmas.Option.{same_Some}
use Rattle.in_base.proofs.Each.{at_index}
use Rattle.in_net.specs.declared.nets.FreeEnd.{FreeEnd}
use Rattle.in_net.specs.declared.nets.Point.TheVariants.{Free}
use Rattle.in_compile.specs.declared.joints.Joint.{Joint}
use Rattle.in_compile.specs.Members.{joint_of}
use Rattle.in_compile.proofs.Compiled.Narrow.{narrow}
use Rattle.in_compile.proofs.Compiled.Taken.{mapped_more}
use Rattle.in_compile.proofs.members.boundary_joints.Goals as goal

pub of-requires : goal.of-requires
of-requires c = narrow c.args.net.now c.requires c.requires.ends (Free c.loop-end.end) c.partner.result c.partner.ensures

pub loop-end-preserved : goal.loop-end-preserved
loop-end-preserved c =
    let n = c.args.net.now in
    let within : c.loop-end.end < length n.free = omega (arith, c.loop-end-test.true, c.free_ends-end-end.ensures) in
    let f = at_index n.free c.loop-end.end within in
    let same : c.partner.result ≡ f.0.end = same_Some c.partner.result f.0.end (sym c.partner.ensures ∙ ap (option_map (λ (f : FreeEnd). f.end)) f.1) in
    let item : c.of-in-loop-end.result ≡ joint_of f.0.end = c.of-in-loop-end.ensures ∙ c.of.ensures ∙ ap joint_of same in
    mapped_more (λ (f : FreeEnd). joint_of f.end) n.free c.loop-end.end f.0 [] c.loop-end.joints c.push.new.self f.1 c.loop-end.invariant
    (c.in_ok-push.ensures.ok ∙ ap (λ (z : Joint). c.loop-end.joints ++ z ∷ []) item)
