use Rattle.std.proofs.Common.{◌≡◌, ◌<◌, ◌++◌, ◌∷◌, [], length, ap, ◌∙◌, arith}
use Rattle.std.specs.Prelude.{option_map}
use Rattle.std.proofs.lemmas.Option.{same_Some}
use Rattle.in_base.proofs.Each.{at_index}
use Rattle.in_symbols.specs.declared.symbols.PortType.{PortType}
use Rattle.in_net.specs.declared.nets.FreeEnd.{FreeEnd}
use Rattle.in_compile.proofs.Compiled.Taken.{mapped_more}
use Rattle.in_compile.proofs.members.outputs_of.Goals as goal

pub loop-end-preserved : goal.loop-end-preserved
loop-end-preserved c =
    let n = c.args.net.now in
    let within : c.loop-end.end < length n.free = omega (arith, c.loop-end-test.true, c.free_ends-end-end.ensures) in
    let f = at_index n.free c.loop-end.end within in
    let same : c.free_type.result ≡ f.0.kind = same_Some c.free_type.result f.0.kind (c.free_type.ensures ∙ ap (option_map (λ (f : FreeEnd). f.kind)) f.1) in
    mapped_more (λ (f : FreeEnd). f.kind.output) n.free c.loop-end.end f.0 [] c.loop-end.outputs c.push.new.self f.1 c.loop-end.invariant
    (c.in_ok-push.ensures.ok ∙ ap (λ (t : PortType). c.loop-end.outputs ++ t.output ∷ []) same)
