use Rattle.std.proofs.Common.{◌≡◌, max, length, refl, ap, sym, ◌∙◌, arith, rules}
use Rattle.std.specs.Arc.{arc_value}
use Rattle.std.proofs.lemmas.List.{length-map}
use Rattle.std.proofs.lemmas.Option.{slice_get_read}
use Rattle.in_base.proofs.Places.{to_mapped}
use Rattle.in_compile.specs.Finding.{listed}
use Rattle.in_compile.specs.Templates.{agents_of}
use Rattle.in_compile.proofs.Needs.Most.{one_more, of_all}
use Rattle.in_compile.proofs.compiling.most_agents.Goals as goal

pub loop-number-preserved : goal.loop-number-preserved
loop-number-preserved c =
    let arcs = c.args.templates.now in
    let a = c.index-templates-number.result in
    let stands = to_mapped arc_value arcs c.loop-number.number a (slice_get_read arcs (length arcs) c.loop-number.number a refl c.loop-number-test.true c.index-templates-number.is) in
    let greater : c.max-most.result ≡ max c.loop-number.most c.agents.result = (let k = c.max-most.ensures in search rules) in
    one_more (listed arcs) agents_of c.loop-number.number c.loop-number.most c.max-most.result (arc_value a) stands
    (greater ∙ ap (max c.loop-number.most) (c.agents.ensures ∙ ap agents_of c.deref.ensures)) c.loop-number.invariant

pub returns : goal.returns
returns c =
    let arcs = c.args.templates.now in
    let same : c.loop-number.number ≡ length arcs = omega (arith, c.loop-number-test.false, c.loop-number.auto.number-end) in
    of_all (listed arcs) agents_of c.loop-number.number c.loop-number.most (same ∙ sym (length-map arcs arc_value)) c.loop-number.invariant
