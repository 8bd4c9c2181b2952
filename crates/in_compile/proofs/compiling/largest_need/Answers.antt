use Rattle.std.proofs.Common.{◌≡◌, max, length, refl, ap, sym, ◌∙◌, arith}
use Rattle.std.specs.Arc.{arc_value}
use Rattle.std.proofs.lemmas.List.{length-map}
use Rattle.std.proofs.lemmas.Option.{slice_get_read}
use Rattle.in_base.proofs.Places.{to_mapped}
use Rattle.in_compile.specs.declared.cells.Need.{Need}
use Rattle.in_compile.specs.Cells.{count_of}
use Rattle.in_compile.specs.Finding.{listed}
use Rattle.in_compile.specs.Templates.{TemplateParts, cells_needed}
use Rattle.in_compile.proofs.Needs.Most.{one_more, of_all}
use Rattle.in_compile.proofs.compiling.largest_need.Goals as goal

pub loop-number-preserved : goal.loop-number-preserved
loop-number-preserved c = λ d.
    let arcs = c.args.templates.now in
    let a = c.index-templates-number.result in
    let stands = to_mapped arc_value arcs c.loop-number.number a (slice_get_read arcs (length arcs) c.loop-number.number a refl c.loop-number-test.true c.index-templates-number.is) in
    one_more (listed arcs) (cells_needed d) c.loop-number.number (count_of c.loop-number.largest d) (count_of c.or_more-largest.result d) (arc_value a) stands
    (c.or_more-largest.ensures d ∙ ap (λ (z : Need). max (count_of c.loop-number.largest d) (count_of z d)) (c.need.ensures ∙ ap (λ (z : TemplateParts). z.member.need) c.deref.ensures)) (c.loop-number.invariant d)

pub returns : goal.returns
returns c = λ d.
    let arcs = c.args.templates.now in
    let same : c.loop-number.number ≡ length arcs = omega (arith, c.loop-number-test.false, c.loop-number.auto.number-end) in
    of_all (listed arcs) (cells_needed d) c.loop-number.number (count_of c.loop-number.largest d) (same ∙ sym (length-map arcs arc_value)) (c.loop-number.invariant d)
