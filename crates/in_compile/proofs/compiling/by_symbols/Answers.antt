use Rattle.std.proofs.Common.{◌≡◌, ◌+◌, ◌*◌, ◌<◌, Some, length, refl, sym, ap, subst, ◌∙◌}
use Rattle.std.specs.Arc.{arc_value}
use Rattle.std.proofs.lemmas.List.{length-set}
use Rattle.std.proofs.lemmas.Option.{slice_get_read}
use Rattle.in_base.proofs.Places.{to_mapped}
use Rattle.in_syntax.specs.declared.symbol_no.SymbolNo.{SymbolNo}
use Rattle.in_compile.specs.Finding.{PutsAt, listed}
use Rattle.in_compile.specs.Templates.{TemplateParts}
use Rattle.in_compile.proofs.Compiled.Found.{one_more, within}
use Rattle.in_compile.proofs.compiling.by_symbols.Goals as goal

pub put_at-requires : goal.put_at-requires
put_at-requires c =
    let arcs = c.args.templates.now in
    let t = c.index-templates-number.result in
    let stands = to_mapped arc_value arcs c.loop-number.number t (slice_get_read arcs (length arcs) c.loop-number.number t refl c.loop-number-test.true c.index-templates-number.is) in
    let few = c.requires.small c.loop-number.number (arc_value t) stands in
    let heads : c.heads.result ≡ (arc_value t).heads = c.heads.ensures ∙ ap (λ (z : TemplateParts). z.heads) c.deref.ensures in
    subst (λ (h : SymbolNo × SymbolNo). h.0.0 * c.args.size + h.1.0 < length c.loop-number.found) (sym heads) (within c.args.size _ _ _ few.0 few.1 c.loop-number.invariant.long)

pub put_at-requires-in-loop-number : goal.put_at-requires-in-loop-number
put_at-requires-in-loop-number c =
    let arcs = c.args.templates.now in
    let t = c.index-templates-number.result in
    let stands = to_mapped arc_value arcs c.loop-number.number t (slice_get_read arcs (length arcs) c.loop-number.number t refl c.loop-number-test.true c.index-templates-number.is) in
    let few = c.requires.small c.loop-number.number (arc_value t) stands in
    let heads : c.heads.result ≡ (arc_value t).heads = c.heads.ensures ∙ ap (λ (z : TemplateParts). z.heads) c.deref.ensures in
    let first = c.in_ok-put_at.ensures in
    let long = ap length first.2 ∙ length-set c.loop-number.found (c.heads.result.0.0 * c.args.size + c.heads.result.1.0) (Some first.0) ∙ c.loop-number.invariant.long in
    subst (λ (h : SymbolNo × SymbolNo). h.1.0 * c.args.size + h.0.0 < length c.put_at.new.found) (sym heads) (within c.args.size _ _ _ few.1 few.0 long)

pub loop-number-preserved : goal.loop-number-preserved
loop-number-preserved c =
    let arcs = c.args.templates.now in
    let size = c.args.size in
    let t = c.index-templates-number.result in
    let stands = to_mapped arc_value arcs c.loop-number.number t (slice_get_read arcs (length arcs) c.loop-number.number t refl c.loop-number-test.true c.index-templates-number.is) in
    let heads : c.heads.result ≡ (arc_value t).heads = c.heads.ensures ∙ ap (λ (z : TemplateParts). z.heads) c.deref.ensures in
    let old = c.loop-number.found in
    let mid = c.put_at.new.found in
    let new = c.put_at-in-loop-number.new.found in
    let first = c.in_ok-put_at.ensures in
    let second = c.in_ok-put_at-2.ensures in
    one_more (listed arcs) c.args.numbers.now size c.requires old mid new c.loop-number.number t stands
    (subst (λ (h : SymbolNo × SymbolNo). PutsAt old (h.0.0 * size + h.1.0) t mid) heads first)
    (subst (λ (h : SymbolNo × SymbolNo). PutsAt mid (h.1.0 * size + h.0.0) t new) heads second)
    (ap length first.2 ∙ length-set old (c.heads.result.0.0 * size + c.heads.result.1.0) (Some first.0))
    (ap length second.2 ∙ length-set mid (c.heads.result.1.0 * size + c.heads.result.0.0) (Some second.0))
    c.loop-number.invariant
