use Rattle.std.proofs.Common.{sym, ap, subst, ◌∙◌, arith}
use Rattle.std.specs.Prelude.{◌↔◌, IsTrue}
use Rattle.in_compile.specs.declared.cells.Need.{Need}
use Rattle.in_compile.specs.Cells.{count_of}
use Rattle.in_reducer.specs.Inside.{reducer_view}
use Rattle.in_reducer.specs.Machines.{MachineParts}
use Rattle.in_reducer.specs.Taking.{HasRoomBesides}
use Rattle.in_reducer.specs.Templates.{IsTemplateAt}
use Rattle.in_reducer.proofs.Steps.Stepped as stepped
use Rattle.in_reducer.proofs.reducer.Reducer.fits_besides.Goals as goal

pub returns : goal.returns
returns c =
    let r = c.self.inside.body in
    let kept = c.self.invariant in
    let i = c.args.number in
    let p = c.args.template.now in
    let at = subst (λ (m : MachineParts). IsTemplateAt m i p) (sym c.self.view_is) c.requires in
    let forth : IsTrue c.has_besides.result → HasRoomBesides (reducer_view r) i c.args.floor = λ e. (
      c.need.result,
      record { pair = at.pair; stands = at.stands; number = at.number; rule = at.rule; is_rule = at.is_rule; is_need = λ d. ap (λ (n : Need). count_of n d) c.need.ensures ∙ at.template.member.need d },
      λ d. (let l = c.has_besides.ensures.0 e d in let v = c.free_in.ensures d in let s = stepped.free_at_rest r kept.all.net i p at kept.none d in omega (arith, l, v, s)),
    ) in
    let back : HasRoomBesides (reducer_view r) i c.args.floor → IsTrue c.has_besides.result = λ there. c.has_besides.ensures.1 (λ d. (
    let l = there.2 d in
    let a = stepped.same_need r kept.all.net i p at there.0 there.1 d in
    let n = ap (λ (n : Need). count_of n d) c.need.ensures in
    let v = c.free_in.ensures d in
    let s = stepped.free_at_rest r kept.all.net i p at kept.none d in
    omega (arith, l, a, n, v, s)
    )) in
    subst (λ (m : MachineParts). IsTrue c.has_besides.result ↔ HasRoomBesides m i c.args.floor) c.self.view_is (forth, back)
