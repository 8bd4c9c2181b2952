use Rattle.std.proofs.Common.{◌≡◌, Bool, true, false, refl, sym, ap, subst, ◌∙◌, arith}
use Rattle.std.specs.Prelude.{◌↔◌, IsTrue, not}
use Rattle.in_arena.specs.Arenas.{ArenaView, free_of}
use Rattle.in_compile.specs.declared.cells.Need.{Need}
use Rattle.in_compile.specs.Cells.{count_of}
use Rattle.in_reducer.specs.Inside.{reducer_view}
use Rattle.in_reducer.specs.Machines.{MachineParts}
use Rattle.in_reducer.specs.Standing.{at_rest}
use Rattle.in_reducer.specs.Steps.{HasRoomAt}
use Rattle.in_reducer.specs.Templates.{IsTemplateAt}
use Rattle.in_reducer.proofs.Cells.AtRest.{rests}
use Rattle.in_reducer.proofs.Cells.Short.{enough_if, short_if}
use Rattle.in_reducer.proofs.Steps.Stepped as stepped
use Rattle.in_reducer.proofs.reducer.Reducer.fits.Goals as goal

true_if : (b : Bool) → (b ≡ false → ⊥) → b ≡ true
true_if true h = refl
true_if false h = absurd (h refl)

pub returns : goal.returns
returns c =
    let r = c.self.inside.body in
    let kept = c.self.invariant in
    let i = c.args.number in
    let at = subst (λ (m : MachineParts). IsTemplateAt m i c.args.template.now) (sym c.self.view_is) c.requires in
    let room : c.is_none.result ≡ true → HasRoomAt (reducer_view r) i = λ e. (
    let enough = enough_if c.first_short-short.result c.need-need.result c.free_in.result c.first_short-short.ensures (c.is_none.ensures ∙ ap not e) in (
      c.need-need.result,
      record { pair = at.pair; stands = at.stands; number = at.number; rule = at.rule; is_rule = at.is_rule; is_need = λ d. ap (λ (n : Need). count_of n d) c.need-need.ensures ∙ at.template.member.need d },
      λ d. (
          let l = enough d in
          let v = c.free_in.ensures d in
          let s = stepped.free_is (at_rest r.arena) d ∙ ap (λ (a : ArenaView). free_of a d) (rests r.arena kept.none) in
          omega (arith, l, v, s)
          ),
    )
    ) in
    let none : c.is_none.result ≡ false → HasRoomAt (reducer_view r) i → ⊥ = λ e there. (
    let short = short_if c.first_short-short.result c.need-need.result c.free_in.result c.first_short-short.ensures (c.is_none.ensures ∙ ap not e) in
    let enough = stepped.enough r kept.all.net i c.args.template.now at kept.none there short.0 in
    let v = c.free_in.ensures short.0 in
    let n = ap (λ (n : Need). count_of n short.0) c.need-need.ensures in
    let s = short.1.0 in
    omega (arith, enough, v, n, s)
    ) in
    subst (λ (m : MachineParts). IsTrue c.is_none.result ↔ HasRoomAt m i) c.self.view_is (room, λ there. true_if c.is_none.result (λ e. none e there))
