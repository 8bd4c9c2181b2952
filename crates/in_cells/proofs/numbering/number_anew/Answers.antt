use Rattle.std.proofs.Common.{◌≡◌, ◌+◌, ◌<◌, ◌∙◌, ℕ, List, ap, sym, subst, arith, length, get_or, Some}
use Rattle.std.specs.Prelude.{slice_get}
use Rattle.std.proofs.lemmas.Option.{slice_get-get_or}
use Rattle.in_arena.specs.Arenas.{changed, state_at}
use Rattle.in_arena.specs.States.{with_end}
use Rattle.in_arena.specs.declared.content.End.{End}
use Rattle.in_arena.specs.declared.content.End.TheVariants.{Free}
use Rattle.in_cells.specs.Copying.{number_in}
use Rattle.in_cells.specs.TakingOut.{AreNumberedAnew}
use Rattle.in_cells.specs.TakingOutSteps.{number_below}
use Rattle.in_cells.proofs.Numbered.{all_numbered, none_numbered, none_to_number, one_more_numbered, place_there}
use Rattle.in_cells.proofs.numbering.number_anew.Goals as goal
use Rattle.in_cells.proofs.numbering.number_anew.Goals.{in-Cell, in_default}

-- the word that is read is in the list, and so is its end
read : (ends : List End) (x : ℕ) (word end : End) → x < length ends → word ≡ get_or ends x word → end ≡ word → slice_get ends x ≡ Some end
read ends x word end lt is same = slice_get-get_or ends x word lt ∙ ap (λ e. Some e) (sym is) ∙ ap (λ e. Some e) (sym same)

pub loop-number-init : goal.loop-number-init
loop-number-init c = none_numbered (number_in c.args.numbers.now) c.args.arena.now

pub set_word-requires : goal.set_word-requires
set_word-requires c =
    let x = c.loop-number.number in
    let at = read c.args.ends.now x c.index-ends-number.result c.end.result c.loop-number-test.true c.index-ends-number.is c.end.ensures ∙ ap (λ e. Some e) c.in-Cell.is in
    place_there (number_in c.args.numbers.now) c.args.arena.now c.args.ends.now c.requires.led x c.loop-number.arena c.loop-number.invariant c.in-Cell.cell c.in-Cell.place at

pub loop-number-preserved : goal.loop-number-preserved
loop-number-preserved c =
    let numbers = number_in c.args.numbers.now in
    let x = c.loop-number.number in
    let at = read c.args.ends.now x c.index-ends-number.result c.end.result c.loop-number-test.true c.index-ends-number.is c.end.ensures in
    elim c.match-end.branch [
      | in-Cell w ↦
          one_more_numbered numbers c.args.arena.now c.args.ends.now c.requires.led x c.loop-number.arena c.loop-number.invariant w.in-Cell.cell w.in-Cell.place (at ∙ ap (λ e. Some e) w.in-Cell.is) c.cells.ensures.1 c.match-end.arena
          (w.arena-is ∙ w.set_word.ensures ∙ ap (λ e. changed c.loop-number.arena w.in-Cell.cell.0 (with_end (state_at c.loop-number.arena w.in-Cell.cell.0) w.in-Cell.place e)) (w.free.ensures ∙ ap Free w.from.ensures))
      | in_default w ↦
          subst (λ v. AreNumberedAnew (number_below numbers (x + 1)) c.args.arena.now v) (sym w.arena-is)
          (none_to_number numbers c.args.arena.now c.args.ends.now c.requires.led x c.loop-number.arena c.loop-number.invariant c.end.result at w.in_default.not-Cell)
    ]

pub returns : goal.returns
returns c =
    let x = c.loop-number.number in
    let above = c.loop-number-test.false in
    let within = c.loop-number.auto.number-end in
    let all : x ≡ length c.args.ends.now = omega (arith, above, within) in
    let numbers = number_in c.args.numbers.now in
    all_numbered numbers c.args.arena.now c.args.ends.now c.requires.led c.loop-number.arena (subst (λ k. AreNumberedAnew (number_below numbers k) c.args.arena.now c.loop-number.arena) all c.loop-number.invariant)
