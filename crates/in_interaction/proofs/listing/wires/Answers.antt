use Rattle.std.proofs.Common.{◌≡◌, ◌+◌, ℕ, Option, Some, None, List, length, sym, ap, subst, ◌∙◌, arith, refl}
use Rattle.std.specs.Prelude.{option_and_then}
use Rattle.in_interaction.specs.Listing.{unlisted, AreEndsOf, AreListed}
use Rattle.in_interaction.specs.After.{cell_at}
use Rattle.in_net.specs.TextNet.{ComesBefore}
use Rattle.in_net.specs.declared.nets.Cell.{Cell}
use Rattle.in_net.specs.declared.nets.FreeEnd.{FreeEnd}
use Rattle.in_net.specs.declared.nets.Point.TheVariants.{Port, Free}
use Rattle.in_net.specs.declared.nets.Wire.{Wire}
use Rattle.std.proofs.lemmas.Option.{slice_get_read}
use Rattle.in_base.proofs.Places.{some_same}
use Rattle.in_interaction.proofs.Stepping.Wires.{first_agent, next_agent, all_agents, is_many, none_at}
use Rattle.in_interaction.proofs.listing.wires.Goals as goal
use Rattle.in_interaction.proofs.listing.wires.Goals.{in-Some+in_ok-add_wires, in_default}

pub loop-number-init : goal.loop-number-init
loop-number-init c =
    let made = c.in_ok-wires.ensures {u = tt} in
    λ free is. first_agent (unlisted c.args.cells.now free) c.in_ok-wires.wires (subst (λ (k : ℕ). AreListed (unlisted c.args.cells.now free) (λ p. ComesBefore p (Free k)) c.in_ok-wires.wires) (sym (is_many c.args.ends.now free is)) (made (unlisted c.args.cells.now free) is))

pub add_wires-requires : goal.add_wires-requires
add_wires-requires c =
    let read = slice_get_read c.args.cells.now _ c.loop-number.number c.index-cells-number.result refl c.loop-number-test.true c.index-cells-number.is in
    let most = c.requires.ports c.loop-number.number c.in-Some.cell (ap (option_and_then (λ (c : Option Cell). c)) read ∙ c.in-Some.is) in
    let same : length c.as_slice.result.now ≡ length c.in-Some.cell.ends = ap length c.as_slice.ensures in
    omega (arith, most, same)

pub loop-number-preserved : goal.loop-number-preserved
loop-number-preserved c =
    let x = c.loop-number.number in
    let here = slice_get_read c.args.cells.now _ x c.index-cells-number.result refl c.loop-number-test.true c.index-cells-number.is in
    let Kept : List Wire → Type 0 = λ ws. (free : List FreeEnd) → AreEndsOf c.args.ends.now free → AreListed (unlisted c.args.cells.now free) (λ p. ComesBefore p (Port (record { 0 = x + 1 }) 0)) ws in
    elim c.match-cell.branch [
      | in-Some+in_ok-add_wires w ↦
          let there : cell_at c.args.cells.now x ≡ Some w.in-Some.cell = ap (option_and_then (λ (c : Option Cell). c)) here ∙ w.in-Some.is in
          let added = w.in_ok-add_wires.ensures {u = tt} in
          let ends : w.in-Some.cell.ends ≡ w.as_slice.result.now = sym w.as_slice.ensures in
          let same : length w.in-Some.cell.ends ≡ length w.as_slice.result.now = ap length ends in
          subst Kept (sym w.wires-is) (λ free is.
          next_agent (unlisted c.args.cells.now free) x (length w.as_slice.result.now) w.add_wires.new.wires
          (λ d e. let z : length d.ends ≡ length w.in-Some.cell.ends = ap (λ (c : Cell). length c.ends) (some_same (cell_at c.args.cells.now x) d w.in-Some.cell e there) in omega (arith, z, same))
          (added (unlisted c.args.cells.now free) w.in-Some.cell there ends (c.loop-number.invariant free is)))
      | in_default w ↦
          let none : c.index-cells-number.result ≡ None = w.in_default.is in
          subst Kept (sym w.wires-is) (λ free is. next_agent (unlisted c.args.cells.now free) x 0 c.loop-number.wires (λ d e. none_at c.args.cells.now x d (here ∙ ap Some none) e) (c.loop-number.invariant free is))
    ]

pub returns : goal.returns
returns c = λ free is. all_agents (unlisted c.args.cells.now free) c.loop-number.number c.loop-number.wires c.loop-number-test.false (c.loop-number.invariant free is)
