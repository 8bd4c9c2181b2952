use Rattle.std.proofs.Common.{◌≡◌, ◌+◌, true, false, Option, Some, None, List, length, is_some, slice_get, refl, sym, ap, subst, ◌∙◌}
use Rattle.std.specs.Prelude.{option_and_then}
use Rattle.std.proofs.lemmas.Option.{slice_get_read}
use Rattle.in_base.proofs.Each.{all_at}
use Rattle.in_net.specs.declared.nets.Cell.{Cell}
use Rattle.in_net.specs.Parts.{cell_in}
use Rattle.in_compile.specs.declared.joints.Joint.{Joint}
use Rattle.in_arena.specs.declared.head.NewCell.{NewCell}
use Rattle.in_compile.specs.Storing.{AreLaidBelow}
use Rattle.in_compile.proofs.Compiled.Laid.{one_laid}
use Rattle.in_compile.proofs.Compiled.Narrow.{narrow_ends}
use Rattle.in_compile.proofs.members.add_agents.Goals as goal
use Rattle.in_compile.proofs.members.add_agents.Goals.{in-Some+in_ok-add_agent, in_default}

pub add_agent-requires-clause-narrow : goal.add_agent-requires-clause-narrow
add_agent-requires-clause-narrow c =
    let x = c.loop-number.number in
    let read = slice_get_read c.cells-cells.result.now (length c.cells-cells.result.now) x c.index-cells-number.result refl c.loop-number-test.true c.index-cells-number.is in
    let at : slice_get c.args.net.now.cells x ≡ Some c.index-cells-number.result = sym (ap (λ (z : List (Option Cell)). slice_get z x) c.cells-cells.ensures.cells) ∙ read in
    narrow_ends c.args.net.now c.cells-cells.ensures.whole c.cells-cells.ensures.whole.ends x c.in-Some.cell (at ∙ ap (λ (o : Option Cell). Some o) c.in-Some.is)

pub loop-number-preserved : goal.loop-number-preserved
loop-number-preserved c =
    let t = c.args.symbols.now in
    let n = c.args.net.now in
    let x = c.loop-number.number in
    let read = slice_get_read c.cells-cells.result.now (length c.cells-cells.result.now) x c.index-cells-number.result refl c.loop-number-test.true c.index-cells-number.is in
    let at : slice_get n.cells x ≡ Some c.index-cells-number.result = sym (ap (λ (z : List (Option Cell)). slice_get z x) c.cells-cells.ensures.cells) ∙ read in
    elim c.match-cells-number.branch [
      | in-Some+in_ok-add_agent w ↦
          let stands : slice_get n.cells x ≡ Some (Some w.in-Some.cell) = at ∙ ap (λ (o : Option Cell). Some o) w.in-Some.is in
          let cell : cell_in n x ≡ Some w.in-Some.cell = ap (λ (o : Option (Option Cell)). option_and_then (λ (c : Option Cell). c) o) stands in
          let more = one_laid t n x w.in-Some.cell c.loop-number.agents c.loop-number.joints w.add_agent.new.agents w.add_agent.new.joints stands (c.cells-cells.ensures.whole.ports x w.in-Some.cell cell) c.loop-number.invariant
          (w.in_ok-add_agent.ensures {u = tt}) in
          subst (λ (laid : List NewCell). AreLaidBelow t n (x + 1) laid c.match-cells-number.joints) (sym w.agents-is)
          (subst (λ (js : List Joint). AreLaidBelow t n (x + 1) w.add_agent.new.agents js) (sym w.joints-is) more)
      | in_default w ↦ absurd (let e : false ≡ true = all_at (λ c. is_some c ≡ true) n.cells x None c.requires.there (at ∙ ap (λ (o : Option Cell). Some o) w.in_default.is) in cc)
    ]
