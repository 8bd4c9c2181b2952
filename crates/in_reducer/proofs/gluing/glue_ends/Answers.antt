use Rattle.std.proofs.Common.{◌-◌, ◌++◌, List, length, map, take, drop, refl, sym, ap, subst, ◌∙◌, length-drop, arith}
use Rattle.std.proofs.lemmas.List.{length-map, length-take-le, take_all}
use Rattle.in_arena.specs.declared.content.End.{End}
use Rattle.in_cells.specs.Copying.{moved_end, name_in, number_in}
use Rattle.in_reducer.specs.Gluing.{IsFreeWithin, in_turn}
use Rattle.in_reducer.proofs.Parts.Together.{all_drop, all_take, within_both}
use Rattle.in_reducer.proofs.Parts.Turns.{glued_by, length-glued, mapped_turn_done}
use Rattle.in_reducer.proofs.gluing.glue_ends.Goals as goal

pub moved_end-requires : goal.moved_end-requires
moved_end-requires c =
    let h = c.args.halves.now in
    within_both _ _ _ (h.part_cells c.loop-cut.cut _ (omega arith)) (h.part_free c.loop-cut.cut _ (omega arith))

pub numbered_end-requires-in-loop-cut : goal.numbered_end-requires-in-loop-cut
numbered_end-requires-in-loop-cut c =
    let h = c.args.halves.now in
    let own = length h.rest.now - length h.part.now in
    let within = IsFreeWithin (length h.rest_numbers.now) in
    let fewer = h.fewer in
    let dropped = length-drop own h.rest.now in
    let long = length-take-le (length h.rest.now - own) (drop own h.rest.now) (omega (arith, dropped)) in
    subst within (sym c.index-of_cuts-cut.is) (all_take within (length h.rest.now - own) (drop own h.rest.now) (all_drop within own h.rest.now h.rest_free) c.loop-cut.cut c.index-of_cuts-cut.result (omega (arith, long, fewer)))

pub loop-cut-preserved : goal.loop-cut-preserved
loop-cut-preserved c =
    let h = c.args.halves.now in
    let own = length h.rest.now - length h.part.now in
    let fewer = h.fewer in
    let dropped = length-drop own h.rest.now in
    let long = length-take-le (length h.rest.now - own) (drop own h.rest.now) (omega (arith, dropped)) in
    record {
      items = mapped_turn_done (moved_end (name_in h.names.now) (number_in h.part_numbers.now)) (moved_end (λ z. z) (number_in h.rest_numbers.now)) _ _ _ _ h.part.now (take (length h.rest.now - own) (drop own h.rest.now)) c.loop-cut.cut _ _ _ _ (omega arith) (omega (arith, long, fewer))
          c.loop-cut.invariant.items c.push_reserved-in-loop-cut.ensures.items c.moved_end.ensures c.push_reserved-in-loop-cut-2.ensures.items (c.numbered_end-in-loop-cut.ensures ∙ ap (moved_end (λ z. z) (number_in h.rest_numbers.now)) c.index-of_cuts-cut.is);
      long = omega arith;
      capacity = omega arith;
    }

pub returns-clause-items : goal.returns-clause-items
returns-clause-items c = λ own is. (
    let h = c.args.halves.now in
    let f = moved_end (λ z. z) (number_in h.rest_numbers.now) in
    let g = moved_end (name_in h.names.now) (number_in h.part_numbers.now) in
    let k = length h.rest.now - length h.part.now in
    let of_cuts = take (length h.rest.now - k) (drop k h.rest.now) in
    let first = c.args.ends.now.items ++ map f (take k h.rest.now) in
    let cut = c.loop-cut.cut in
    let fewer = h.fewer in
    let dropped = length-drop k h.rest.now in
    let long = length-take-le (length h.rest.now - k) (drop k h.rest.now) (omega (arith, dropped)) in
    glued_by g f c.args.ends.now.items first c.loop-cut.ends.items h.part.now h.rest.now k own (omega (arith, is)) c.requires.0 refl
    (c.loop-cut.invariant.items ∙ ap (λ (ys : List End). first ++ in_turn (map g ys) (map f (take cut of_cuts))) (take_all cut h.part.now (omega arith)) ∙ ap (λ (xs : List End). first ++ in_turn (map g h.part.now) (map f xs)) (take_all cut of_cuts (omega (arith, long, fewer))))
    )

pub returns-clause-many : goal.returns-clause-many
returns-clause-many c =
    let h = c.args.halves.now in
    let f = moved_end (λ z. z) (number_in h.rest_numbers.now) in
    let g = moved_end (name_in h.names.now) (number_in h.part_numbers.now) in
    let own = length h.rest.now - length h.part.now in
    let fewer = h.fewer in
    let a = length-map h.rest.now f in
    let b = length-map h.part.now g in
    let d = ap length (returns-clause-items c own (omega (arith, fewer))) in
    let e = length-glued own (map f h.rest.now) (map g h.part.now) (omega (arith, a, b, fewer)) in
    let ok = c.loop-cut.ends.ok.0 in
    omega (arith, a, b, d, e, ok)
