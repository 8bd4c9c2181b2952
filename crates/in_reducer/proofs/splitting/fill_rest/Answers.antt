use Rattle.std.proofs.Common.{rules, ◌≡◌, Some, ◌<◌, ◌+◌, length, ◌∙◌, ap, slice_get, refl, subst, sym}
use Rattle.std.proofs.lemmas.Option.{slice_get-get_or, slice_get_read}
use Rattle.in_cells.specs.Copying.{moved_end, number_in}
use Rattle.in_reducer.specs.Parting.{place_of_two}
use Rattle.in_reducer.specs.Splitting.{ArePicked}
use Rattle.in_reducer.proofs.Picking.{picked_on}
use Rattle.in_reducer.proofs.splitting.fill_rest.Goals as goal

pub loop-number-preserved : goal.loop-number-preserved
loop-number-preserved c =
    let low : c.in_rest-place.result < length c.args.whole.now.free.now = search rules in
    let at : slice_get c.args.whole.now.ends.now c.in_rest-place.result ≡ Some c.index-whole-place.result =
    slice_get_read c.args.whole.now.ends.now (length c.args.whole.now.ends.now) c.in_rest-place.result c.index-whole-place.result refl (search rules) (search rules) in
    record {
      free = subst (λ l. ArePicked (λ x. x) (place_of_two c.args.whole.now.cuts.own 0) (c.loop-number.number + 1) c.args.whole.now.free.now l) (sym c.push_reserved.ensures.items)
          (picked_on (λ x. x) _ c.loop-number.number c.args.whole.now.free.now _ _ _ c.loop-number.invariant.free
          (ap (slice_get c.args.whole.now.free.now) (sym c.in_rest-place.ensures.place) ∙ slice_get-get_or c.args.whole.now.free.now c.in_rest-place.result _ low) refl);
      ends = subst (λ l. ArePicked (moved_end (λ z. z) (number_in c.args.rest.now.numbers.items)) (place_of_two c.args.whole.now.cuts.own 0) (c.loop-number.number + 1) c.args.whole.now.ends.now l) (sym c.push_reserved-in-loop-number.ensures.items)
          (picked_on (moved_end (λ z. z) (number_in c.args.rest.now.numbers.items)) _ c.loop-number.number c.args.whole.now.ends.now _ c.index-whole-place.result _ c.loop-number.invariant.ends
          (ap (slice_get c.args.whole.now.ends.now) (sym c.in_rest-place.ensures.place) ∙ at) (search rules));
      numbers = search rules;
      long_free = search rules;
      long_ends = search rules;
      room_free = search rules;
      room_ends = search rules;
    }
