use Rattle.std.proofs.Common.{◌≡◌, ◌<◌, ◌+◌, ℕ, List, length, take, slice_get, sym, ap, subst, ◌∙◌, arith}
use Rattle.std.proofs.lemmas.List.{length-take-le}
use Rattle.in_arena.proofs.Public.{each_amount}
use Rattle.in_arena.specs.Classes.{all_of, each}
use Rattle.in_arena.specs.declared.content.CellNo.{CellNo}
use Rattle.in_arena.specs.declared.content.End.{End}
use Rattle.in_arena.specs.declared.content.End.TheVariants.{Free}
use Rattle.in_cells.specs.Copying.{IsEndWithin, number_in}
use Rattle.in_cells.proofs.Public.{numbered_classed}
use Rattle.in_reducer.specs.Inside.{IsKept, reducer_view}
use Rattle.in_interaction.proofs.Public.{has_value}
use Rattle.in_reducer.specs.Cutting.{net_in}
use Rattle.in_reducer.specs.Limiting.{AreAllowed}
use Rattle.in_reducer.specs.Machines.{AreNumbersBelow, MachineParts}
use Rattle.in_reducer.specs.Parting.{CanSplit, IsSplitOff, place_of_two}
use Rattle.in_reducer.proofs.Cuts.CutOff.{free_many}
use Rattle.in_reducer.proofs.Parts.SplitBefore as before
use Rattle.in_reducer.proofs.Parts.SplitCells as cells
use Rattle.in_reducer.proofs.Parts.SplitKept as kept
use Rattle.in_reducer.proofs.Parts.SplitNets as nets
use Rattle.in_reducer.proofs.Parts.SplitOff.{known, loses, pieces, stay_part}
use Rattle.in_reducer.proofs.Starts.StartNet.{all_free}
use Rattle.in_reducer.proofs.reducer.Reducer.split_off.Goals as goal

-- the first ends of a list
first_ends : (n own cuts : ℕ) (xs ys : List End) → n ≡ own + (cuts + cuts) → xs ≡ ys → take n xs ≡ take (own + (cuts + cuts)) ys
first_ends n own cuts xs ys many e = ap (take n) e ∙ ap (λ (z : ℕ). take z ys) many

pub invariant_of-cuts : goal.invariant_of-cuts
invariant_of-cuts c =
    let m = free_many c.self.inside.body c.self.invariant.all.net in
    let v = ap (λ (m : MachineParts). length m.free) c.self.view_is in
    let many = c.requires.can.many in
    let few = c.self.invariant.all.net.few_free in
    omega (arith, m, v, many, few)

pub slice_bounds-ends-end : goal.slice_bounds-ends-end
slice_bounds-ends-end c =
    let r = c.self.inside.body in
    let k = c.self.invariant.all.net in
    let can = subst (λ (m : MachineParts). CanSplit m c.args.agents.now c.args.own c.args.cuts) (sym c.self.view_is) c.requires.can in
    let whole = before.whole r k c.args.agents.now c.args.own c.args.cuts can in
    let fits = before.fits r k in
    let same = ap length c.as_slice.ensures.value in
    let many = c.ends-all.ensures in
    sym (length-take-le c.ends-all.result c.as_slice.result.now (omega (arith, whole, fits, same, many)))

pub copy-requires-clause-part : goal.copy-requires-clause-part
copy-requires-clause-part c =
    let can = subst (λ (m : MachineParts). CanSplit m c.args.agents.now c.args.own c.args.cuts) (sym c.self.view_is) c.requires.can in
    before.part c.self.inside.body c.self.invariant.all.net c.args.agents.now c.args.own c.args.cuts can

pub copy-requires-clause-closed : goal.copy-requires-clause-closed
copy-requires-clause-closed c =
    let can = subst (λ (m : MachineParts). CanSplit m c.args.agents.now c.args.own c.args.cuts) (sym c.self.view_is) c.requires.can in
    before.closed c.self.inside.body c.self.invariant.all.net c.args.agents.now c.args.own c.args.cuts can
    (length c.as_slice-2.result.now) (ap length c.as_slice-2.ensures.value ∙ c.in_ok-room.ensures.lists.part_numbers.count)

pub copy-requires-clause-room : goal.copy-requires-clause-room
copy-requires-clause-room c =
    let r = c.self.inside.body in
    let can = subst (λ (m : MachineParts). CanSplit m c.args.agents.now c.args.own c.args.cuts) (sym c.self.view_is) c.requires.can in
    let a = c.in_ok-room.room.fresh.arena in
    let fresh = c.in_ok-room.ensures.fresh in
    before.cells_for r c.self.invariant.all.net c.args.agents.now c.args.own c.args.cuts can a c.args.cells (λ d. all_free a (each c.args.cells) fresh.cells fresh.empty r.checked.now.program.tables d ∙ each_amount c.args.cells d) c.requires.fits

pub copy-requires-clause-names : goal.copy-requires-clause-names
copy-requires-clause-names c = λ j n at. (
    let r = c.self.inside.body in
    let k = c.self.invariant.all.net in
    let can = subst (λ (m : MachineParts). CanSplit m c.args.agents.now c.args.own c.args.cuts) (sym c.self.view_is) c.requires.can in
    let below = subst (λ (m : MachineParts). AreNumbersBelow m (length c.args.names.now)) (sym c.self.view_is) c.requires.names in
    let s = has_value ((net_in (reducer_view r)).symbol n.0) (can.there j n at) in
    before.symbol_below r k (length c.args.names.now) below n.0 s.0 s.1
    )

pub number_anew-requires-clause-led : goal.number_anew-requires-clause-led
number_anew-requires-clause-led c =
    let r = c.self.inside.body in
    let can = subst (λ (m : MachineParts). CanSplit m c.args.agents.now c.args.own c.args.cuts) (sym c.self.view_is) c.requires.can in
    before.led r c.self.invariant.all.net c.args.agents.now c.args.own c.args.cuts can
    (take c.ends-all.result c.as_slice.result.now) (first_ends c.ends-all.result c.args.own c.args.cuts c.as_slice.result.now r.ends.items c.ends-all.ensures c.as_slice.ensures.value)

pub number_anew-requires-clause-numbers : goal.number_anew-requires-clause-numbers
number_anew-requires-clause-numbers c =
    let r = c.self.inside.body in
    let k = c.self.invariant.all.net in
    let can = subst (λ (m : MachineParts). CanSplit m c.args.agents.now c.args.own c.args.cuts) (sym c.self.view_is) c.requires.can in
    let whole = before.whole r k c.args.agents.now c.args.own c.args.cuts can in
    let many = before.many_ends r k in
    let same = ap length (first_ends c.ends-all.result c.args.own c.args.cuts c.as_slice.result.now r.ends.items c.ends-all.ensures c.as_slice.ensures.value ∙ ap (λ (z : ℕ). take z r.ends.items) (sym whole)) in
    let numbers = ap length c.as_slice-3.ensures.value in
    let count = c.in_ok-room.ensures.lists.rest_numbers.count in
    omega (arith, whole, many, same, numbers, count)

pub retire_all-requires-clause-part : goal.retire_all-requires-clause-part
retire_all-requires-clause-part c =
    let r = c.self.inside.body in
    let can = subst (λ (m : MachineParts). CanSplit m c.args.agents.now c.args.own c.args.cuts) (sym c.self.view_is) c.requires.can in
    stay_part (number_in c.as_slice-3.result.now) r.arena c.number_anew.new.arena c.args.agents.now c.number_anew.ensures (before.part r c.self.invariant.all.net c.args.agents.now c.args.own c.args.cuts can)

pub retire_all-requires-clause-classed : goal.retire_all-requires-clause-classed
retire_all-requires-clause-classed c =
    let can = subst (λ (m : MachineParts). CanSplit m c.args.agents.now c.args.own c.args.cuts) (sym c.self.view_is) c.requires.can in
    numbered_classed (number_in c.as_slice-3.result.now) c.self.inside.body.arena c.number_anew.new.arena c.number_anew.ensures c.args.agents.now
    (before.classed c.self.inside.body c.self.invariant.all.net c.args.agents.now c.args.own c.args.cuts can)

pub invariant_of-whole-clause-all_free : goal.invariant_of-whole-clause-all_free
invariant_of-whole-clause-all_free c =
    let r = c.self.inside.body in
    let k = c.self.invariant.all.net in
    let can = subst (λ (m : MachineParts). CanSplit m c.args.agents.now c.args.own c.args.cuts) (sym c.self.view_is) c.requires.can in
    let whole = before.whole r k c.args.agents.now c.args.own c.args.cuts can in
    let many = before.many r k in
    let same = ap length c.as_slice-4.ensures.value in
    omega (arith, whole, many, same)

pub invariant_of-whole-clause-all_ends : goal.invariant_of-whole-clause-all_ends
invariant_of-whole-clause-all_ends c =
    let r = c.self.inside.body in
    let k = c.self.invariant.all.net in
    let can = subst (λ (m : MachineParts). CanSplit m c.args.agents.now c.args.own c.args.cuts) (sym c.self.view_is) c.requires.can in
    let whole = before.whole r k c.args.agents.now c.args.own c.args.cuts can in
    let many = before.many_ends r k in
    let same = ap length (first_ends c.ends-all.result c.args.own c.args.cuts c.as_slice.result.now r.ends.items c.ends-all.ensures c.as_slice.ensures.value ∙ ap (λ (z : ℕ). take z r.ends.items) (sym whole)) in
    omega (arith, whole, many, same)

pub fill_rest-requires-clause-within : goal.fill_rest-requires-clause-within
fill_rest-requires-clause-within c = λ j n at. (
    let r = c.self.inside.body in
    let k = c.self.invariant.all.net in
    let can = subst (λ (m : MachineParts). CanSplit m c.args.agents.now c.args.own c.args.cuts) (sym c.self.view_is) c.requires.can in
    let whole = before.whole r k c.args.agents.now c.args.own c.args.cuts can in
    let many = before.many r k in
    let same = first_ends c.ends-all.result c.args.own c.args.cuts c.as_slice.result.now r.ends.items c.ends-all.ensures c.as_slice.ensures.value ∙ ap (λ (z : ℕ). take z r.ends.items) (sym whole) in
    let low : n < length r.free.items = before.end_within r k (length r.arena.states) (before.below_all r k) j (Free n) (ap (λ (zs : List End). slice_get zs j) (sym same) ∙ at) in
    let count = c.in_ok-room.ensures.lists.rest_numbers.count in
    omega (arith, low, whole, many, count)
    )

pub fill_part-requires-clause-within : goal.fill_part-requires-clause-within
fill_part-requires-clause-within c = λ j e at. (
    let r = c.self.inside.body in
    let k = c.self.invariant.all.net in
    let can = subst (λ (m : MachineParts). CanSplit m c.args.agents.now c.args.own c.args.cuts) (sym c.self.view_is) c.requires.can in
    let ns = c.copy.new.names in
    let numbers = c.in_ok-room.room.lists.part.numbers.items in
    let whole = before.whole r k c.args.agents.now c.args.own c.args.cuts can in
    let same = first_ends c.ends-all.result c.args.own c.args.cuts c.as_slice.result.now r.ends.items c.ends-all.ensures c.as_slice.ensures.value ∙ ap (λ (z : ℕ). take z r.ends.items) (sym whole) in
    let below = subst (λ (m : MachineParts). AreNumbersBelow m (length c.args.names.now)) (sym c.self.view_is) c.requires.names in
    let numbered : length numbers ≡ length r.free.items = c.in_ok-room.ensures.lists.part_numbers.count ∙ sym whole ∙ before.many r k in
    subst (λ (z : ℕ). IsEndWithin z (length numbers) e) (sym c.copy.ensures.names) (subst (λ (z : ℕ). IsEndWithin (length c.args.names.now) z e) (sym numbered) (before.end_within r k (length c.args.names.now) below j e (ap (λ (zs : List End). slice_get zs j) (sym same) ∙ at)))
    )

pub split_queue-requires-clause-none : goal.split_queue-requires-clause-none
split_queue-requires-clause-none c =
    let r = c.self.inside.body in
    let can = subst (λ (m : MachineParts). CanSplit m c.args.agents.now c.args.own c.args.cuts) (sym c.self.view_is) c.requires.can in
    let number = number_in c.as_slice-3.result.now in
    cells.rest_none r c.self.invariant.all.net c.args.agents.now c.args.own c.args.cuts can number c.retire_all.new.arena (loses number r.arena c.number_anew.new.arena c.retire_all.new.arena c.args.agents.now c.number_anew.ensures c.retire_all.ensures) c.self.invariant.none

pub split_queue-requires-clause-there : goal.split_queue-requires-clause-there
split_queue-requires-clause-there c = λ j q at. (
    let r = c.self.inside.body in
    let k = c.self.invariant.all.net in
    let h = (before.pair_within r k (length r.arena.states) (before.below_all r k) j q at).0 in
    let many = c.retire_all.ensures.many ∙ c.number_anew.ensures.many in
    omega (arith, h, many)
    )

pub split_queue-requires-clause-names : goal.split_queue-requires-clause-names
split_queue-requires-clause-names c = λ j q at. (
    let below = subst (λ (m : MachineParts). AreNumbersBelow m (length c.args.names.now)) (sym c.self.view_is) c.requires.names in
    let h = before.pair_within c.self.inside.body c.self.invariant.all.net (length c.args.names.now) below j q at in
    let same = c.copy.ensures.names in
    let one = h.0 in
    let two = h.1 in
    (omega (arith, one, same), omega (arith, two, same))
    )

pub split_queue-requires-clause-part : goal.split_queue-requires-clause-part
split_queue-requires-clause-part c =
    let r = c.self.inside.body in
    let k = c.self.invariant.all.net in
    let a = c.args.agents.now in
    let own = c.args.own in
    let cuts = c.args.cuts in
    let can = subst (λ (m : MachineParts). CanSplit m a own cuts) (sym c.self.view_is) c.requires.can in
    let f = c.in_ok-room.room.fresh in
    let l = c.in_ok-room.room.lists in
    let fresh = c.in_ok-room.ensures.fresh in
    let part = c.fill_part.new.part in
    let rest = c.fill_rest.new.rest in
    let x = pieces f l c.args.cells c.copy.new.names c.copy.new.to c.retire_all.new.arena part.free.items rest.free.items part.ends.items rest.ends.items in
    let h =
    known r a own cuts c.args.cells f l fresh c.in_ok-room.ensures.lists c.as_slice-2.result.now c.as_slice-3.result.now c.as_slice-4.result.now (take c.ends-all.result c.as_slice.result.now) c.number_anew.new.arena
    c.copy.new.names c.copy.new.to c.retire_all.new.arena part.free.items rest.free.items part.ends.items rest.ends.items (record {
      is_part = c.as_slice-2.ensures.value;
      is_rest = c.as_slice-3.ensures.value;
      is_free = c.as_slice-4.ensures.value;
      is_ends = first_ends c.ends-all.result own cuts c.as_slice.result.now r.ends.items c.ends-all.ensures c.as_slice.ensures.value;
      copied = c.copy.ensures.copied;
      anew = c.number_anew.ensures;
      retired = c.retire_all.ensures;
      rest_free = c.fill_rest.ensures.free;
      part_free = c.fill_part.ensures.free;
      rest_ends = c.fill_rest.ensures.ends;
      part_ends = c.fill_part.ensures.ends;
    }) in
    (fresh.queue, kept.few_pairs r k a own cuts can x h c.requires.cells (f.queue.room) (let e = fresh.queue_room in omega (arith, e)))

pub invariant_of-self : goal.invariant_of-self
invariant_of-self c =
    let r = c.self.inside.body in
    let k = c.self.invariant.all.net in
    let a = c.args.agents.now in
    let own = c.args.own in
    let cuts = c.args.cuts in
    let can = subst (λ (m : MachineParts). CanSplit m a own cuts) (sym c.self.view_is) c.requires.can in
    let f = c.in_ok-room.room.fresh in
    let l = c.in_ok-room.room.lists in
    let fresh = c.in_ok-room.ensures.fresh in
    let part = c.fill_part.new.part in
    let rest = c.fill_rest.new.rest in
    let x = pieces f l c.args.cells c.copy.new.names c.copy.new.to c.retire_all.new.arena part.free.items rest.free.items part.ends.items rest.ends.items in
    let h =
    known r a own cuts c.args.cells f l fresh c.in_ok-room.ensures.lists c.as_slice-2.result.now c.as_slice-3.result.now c.as_slice-4.result.now (take c.ends-all.result c.as_slice.result.now) c.number_anew.new.arena
    c.copy.new.names c.copy.new.to c.retire_all.new.arena part.free.items rest.free.items part.ends.items rest.ends.items (record {
      is_part = c.as_slice-2.ensures.value;
      is_rest = c.as_slice-3.ensures.value;
      is_free = c.as_slice-4.ensures.value;
      is_ends = first_ends c.ends-all.result own cuts c.as_slice.result.now r.ends.items c.ends-all.ensures c.as_slice.ensures.value;
      copied = c.copy.ensures.copied;
      anew = c.number_anew.ensures;
      retired = c.retire_all.ensures;
      rest_free = c.fill_rest.ensures.free;
      part_free = c.fill_part.ensures.free;
      rest_ends = c.fill_rest.ensures.ends;
      part_ends = c.fill_part.ensures.ends;
    }) in
    let q = c.split_queue.new.queue.items in
    record {
      all = record {
        net = record {
          reducer = kept.rest_reducer r k a own cuts can x h q c.split_queue.ensures.rest;
          net = cells.rest_net r k a own cuts can (number_in x.rest_numbers) x.left h.lost;
          few = subst AreAllowed (sym h.lost.cells) k.few;
          few_free = kept.rest_few r k a own cuts can x h;
          free = kept.picked_own r.checked.now.program (place_of_two own 0) (own + cuts) r.free.items x.rest_free h.rest_free k.free;
          ends = nets.rest_room r k a own cuts can x h;
          queue = (let e = ap all_of h.lost.cells in let l = k.queue in let g = c.split_queue.ensures.rest_room in omega (arith, e, l, g));
        };
        tools = kept.tools_stay r.tools r.arena x.left (cells.rest_alike r k a own cuts can (number_in x.rest_numbers) x.left h.lost) c.self.invariant.all.tools;
      };
      none = cells.rest_none r k a own cuts can (number_in x.rest_numbers) x.left h.lost c.self.invariant.none;
    }

pub invariant_of-result : goal.invariant_of-result
invariant_of-result c =
    let r = c.self.inside.body in
    let k = c.self.invariant.all.net in
    let a = c.args.agents.now in
    let own = c.args.own in
    let cuts = c.args.cuts in
    let can = subst (λ (m : MachineParts). CanSplit m a own cuts) (sym c.self.view_is) c.requires.can in
    let f = c.in_ok-room.room.fresh in
    let l = c.in_ok-room.room.lists in
    let fresh = c.in_ok-room.ensures.fresh in
    let part = c.fill_part.new.part in
    let rest = c.fill_rest.new.rest in
    let x = pieces f l c.args.cells c.copy.new.names c.copy.new.to c.retire_all.new.arena part.free.items rest.free.items part.ends.items rest.ends.items in
    let h =
    known r a own cuts c.args.cells f l fresh c.in_ok-room.ensures.lists c.as_slice-2.result.now c.as_slice-3.result.now c.as_slice-4.result.now (take c.ends-all.result c.as_slice.result.now) c.number_anew.new.arena
    c.copy.new.names c.copy.new.to c.retire_all.new.arena part.free.items rest.free.items part.ends.items rest.ends.items (record {
      is_part = c.as_slice-2.ensures.value;
      is_rest = c.as_slice-3.ensures.value;
      is_free = c.as_slice-4.ensures.value;
      is_ends = first_ends c.ends-all.result own cuts c.as_slice.result.now r.ends.items c.ends-all.ensures c.as_slice.ensures.value;
      copied = c.copy.ensures.copied;
      anew = c.number_anew.ensures;
      retired = c.retire_all.ensures;
      rest_free = c.fill_rest.ensures.free;
      part_free = c.fill_part.ensures.free;
      rest_ends = c.fill_rest.ensures.ends;
      part_ends = c.fill_part.ensures.ends;
    }) in
    let o = c.split_queue.new.part.items in
    subst IsKept (sym c.into_body.ensures) (record {
      all = record {
        net = record {
          reducer = kept.part_reducer r k a own cuts can x h c.requires.cells o c.split_queue.ensures.part;
          net = cells.part_net r k a own cuts can x.numbers x.names x.size x.first x.new h.same h.empty h.copied;
          few = subst AreAllowed (sym (h.copied.cells ∙ h.same)) (kept.each_allowed c.args.cells c.requires.cells);
          few_free = kept.part_few r k a own cuts can x h;
          free = kept.picked_own r.checked.now.program (place_of_two own 1) cuts r.free.items x.part_free h.part_free k.free;
          ends = nets.part_room r k a own cuts can x h;
          queue = (let e = ap all_of h.copied.cells in let same = ap all_of h.same in let l = fresh.queue_room in let g = c.split_queue.ensures.part_room in omega (arith, e, same, l, g));
        };
        tools = kept.tools_stay f.tools f.arena x.new (cells.part_alike r k a own cuts can x.numbers x.names x.size x.first x.new h.same h.empty h.copied) fresh.tools;
      };
      none = cells.part_none r k a own cuts can x.numbers x.names x.size x.first x.new h.same h.empty h.copied;
    })

split_there : (m n rest part other : MachineParts) (agents : List CellNo) (own cuts size : ℕ) → m ≡ n → part ≡ other → IsSplitOff m agents own cuts size rest part → IsSplitOff n agents own cuts size rest other
split_there m n rest part other agents own cuts size same same_part h =
    subst (λ (z : MachineParts). IsSplitOff z agents own cuts size rest other) same (subst (λ (z : MachineParts). IsSplitOff m agents own cuts size rest z) same_part h)

pub returns-clause-split : goal.returns-clause-split
returns-clause-split c =
    let r = c.self.inside.body in
    let k = c.self.invariant.all.net in
    let a = c.args.agents.now in
    let own = c.args.own in
    let cuts = c.args.cuts in
    let can = subst (λ (m : MachineParts). CanSplit m a own cuts) (sym c.self.view_is) c.requires.can in
    let f = c.in_ok-room.room.fresh in
    let l = c.in_ok-room.room.lists in
    let fresh = c.in_ok-room.ensures.fresh in
    let part = c.fill_part.new.part in
    let rest = c.fill_rest.new.rest in
    let x = pieces f l c.args.cells c.copy.new.names c.copy.new.to c.retire_all.new.arena part.free.items rest.free.items part.ends.items rest.ends.items in
    let h =
    known r a own cuts c.args.cells f l fresh c.in_ok-room.ensures.lists c.as_slice-2.result.now c.as_slice-3.result.now c.as_slice-4.result.now (take c.ends-all.result c.as_slice.result.now) c.number_anew.new.arena
    c.copy.new.names c.copy.new.to c.retire_all.new.arena part.free.items rest.free.items part.ends.items rest.ends.items (record {
      is_part = c.as_slice-2.ensures.value;
      is_rest = c.as_slice-3.ensures.value;
      is_free = c.as_slice-4.ensures.value;
      is_ends = first_ends c.ends-all.result own cuts c.as_slice.result.now r.ends.items c.ends-all.ensures c.as_slice.ensures.value;
      copied = c.copy.ensures.copied;
      anew = c.number_anew.ensures;
      retired = c.retire_all.ensures;
      rest_free = c.fill_rest.ensures.free;
      part_free = c.fill_part.ensures.free;
      rest_ends = c.fill_rest.ensures.ends;
      part_ends = c.fill_part.ensures.ends;
    }) in
    let q = c.split_queue.new.queue.items in
    let o = c.split_queue.new.part.items in
    split_there _ _ _ _ _ a own cuts c.args.cells c.self.view_is (sym (ap reducer_view c.into_body.ensures)) (kept.split_off r k a own cuts can x h c.self.invariant.none q o c.split_queue.ensures.rest c.split_queue.ensures.part)
