use Rattle.std.proofs.Common.{◌≡◌, ◌≤◌, ◌+◌, ◌-◌, ◌*◌, ◌++◌, ℕ, List, length, slice_get, map, take, refl, sym, ap, subst, ◌∙◌, arith}
use Rattle.std.specs.Prelude.{All}
use Rattle.std.proofs.lemmas.List.{length-take-le}
use Rattle.in_arena.proofs.Public.{live_inside}
use Rattle.in_arena.specs.Classes.{all_of, classes}
use Rattle.in_arena.specs.declared.content.CellNo.{CellNo}
use Rattle.in_arena.specs.declared.content.End.{End}
use Rattle.in_interaction.specs.Queues.{both}
use Rattle.in_cells.specs.Copying.{AreClosed, HasCellsFor, IsCopied, moved_end, name_in, number_in}
use Rattle.in_cells.specs.TakingOut.{AreLedTo, AreNumberedAnew}
use Rattle.in_reducer.specs.Limiting.{AreAllowed}
use Rattle.in_reducer.specs.declared.body.Body.{Body}
use Rattle.in_reducer.specs.declared.body.OwnEnd.{OwnEnd}
use Rattle.in_reducer.specs.Gluing.{IsCellWithin, IsFreeWithin, glued}
use Rattle.in_reducer.specs.Inside.{KeepsNet, reducer_view}
use Rattle.in_reducer.proofs.Parts.Glued as glue
use Rattle.in_reducer.proofs.Parts.GluedOn.{glued_there, known, names_fit}
use Rattle.in_reducer.proofs.Parts.Together as together
use Rattle.in_reducer.proofs.Steps.StillNet as still
use Rattle.in_reducer.proofs.reducer.Reducer.glue_on.Goals as goal

-- the list glued from slices is that glued from the lists
is_glued : (r o : Body) (own cuts : ℕ) → length r.free.items ≡ own + cuts → length o.free.items ≡ cuts → (rest part new : List OwnEnd) → rest ≡ r.free.items → part ≡ o.free.items →
    ((n : ℕ) → length rest ≡ n + length part → new ≡ glued n rest part) → new ≡ glued own r.free.items o.free.items
is_glued r o own cuts many_rest many_part rest part new of_rest of_part h =
    h own (ap length of_rest ∙ many_rest ∙ ap (λ (z : ℕ). own + z) (sym many_part ∙ sym (ap length of_part))) ∙ (λ i. glued own (of_rest i) (of_part i))

are_glued : (r o : Body) → KeepsNet r → KeepsNet o → (own cuts : ℕ) → length r.free.items ≡ own + cuts → length o.free.items ≡ cuts → (rest_numbers part_numbers : List ℕ) (names : List CellNo) (rest part : List End) (of_rest of_part : List ℕ) (named : List CellNo) (ends sides list : List End) →
    rest ≡ r.ends.items → part ≡ o.ends.items → of_rest ≡ rest_numbers → of_part ≡ part_numbers → named ≡ names →
    ((n : ℕ) → length (take (own + cuts) rest) ≡ n + length (take cuts part) → ends ≡ glued n (map (moved_end (λ z. z) (number_in of_rest)) (take (own + cuts) rest)) (map (moved_end (name_in named) (number_in of_part)) (take cuts part))) →
    list ≡ ends ++ sides →
    list ≡ glued own (map (moved_end (λ z. z) (number_in rest_numbers)) (take (own + cuts) r.ends.items)) (map (moved_end (name_in names) (number_in part_numbers)) (take cuts o.ends.items)) ++ sides
are_glued r o k l own cuts many_rest many_part rest_numbers part_numbers names rest part of_rest of_part named ends sides list is_rest is_part is_of_rest is_of_part is_named h is_list =
    is_list ∙ ap (λ zs. zs ++ sides)
    (h own (
    let e = ap length is_rest in let f = ap length is_part in let g = k.ends in let i = l.ends in
    let a = length-take-le (own + cuts) rest (let j = many_rest in omega (arith, e, g, j)) in let b = length-take-le cuts part (let j = many_part in omega (arith, f, i, j)) in
    omega (arith, a, b)
    )
    ∙ (λ i. glued own (map (moved_end (λ z. z) (number_in (is_of_rest i))) (take (own + cuts) (is_rest i))) (map (moved_end (name_in (is_named i)) (number_in (is_of_part i))) (take cuts (is_part i)))))

pub invariant_of-cuts : goal.invariant_of-cuts
invariant_of-cuts c =
    let x = c.args.seam in
    let w = c.free_ends.ensures in
    let p = c.free_ends-count.ensures in
    let fewer = c.requires.fewer in
    let ends = c.requires.ends in
    let few = x.few_free in
    omega (arith, w, p, fewer, ends, few)

pub list_rest_numbers-requires : goal.list_rest_numbers-requires
list_rest_numbers-requires c =
    let x = c.args.seam in
    let w = c.free_ends.ensures in
    let p = c.free_ends-count.ensures in
    let fewer = c.requires.fewer in
    let ends = c.requires.ends in
    let room = x.rest_room.1 in
    (x.rest_room.0, omega (arith, w, p, fewer, ends, room))

pub list_part_numbers-requires : goal.list_part_numbers-requires
list_part_numbers-requires c =
    let x = c.args.seam in
    let w = c.free_ends.ensures in
    let p = c.free_ends-count.ensures in
    let ends = c.requires.ends in
    let room = x.part_room.1 in
    (x.part_room.0, omega (arith, w, p, ends, room))

pub list_live-requires-clause-cells : goal.list_live-requires-clause-cells
list_live-requires-clause-cells c =
    let x = c.args.seam in
    let fits = names_fit c.part.inside.body c.part.invariant.all.net c.args.part.now c.part.view_is x.cells (length classes * x.cells) c.requires.cells (omega arith) in
    let room = x.agents_room.1 in
    (x.agents_room.0, omega (arith, fits, room))

pub copy-requires-clause-names : goal.copy-requires-clause-names
copy-requires-clause-names c = λ j n at. (
    let o = c.part.inside.body in
    let fits = names_fit o c.part.invariant.all.net c.args.part.now c.part.view_is c.args.seam.cells (length c.args.names.now) c.requires.cells c.requires.names in
    let live = c.list_live.ensures.part.live j n (ap (λ (ns : List CellNo). slice_get ns j) (sym c.as_slice-3.ensures.value) ∙ at) in
    let low = live_inside o.arena n.0 live in
    omega (arith, low, fits)
    )

pub slice_bounds-of_rest-end : goal.slice_bounds-of_rest-end
slice_bounds-of_rest-end c =
    let r = c.self.inside.body in
    let o = c.part.inside.body in
    let k = c.self.invariant.all.net in
    let l = c.part.invariant.all.net in
    let cuts = c.free_ends-count.result in
    let own = c.free_ends.result - cuts in
    let apart = known r o k l c.args.self.now c.args.part.now c.self.view_is c.part.view_is c.free_ends.result cuts c.free_ends.ensures c.free_ends-count.ensures c.requires.fewer c.requires.can in
    let e = k.ends in
    let f = ap length c.as_slice.ensures.value in
    sym (length-take-le (own + cuts) c.as_slice.result.now (omega (arith, e, f, apart.rest)))

pub number_anew-requires-clause-led : goal.number_anew-requires-clause-led
number_anew-requires-clause-led c =
    let r = c.self.inside.body in
    let o = c.part.inside.body in
    let k = c.self.invariant.all.net in
    let l = c.part.invariant.all.net in
    let cuts = c.free_ends-count.result in
    let own = c.free_ends.result - cuts in
    let apart = known r o k l c.args.self.now c.args.part.now c.self.view_is c.part.view_is c.free_ends.result cuts c.free_ends.ensures c.free_ends-count.ensures c.requires.fewer c.requires.can in
    subst (λ (z : List End). AreLedTo r.arena (take (own + cuts) z)) (sym c.as_slice.ensures.value) (glue.are_led_to r c.self.invariant.all.net (own + cuts) (sym apart.rest))

pub copy-requires-clause-closed : goal.copy-requires-clause-closed
copy-requires-clause-closed c =
    let r = c.self.inside.body in
    let o = c.part.inside.body in
    let k = c.self.invariant.all.net in
    let l = c.part.invariant.all.net in
    let cuts = c.free_ends-count.result in
    let apart = known r o k l c.args.self.now c.args.part.now c.self.view_is c.part.view_is c.free_ends.result cuts c.free_ends.ensures c.free_ends-count.ensures c.requires.fewer c.requires.can in
    subst (λ (z : List CellNo). AreClosed o.arena z (length c.as_slice-4.result.now)) (sym c.as_slice-3.ensures.value)
    (together.closed r o k l apart.can c.list_live.new.cells.items c.list_live.ensures (length c.as_slice-4.result.now) (ap length c.as_slice-4.ensures.value ∙ c.list_part_numbers.ensures.many ∙ sym apart.part))

pub copy-requires-clause-room : goal.copy-requires-clause-room
copy-requires-clause-room c =
    let r = c.self.inside.body in
    let o = c.part.inside.body in
    let k = c.self.invariant.all.net in
    let l = c.part.invariant.all.net in
    let cuts = c.free_ends-count.result in
    let apart = known r o k l c.args.self.now c.args.part.now c.self.view_is c.part.view_is c.free_ends.result cuts c.free_ends.ensures c.free_ends-count.ensures c.requires.fewer c.requires.can in
    let enough : HasCellsFor o.arena c.list_live.new.cells.items r.arena = together.room r o k l apart.can c.list_live.new.cells.items c.list_live.ensures c.self.invariant.none in
    subst (λ (z : List CellNo). HasCellsFor o.arena z c.number_anew.new.arena) (sym c.as_slice-3.ensures.value) (λ d. (let e = enough d in let f = c.number_anew.ensures.free d in omega (arith, e, f)))

pub glue_free-requires-clause-fewer : goal.glue_free-requires-clause-fewer
glue_free-requires-clause-fewer c =
    let r = c.self.inside.body in
    let o = c.part.inside.body in
    let k = c.self.invariant.all.net in
    let l = c.part.invariant.all.net in
    let cuts = c.free_ends-count.result in
    let apart = known r o k l c.args.self.now c.args.part.now c.self.view_is c.part.view_is c.free_ends.result cuts c.free_ends.ensures c.free_ends-count.ensures c.requires.fewer c.requires.can in
    let e = ap length c.as_slice-5.ensures.value in
    let f = ap length c.as_slice-6.ensures.value in
    omega (arith, e, f, apart.rest, apart.part)

pub glue_free-requires-clause-free : goal.glue_free-requires-clause-free
glue_free-requires-clause-free c =
    let r = c.self.inside.body in
    let o = c.part.inside.body in
    let k = c.self.invariant.all.net in
    let l = c.part.invariant.all.net in
    let cuts = c.free_ends-count.result in
    let apart = known r o k l c.args.self.now c.args.part.now c.self.view_is c.part.view_is c.free_ends.result cuts c.free_ends.ensures c.free_ends-count.ensures c.requires.fewer c.requires.can in
    let e = ap length c.as_slice-5.ensures.value in
    let f = ap length c.as_slice-6.ensures.value in
    let x = c.args.seam in
    let room = x.free_room.1 in
    let w = c.free_ends.ensures in
    let p = c.free_ends-count.ensures in
    let fits = c.requires.ends in
    (x.free_room.0, omega (arith, e, f, apart.rest, apart.part, room, w, p, fits))

pub slice_bounds-halves-end : goal.slice_bounds-halves-end
slice_bounds-halves-end c =
    let r = c.self.inside.body in
    let o = c.part.inside.body in
    let k = c.self.invariant.all.net in
    let l = c.part.invariant.all.net in
    let cuts = c.free_ends-count.result in
    let apart = known r o k l c.args.self.now c.args.part.now c.self.view_is c.part.view_is c.free_ends.result cuts c.free_ends.ensures c.free_ends-count.ensures c.requires.fewer c.requires.can in
    let e = l.ends in
    let f = ap length c.as_slice-8.ensures.value in
    sym (length-take-le cuts c.as_slice-8.result.now (omega (arith, e, f, apart.part)))

pub invariant_of-halves-clause-fewer : goal.invariant_of-halves-clause-fewer
invariant_of-halves-clause-fewer c =
    let r = c.self.inside.body in
    let o = c.part.inside.body in
    let k = c.self.invariant.all.net in
    let l = c.part.invariant.all.net in
    let cuts = c.free_ends-count.result in
    let own = c.free_ends.result - cuts in
    let apart = known r o k l c.args.self.now c.args.part.now c.self.view_is c.part.view_is c.free_ends.result cuts c.free_ends.ensures c.free_ends-count.ensures c.requires.fewer c.requires.can in
    let e = l.ends in
    let f = ap length c.as_slice-8.ensures.value in
    let a = length-take-le cuts c.as_slice-8.result.now (omega (arith, e, f, apart.part)) in
    let g = k.ends in
    let h = ap length c.as_slice.ensures.value in
    let b = length-take-le (own + cuts) c.as_slice.result.now (omega (arith, g, h, apart.rest)) in
    omega (arith, a, b)

pub invariant_of-halves-clause-part_cells : goal.invariant_of-halves-clause-part_cells
invariant_of-halves-clause-part_cells c =
    let r = c.self.inside.body in
    let o = c.part.inside.body in
    let k = c.self.invariant.all.net in
    let l = c.part.invariant.all.net in
    let cuts = c.free_ends-count.result in
    let apart = known r o k l c.args.self.now c.args.part.now c.self.view_is c.part.view_is c.free_ends.result cuts c.free_ends.ensures c.free_ends-count.ensures c.requires.fewer c.requires.can in
    let names : length o.arena.states ≤ length c.copy.new.names = (let e = names_fit o l c.args.part.now c.part.view_is c.args.seam.cells (length c.args.names.now) c.requires.cells c.requires.names in let f = c.copy.ensures.names in omega (arith, e, f)) in
    subst (λ (z : List End). All (IsCellWithin (length c.copy.new.names)) (take cuts z)) (sym c.as_slice-8.ensures.value) (together.all_cells_within o l (length c.copy.new.names) cuts names (sym apart.part))

pub invariant_of-halves-clause-part_free : goal.invariant_of-halves-clause-part_free
invariant_of-halves-clause-part_free c =
    let r = c.self.inside.body in
    let o = c.part.inside.body in
    let k = c.self.invariant.all.net in
    let l = c.part.invariant.all.net in
    let cuts = c.free_ends-count.result in
    let apart = known r o k l c.args.self.now c.args.part.now c.self.view_is c.part.view_is c.free_ends.result cuts c.free_ends.ensures c.free_ends-count.ensures c.requires.fewer c.requires.can in
    subst (λ (z : List End). All (IsFreeWithin (length c.as_slice-7.result.now)) (take cuts z)) (sym c.as_slice-8.ensures.value)
    (subst (λ (z : ℕ). All (IsFreeWithin z) (take cuts o.ends.items)) (sym (ap length c.as_slice-7.ensures.value ∙ c.list_part_numbers.ensures.many)) (together.all_free_within o l cuts (sym apart.part)))

pub invariant_of-halves-clause-rest_free : goal.invariant_of-halves-clause-rest_free
invariant_of-halves-clause-rest_free c =
    let r = c.self.inside.body in
    let o = c.part.inside.body in
    let k = c.self.invariant.all.net in
    let l = c.part.invariant.all.net in
    let cuts = c.free_ends-count.result in
    let own = c.free_ends.result - cuts in
    let apart = known r o k l c.args.self.now c.args.part.now c.self.view_is c.part.view_is c.free_ends.result cuts c.free_ends.ensures c.free_ends-count.ensures c.requires.fewer c.requires.can in
    subst (λ (z : List End). All (IsFreeWithin (length c.as_slice-9.result.now)) (take (own + cuts) z)) (sym c.as_slice.ensures.value)
    (subst (λ (z : ℕ). All (IsFreeWithin z) (take (own + cuts) r.ends.items)) (sym (ap length c.as_slice-9.ensures.value ∙ c.list_rest_numbers.ensures.many)) (together.all_free_within r k (own + cuts) (sym apart.rest)))

pub add_pairs-requires-clause-within : goal.add_pairs-requires-clause-within
add_pairs-requires-clause-within c =
    let o = c.part.inside.body in
    let l = c.part.invariant.all.net in
    let names : length o.arena.states ≤ length c.copy.new.names = (let e = names_fit o l c.args.part.now c.part.view_is c.args.seam.cells (length c.args.names.now) c.requires.cells c.requires.names in let f = c.copy.ensures.names in omega (arith, e, f)) in
    λ j q at. (
    let h = together.pair_within o l j q at in
    let one = h.0 in
    let two = h.1 in
    (omega (arith, one, names), omega (arith, two, names))
    )

pub add_pairs-requires-clause-room : goal.add_pairs-requires-clause-room
add_pairs-requires-clause-room c =
    let r = c.self.inside.body in
    let o = c.part.inside.body in
    let k = c.self.invariant.all.net in
    let l = c.part.invariant.all.net in
    let cuts = c.free_ends-count.result in
    let own = c.free_ends.result - cuts in
    let apart = known r o k l c.args.self.now c.args.part.now c.self.view_is c.part.view_is c.free_ends.result cuts c.free_ends.ensures c.free_ends-count.ensures c.requires.fewer c.requires.can in
    let ns = c.copy.new.names in
    let agents = c.list_live.new.cells.items in
    let live = c.list_live.ensures in
    let rest_numbers = c.list_rest_numbers.new.numbers.items in
    let part_numbers = c.list_part_numbers.new.numbers.items in
    let each_rest = c.list_rest_numbers.ensures.each in
    let each_part = c.list_part_numbers.ensures.each in
    let a = c.number_anew.new.arena in
    let anew : AreNumberedAnew (number_in rest_numbers) r.arena a = subst (λ (z : List ℕ). AreNumberedAnew (number_in z) r.arena a) c.as_slice-2.ensures.value c.number_anew.ensures in
    let b = c.copy.new.to in
    let copied : IsCopied o.arena agents part_numbers ns a b = subst (λ (z : List ℕ). IsCopied o.arena agents z ns a b) c.as_slice-4.ensures.value (subst (λ (z : List CellNo). IsCopied o.arena z c.as_slice-4.result.now ns a b) c.as_slice-3.ensures.value c.copy.ensures.copied) in
    let new = c.glue_free.new.free.items in
    let is_new = is_glued r o own cuts apart.rest apart.part _ _ new c.as_slice-5.ensures.value c.as_slice-6.ensures.value c.glue_free.ensures in
    let sides = c.add_sides.ensures.items.0 in
    let list = c.add_sides.new.ends.items in
    let is_list = are_glued r o k l own cuts apart.rest apart.part rest_numbers part_numbers ns _ _ _ _ _ c.glue_ends.new.ends.items sides list c.as_slice.ensures.value c.as_slice-8.ensures.value c.as_slice-9.ensures.value c.as_slice-7.ensures.value
    refl c.glue_ends.ensures.items c.add_sides.ensures.items.2 in
    let few = glue.few_pairs r o k l apart.can own cuts apart.rest apart.part agents live rest_numbers each_rest part_numbers each_part a anew ns b copied new is_new sides list is_list
    (r.queue.items ++ map (both (name_in ns)) o.queue.items) refl in
    omega (arith, few)

pub invariant_of-self : goal.invariant_of-self
invariant_of-self c =
    let r = c.self.inside.body in
    let o = c.part.inside.body in
    let k = c.self.invariant.all.net in
    let l = c.part.invariant.all.net in
    let cuts = c.free_ends-count.result in
    let own = c.free_ends.result - cuts in
    let apart = known r o k l c.args.self.now c.args.part.now c.self.view_is c.part.view_is c.free_ends.result cuts c.free_ends.ensures c.free_ends-count.ensures c.requires.fewer c.requires.can in
    let x = c.args.seam in
    let ns = c.copy.new.names in
    let agents = c.list_live.new.cells.items in
    let live = c.list_live.ensures in
    let rest_numbers = c.list_rest_numbers.new.numbers.items in
    let part_numbers = c.list_part_numbers.new.numbers.items in
    let each_rest = c.list_rest_numbers.ensures.each in
    let each_part = c.list_part_numbers.ensures.each in
    let a = c.number_anew.new.arena in
    let anew : AreNumberedAnew (number_in rest_numbers) r.arena a = subst (λ (z : List ℕ). AreNumberedAnew (number_in z) r.arena a) c.as_slice-2.ensures.value c.number_anew.ensures in
    let b = c.copy.new.to in
    let copied : IsCopied o.arena agents part_numbers ns a b = subst (λ (z : List ℕ). IsCopied o.arena agents z ns a b) c.as_slice-4.ensures.value (subst (λ (z : List CellNo). IsCopied o.arena z c.as_slice-4.result.now ns a b) c.as_slice-3.ensures.value c.copy.ensures.copied) in
    let new = c.glue_free.new.free.items in
    let is_new = is_glued r o own cuts apart.rest apart.part _ _ new c.as_slice-5.ensures.value c.as_slice-6.ensures.value c.glue_free.ensures in
    let sides = c.add_sides.ensures.items.0 in
    let list = c.add_sides.new.ends.items in
    let is_list = are_glued r o k l own cuts apart.rest apart.part rest_numbers part_numbers ns _ _ _ _ _ c.glue_ends.new.ends.items sides list c.as_slice.ensures.value c.as_slice-8.ensures.value c.as_slice-9.ensures.value c.as_slice-7.ensures.value
    refl c.glue_ends.ensures.items c.add_sides.ensures.items.2 in
    let queue = c.add_pairs.new.queue.items in
    let is_queue = c.add_pairs.ensures.items in
    let tools = c.self.invariant.all.tools in
    let alike = together.alike r o k l apart.can agents live (number_in rest_numbers) a anew part_numbers ns b copied in
    record {
      all = record {
        net = record {
          reducer = glue.is_reducer r o k l apart.can own cuts apart.rest apart.part agents live rest_numbers each_rest part_numbers each_part a anew ns b copied new is_new sides list is_list queue is_queue;
          net = together.still_net r o k l apart.can agents live (number_in rest_numbers) a anew part_numbers ns b copied;
          few = subst AreAllowed (sym (copied.cells ∙ anew.cells)) k.few;
          few_free = glue.few_free r o k l apart.can own cuts apart.rest apart.part agents live rest_numbers each_rest part_numbers each_part a anew ns b copied new is_new sides list is_list queue is_queue
              (let e = c.requires.ends in let f = x.few_free in let w = c.free_ends.ensures in let p = c.free_ends-count.ensures in let g = c.requires.fewer in omega (arith, e, f, w, p, g));
          free = glue.glued_own_ends r.checked.now.program o.checked.now.program own cuts r.free.items o.free.items new apart.can.program is_new apart.rest apart.part k.free l.free;
          ends = glue.enough_ends r o k l apart.can own cuts apart.rest apart.part agents live rest_numbers each_rest part_numbers each_part a anew ns b copied new is_new sides list is_list queue is_queue c.add_sides.ensures.items.1;
          queue = (let f = k.queue in let e = ap all_of copied.cells in let h = ap all_of anew.cells in let g = c.add_pairs.ensures.room in omega (arith, e, f, g, h));
        };
        tools = record {
          placed = still.still_none r.tools.placed.bag r.arena b alike tools.placed;
          room = tools.room;
          made = tools.made;
          made_room = tools.made_room;
          points = tools.points;
        };
      };
      none = still.still_unleased r.arena b alike c.self.invariant.none;
    }

pub returns-clause-glued : goal.returns-clause-glued
returns-clause-glued c =
    let r = c.self.inside.body in
    let o = c.part.inside.body in
    let k = c.self.invariant.all.net in
    let l = c.part.invariant.all.net in
    let cuts = c.free_ends-count.result in
    let own = c.free_ends.result - cuts in
    let apart = known r o k l c.args.self.now c.args.part.now c.self.view_is c.part.view_is c.free_ends.result cuts c.free_ends.ensures c.free_ends-count.ensures c.requires.fewer c.requires.can in
    let ns = c.copy.new.names in
    let agents = c.list_live.new.cells.items in
    let live = c.list_live.ensures in
    let rest_numbers = c.list_rest_numbers.new.numbers.items in
    let part_numbers = c.list_part_numbers.new.numbers.items in
    let each_rest = c.list_rest_numbers.ensures.each in
    let each_part = c.list_part_numbers.ensures.each in
    let a = c.number_anew.new.arena in
    let anew : AreNumberedAnew (number_in rest_numbers) r.arena a = subst (λ (z : List ℕ). AreNumberedAnew (number_in z) r.arena a) c.as_slice-2.ensures.value c.number_anew.ensures in
    let b = c.copy.new.to in
    let copied : IsCopied o.arena agents part_numbers ns a b = subst (λ (z : List ℕ). IsCopied o.arena agents z ns a b) c.as_slice-4.ensures.value (subst (λ (z : List CellNo). IsCopied o.arena z c.as_slice-4.result.now ns a b) c.as_slice-3.ensures.value c.copy.ensures.copied) in
    let new = c.glue_free.new.free.items in
    let is_new = is_glued r o own cuts apart.rest apart.part _ _ new c.as_slice-5.ensures.value c.as_slice-6.ensures.value c.glue_free.ensures in
    let sides = c.add_sides.ensures.items.0 in
    let list = c.add_sides.new.ends.items in
    let is_list = are_glued r o k l own cuts apart.rest apart.part rest_numbers part_numbers ns _ _ _ _ _ c.glue_ends.new.ends.items sides list c.as_slice.ensures.value c.as_slice-8.ensures.value c.as_slice-9.ensures.value c.as_slice-7.ensures.value
    refl c.glue_ends.ensures.items c.add_sides.ensures.items.2 in
    let queue = c.add_pairs.new.queue.items in
    let is_queue = c.add_pairs.ensures.items in
    λ n is.
    glued_there (reducer_view r) c.args.self.now (reducer_view o) c.args.part.now own n cuts (length c.args.part.now.free) _ c.self.view_is c.part.view_is (let w = c.free_ends.ensures in let p = c.free_ends-count.ensures in omega (arith, is, w, p)) c.free_ends-count.ensures
    (glue.glued_on r o k l apart.can own cuts apart.rest apart.part agents live rest_numbers each_rest part_numbers each_part a anew ns b copied new is_new sides list is_list queue is_queue c.self.invariant.none)
