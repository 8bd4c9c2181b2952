use Rattle.std.proofs.Common.{◌≡◌, ◌<◌, ◌++◌, ℕ, Some, List, length, map, get_or, slice_get, refl, sym, ap, subst, ◌∙◌, arith}
use Rattle.std.specs.Vec.{with_items}
use Rattle.std.proofs.lemmas.List.{with_items_is}
use Rattle.std.proofs.lemmas.Option.{same_Some, slice_get-get_or, slice_get_within}
use Rattle.in_arena.specs.Classes.{all_of}
use Rattle.in_interaction.specs.Queues.{both}
use Rattle.in_compile.specs.Members.{MemberParts}
use Rattle.in_reducer.specs.Interacting.{named}
use Rattle.in_reducer.specs.Limiting.{AreAllowed}
use Rattle.in_reducer.specs.Machines.{MachineParts}
use Rattle.in_reducer.specs.Same.{StepsUpToNumbers}
use Rattle.in_reducer.specs.Steps.{HasRoomAt}
use Rattle.in_reducer.specs.Templates.{IsTemplateAt}
use Rattle.in_reducer.specs.Wiring.{AreAtAgents}
use Rattle.in_reducer.proofs.Steps.InPlace as place
use Rattle.in_reducer.proofs.Steps.Reused as reuse
use Rattle.in_reducer.proofs.Steps.Stepped as stepped
use Rattle.in_reducer.proofs.Steps.StillNet as still
use Rattle.in_reducer.proofs.reducer.Reducer.step_anew.Goals as goal

is_read : (xs : List (ℕ × ℕ)) (i : ℕ) (q : ℕ × ℕ) → slice_get xs i ≡ Some q → q ≡ get_or xs i q
is_read xs i q e = same_Some q (get_or xs i q) (sym e ∙ slice_get-get_or xs i q (slice_get_within xs i q e))

pub wire_anew-requires-clause-ready : goal.wire_anew-requires-clause-ready
wire_anew-requires-clause-ready g c =
    let r = c.self.inside.body in
    let k = c.self.invariant.all.net in
    let p = c.args.template.now in
    let i = c.args.number in
    let read = is_read r.queue.items i (c.args.agents.0.0, c.args.agents.1.0) (ap (λ (m : MachineParts). slice_get m.queue i) c.self.view_is ∙ c.requires.there) in
    let at = subst (λ (m : MachineParts). IsTemplateAt m i p) (sym c.self.view_is) c.requires.at in
    let room = subst (λ (m : MachineParts). HasRoomAt m i) (sym c.self.view_is) c.requires.room in
    let ends = c.as_mut_slice.result.now in
    let own = place.own_ends r k i p at in
    let pair = place.pair_read r k i p at (c.args.agents.0.0, c.args.agents.1.0) read c.first_ends.result c.first_ends.ensures ends c.as_mut_slice.ensures.value in
    let about = place.about_in r k i p at (c.args.agents.0.0, c.args.agents.1.0) read c.first_ends.result c.first_ends.ensures ends c.as_mut_slice.ensures.value r.checked.now.program.tables refl in (
      r.checked.now.program.tables,
      reuse.can_wire_anew r k i p at room c.self.invariant.none c.cells.ensures.1 pair own ends r.checked.now.program.tables refl about c.requires.unmarked c.as_mut_slice-2.result.now
          (let l = c.self.invariant.all.tools.points in let v = ap length c.as_mut_slice-2.ensures.value in omega (arith, l, v)),
    )

pub wire_anew-requires-clause-room : goal.wire_anew-requires-clause-room
wire_anew-requires-clause-room g c =
    let at = subst (λ (m : MachineParts). IsTemplateAt m c.args.number c.args.template.now) (sym c.self.view_is) c.requires.at in
    let few = place.over_room c.self.inside.body c.self.invariant.all.net c.args.number c.args.template.now at c.take_out.new.queue.items c.take_out.ensures.items in
    let e = c.take_out.ensures.room in
    omega (arith, few, e)

pub queue_begun-requires-clause-there : goal.queue_begun-requires-clause-there
queue_begun-requires-clause-there g c =
    let r = c.self.inside.body in
    let k = c.self.invariant.all.net in
    let p = c.args.template.now in
    let i = c.args.number in
    let read = is_read r.queue.items i (c.args.agents.0.0, c.args.agents.1.0) (ap (λ (m : MachineParts). slice_get m.queue i) c.self.view_is ∙ c.requires.there) in
    let at = subst (λ (m : MachineParts). IsTemplateAt m i p) (sym c.self.view_is) c.requires.at in
    let room = subst (λ (m : MachineParts). HasRoomAt m i) (sym c.self.view_is) c.requires.room in
    let none = c.self.invariant.none in
    let ends = c.as_mut_slice.result.now in
    let old = c.take_out.new.queue.items in
    let a = c.wire_anew.new.arena in
    let es = c.wire_anew.new.ends in
    let points = c.wire_anew.new.points in
    let middle = c.wire_anew.new.queue.items in
    let own = place.own_ends r k i p at in
    let pair = place.pair_read r k i p at (c.args.agents.0.0, c.args.agents.1.0) read c.first_ends.result c.first_ends.ensures ends c.as_mut_slice.ensures.value in
    let about = place.about_in r k i p at (c.args.agents.0.0, c.args.agents.1.0) read c.first_ends.result c.first_ends.ensures ends c.as_mut_slice.ensures.value r.checked.now.program.tables refl in
    let up = c.wire_anew.ensures.wired r.checked.now.program.tables
    (reuse.can_wire_anew r k i p at room none c.cells.ensures.1 pair own ends r.checked.now.program.tables refl about c.requires.unmarked
    c.as_mut_slice-2.result.now (let l = c.self.invariant.all.tools.points in let v = ap length c.as_mut_slice-2.ensures.value in omega (arith, l, v))) in
    let point_long = c.wire_anew.ensures.points ∙ ap length c.as_mut_slice-2.ensures.value in
    let is_points = with_items_is r.tools.points points (let ok = r.tools.points.ok.0 in omega (arith, ok, point_long)) in
    let slice : c.as_slice.result.now ≡ points = c.as_slice.ensures.value ∙ is_points in (
      up.cells,
      subst (AreAtAgents up.cells) (sym slice) up.at,
      (λ j q e. stepped.pairs_there r k i p at (length up.cells) up.begun.count j q (ap (λ (m : MemberParts). slice_get m.pairs j) (sym c.member.ensures) ∙ e)),
    )

pub queue_begun-requires-clause-room : goal.queue_begun-requires-clause-room
queue_begun-requires-clause-room g c =
    let r = c.self.inside.body in
    let k = c.self.invariant.all.net in
    let p = c.args.template.now in
    let i = c.args.number in
    let read = is_read r.queue.items i (c.args.agents.0.0, c.args.agents.1.0) (ap (λ (m : MachineParts). slice_get m.queue i) c.self.view_is ∙ c.requires.there) in
    let at = subst (λ (m : MachineParts). IsTemplateAt m i p) (sym c.self.view_is) c.requires.at in
    let room = subst (λ (m : MachineParts). HasRoomAt m i) (sym c.self.view_is) c.requires.room in
    let none = c.self.invariant.none in
    let ends = c.as_mut_slice.result.now in
    let old = c.take_out.new.queue.items in
    let a = c.wire_anew.new.arena in
    let es = c.wire_anew.new.ends in
    let points = c.wire_anew.new.points in
    let middle = c.wire_anew.new.queue.items in
    let own = place.own_ends r k i p at in
    let pair = place.pair_read r k i p at (c.args.agents.0.0, c.args.agents.1.0) read c.first_ends.result c.first_ends.ensures ends c.as_mut_slice.ensures.value in
    let about = place.about_in r k i p at (c.args.agents.0.0, c.args.agents.1.0) read c.first_ends.result c.first_ends.ensures ends c.as_mut_slice.ensures.value r.checked.now.program.tables refl in
    let up = c.wire_anew.ensures.wired r.checked.now.program.tables
    (reuse.can_wire_anew r k i p at room none c.cells.ensures.1 pair own ends r.checked.now.program.tables refl about c.requires.unmarked
    c.as_mut_slice-2.result.now (let l = c.self.invariant.all.tools.points in let v = ap length c.as_mut_slice-2.ensures.value in omega (arith, l, v))) in
    let long = c.wire_anew.ensures.long ∙ ap length c.as_mut_slice.ensures.value in
    let few = reuse.own_room r k i p at room none pair own refl ends about old a es points middle up long c.take_out.ensures.items in
    let pairs = ap (λ (m : MemberParts). length m.pairs) c.member.ensures in
    let e = c.take_out.ensures.room in
    let f = c.wire_anew.ensures.capacity in
    omega (arith, few, pairs, e, f)

pub invariant_of-self : goal.invariant_of-self
invariant_of-self g c =
    let r = c.self.inside.body in
    let k = c.self.invariant.all.net in
    let p = c.args.template.now in
    let i = c.args.number in
    let read = is_read r.queue.items i (c.args.agents.0.0, c.args.agents.1.0) (ap (λ (m : MachineParts). slice_get m.queue i) c.self.view_is ∙ c.requires.there) in
    let at = subst (λ (m : MachineParts). IsTemplateAt m i p) (sym c.self.view_is) c.requires.at in
    let room = subst (λ (m : MachineParts). HasRoomAt m i) (sym c.self.view_is) c.requires.room in
    let none = c.self.invariant.none in
    let ends = c.as_mut_slice.result.now in
    let old = c.take_out.new.queue.items in
    let a = c.wire_anew.new.arena in
    let es = c.wire_anew.new.ends in
    let points = c.wire_anew.new.points in
    let middle = c.wire_anew.new.queue.items in
    let own = place.own_ends r k i p at in
    let pair = place.pair_read r k i p at (c.args.agents.0.0, c.args.agents.1.0) read c.first_ends.result c.first_ends.ensures ends c.as_mut_slice.ensures.value in
    let about = place.about_in r k i p at (c.args.agents.0.0, c.args.agents.1.0) read c.first_ends.result c.first_ends.ensures ends c.as_mut_slice.ensures.value r.checked.now.program.tables refl in
    let up = c.wire_anew.ensures.wired r.checked.now.program.tables
    (reuse.can_wire_anew r k i p at room none c.cells.ensures.1 pair own ends r.checked.now.program.tables refl about c.requires.unmarked
    c.as_mut_slice-2.result.now (let l = c.self.invariant.all.tools.points in let v = ap length c.as_mut_slice-2.ensures.value in omega (arith, l, v))) in
    let long = c.wire_anew.ensures.long ∙ ap length c.as_mut_slice.ensures.value in
    let point_long = c.wire_anew.ensures.points ∙ ap length c.as_mut_slice-2.ensures.value in
    let is_points = with_items_is r.tools.points points (let ok = r.tools.points.ok.0 in omega (arith, ok, point_long)) in
    let zs = with_items r.ends es in
    let is_ends : zs.items ≡ es = with_items_is r.ends es (let ok = r.ends.ok.0 in omega (arith, ok, long)) in
    let slice : c.as_slice.result.now ≡ points = c.as_slice.ensures.value ∙ is_points in
    let pairs : (j : ℕ) (q : ℕ × ℕ) → slice_get c.member.result.now.pairs j ≡ Some q → (q.0 < length up.cells) × (q.1 < length up.cells) =
    (λ j q e. stepped.pairs_there r k i p at (length up.cells) up.begun.count j q (ap (λ (m : MemberParts). slice_get m.pairs j) (sym c.member.ensures) ∙ e)) in
    let queue : c.queue_begun.new.queue.items ≡ middle ++ map (both (named up.cells)) p.member.pairs =
    c.queue_begun.ensures.items up.cells (subst (AreAtAgents up.cells) (sym slice) up.at) pairs ∙ ap (λ (m : MemberParts). middle ++ map (both (named up.cells)) m.pairs) c.member.ensures in
    let tools = c.self.invariant.all.tools in
    let cells = reuse.cells r k i p at room none pair own refl ends about old a es points middle up in
    let memory = reuse.memory r k i p at room none pair own refl ends about old a es points middle up in
    record {
      all = record {
        net = record {
          reducer = reuse.is_reducer r k i p at room none pair own refl ends about old a es points middle up long c.take_out.ensures.items c.queue_begun.new.queue.items queue zs.items is_ends;
          net = reuse.net r k i p at room none pair own refl ends about old a es points middle up;
          few = subst AreAllowed (sym cells) k.few;
          few_free = k.few_free;
          free = k.free;
          ends = (let f = k.ends in let g = ap length is_ends in omega (arith, f, g, long));
          queue = (let f = k.queue in let g = c.take_out.ensures.room in let h = c.wire_anew.ensures.capacity in let l = c.queue_begun.ensures.room in omega (arith, f, g, h, l, ap all_of cells));
        };
        tools = record {
          placed = still.none_there r.tools.placed.bag r.arena a memory cells tools.placed;
          room = tools.room;
          made = tools.made;
          made_room = tools.made_room;
          points = (let f = tools.points in let g = ap length is_points in omega (arith, f, g, point_long));
        };
      };
      none = reuse.none_leased r k i p at room none pair own refl ends about old a es points middle up;
    }

steps_there : (m n o : MachineParts) (i : ℕ) → m ≡ n → StepsUpToNumbers m i o → StepsUpToNumbers n i o
steps_there m n o i same h = subst (λ (z : MachineParts). StepsUpToNumbers z i o) same h

pub returns : goal.returns
returns g c =
    let r = c.self.inside.body in
    let k = c.self.invariant.all.net in
    let p = c.args.template.now in
    let i = c.args.number in
    let read = is_read r.queue.items i (c.args.agents.0.0, c.args.agents.1.0) (ap (λ (m : MachineParts). slice_get m.queue i) c.self.view_is ∙ c.requires.there) in
    let at = subst (λ (m : MachineParts). IsTemplateAt m i p) (sym c.self.view_is) c.requires.at in
    let room = subst (λ (m : MachineParts). HasRoomAt m i) (sym c.self.view_is) c.requires.room in
    let none = c.self.invariant.none in
    let ends = c.as_mut_slice.result.now in
    let old = c.take_out.new.queue.items in
    let a = c.wire_anew.new.arena in
    let es = c.wire_anew.new.ends in
    let points = c.wire_anew.new.points in
    let middle = c.wire_anew.new.queue.items in
    let own = place.own_ends r k i p at in
    let pair = place.pair_read r k i p at (c.args.agents.0.0, c.args.agents.1.0) read c.first_ends.result c.first_ends.ensures ends c.as_mut_slice.ensures.value in
    let about = place.about_in r k i p at (c.args.agents.0.0, c.args.agents.1.0) read c.first_ends.result c.first_ends.ensures ends c.as_mut_slice.ensures.value r.checked.now.program.tables refl in
    let up = c.wire_anew.ensures.wired r.checked.now.program.tables
    (reuse.can_wire_anew r k i p at room none c.cells.ensures.1 pair own ends r.checked.now.program.tables refl about c.requires.unmarked
    c.as_mut_slice-2.result.now (let l = c.self.invariant.all.tools.points in let v = ap length c.as_mut_slice-2.ensures.value in omega (arith, l, v))) in
    let long = c.wire_anew.ensures.long ∙ ap length c.as_mut_slice.ensures.value in
    let point_long = c.wire_anew.ensures.points ∙ ap length c.as_mut_slice-2.ensures.value in
    let is_points = with_items_is r.tools.points points (let ok = r.tools.points.ok.0 in omega (arith, ok, point_long)) in
    let zs = with_items r.ends es in
    let is_ends : zs.items ≡ es = with_items_is r.ends es (let ok = r.ends.ok.0 in omega (arith, ok, long)) in
    let slice : c.as_slice.result.now ≡ points = c.as_slice.ensures.value ∙ is_points in
    let pairs : (j : ℕ) (q : ℕ × ℕ) → slice_get c.member.result.now.pairs j ≡ Some q → (q.0 < length up.cells) × (q.1 < length up.cells) =
    (λ j q e. stepped.pairs_there r k i p at (length up.cells) up.begun.count j q (ap (λ (m : MemberParts). slice_get m.pairs j) (sym c.member.ensures) ∙ e)) in
    let queue : c.queue_begun.new.queue.items ≡ middle ++ map (both (named up.cells)) p.member.pairs =
    c.queue_begun.ensures.items up.cells (subst (AreAtAgents up.cells) (sym slice) up.at) pairs ∙ ap (λ (m : MemberParts). middle ++ map (both (named up.cells)) m.pairs) c.member.ensures in
    steps_there _ _ _ i c.self.view_is (reuse.up_to_numbers r k i p at room none pair own refl ends about old a es points middle up long c.take_out.ensures.items c.queue_begun.new.queue.items queue zs.items is_ends)
