use Rattle.std.proofs.Common.{◌≡◌, ◌<◌, ◌++◌, ℕ, Some, length, map, slice_get, refl, sym, ap, subst, ◌∙◌, arith}
use Rattle.std.specs.Vec.{with_items}
use Rattle.std.proofs.lemmas.List.{with_items_is}
use Rattle.in_arena.specs.Classes.{all_of}
use Rattle.in_interaction.specs.Queues.{both}
use Rattle.in_compile.specs.Members.{MemberParts}
use Rattle.in_reducer.specs.Interacting.{named}
use Rattle.in_reducer.specs.Limiting.{AreAllowed}
use Rattle.in_reducer.specs.Machines.{MachineParts}
use Rattle.in_reducer.specs.Steps.{HasRoomAt, StepsAt}
use Rattle.in_reducer.specs.Templates.{IsTemplateAt}
use Rattle.in_reducer.specs.Wiring.{AreAtAgents}
use Rattle.in_reducer.proofs.Steps.InPlace as place
use Rattle.in_reducer.proofs.Steps.Stepped as stepped
use Rattle.in_reducer.proofs.Steps.StillNet as still
use Rattle.in_reducer.proofs.reducer.Reducer.step_in_place.Goals as goal

pub wire_up-requires-clause-ready : goal.wire_up-requires-clause-ready
wire_up-requires-clause-ready c =
    let r = c.self.inside.body in
    let k = c.self.invariant.all.net in
    let p = c.args.template.now in
    let at = subst (λ (m : MachineParts). IsTemplateAt m c.args.number p) (sym c.self.view_is) c.requires.at in
    let room = subst (λ (m : MachineParts). HasRoomAt m c.args.number) (sym c.self.view_is) c.requires.room in (
      r.checked.now.program.tables,
      place.can_wire_up r k c.args.number p at c.at-one.result c.at-one.ensures c.first_ends.result c.first_ends.ensures c.as_mut_slice.result.now c.as_mut_slice.ensures.value r.checked.now.program.tables refl
          room c.self.invariant.none c.cells.ensures.1 c.requires.unmarked c.as_mut_slice-2.result.now (let l = c.self.invariant.all.tools.points in let v = ap length c.as_mut_slice-2.ensures.value in omega (arith, l, v)),
    )

pub wire_up-requires-clause-room : goal.wire_up-requires-clause-room
wire_up-requires-clause-room c =
    let at = subst (λ (m : MachineParts). IsTemplateAt m c.args.number c.args.template.now) (sym c.self.view_is) c.requires.at in
    let few = place.over_room c.self.inside.body c.self.invariant.all.net c.args.number c.args.template.now at c.take_out.new.queue.items c.take_out.ensures.items in
    let e = c.take_out.ensures.room in
    omega (arith, few, e)

pub queue_begun-requires-clause-there : goal.queue_begun-requires-clause-there
queue_begun-requires-clause-there c =
    let r = c.self.inside.body in
    let k = c.self.invariant.all.net in
    let p = c.args.template.now in
    let i = c.args.number in
    let at = subst (λ (m : MachineParts). IsTemplateAt m i p) (sym c.self.view_is) c.requires.at in
    let room = subst (λ (m : MachineParts). HasRoomAt m i) (sym c.self.view_is) c.requires.room in
    let none = c.self.invariant.none in
    let ends = c.as_mut_slice.result.now in
    let old = c.take_out.new.queue.items in
    let a = c.wire_up.new.arena in
    let es = c.wire_up.new.ends in
    let points = c.wire_up.new.points in
    let middle = c.wire_up.new.queue.items in
    let own = place.own_ends r k i p at in
    let pair = place.pair_read r k i p at c.at-one.result c.at-one.ensures c.first_ends.result c.first_ends.ensures ends c.as_mut_slice.ensures.value in
    let about = place.about_in r k i p at c.at-one.result c.at-one.ensures c.first_ends.result c.first_ends.ensures ends c.as_mut_slice.ensures.value r.checked.now.program.tables refl in
    let up = c.wire_up.ensures.wired r.checked.now.program.tables
    (place.can_wire_up r k i p at c.at-one.result c.at-one.ensures c.first_ends.result c.first_ends.ensures ends c.as_mut_slice.ensures.value r.checked.now.program.tables refl room none c.cells.ensures.1 c.requires.unmarked
    c.as_mut_slice-2.result.now (let l = c.self.invariant.all.tools.points in let v = ap length c.as_mut_slice-2.ensures.value in omega (arith, l, v))) in
    let point_long = c.wire_up.ensures.points ∙ ap length c.as_mut_slice-2.ensures.value in
    let is_points = with_items_is r.tools.points points (let ok = r.tools.points.ok.0 in omega (arith, ok, point_long)) in
    let slice : c.as_slice.result.now ≡ points = c.as_slice.ensures.value ∙ is_points in (
      up.cells,
      subst (AreAtAgents up.cells) (sym slice) up.at,
      (λ j q e. stepped.pairs_there r k i p at (length up.cells) up.begun.count j q (ap (λ (m : MemberParts). slice_get m.pairs j) (sym c.member.ensures) ∙ e)),
    )

pub queue_begun-requires-clause-room : goal.queue_begun-requires-clause-room
queue_begun-requires-clause-room c =
    let r = c.self.inside.body in
    let k = c.self.invariant.all.net in
    let p = c.args.template.now in
    let i = c.args.number in
    let at = subst (λ (m : MachineParts). IsTemplateAt m i p) (sym c.self.view_is) c.requires.at in
    let room = subst (λ (m : MachineParts). HasRoomAt m i) (sym c.self.view_is) c.requires.room in
    let none = c.self.invariant.none in
    let ends = c.as_mut_slice.result.now in
    let old = c.take_out.new.queue.items in
    let a = c.wire_up.new.arena in
    let es = c.wire_up.new.ends in
    let points = c.wire_up.new.points in
    let middle = c.wire_up.new.queue.items in
    let own = place.own_ends r k i p at in
    let pair = place.pair_read r k i p at c.at-one.result c.at-one.ensures c.first_ends.result c.first_ends.ensures ends c.as_mut_slice.ensures.value in
    let about = place.about_in r k i p at c.at-one.result c.at-one.ensures c.first_ends.result c.first_ends.ensures ends c.as_mut_slice.ensures.value r.checked.now.program.tables refl in
    let up = c.wire_up.ensures.wired r.checked.now.program.tables
    (place.can_wire_up r k i p at c.at-one.result c.at-one.ensures c.first_ends.result c.first_ends.ensures ends c.as_mut_slice.ensures.value r.checked.now.program.tables refl room none c.cells.ensures.1 c.requires.unmarked
    c.as_mut_slice-2.result.now (let l = c.self.invariant.all.tools.points in let v = ap length c.as_mut_slice-2.ensures.value in omega (arith, l, v))) in
    let long = c.wire_up.ensures.long ∙ ap length c.as_mut_slice.ensures.value in
    let few = place.own_room r k i p at room none pair own refl ends about old a es points middle up long c.take_out.ensures.items in
    let pairs = ap (λ (m : MemberParts). length m.pairs) c.member.ensures in
    let e = c.take_out.ensures.room in
    let f = c.wire_up.ensures.capacity in
    omega (arith, few, pairs, e, f)

pub invariant_of-self : goal.invariant_of-self
invariant_of-self c =
    let r = c.self.inside.body in
    let k = c.self.invariant.all.net in
    let p = c.args.template.now in
    let i = c.args.number in
    let at = subst (λ (m : MachineParts). IsTemplateAt m i p) (sym c.self.view_is) c.requires.at in
    let room = subst (λ (m : MachineParts). HasRoomAt m i) (sym c.self.view_is) c.requires.room in
    let none = c.self.invariant.none in
    let ends = c.as_mut_slice.result.now in
    let old = c.take_out.new.queue.items in
    let a = c.wire_up.new.arena in
    let es = c.wire_up.new.ends in
    let points = c.wire_up.new.points in
    let middle = c.wire_up.new.queue.items in
    let own = place.own_ends r k i p at in
    let pair = place.pair_read r k i p at c.at-one.result c.at-one.ensures c.first_ends.result c.first_ends.ensures ends c.as_mut_slice.ensures.value in
    let about = place.about_in r k i p at c.at-one.result c.at-one.ensures c.first_ends.result c.first_ends.ensures ends c.as_mut_slice.ensures.value r.checked.now.program.tables refl in
    let up = c.wire_up.ensures.wired r.checked.now.program.tables
    (place.can_wire_up r k i p at c.at-one.result c.at-one.ensures c.first_ends.result c.first_ends.ensures ends c.as_mut_slice.ensures.value r.checked.now.program.tables refl room none c.cells.ensures.1 c.requires.unmarked
    c.as_mut_slice-2.result.now (let l = c.self.invariant.all.tools.points in let v = ap length c.as_mut_slice-2.ensures.value in omega (arith, l, v))) in
    let long = c.wire_up.ensures.long ∙ ap length c.as_mut_slice.ensures.value in
    let point_long = c.wire_up.ensures.points ∙ ap length c.as_mut_slice-2.ensures.value in
    let is_points = with_items_is r.tools.points points (let ok = r.tools.points.ok.0 in omega (arith, ok, point_long)) in
    let zs = with_items r.ends es in
    let is_ends : zs.items ≡ es = with_items_is r.ends es (let ok = r.ends.ok.0 in omega (arith, ok, long)) in
    let slice : c.as_slice.result.now ≡ points = c.as_slice.ensures.value ∙ is_points in
    let pairs : (j : ℕ) (q : ℕ × ℕ) → slice_get c.member.result.now.pairs j ≡ Some q → (q.0 < length up.cells) × (q.1 < length up.cells) =
    (λ j q e. stepped.pairs_there r k i p at (length up.cells) up.begun.count j q (ap (λ (m : MemberParts). slice_get m.pairs j) (sym c.member.ensures) ∙ e)) in
    let queue : c.queue_begun.new.queue.items ≡ middle ++ map (both (named up.cells)) p.member.pairs =
    c.queue_begun.ensures.items up.cells (subst (AreAtAgents up.cells) (sym slice) up.at) pairs ∙ ap (λ (m : MemberParts). middle ++ map (both (named up.cells)) m.pairs) c.member.ensures in
    let tools = c.self.invariant.all.tools in
    let cells = place.cells r k i p at room none pair own refl ends about old a es points middle up long in
    let memory = place.memory r k i p at room none pair own refl ends about old a es points middle up long in
    record {
      all = record {
        net = record {
          reducer = place.is_reducer r k i p at room none pair own refl ends about old a es points middle up long c.take_out.ensures.items c.queue_begun.new.queue.items queue zs.items is_ends;
          net = place.net r k i p at room none pair own refl ends about old a es points middle up long;
          few = subst AreAllowed (sym cells) k.few;
          few_free = k.few_free;
          free = k.free;
          ends = (let f = k.ends in let g = ap length is_ends in omega (arith, f, g, long));
          queue = (let f = k.queue in let g = c.take_out.ensures.room in let h = c.wire_up.ensures.capacity in let l = c.queue_begun.ensures.room in omega (arith, f, g, h, l, ap all_of cells));
        };
        tools = record {
          placed = still.none_there r.tools.placed.bag r.arena a memory cells tools.placed;
          room = tools.room;
          made = tools.made;
          made_room = tools.made_room;
          points = (let f = tools.points in let g = ap length is_points in omega (arith, f, g, point_long));
        };
      };
      none = place.none_leased r k i p at room none pair own refl ends about old a es points middle up long;
    }

steps_there : (m n o : MachineParts) (i : ℕ) → m ≡ n → StepsAt m i o → StepsAt n i o
steps_there m n o i same h = subst (λ (z : MachineParts). StepsAt z i o) same h

pub returns : goal.returns
returns c =
    let r = c.self.inside.body in
    let k = c.self.invariant.all.net in
    let p = c.args.template.now in
    let i = c.args.number in
    let at = subst (λ (m : MachineParts). IsTemplateAt m i p) (sym c.self.view_is) c.requires.at in
    let room = subst (λ (m : MachineParts). HasRoomAt m i) (sym c.self.view_is) c.requires.room in
    let none = c.self.invariant.none in
    let ends = c.as_mut_slice.result.now in
    let old = c.take_out.new.queue.items in
    let a = c.wire_up.new.arena in
    let es = c.wire_up.new.ends in
    let points = c.wire_up.new.points in
    let middle = c.wire_up.new.queue.items in
    let own = place.own_ends r k i p at in
    let pair = place.pair_read r k i p at c.at-one.result c.at-one.ensures c.first_ends.result c.first_ends.ensures ends c.as_mut_slice.ensures.value in
    let about = place.about_in r k i p at c.at-one.result c.at-one.ensures c.first_ends.result c.first_ends.ensures ends c.as_mut_slice.ensures.value r.checked.now.program.tables refl in
    let up = c.wire_up.ensures.wired r.checked.now.program.tables
    (place.can_wire_up r k i p at c.at-one.result c.at-one.ensures c.first_ends.result c.first_ends.ensures ends c.as_mut_slice.ensures.value r.checked.now.program.tables refl room none c.cells.ensures.1 c.requires.unmarked
    c.as_mut_slice-2.result.now (let l = c.self.invariant.all.tools.points in let v = ap length c.as_mut_slice-2.ensures.value in omega (arith, l, v))) in
    let long = c.wire_up.ensures.long ∙ ap length c.as_mut_slice.ensures.value in
    let point_long = c.wire_up.ensures.points ∙ ap length c.as_mut_slice-2.ensures.value in
    let is_points = with_items_is r.tools.points points (let ok = r.tools.points.ok.0 in omega (arith, ok, point_long)) in
    let zs = with_items r.ends es in
    let is_ends : zs.items ≡ es = with_items_is r.ends es (let ok = r.ends.ok.0 in omega (arith, ok, long)) in
    let slice : c.as_slice.result.now ≡ points = c.as_slice.ensures.value ∙ is_points in
    let pairs : (j : ℕ) (q : ℕ × ℕ) → slice_get c.member.result.now.pairs j ≡ Some q → (q.0 < length up.cells) × (q.1 < length up.cells) =
    (λ j q e. stepped.pairs_there r k i p at (length up.cells) up.begun.count j q (ap (λ (m : MemberParts). slice_get m.pairs j) (sym c.member.ensures) ∙ e)) in
    let queue : c.queue_begun.new.queue.items ≡ middle ++ map (both (named up.cells)) p.member.pairs =
    c.queue_begun.ensures.items up.cells (subst (AreAtAgents up.cells) (sym slice) up.at) pairs ∙ ap (λ (m : MemberParts). middle ++ map (both (named up.cells)) m.pairs) c.member.ensures in
    steps_there _ _ _ i c.self.view_is (place.steps r k i p at room none pair own refl ends about old a es points middle up long c.take_out.ensures.items c.queue_begun.new.queue.items queue zs.items is_ends)
