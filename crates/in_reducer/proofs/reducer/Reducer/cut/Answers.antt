use Rattle.std.proofs.Common.{◌≡◌, ◌≤◌, ◌+◌, ℕ, List, [], ◌∷◌, ◌++◌, length, sym, ap, subst, ◌∙◌, arith}
use Rattle.std.specs.Vec.{with_items}
use Rattle.std.proofs.lemmas.List.{with_items_is}
use Rattle.in_arena.specs.Classes.{all_of}
use Rattle.in_arena.specs.declared.content.End.{End}
use Rattle.in_reducer.specs.Limiting.{AreAllowed}
use Rattle.in_symbols.specs.Tables.{Tables, port_at}
use Rattle.in_symbols.specs.declared.symbols.PortType.{PortType}
use Rattle.in_net.specs.Nets.{signature_of}
use Rattle.in_reducer.specs.declared.body.OwnEnd.{OwnEnd}
use Rattle.in_reducer.specs.declared.body.OwnEnd.TheVariants.{Cut}
use Rattle.in_reducer.specs.Cutting.{CanCut, CutsAt, net_in}
use Rattle.in_reducer.specs.Inside.{most_free_ends, reducer_view}
use Rattle.in_reducer.specs.Machines.{MachineParts}
use Rattle.in_reducer.proofs.Cuts.CutOff as cut_off
use Rattle.in_reducer.proofs.Steps.StillNet as still
use Rattle.in_reducer.proofs.reducer.Reducer.cut.Goals as goal

pub cut-requires-clause-shown : goal.cut-requires-clause-shown
cut-requires-clause-shown c =
    let r = c.self.inside.body in
    let k = c.self.invariant.all.net in
    let can = subst (λ (m : MachineParts). CanCut m c.args.cell.0 c.args.place) (sym c.self.view_is) c.requires.can in
    let own : c.len-own.result ≡ length r.free.items = (let e = c.len-own.ensures in let ok = r.free.ok.0 in omega (arith, e, ok)) in
    (signature_of r.checked.now.program.tables, net_in (reducer_view r), cut_off.shows r k c.args.cell.0 c.args.place can c.len-own.result own c.as_mut_slice.result.now (c.as_mut_slice.ensures.value ∙ c.make_room.ensures.ends))

pub cut-requires-clause-there : goal.cut-requires-clause-there
cut-requires-clause-there c =
    cut_off.place_there c.self.inside.body c.self.invariant.all.net c.args.cell.0 c.args.place (subst (λ (m : MachineParts). CanCut m c.args.cell.0 c.args.place) (sym c.self.view_is) c.requires.can)

cuts_there : (m n o : MachineParts) (x i : ℕ) → m ≡ n → CutsAt m x i o → CutsAt n x i o
cuts_there m n o x i same h = subst (λ (z : MachineParts). CutsAt z x i o) same h

pub returns-clause-cut : goal.returns-clause-cut
returns-clause-cut c =
    let r = c.self.inside.body in
    let k = c.self.invariant.all.net in
    let can = subst (λ (m : MachineParts). CanCut m c.args.cell.0 c.args.place) (sym c.self.view_is) c.requires.can in
    let own : c.len-own.result ≡ length r.free.items = (let e = c.len-own.ensures in let ok = r.free.ok.0 in omega (arith, e, ok)) in
    let ends = c.make_room.new.ends in
    let value = c.as_mut_slice.ensures.value ∙ c.make_room.ensures.ends in
    let es = c.cut.new.ends in
    let longer = c.cut.ensures.long ∙ ap length c.as_mut_slice.ensures.value in
    let long = c.cut.ensures.long ∙ ap length value in
    let items : (with_items ends es).items ≡ es = with_items_is ends es (let ok = ends.ok.0 in omega (arith, ok, longer)) in
    let kind = c.port-kind.result in
    let is_kind = c.port-kind.ensures ∙ ap (λ (t : Tables). port_at t c.symbol.result.0 c.args.place) c.symbols.ensures in
    let first = c.push_reserved.ensures.items ∙ ap (λ (z : List OwnEnd). z ++ Cut kind ∷ []) c.make_room.ensures.free in
    let new = c.push_reserved-2.ensures.items ∙ ap (λ (z : List OwnEnd). z ++ Cut c.opposite_of.result ∷ []) first ∙ ap (λ (z : PortType). (r.free.items ++ Cut kind ∷ []) ++ Cut z ∷ []) c.opposite_of.ensures in
    let list = c.push_reserved-4.ensures.items ∙ ap (λ (z : List End). z ++ c.free-2.result ∷ []) (c.push_reserved-3.ensures.items ∙ ap (λ (z : List End). z ++ c.free.result ∷ []) items) in
    cuts_there _ _ _ c.args.cell.0 c.args.place c.self.view_is
    (cut_off.cuts r k c.args.cell.0 c.args.place can c.cut.new.arena es c.len-own.result c.as_mut_slice.result.now c.symbol.result kind c.push_reserved-2.new.self.items c.free.result c.free-2.result c.push_reserved-4.new.self.items
    (record { kept = c.cut.ensures.kept; long = long; is_own = own; is_ends = value; cut = c.cut.ensures.cut (signature_of r.checked.now.program.tables); is_symbol = c.symbol.ensures; is_kind = is_kind; is_new = new; is_list = list })
    c.self.invariant.none)

pub invariant_of-self-2 : goal.invariant_of-self-2
invariant_of-self-2 c =
    let r = c.self.inside.body in
    let k = c.self.invariant.all.net in
    let tools = c.self.invariant.all.tools in
    let can = subst (λ (m : MachineParts). CanCut m c.args.cell.0 c.args.place) (sym c.self.view_is) c.requires.can in
    let own : c.len-own.result ≡ length r.free.items = (let e = c.len-own.ensures in let ok = r.free.ok.0 in omega (arith, e, ok)) in
    let b = c.cut.new.arena in
    let ends = c.make_room.new.ends in
    let value = c.as_mut_slice.ensures.value ∙ c.make_room.ensures.ends in
    let es = c.cut.new.ends in
    let kept = c.cut.ensures.kept in
    let longer = c.cut.ensures.long ∙ ap length c.as_mut_slice.ensures.value in
    let long = c.cut.ensures.long ∙ ap length value in
    let items : (with_items ends es).items ≡ es = with_items_is ends es (let ok = ends.ok.0 in omega (arith, ok, longer)) in
    let kind = c.port-kind.result in
    let is_kind = c.port-kind.ensures ∙ ap (λ (t : Tables). port_at t c.symbol.result.0 c.args.place) c.symbols.ensures in
    let first = c.push_reserved.ensures.items ∙ ap (λ (z : List OwnEnd). z ++ Cut kind ∷ []) c.make_room.ensures.free in
    let second = c.push_reserved-2.ensures.items ∙ ap (λ (z : List OwnEnd). z ++ Cut c.opposite_of.result ∷ []) first in
    let new = second ∙ ap (λ (z : PortType). (r.free.items ++ Cut kind ∷ []) ++ Cut z ∷ []) c.opposite_of.ensures in
    let list = c.push_reserved-4.ensures.items ∙ ap (λ (z : List End). z ++ c.free-2.result ∷ []) (c.push_reserved-3.ensures.items ∙ ap (λ (z : List End). z ++ c.free.result ∷ []) items) in
    let given : cut_off.IsCutOff r c.args.cell.0 c.args.place b es c.len-own.result c.as_mut_slice.result.now c.symbol.result kind c.push_reserved-2.new.self.items c.free.result c.free-2.result c.push_reserved-4.new.self.items =
    record { kept = kept; long = long; is_own = own; is_ends = value; cut = c.cut.ensures.cut (signature_of r.checked.now.program.tables); is_symbol = c.symbol.ensures; is_kind = is_kind; is_new = new; is_list = list } in
    let alike = still.kept_alike r.arena b kept in
    let few : length r.free.items + 2 ≤ most_free_ends = (let m = cut_off.free_many r k in let v = ap (λ (m : MachineParts). length m.free) c.self.view_is in let f = c.requires.few in omega (arith, m, v, f)) in
    record {
      all = record {
        net = record {
          reducer = cut_off.is_reducer r k c.args.cell.0 c.args.place can b es c.len-own.result c.as_mut_slice.result.now c.symbol.result kind c.push_reserved-2.new.self.items c.free.result c.free-2.result c.push_reserved-4.new.self.items given;
          net = cut_off.still_net r k c.args.cell.0 c.args.place can b es c.len-own.result c.as_mut_slice.result.now c.symbol.result kind c.push_reserved-2.new.self.items c.free.result c.free-2.result c.push_reserved-4.new.self.items given;
          few = subst AreAllowed (sym kept.cells) k.few;
          few_free = (let n = cut_off.two_longer r.free.items (Cut kind) (Cut c.opposite_of.result) c.push_reserved-2.new.self.items second in omega (arith, few, n));
          free = cut_off.own_ends r.checked.now.program r.free.items kind _ c.push_reserved-2.new.self.items new k.free;
          ends = (
              let f = k.ends in
              let n = cut_off.two_longer r.free.items (Cut kind) (Cut c.opposite_of.result) c.push_reserved-2.new.self.items second in
              let m = cut_off.two_longer es c.free.result c.free-2.result c.push_reserved-4.new.self.items list in
              omega (arith, f, n, m, long)
              );
          queue = (let f = k.queue in let e = ap all_of kept.cells in omega (arith, f, e));
        };
        tools = record {
          placed = still.still_none r.tools.placed.bag r.arena b alike tools.placed;
          room = tools.room;
          made = tools.made;
          made_room = tools.made_room;
          points = tools.points;
        };
      };
      none = still.still_unleased r.arena b alike c.self.invariant.none;
    }
