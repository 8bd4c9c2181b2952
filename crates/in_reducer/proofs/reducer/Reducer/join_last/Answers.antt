use Rattle.std.proofs.Common.{◌≡◌, ◌≤◌, ◌+◌, ◌-◌, ℕ, suc, List, [], ◌++◌, length, length-append, reverse, take, slice_get, refl, sym, ap, subst, ◌∙◌, arith}
use Rattle.std.specs.Vec.{with_items}
use Rattle.std.proofs.lemmas.List.{length-reverse, with_items_is}
use Rattle.in_arena.specs.Classes.{all_of}
use Rattle.in_arena.specs.declared.content.End.{End}
use Rattle.in_reducer.specs.Limiting.{AreAllowed}
use Rattle.in_symbols.specs.Tables.{Tables}
use Rattle.in_net.specs.Nets.{Net, signature_of}
use Rattle.in_interaction.specs.Queues.{IsQueueOf}
use Rattle.in_gluing.specs.Joining.{JoinsEnds}
use Rattle.in_cells.specs.Pairs.{AddsPair}
use Rattle.in_cells.specs.Shown.{IsShown}
use Rattle.in_reducer.specs.Cutting.{CanJoin, JoinsLast, net_in}
use Rattle.in_reducer.specs.Inside.{reducer_view}
use Rattle.in_reducer.specs.Machines.{MachineParts}
use Rattle.in_reducer.proofs.Cuts.CutOff.{free_many}
use Rattle.in_reducer.proofs.Cuts.Rejoined as rejoined
use Rattle.in_reducer.proofs.Steps.StillNet as still
use Rattle.in_reducer.proofs.reducer.Reducer.join_last.Goals as goal

pub overflow_sub-own : goal.overflow_sub-own
overflow_sub-own c =
    let many = free_many c.self.inside.body c.self.invariant.all.net in
    let view = ap (λ (m : MachineParts). length m.free) c.self.view_is in
    let two = c.requires.two in
    let e = c.len-own.ensures in
    let ok = c.self.inside.body.free.ok.0 in
    omega (arith, many, view, two, e, ok)

pub join_last-requires-clause-shown : goal.join_last-requires-clause-shown
join_last-requires-clause-shown c =
    let r = c.self.inside.body in
    let k = c.self.invariant.all.net in
    let two : 2 ≤ length r.free.items = (let many = free_many r k in let view = ap (λ (m : MachineParts). length m.free) c.self.view_is in let least = c.requires.two in omega (arith, many, view, least)) in
    let own = c.len-own.result - 2 in
    let is_own : c.len-own.result - 2 + 2 ≡ length r.free.items = (let e = c.len-own.ensures in let ok = r.free.ok.0 in omega (arith, e, ok, two)) in
    (signature_of r.checked.now.program.tables, net_in (reducer_view r), rejoined.shows r k two own is_own c.as_mut_slice.result.now c.as_mut_slice.ensures.value)

pub join_last-requires-clause-symbols : goal.join_last-requires-clause-symbols
join_last-requires-clause-symbols c =
    let r = c.self.inside.body in
    let k = c.self.invariant.all.net in
    let two : 2 ≤ length r.free.items = (let many = free_many r k in let view = ap (λ (m : MachineParts). length m.free) c.self.view_is in let least = c.requires.two in omega (arith, many, view, least)) in
    let own = c.len-own.result - 2 in
    let is_own : c.len-own.result - 2 + 2 ≡ length r.free.items = (let e = c.len-own.ensures in let ok = r.free.ok.0 in omega (arith, e, ok, two)) in
    rejoined.has_symbols r k two own is_own c.symbols.result.now c.symbols.ensures

pub queue_made-requires : goal.queue_made-requires
queue_made-requires c =
    let r = c.self.inside.body in
    let k = c.self.invariant.all.net in
    let two : 2 ≤ length r.free.items = (let many = free_many r k in let view = ap (λ (m : MachineParts). length m.free) c.self.view_is in let least = c.requires.two in omega (arith, many, view, least)) in
    let own = c.len-own.result - 2 in
    let is_own : c.len-own.result - 2 + 2 ≡ length r.free.items = (let e = c.len-own.ensures in let ok = r.free.ok.0 in omega (arith, e, ok, two)) in
    let b = c.join_last.new.arena in
    let ends = c.join_last.new.ends in
    let can = subst CanJoin (sym c.self.view_is) c.requires.can in
    let longer = c.join_last.ensures.long ∙ ap length c.as_mut_slice.ensures.value in
    let items : (with_items r.ends ends).items ≡ ends = with_items_is r.ends ends (let ok = r.ends.ok.0 in omega (arith, ok, longer)) in
    let es = (with_items r.ends ends).items in
    let long = ap length items ∙ longer in
    let shows = rejoined.shows r k two own is_own c.as_mut_slice.result.now c.as_mut_slice.ensures.value in
    let joins : (n : Net ℕ) → IsShown b (take own es) n → JoinsEnds (net_in (reducer_view r)) own (suc own) n = λ n h. c.join_last.ensures.joined (signature_of r.checked.now.program.tables) (net_in (reducer_view r)) n shows (subst (λ (z : List End). IsShown b (take own z) n) items h) in
    let one = rejoined.first_end r k two own is_own in
    let other = rejoined.last_end r k two own is_own in
    let value = c.as_mut_slice.ensures.value in
    let made = c.join_last.new.made.items in
    let adds : AddsPair r.checked.now.program.tables b one.0 other.0 [] made =
    subst (λ (z : List (ℕ × ℕ)). AddsPair r.checked.now.program.tables b one.0 other.0 z made) c.self.invariant.all.tools.made (subst (λ (t : Tables). AddsPair t b one.0 other.0 r.tools.made.items made) c.symbols.ensures
    (c.join_last.ensures.made one.0 other.0 (ap (λ (z : List End). slice_get z own) value ∙ one.1) (ap (λ (z : List End). slice_get z (suc own)) value ∙ other.1))) in
    let taken : take own r.free.items ≡ take own r.free.items = refl in
    let queue = rejoined.is_queue r k two own is_own b es c.join_last.ensures.kept long joins can (take own r.free.items) taken one.0 other.0 one.1 other.1 made adds in
    let few = rejoined.few_pairs r k two own is_own b es c.join_last.ensures.kept long joins can (take own r.free.items) taken (r.queue.items ++ reverse made) queue in
    let sum = length-append r.queue.items (reverse made) in
    let turned = length-reverse made in
    record { room = omega (arith, few, sum, turned) }

joins_there : (m n o : MachineParts) → m ≡ n → JoinsLast m o → JoinsLast n o
joins_there m n o same h = subst (λ (z : MachineParts). JoinsLast z o) same h

pub returns : goal.returns
returns c =
    let r = c.self.inside.body in
    let k = c.self.invariant.all.net in
    let two : 2 ≤ length r.free.items = (let many = free_many r k in let view = ap (λ (m : MachineParts). length m.free) c.self.view_is in let least = c.requires.two in omega (arith, many, view, least)) in
    let own = c.len-own.result - 2 in
    let is_own : c.len-own.result - 2 + 2 ≡ length r.free.items = (let e = c.len-own.ensures in let ok = r.free.ok.0 in omega (arith, e, ok, two)) in
    let b = c.join_last.new.arena in
    let ends = c.join_last.new.ends in
    let can = subst CanJoin (sym c.self.view_is) c.requires.can in
    let longer = c.join_last.ensures.long ∙ ap length c.as_mut_slice.ensures.value in
    let items : (with_items r.ends ends).items ≡ ends = with_items_is r.ends ends (let ok = r.ends.ok.0 in omega (arith, ok, longer)) in
    let es = (with_items r.ends ends).items in
    let long = ap length items ∙ longer in
    let shows = rejoined.shows r k two own is_own c.as_mut_slice.result.now c.as_mut_slice.ensures.value in
    let joins : (n : Net ℕ) → IsShown b (take own es) n → JoinsEnds (net_in (reducer_view r)) own (suc own) n = λ n h. c.join_last.ensures.joined (signature_of r.checked.now.program.tables) (net_in (reducer_view r)) n shows (subst (λ (z : List End). IsShown b (take own z) n) items h) in
    let one = rejoined.first_end r k two own is_own in
    let other = rejoined.last_end r k two own is_own in
    let value = c.as_mut_slice.ensures.value in
    let made = c.join_last.new.made.items in
    let adds : AddsPair r.checked.now.program.tables b one.0 other.0 [] made =
    subst (λ (z : List (ℕ × ℕ)). AddsPair r.checked.now.program.tables b one.0 other.0 z made) c.self.invariant.all.tools.made (subst (λ (t : Tables). AddsPair t b one.0 other.0 r.tools.made.items made) c.symbols.ensures
    (c.join_last.ensures.made one.0 other.0 (ap (λ (z : List End). slice_get z own) value ∙ one.1) (ap (λ (z : List End). slice_get z (suc own)) value ∙ other.1))) in
    let taken : take own r.free.items ≡ take own r.free.items = refl in
    joins_there _ _ _ c.self.view_is
    (rejoined.joins_last r k two own is_own b es c.join_last.ensures.kept long joins can c.truncate.new.self.items c.truncate.ensures.items c.self.invariant.none (reverse made) c.queue_made.new.queue.items c.queue_made.ensures.items)

pub invariant_of-self : goal.invariant_of-self
invariant_of-self c =
    let r = c.self.inside.body in
    let k = c.self.invariant.all.net in
    let two : 2 ≤ length r.free.items = (let many = free_many r k in let view = ap (λ (m : MachineParts). length m.free) c.self.view_is in let least = c.requires.two in omega (arith, many, view, least)) in
    let own = c.len-own.result - 2 in
    let is_own : c.len-own.result - 2 + 2 ≡ length r.free.items = (let e = c.len-own.ensures in let ok = r.free.ok.0 in omega (arith, e, ok, two)) in
    let b = c.join_last.new.arena in
    let ends = c.join_last.new.ends in
    let can = subst CanJoin (sym c.self.view_is) c.requires.can in
    let longer = c.join_last.ensures.long ∙ ap length c.as_mut_slice.ensures.value in
    let items : (with_items r.ends ends).items ≡ ends = with_items_is r.ends ends (let ok = r.ends.ok.0 in omega (arith, ok, longer)) in
    let es = (with_items r.ends ends).items in
    let long = ap length items ∙ longer in
    let shows = rejoined.shows r k two own is_own c.as_mut_slice.result.now c.as_mut_slice.ensures.value in
    let joins : (n : Net ℕ) → IsShown b (take own es) n → JoinsEnds (net_in (reducer_view r)) own (suc own) n = λ n h. c.join_last.ensures.joined (signature_of r.checked.now.program.tables) (net_in (reducer_view r)) n shows (subst (λ (z : List End). IsShown b (take own z) n) items h) in
    let one = rejoined.first_end r k two own is_own in
    let other = rejoined.last_end r k two own is_own in
    let value = c.as_mut_slice.ensures.value in
    let made = c.join_last.new.made.items in
    let adds : AddsPair r.checked.now.program.tables b one.0 other.0 [] made =
    subst (λ (z : List (ℕ × ℕ)). AddsPair r.checked.now.program.tables b one.0 other.0 z made) c.self.invariant.all.tools.made (subst (λ (t : Tables). AddsPair t b one.0 other.0 r.tools.made.items made) c.symbols.ensures
    (c.join_last.ensures.made one.0 other.0 (ap (λ (z : List End). slice_get z own) value ∙ one.1) (ap (λ (z : List End). slice_get z (suc own)) value ∙ other.1))) in
    let taken : take own r.free.items ≡ take own r.free.items = refl in
    let new = c.truncate.new.self.items in
    let is_new = c.truncate.ensures.items in
    let queue = rejoined.is_queue r k two own is_own b es c.join_last.ensures.kept long joins can new is_new one.0 other.0 one.1 other.1 made adds in
    let kept = c.join_last.ensures.kept in
    let alike = still.kept_alike r.arena b kept in
    let tools = c.self.invariant.all.tools in
    let fewer = rejoined.fewer_free r k two own is_own b es kept long joins can new is_new in
    record {
      all = record {
        net = record {
          reducer = rejoined.is_reducer r k two own is_own b es kept long joins can new is_new c.queue_made.new.queue.items (subst (IsQueueOf r.checked.now.program.tables _) (sym c.queue_made.ensures.items) queue);
          net = rejoined.still_net r k two own is_own b es kept long joins can new is_new;
          few = subst AreAllowed (sym kept.cells) k.few;
          few_free = (let f = k.few_free in omega (arith, f, fewer, is_own));
          free = rejoined.own_ends r k two own is_own b es kept long joins can new is_new;
          ends = (let f = k.ends in omega (arith, f, fewer, is_own, long));
          queue = (let f = k.queue in let e = ap all_of kept.cells in let q = c.queue_made.ensures.room in omega (arith, f, e, q));
        };
        tools = record {
          placed = still.still_none r.tools.placed.bag r.arena b alike tools.placed;
          room = tools.room;
          made = c.queue_made.ensures.none;
          made_room = (let f = tools.made_room in let g = c.join_last.ensures.capacity in let h = c.queue_made.ensures.made_room in omega (arith, f, g, h));
          points = tools.points;
        };
      };
      none = still.still_unleased r.arena b alike c.self.invariant.none;
    }
