use Rattle.std.proofs.Common.{◌≡◌, ◌++◌, ℕ, List, map, reverse, length, length-append, slice_get, sym, ap, subst, ◌∙◌, arith}
use Rattle.std.specs.Vec.{with_items}
use Rattle.std.proofs.lemmas.List.{length-reverse, with_items_is}
use Rattle.in_arena.specs.Classes.{all_of}
use Rattle.in_reducer.specs.Limiting.{AreAllowed}
use Rattle.in_symbols.specs.Tables.{Tables}
use Rattle.in_interaction.specs.Queues.{both}
use Rattle.in_compile.specs.Members.{MemberParts}
use Rattle.in_reducer.specs.Inside.{over}
use Rattle.in_reducer.specs.Interacting.{named}
use Rattle.in_reducer.specs.Standing.{IsNetIn, at_rest}
use Rattle.in_reducer.proofs.Steps.Finished as finished
use Rattle.in_reducer.proofs.Steps.Stepped as stepped
use Rattle.in_reducer.proofs.body.Body.finish.Goals as goal

pub interact-requires-clause-beside : goal.interact-requires-clause-beside
interact-requires-clause-beside c =
    let r = c.args.self.now in
    let a = c.requires.beside.0 in
    let sb = c.requires.beside.1 in
    let own : c.len-own.result ≡ length r.free.items = (let e = c.len-own.ensures in let ok = r.free.ok.0 in omega (arith, e, ok)) in (
      finished.setting r a c.args.number c.args.template.now sb,
      finished.beside r a c.args.number c.args.template.now sb c.at-one.result c.at-one.ensures c.symbols.result.now c.symbols.ensures c.first_ends.result c.first_ends.ensures c.len-own.result own
          c.as_mut_slice.result.now c.as_mut_slice.ensures.value,
    )

pub interact-requires-clause-net : goal.interact-requires-clause-net
interact-requires-clause-net c = finished.put_net c.args.self.now c.requires.beside.0 c.args.number c.args.template.now c.requires.beside.1 c.symbols.result.now c.symbols.ensures

pub invariant_of-next-clause-few_ends : goal.invariant_of-next-clause-few_ends
invariant_of-next-clause-few_ends c = finished.few c.args.self.now c.requires.beside.0 c.args.number c.args.template.now c.requires.beside.1

pub interact-requires-clause-room : goal.interact-requires-clause-room
interact-requires-clause-room c =
    let r = c.args.self.now in
    let own : c.len-own.result ≡ length r.free.items = (let e = c.len-own.ensures in let ok = r.free.ok.0 in omega (arith, e, ok)) in
    finished.room r c.requires.beside.0 c.args.number c.args.template.now c.requires.beside.1 c.len-own.result own c.as_mut_slice.result.now c.as_mut_slice.ensures.value

pub queue_made-requires : goal.queue_made-requires
queue_made-requires c =
    let r = c.args.self.now in
    let a = c.requires.beside.0 in
    let p = c.args.template.now in
    let sb = c.requires.beside.1 in
    let own : c.len-own.result ≡ length r.free.items = (let e = c.len-own.ensures in let ok = r.free.ok.0 in omega (arith, e, ok)) in
    let is_beside = finished.beside r a c.args.number p sb c.at-one.result c.at-one.ensures c.symbols.result.now c.symbols.ensures c.first_ends.result c.first_ends.ensures c.len-own.result own
    c.as_mut_slice.result.now c.as_mut_slice.ensures.value in
    let adds = c.interact.ensures.interacted (finished.setting r a c.args.number p sb) is_beside in
    let long = c.interact.ensures.long ∙ ap length c.as_mut_slice.ensures.value in
    let few = finished.lengths r a c.args.number p sb c.len-own.result c.interact.new.arena c.interact.new.ends c.interact.new.made.items c.symbols.result.now r.tools.made.items
    (record { is_own = own; same = c.symbols.ensures; none = c.requires.made.0; adds = adds; still_net = c.interact.ensures.net; cells = c.interact.ensures.leased.cells; long = long }) in
    let gone = ap length c.take_out.ensures.items in
    record { room = (let e = c.take_out.ensures.room in omega (arith, few, gone, e)) }

pub queue_own-requires-clause-there : goal.queue_own-requires-clause-there
queue_own-requires-clause-there c j q e =
    let here = ap (λ (m : MemberParts). slice_get m.pairs j) (sym c.member.ensures) ∙ e in
    let sb = c.requires.beside.1 in
    stepped.pairs_there (over c.requires.beside.0 c.args.self.now) sb.net c.args.number c.args.template.now sb.at (length c.args.self.now.tools.placed.cells) sb.put.count j q here

pub queue_own-requires-clause-room : goal.queue_own-requires-clause-room
queue_own-requires-clause-room c =
    let r = c.args.self.now in
    let a = c.requires.beside.0 in
    let p = c.args.template.now in
    let sb = c.requires.beside.1 in
    let own : c.len-own.result ≡ length r.free.items = (let e = c.len-own.ensures in let ok = r.free.ok.0 in omega (arith, e, ok)) in
    let is_beside = finished.beside r a c.args.number p sb c.at-one.result c.at-one.ensures c.symbols.result.now c.symbols.ensures c.first_ends.result c.first_ends.ensures c.len-own.result own
    c.as_mut_slice.result.now c.as_mut_slice.ensures.value in
    let adds = c.interact.ensures.interacted (finished.setting r a c.args.number p sb) is_beside in
    let long = c.interact.ensures.long ∙ ap length c.as_mut_slice.ensures.value in
    let made = c.interact.new.made.items in
    let few = finished.lengths r a c.args.number p sb c.len-own.result c.interact.new.arena c.interact.new.ends made c.symbols.result.now r.tools.made.items
    (record { is_own = own; same = c.symbols.ensures; none = c.requires.made.0; adds = adds; still_net = c.interact.ensures.net; cells = c.interact.ensures.leased.cells; long = long }) in
    let gone = ap length c.take_out.ensures.items in
    let pairs = ap (λ (m : MemberParts). length m.pairs) c.member.ensures in
    let more = ap length c.queue_made.ensures.items in
    let sum = length-append c.take_out.new.queue.items (reverse made) in
    let turned = length-reverse made in
    let e = c.take_out.ensures.room in
    let f = c.queue_made.ensures.room in
    omega (arith, few, gone, pairs, more, sum, turned, e, f)

pub returns-clause-steps : goal.returns-clause-steps
returns-clause-steps c a sb =
    let r = c.args.self.now in
    let p = c.args.template.now in
    let own : c.len-own.result ≡ length r.free.items = (let e = c.len-own.ensures in let ok = r.free.ok.0 in omega (arith, e, ok)) in
    let is_beside = finished.beside r a c.args.number p sb c.at-one.result c.at-one.ensures c.symbols.result.now c.symbols.ensures c.first_ends.result c.first_ends.ensures c.len-own.result own
    c.as_mut_slice.result.now c.as_mut_slice.ensures.value in
    let adds = c.interact.ensures.interacted (finished.setting r a c.args.number p sb) is_beside in
    let long = c.interact.ensures.long ∙ ap length c.as_mut_slice.ensures.value in
    let es = c.interact.new.ends in
    let pairs = ap (λ (m : MemberParts). m.pairs) c.member.ensures in
    let items : (with_items r.ends es).items ≡ es = with_items_is r.ends es (let ok = r.ends.ok.0 in omega (arith, ok, long)) in
    finished.steps r a c.args.number p sb c.len-own.result c.interact.new.arena es c.interact.new.made.items c.symbols.result.now r.tools.made.items
    (record { is_own = own; same = c.symbols.ensures; none = c.requires.made.0; adds = adds; still_net = c.interact.ensures.net; cells = c.interact.ensures.leased.cells; long = long })
    c.take_out.new.queue.items c.queue_made.new.queue.items c.queue_own.new.queue.items
    c.take_out.ensures.items c.queue_made.ensures.items (c.queue_own.ensures.items ∙ ap (λ (z : List (ℕ × ℕ)). c.queue_made.new.queue.items ++ map (both (named r.tools.placed.cells)) z) pairs) (with_items r.ends es).items items

pub returns-clause-net : goal.returns-clause-net
returns-clause-net c =
    let r = c.args.self.now in
    let a = c.requires.beside.0 in
    let p = c.args.template.now in
    let sb = c.requires.beside.1 in
    let own : c.len-own.result ≡ length r.free.items = (let e = c.len-own.ensures in let ok = r.free.ok.0 in omega (arith, e, ok)) in
    let is_beside = finished.beside r a c.args.number p sb c.at-one.result c.at-one.ensures c.symbols.result.now c.symbols.ensures c.first_ends.result c.first_ends.ensures c.len-own.result own
    c.as_mut_slice.result.now c.as_mut_slice.ensures.value in
    let adds = c.interact.ensures.interacted (finished.setting r a c.args.number p sb) is_beside in
    let long = c.interact.ensures.long ∙ ap length c.as_mut_slice.ensures.value in
    let b = c.interact.new.arena in
    let es = c.interact.new.ends in
    let pairs = ap (λ (m : MemberParts). m.pairs) c.member.ensures in
    let items : (with_items r.ends es).items ≡ es = with_items_is r.ends es (let ok = r.ends.ok.0 in omega (arith, ok, long)) in
    let cells = c.interact.ensures.leased.cells ∙ sb.put.cells in
    record {
      reducer = finished.is_reducer r a c.args.number p sb c.len-own.result b es c.interact.new.made.items c.symbols.result.now r.tools.made.items
          (record { is_own = own; same = c.symbols.ensures; none = c.requires.made.0; adds = adds; still_net = c.interact.ensures.net; cells = c.interact.ensures.leased.cells; long = long })
          c.take_out.new.queue.items c.queue_made.new.queue.items c.queue_own.new.queue.items
          c.take_out.ensures.items c.queue_made.ensures.items (c.queue_own.ensures.items ∙ ap (λ (z : List (ℕ × ℕ)). c.queue_made.new.queue.items ++ map (both (named r.tools.placed.cells)) z) pairs) (with_items r.ends es).items items;
      net = subst (λ (t : Tables). IsNetIn t (at_rest b)) c.symbols.ensures c.interact.ensures.net;
      few = subst AreAllowed (sym cells) sb.net.few;
      few_free = sb.net.few_free;
      free = sb.net.free;
      ends = (let k = sb.net.ends in let f = ap length items in omega (arith, k, f, long));
      queue = (let k = sb.net.queue in let f = c.take_out.ensures.room in let g = c.queue_made.ensures.room in let h = c.queue_own.ensures.room in omega (arith, k, f, g, h, ap all_of cells));
    }
