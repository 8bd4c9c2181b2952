use Rattle.std.proofs.Common.{refl, sym, subst, ap, arith}
use Rattle.in_arena.specs.Arenas.{LeaseView}
use Rattle.in_arena.specs.Classes.{Holds}
use Rattle.in_arena.specs.FreeLists.{state_in}
use Rattle.in_arena.specs.Words.{Content}
use Rattle.in_arena.proofs.FreeLists.{begun}
use Rattle.in_arena.proofs.Classes.{held_some}
use Rattle.in_arena.proofs.Inside.{lease_long, lease_rewrites, lease_written}
use Rattle.in_arena.proofs.lease.Lease.begin.Goals as goal

pub invariant_of-self : goal.invariant_of-self
invariant_of-self c =
    let l = c.self.inside in let k = c.self.invariant in let held = subst (λ d. Holds d c.args.head.count) (sym (ap (λ (m : LeaseView). m.class) c.self.view_is)) c.requires in
    let x : Content = record { word = c.args.head.word; count = c.args.head.count; ends = k.content.ends } in
    lease_rewrites l k c.begin_cell.new.words x (c.begin_cell.ensures k.content k.cell) held.1

pub returns : goal.returns
returns c =
    let l = c.self.inside in let k = c.self.invariant in let held = subst (λ d. Holds d c.args.head.count) (sym (ap (λ (m : LeaseView). m.class) c.self.view_is)) c.requires in
    let x : Content = record { word = c.args.head.word; count = c.args.head.count; ends = k.content.ends } in let few = held.1 in
    (state_in x, begun x (held_some l.spot.class c.args.head.count held) (omega (arith, few, lease_long l k k.content k.cell)), lease_written l c.args.self.now c.begin_cell.new.words x (state_in x) c.self.view_is (c.begin_cell.ensures k.content k.cell) refl)
