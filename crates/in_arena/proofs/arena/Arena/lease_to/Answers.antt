use Rattle.std.proofs.Common.{Some, subst, sym}
use Rattle.in_arena.specs.Arenas.{Leases}
use Rattle.in_arena.specs.Bags.{LeasesTo}
use Rattle.in_arena.specs.ByClass.{view_of}
use Rattle.in_arena.specs.declared.content.CellNo.{CellNo}
use Rattle.in_arena.proofs.Kept.{leased_to}
use Rattle.in_arena.proofs.arena.Arena.lease_to.Goals as goal

pub invariant_of-bag : goal.invariant_of-bag
invariant_of-bag c =
    let v = c.args.self.now in let u = c.lease.new.self in let m = c.in_ok-spot.field-0 in
    let made = subst (λ o. Leases v c.args.class o u) (c.in_ok-spot.was {u = tt}) c.lease.ensures in
    (leased_to c.bag.inside c.bag.invariant c.args.bag.now v u c.bag.view_is c.requires c.args.class c.words.inside c.words.invariant m c.words.view_is made c.join.new.self c.cell.result.0 c.cell.ensures c.join.ensures.0 c.join.ensures.1).0

pub returns : goal.returns
returns c =
    let v = c.args.self.now in let u = c.lease.new.self in let m = c.in_ok-spot.field-0 in
    let made = subst (λ o. Leases v c.args.class o u) (c.in_ok-spot.was {u = tt}) c.lease.ensures in
    let to = (leased_to c.bag.inside c.bag.invariant c.args.bag.now v u c.bag.view_is c.requires c.args.class c.words.inside c.words.invariant m c.words.view_is made c.join.new.self c.cell.result.0 c.cell.ensures c.join.ensures.0 c.join.ensures.1).1 in
    subst (λ (n : CellNo). LeasesTo v c.args.class c.args.bag.now (Some n) u (view_of c.join.new.self.at c.bag.inside.cells c.join.new.self.slots)) (sym c.of.ensures) to
