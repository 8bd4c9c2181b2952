use Rattle.std.proofs.Common.{sym, subst}
use Rattle.in_arena.specs.States.{IsLive}
use Rattle.in_arena.proofs.Inside.{lease_many, lease_number, lease_state, owns_one, settled_in}
use Rattle.in_arena.proofs.arena.Arena.settle.Goals as goal

pub invariant_of-self : goal.invariant_of-self
invariant_of-self c =
    let a = c.self.inside in let h = c.self.invariant in let v = c.args.self.now in let l = c.lease.inside in let k = c.lease.invariant in let m = c.args.lease in let of = c.requires.of_this_arena in
    let e = c.self.view_is in let f = c.lease.view_is in let is = lease_state a h v e l k m f of in
    (settled_in a h v e l.spot l.words (owns_one a h v e l k m f of) c.join.new.self m.number m.state (lease_many a h v e l k m f of) (lease_number a h v e l k m f of) (subst IsLive is c.requires.written) c.join.ensures.0 c.join.ensures.1 (sym is)).0

pub returns : goal.returns
returns c =
    let a = c.self.inside in let h = c.self.invariant in let v = c.args.self.now in let l = c.lease.inside in let k = c.lease.invariant in let m = c.args.lease in let of = c.requires.of_this_arena in
    let e = c.self.view_is in let f = c.lease.view_is in let is = lease_state a h v e l k m f of in
    (settled_in a h v e l.spot l.words (owns_one a h v e l k m f of) c.join.new.self m.number m.state (lease_many a h v e l k m f of) (lease_number a h v e l k m f of) (subst IsLive is c.requires.written) c.join.ensures.0 c.join.ensures.1 (sym is)).1
