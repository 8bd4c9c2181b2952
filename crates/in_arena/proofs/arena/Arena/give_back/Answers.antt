use Rattle.in_arena.specs.States.{Vacant}
use Rattle.in_arena.proofs.Inside.{back_in, lease_many, lease_number, owns_one}
use Rattle.in_arena.proofs.arena.Arena.give_back.Goals as goal

pub take_back-requires-clause-one : goal.take_back-requires-clause-one
take_back-requires-clause-one c = owns_one c.self.inside c.self.invariant c.args.self.now c.self.view_is c.lease.inside c.lease.invariant c.args.lease c.lease.view_is c.requires

pub returns : goal.returns
returns c =
    let a = c.self.inside in let h = c.self.invariant in let v = c.args.self.now in let l = c.lease.inside in let k = c.lease.invariant in let m = c.args.lease in let t = c.take_back.ensures in
    (back_in a h v c.self.view_is m.number l.spot c.take_back.new.words c.take_back.new.lists Vacant (lease_many a h v c.self.view_is l k m c.lease.view_is c.requires) (lease_number a h v c.self.view_is l k m c.lease.view_is c.requires) k.index t.same t.whole t.free t.rows).1
