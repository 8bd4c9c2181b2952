use Rattle.in_tests.proofs.Changes.{settled}
use Rattle.in_tests.proofs.leases.make_elsewhere.Goals as goal

pub returns : goal.returns
returns g c =
    settled c.args.arena.now c.lease.new.self c.settle.new.self c.args.class c.lease.result c.expect-lease.result c.join-lease.result.0 c.args.symbol c.cell-cell.result.0 c.args.ends.now c.requires.0 c.lease.ensures c.expect-lease.ensures c.join-lease.ensures.first c.settle.ensures c.cell-cell.ensures
