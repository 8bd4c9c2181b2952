use Rattle.in_tests.proofs.Changes.{given_back}
use Rattle.in_tests.proofs.leases.next_cell.Goals as goal

pub returns : goal.returns
returns g c =
    given_back c.args.arena.now c.lease.new.self c.give_back.new.self c.args.class c.lease.result c.expect-lease.result c.lease.ensures c.expect-lease.ensures c.give_back.ensures
