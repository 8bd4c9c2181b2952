use Rattle.in_tests.proofs.Changes.{given_back}
use Rattle.in_tests.proofs.leases.two_leases.Goals as goal

pub returns : goal.returns
returns g c = (
  given_back c.args.one.now c.lease.new.self c.give_back.new.self c.args.class c.lease.result c.expect-first.result c.lease.ensures c.expect-first.ensures c.give_back.ensures,
  given_back c.args.other.now c.lease-2.new.self c.give_back-2.new.self c.args.class c.lease-2.result c.expect-second.result c.lease-2.ensures c.expect-second.ensures c.give_back-2.ensures,
)
