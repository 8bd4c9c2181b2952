use Rattle.in_tests.proofs.Changes.{live_now, written_there}
use Rattle.in_tests.proofs.bags.make_in_bag.Goals as goal

pub returns : goal.returns
returns g c =
    let n = c.lease_into-cell.result.0 in
    let made = c.lease_into-cell.ensures in
    live_now c.args.arena.now c.lease_into-cell.new.arena c.settle_from.new.self n _ c.args.symbol c.args.ends.now c.requires.0 made.1 made.2 c.settle_from.ensures.0 (written_there c.lease_into-cell.new.bag c.write.new.self n _ made.5 c.write.ensures)
