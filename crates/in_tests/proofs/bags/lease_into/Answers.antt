use Rattle.std.proofs.Common.{Some, ap, sym, subst, ◌∙◌}
use Rattle.in_arena.specs.Bags.{LeasesTo}
use Rattle.in_arena.specs.declared.content.CellNo.{CellNo}
use Rattle.in_tests.proofs.Changes.{leased_in}
use Rattle.in_tests.proofs.bags.lease_into.Goals as goal

pub returns : goal.returns
returns g c =
    let made = leased_in c.args.arena.now c.args.class c.args.bag.now c.lease_to.result c.expect.result c.lease_to.new.self c.lease_to.new.bag c.lease_to.ensures c.expect.ensures in
    subst (λ (n : CellNo). LeasesTo c.args.arena.now c.args.class c.args.bag.now (Some n) c.lease_to.new.self c.lease_to.new.bag) (sym c.no.ensures) made
