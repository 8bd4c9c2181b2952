use Rattle.std.proofs.Common.{sym, subst}
use Rattle.in_node_orders.specs.Arrivals.{AreArrivals}
use Rattle.in_node_orders.proofs.orders.Left.come.Goals as goal

pub returns-clause-left : goal.returns-clause-left
returns-clause-left c = λ t. record {
  arrivals = subst (λ z. AreArrivals c.args.wired.now z c.args.self.now.arrivals) (sym c.come_by.ensures.edges) c.requires.arrivals;
  growing = c.come_by.ensures.growing t;
  come = c.come_by.ensures.come t;
}
