use Rattle.std.proofs.Common.{◌+◌, set, sym, subst}
use Rattle.in_node_orders.specs.Growing.{IsGrowing}
use Rattle.in_node_orders.proofs.Edges.{growing_linked}
use Rattle.in_node_orders.proofs.growing.Growing.link.Goals as goal

pub returns-clause-growing : goal.returns-clause-growing
returns-clause-growing c =
    let g = c.args.self.now in
    let r = growing_linked g.edges g.come g.ups g.vias g.skips c.requires.growing c.args.high c.args.low c.requires.ends c.requires.root c.requires.lower in
    subst (λ z. IsGrowing (record { edges = g.edges; come = g.come + 1; ups = c.set.new.self; vias = z; skips = g.skips })) (sym c.set-2.ensures) (subst (λ z. IsGrowing (record { edges = g.edges; come = g.come + 1; ups = z; vias = set g.vias c.args.high g.come; skips = g.skips })) (sym c.set.ensures) r)
