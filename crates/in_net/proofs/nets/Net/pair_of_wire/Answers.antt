use Rattle.std.proofs.Common.{sym, subst, ◌∙◌}
use Rattle.in_net.specs.Parts.{IsWhole}
use Rattle.in_net.proofs.AtPairs.PairOfWire.{in_their_order}
use Rattle.in_net.proofs.nets.Net.pair_of_wire.Goals as goal

pub returns : goal.returns
returns c =
    let n = c.args.self.now in
    in_their_order c.args.symbols.now n c.args.wire c.wire-from.result.0 c.wire-from.result.1 (sym c.wire-from.ensures.wire) (subst IsWhole c.self.view_is c.self.invariant)
    c.in_ok-one.one c.in_ok-other.other (c.in_ok-one.ensures {u = tt}) (c.in_ok-other.ensures {u = tt}) c.in_ok-first.first c.in_ok-second.second c.in_order.result
    (sym c.symbol.ensures ∙ c.in_ok-first.was {u = tt}) (sym c.symbol-2.ensures ∙ c.in_ok-second.was {u = tt}) c.in_order.ensures
