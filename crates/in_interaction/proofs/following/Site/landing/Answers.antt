use Rattle.std.proofs.Common.{◌+◌, sym, subst}
use Rattle.in_interaction.specs.Following.{IsSite}
use Rattle.in_net.specs.Interactions.{Side}
use Rattle.in_interaction.specs.Making.{IsOnWay, side_of}
use Rattle.in_interaction.proofs.Stepping.Reaching.{starts, next_turn, has_landed, too_low, too_long}
use Rattle.in_interaction.proofs.following.Site.landing.Goals as goal

pub loop-wire-init : goal.loop-wire-init
loop-wire-init c = starts c.args.self.now (subst IsSite c.self.view_is c.self.invariant) (side_of c.args.side) c.args.end c.requires

pub reached-requires : goal.reached-requires
reached-requires c = c.loop-wire.invariant.within

pub returns-in-Staying : goal.returns-in-Staying
returns-in-Staying c =
    has_landed c.args.self.now (subst IsSite c.self.view_is c.self.invariant) (side_of c.args.side) (side_of c.loop-wire.by) c.args.end c.loop-wire.at c.loop-wire.wire c.in-Staying.point c.loop-wire.invariant (c.in-Staying.ensures {u = tt})

pub returns-then-next-end : goal.returns-then-next-end
returns-then-next-end c =
    too_low c.args.self.now (subst IsSite c.self.view_is c.self.invariant) (side_of c.args.side) (side_of c.loop-wire.by) c.args.end c.loop-wire.at c.loop-wire.wire c.in-End.next c.loop-wire.invariant (c.in-End.ensures {u = tt}) c.if-next-end.true

pub loop-wire-preserved : goal.loop-wire-preserved
loop-wire-preserved c =
    let s = c.args.self.now in
    subst (λ (z : Side). IsOnWay s (side_of c.args.side) c.args.end z c.in-End.next (c.loop-wire.wire + 1)) (sym c.other-by.ensures)
    (next_turn s (subst IsSite c.self.view_is c.self.invariant) (side_of c.args.side) (side_of c.loop-wire.by) c.args.end c.loop-wire.at c.loop-wire.wire c.in-End.next c.loop-wire.invariant (c.in-End.ensures {u = tt}) c.if-next-end.false)

pub returns : goal.returns
returns c =
    too_long c.args.self.now (subst IsSite c.self.view_is c.self.invariant) (side_of c.args.side) (side_of c.loop-wire.by) c.args.end c.loop-wire.at c.loop-wire.wire c.loop-wire.invariant c.loop-wire-test.false
