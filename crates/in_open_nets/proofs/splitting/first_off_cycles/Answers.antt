use Rattle.std.proofs.Common.{arith}
use Rattle.in_open_nets.proofs.PartsOf.FirstMembers.{first_next, next_small, none_next, none_splits}
use Rattle.in_open_nets.proofs.PartsOf.Sums.{not_both}
use Rattle.in_open_nets.proofs.splitting.first_off_cycles.Goals as goal

pub splits-requires-clause-node : goal.splits-requires-clause-node
splits-requires-clause-node c =
    next_small c.args.part.now.wired.now c.args.part.now.nodes.now c.members-member-items.result.now c.members-member-items.ensures c.args.part.now.size c.loop-member.member-index c.loop-member-test.true

pub returns-then-splits-clause-found : goal.returns-then-splits-clause-found
returns-then-splits-clause-found c =
    first_next c.args.part.now.wired.now c.args.part.now.nodes.now c.members-member-items.result.now c.members-member-items.ensures c.loop-member.member-index c.loop-member-test.true c.loop-member.invariant (c.splits.ensures.0 c.if-splits.true)

pub loop-member-preserved : goal.loop-member-preserved
loop-member-preserved c =
    none_next c.args.part.now.wired.now c.args.part.now.nodes.now c.members-member-items.result.now c.members-member-items.ensures c.loop-member.member-index c.loop-member-test.true c.loop-member.invariant
    (λ s. not_both c.splits.result (c.splits.ensures.1 s) c.if-splits.false)

pub returns-clause-found : goal.returns-clause-found
returns-clause-found c =
    let ns = c.members-member-items.result.now in
    let f = c.loop-member-test.false in
    let g = c.loop-member.auto in
    none_splits c.args.part.now.wired.now c.args.part.now.nodes.now ns c.members-member-items.ensures c.loop-member.member-index (omega arith) c.loop-member.invariant
