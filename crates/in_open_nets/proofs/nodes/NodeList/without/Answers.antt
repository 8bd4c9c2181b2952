use Rattle.std.proofs.Common.{◌∙◌, ap, sym, subst}
use Rattle.std.specs.List.{remove}
use Rattle.in_open_nets.specs.Members.{nodes_in}
use Rattle.in_open_nets.specs.Stuck.{IsListed}
use Rattle.in_open_nets.proofs.PartsOf.Members.{listed_without, tests_are}
use Rattle.in_open_nets.proofs.nodes.NodeList.without.Goals as goal

pub invariant_of-result : goal.invariant_of-result
invariant_of-result c =
    let nodes = c.args.self.now in
    let tests = c.args.tests.now in
    let ns = c.members-these.result.now in
    let i = c.loop-place.place in
    let same = c.remove.ensures.rest ∙ ap (λ z. remove z i) c.in_ok-members.ensures in
    let l = subst (IsListed (nodes_in tests)) (sym same) (listed_without nodes tests ns i c.args.node c.loop-place-test.true (sym c.if-member-node.true) c.members-these.ensures c.requires.rest) in
    (tests_are tests c.remove.new.self l c.len.result c.len.ensures).1

pub returns-then-member-node : goal.returns-then-member-node
returns-then-member-node c =
    let nodes = c.args.self.now in
    let tests = c.args.tests.now in
    let ns = c.members-these.result.now in
    let i = c.loop-place.place in
    let same = c.remove.ensures.rest ∙ ap (λ z. remove z i) c.in_ok-members.ensures in
    let l = subst (IsListed (nodes_in tests)) (sym same) (listed_without nodes tests ns i c.args.node c.loop-place-test.true (sym c.if-member-node.true) c.members-these.ensures c.requires.rest) in
    (tests_are tests c.remove.new.self l c.len.result c.len.ensures).0

pub narrowed-requires-clause-within : goal.narrowed-requires-clause-within
narrowed-requires-clause-within c n h = ((c.requires.rest n).0 h).0
