use Rattle.std.proofs.Common.{ap, arith}
use Rattle.in_open_nets.specs.Members.{missing, tests_of}
use Rattle.in_open_nets.proofs.PartsOf.Counted.{missing_listed}
use Rattle.in_open_nets.proofs.PartsOf.Members.{tests_many}
use Rattle.in_open_nets.proofs.nodes.NodeList.absent.Goals as goal

pub returns : goal.returns
returns c =
    let s = c.self.inside in
    let a = missing_listed (tests_of s.count s.members) s.members c.self.invariant in
    let b = tests_many s.count s.members in
    let e = ap missing c.self.view_is in
    let d = c.len.ensures in
    let f = c.saturating_sub.ensures in
    omega arith
