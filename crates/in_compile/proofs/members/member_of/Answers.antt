use Rattle.std.proofs.Common.{arith}
use Rattle.in_compile.proofs.Compiled.Made.{made}
use Rattle.in_compile.proofs.Compiled.Laid.{ends_within}
use Rattle.in_compile.proofs.Compiled.Sound.{sound}
use Rattle.in_compile.proofs.members.member_of.Goals as goal

pub returns : goal.returns
returns c =
    made c.args.symbols.now c.args.net.now c.add_agents.new.agents c.add_agents.new.joints c.in_ok-pairs.pairs c.need_of_net.result c.free_ends.result
    (c.in_ok-add_agents.ensures {u = tt}) c.free_ends.ensures c.in_ok-pairs.ensures.pairs c.need_of_net.ensures

pub invariant_of-result : goal.invariant_of-result
invariant_of-result c =
    let t = c.args.symbols.now in
    let n = c.args.net.now in
    let agents = c.add_agents.new.agents in
    let joints = c.add_agents.new.joints in
    let laid = c.in_ok-add_agents.ensures {u = tt} in
    let whole = c.cells-cells.ensures.whole in
    let of = made t n agents joints c.in_ok-pairs.pairs c.need_of_net.result c.free_ends.result laid c.free_ends.ensures c.in_ok-pairs.ensures.pairs c.need_of_net.ensures in
    record {
      laid = record {
        ends = (let e = ends_within t n agents joints laid in let f = c.free_ends.ensures in omega (arith, e, f));
        places = λ k a s. (laid.each k a s).2.within;
        few = (let e = laid.count in let f = c.requires.few in omega (arith, e, f));
        few_ends = (let e = whole.ends in let f = c.free_ends.ensures in omega (arith, e, f));
        few_pairs = c.in_ok-pairs.ensures.few;
      };
      sound = sound t n _ whole c.requires.over c.requires.there c.requires.few of;
    }
