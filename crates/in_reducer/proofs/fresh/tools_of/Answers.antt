use Rattle.std.proofs.Common.{arith}
use Rattle.in_syntax.specs.TextLimits.{most_member_agents}
use Rattle.in_reducer.proofs.Starts.Begun.{are_tools}
use Rattle.in_reducer.proofs.fresh.tools_of.Goals as goal

pub returns : goal.returns
returns c =
    are_tools (record { placed = c.in_ok-empty.field-0; made = c.in_ok-with_capacity.field-0; points = c.in_ok-vec.field-0 }) c.args.arena.now most_member_agents c.in_ok-empty.ensures (omega arith)
    c.in_ok-with_capacity.ensures.items c.in_ok-with_capacity.ensures.capacity (let e = c.in_ok-vec.ensures.len in let ok = c.in_ok-vec.field-0.ok.0 in omega (arith, e, ok))
