use Rattle.std.proofs.Common.{◌∙◌}
use Rattle.in_open_nets.proofs.PartsOf.Members.{filled}
use Rattle.in_open_nets.proofs.nodes.set_of.Goals as goal

pub returns : goal.returns
returns c = filled c.args.list.now c.clear.new.self c.add_to.new.set (c.add_to.ensures.size ∙ c.in_ok-clear.ensures.size ∙ c.requires) c.in_ok-clear.ensures.none c.add_to.ensures.union
