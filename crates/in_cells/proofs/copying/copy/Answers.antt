use Rattle.in_cells.proofs.Written.{all_copied}
use Rattle.in_cells.proofs.copying.copy.Goals as goal

pub returns-clause-copied : goal.returns-clause-copied
returns-clause-copied c =
    all_copied c.args.from.now c.args.agents.now c.take_cells.new.names c.args.ends.now c.args.to.now c.take_cells.new.to c.write_agents.new.to c.take_cells.ensures.taken c.write_agents.ensures
