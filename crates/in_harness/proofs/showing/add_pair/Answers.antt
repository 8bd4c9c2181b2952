use Rattle.in_harness.proofs.showing.add_pair.Goals as goal

pub symbol_name-requires : goal.symbol_name-requires
symbol_name-requires c = c.pair.ensures.agents.0

pub arity-requires : goal.arity-requires
arity-requires c = c.pair.ensures.agents.0

pub symbol_name-requires-2 : goal.symbol_name-requires-2
symbol_name-requires-2 c = c.pair.ensures.agents.1

pub arity-requires-2 : goal.arity-requires-2
arity-requires-2 c = c.pair.ensures.agents.1
