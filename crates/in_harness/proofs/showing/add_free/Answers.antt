use Rattle.in_harness.proofs.LedTo.{agent_led_to}
use Rattle.in_harness.proofs.showing.add_free.Goals as goal

pub symbol_name-requires : goal.symbol_name-requires
symbol_name-requires c = agent_led_to c.args.machine.now c.pairs.ensures.machine c.args.number c.in-Cell.cell c.in-Cell.place c.in-Cell.ensures
