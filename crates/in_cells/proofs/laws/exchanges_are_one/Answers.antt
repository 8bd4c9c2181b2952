use Rattle.in_cells.proofs.Writes.{exchange_one}
use Rattle.in_cells.proofs.laws.exchanges_are_one.Goals as goal

pub returns : goal.returns
returns c = exchange_one
