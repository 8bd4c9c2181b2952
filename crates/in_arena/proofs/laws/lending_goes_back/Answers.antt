use Rattle.in_arena.proofs.Lending.{goes_back}
use Rattle.in_arena.proofs.laws.lending_goes_back.Goals as goal

pub returns : goal.returns
returns c = goes_back
