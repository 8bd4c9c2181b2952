use Rattle.in_compile.proofs.Placements.Back.{all_back}
use Rattle.in_compile.proofs.laws.all_go_back.Goals as goal

pub returns : goal.returns
returns c = all_back
