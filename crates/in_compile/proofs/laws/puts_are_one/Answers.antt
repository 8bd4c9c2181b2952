use Rattle.in_compile.proofs.Placements.OnePut.{one_put}
use Rattle.in_compile.proofs.laws.puts_are_one.Goals as goal

pub returns : goal.returns
returns c = one_put
