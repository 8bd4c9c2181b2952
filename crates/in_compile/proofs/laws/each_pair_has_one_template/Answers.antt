use Rattle.in_compile.proofs.Compiled.Accepted.{complete}
use Rattle.in_compile.proofs.Compiled.OneTemplate.{one_for}
use Rattle.in_compile.proofs.laws.each_pair_has_one_template.Goals as goal

pub returns : goal.returns
returns c = λ limits text p ts x y accepted h pair. one_for p ts h (complete limits text p accepted) x y pair
