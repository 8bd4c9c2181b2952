use Rattle.in_typing.proofs.Pairs.{pairs_match}
use Rattle.in_typing.proofs.laws.typed_pairs_match.Goals as goal

pub returns : goal.returns
returns c = λ t n x y whole typed pair. pairs_match t n x y whole typed pair
