use Rattle.in_syntax.proofs.Trees.SourcePlaces as laws
use Rattle.in_syntax.proofs.laws.texts_begin_apart.Goals as goal

pub returns : goal.returns
returns c = laws.texts_begin_apart
