use Rattle.in_typing.proofs.TypedAlong.{along_paths}
use Rattle.in_typing.proofs.laws.typed_along_paths.Goals as goal

pub returns : goal.returns
returns c = λ sig n x name net inside redex naming typed typed_inside u v s t joined a b. along_paths sig n x name net inside redex naming typed typed_inside u v s t joined a b
