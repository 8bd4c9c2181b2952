use Rattle.in_typing.proofs.TypedAlong.{typed_after}
use Rattle.in_typing.proofs.laws.steps_stay_typed.Goals as goal

pub returns : goal.returns
returns c = λ sig n x name after net inside redex step typed typed_inside. typed_after sig n x name net inside redex step.naming typed typed_inside after step
