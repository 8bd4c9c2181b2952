use Rattle.in_gluing.proofs.TakenApart.{any_order_is_step}
use Rattle.in_gluing.proofs.laws.any_order_is_step.Goals as goal

pub returns : goal.returns
returns c = any_order_is_step
