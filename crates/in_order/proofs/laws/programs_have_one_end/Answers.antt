use Rattle.in_order.proofs.Orders.OneEnd.{programs_have_one_end as law}
use Rattle.in_order.proofs.laws.programs_have_one_end.Goals as goal

pub returns : goal.returns
returns c = law
