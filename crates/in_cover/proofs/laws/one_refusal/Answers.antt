use Rattle.in_cover.proofs.FirstFault.{one_refusal}
use Rattle.in_cover.proofs.laws.one_refusal.Goals as goal

pub returns : goal.returns
returns c = λ t rules r s one other. one_refusal t rules r s one other
