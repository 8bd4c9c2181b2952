use Rattle.std.proofs.Common.{sym, subst, ◌≡◌, Some}
use Rattle.in_net.specs.Parts.{partner_in}
use Rattle.in_net.proofs.laws.partners_lead_back.Goals as goal

pub returns : goal.returns
returns c = λ n p q whole e. (whole.back p q e, λ same. whole.apart p (subst (λ z. partner_in n p ≡ Some z) (sym same) e))
