use Rattle.in_open_nets.proofs.Built.Both.{derivable_splits, splits_derivable}
use Rattle.in_open_nets.proofs.laws.splits_where_derivable.Goals as goal

pub returns : goal.returns
returns c = λ o net. ((λ h. splits_derivable o net h), λ h. derivable_splits o net h)
