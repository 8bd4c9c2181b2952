use Rattle.in_open_nets.proofs.Built.Both.{derivable_no_circle}
use Rattle.in_open_nets.proofs.laws.derivable_has_no_circle.Goals as goal

pub returns : goal.returns
returns c = λ o net d. derivable_no_circle o net d
