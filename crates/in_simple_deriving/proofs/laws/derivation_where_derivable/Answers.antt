use Rattle.in_simple_deriving.proofs.Derives.{derivable_has_derivation}
use Rattle.in_open_nets.proofs.Public.{derivation_builds}
use Rattle.in_simple_deriving.proofs.laws.derivation_where_derivable.Goals as goal

pub returns : goal.returns
returns c = λ o net. ((λ d. derivation_builds o net d.0 d.1), λ d. derivable_has_derivation o net d)
