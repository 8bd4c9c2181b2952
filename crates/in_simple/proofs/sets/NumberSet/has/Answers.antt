use Rattle.std.proofs.Common.{◌≡◌, false, sym, subst}
use Rattle.in_open_nets.specs.Members.{nodes_in}
use Rattle.in_open_nets.proofs.Public.{none_there}
use Rattle.in_simple.proofs.sets.NumberSet.has.Goals as goal

pub returns-in-None : goal.returns-in-None
returns-in-None c =
    let out = none_there c.self.inside.tests c.args.number false (sym c.in-None.ensures.value) in
    sym (subst (λ z. nodes_in z c.args.number ≡ false) c.self.view_is out)
