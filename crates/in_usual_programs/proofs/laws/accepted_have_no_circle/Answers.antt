use Rattle.in_usual_programs.proofs.Deciding.{net_accepted, rules_accepted}
use Rattle.in_usual_programs.proofs.laws.accepted_have_no_circle.Goals as goal

pub returns : goal.returns
returns c = λ limits text p accepted usual. (
  rules_accepted limits text p accepted c.right_members_decide.ensures c.nets_decide.ensures usual,
  net_accepted limits text p accepted c.right_members_decide.ensures c.nets_decide.ensures usual,
)
