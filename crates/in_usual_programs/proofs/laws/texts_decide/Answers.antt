use Rattle.in_usual_programs.proofs.Deciding.{net_in_text, rule_in_text}
use Rattle.in_usual_programs.proofs.laws.texts_decide.Goals as goal

pub returns : goal.returns
returns c = λ t rules n of fits usual. (
  rule_in_text of.source t rules n of.tabulates of.builds_rules of.builds fits c.right_members_decide.ensures usual,
  net_in_text of.source t rules n of.tabulates of.builds_rules of.builds fits c.nets_decide.ensures usual,
)
