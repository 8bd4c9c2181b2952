use Rattle.in_usual_programs.proofs.laws.refused_have_circles.Goals as goal

pub returns : goal.returns
returns c = λ t rules n of fits usual. (
  (λ r stuck none. stuck.refused.2.underivable (((c.texts_decide.ensures t rules n of fits usual).0 stuck.number stuck.rule stuck.refused.0 stuck.stands stuck.refused.1).1 none)),
  λ r stuck none. stuck.2.underivable (((c.texts_decide.ensures t rules n of fits usual).1 stuck.0 stuck.1).1 none),
)
