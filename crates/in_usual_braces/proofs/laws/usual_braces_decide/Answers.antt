use Rattle.in_usual_braces.proofs.laws.usual_braces_decide.Goals as goal

pub returns : goal.returns
returns c = λ o out net signed together alone. (
  (λ d circle. (c.crossing_directed_circles_decide.ensures o out net signed together).0 d circle (c.directed_circles_cross.ensures o out net alone circle)),
  λ none. (c.crossing_directed_circles_decide.ensures o out net signed together).1 (λ circle crosses. none circle),
)
