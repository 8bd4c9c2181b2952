use Rattle.in_usual_braces.proofs.Directed.{crossing_none, directed_derivable}
use Rattle.in_usual_braces.proofs.laws.crossing_directed_circles_decide.Goals as goal

pub returns : goal.returns
returns c = λ o out net signed together. (crossing_none o out net signed, directed_derivable o out net signed c.splits_or_first_stuck.ensures c.splits_where_derivable.ensures together)
