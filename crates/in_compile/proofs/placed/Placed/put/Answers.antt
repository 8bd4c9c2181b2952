use Rattle.std.proofs.Common.{arith}
use Rattle.std.proofs.lemmas.Option.{slice_get_within}
use Rattle.in_base.proofs.Each.{at_index}
use Rattle.in_compile.proofs.placed.Placed.put.Goals as goal

-- each cell has an agent, for which it was begun as a free one
pub returns-clause-vacant : goal.returns-clause-vacant
returns-clause-vacant c = λ k n at.
    let begun = c.begin_all.ensures.begun in
    let agents = c.args.member.now.agents in
    let a = at_index agents k (let within = slice_get_within c.begin_all.new.numbers.items k n at in let many = begun.count in omega (arith, within, many)) in
    (begun.each k a.0 n a.1 at).1
