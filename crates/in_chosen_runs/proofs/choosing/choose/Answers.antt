use Rattle.std.proofs.Common.{ℕ, List, sym, subst}
use Rattle.std.proofs.lemmas.List.{take_more}
use Rattle.in_chosen_runs.specs.Choosing.{StepsBy}
use Rattle.in_chosen_runs.proofs.Choices.{none_past, one_more}
use Rattle.in_chosen_runs.proofs.choosing.choose.Goals as goal

pub loop-index-preserved : goal.loop-index-preserved
loop-index-preserved c =
    subst (λ (z : List ℕ). StepsBy c.args.machine.now z c.step.new.self) (sym (take_more c.args.choices.now c.loop-index.index 0 c.loop-index-test.true))
    (one_more c.args.machine.now c.loop-index.machine c.step.new.self _ _ c.loop-index.invariant c.step.ensures.steps)

pub returns-clause-fewer : goal.returns-clause-fewer
returns-clause-fewer c = none_past c.args.choices.now c.loop-index.machine
