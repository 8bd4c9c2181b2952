use Rattle.std.proofs.Common.{subst}
use Rattle.in_machine.specs.Starts.{IsNoStart}
use Rattle.in_c.proofs.Chosen.{full_shown, ran_shown}
use Rattle.in_c.proofs.choosing.run_by.Goals as goal

pub returns-in-Ok : goal.returns-in-Ok
returns-in-Ok c =
    ran_shown c.args.checked.now.program c.args.choices.now c.args.limits c.in-Ok.outcome c.shown_of-shown.result _ _ _ c.limit.ensures.limit c.cells.ensures.cells c.limit-in-Ok.ensures.limit c.in-Ok.ensures c.shown_of-shown.ensures

pub returns-in-Err-Full : goal.returns-in-Err-Full
returns-in-Err-Full c =
    full_shown c.args.checked.now.program c.args.choices.now c.args.limits c.nothing.result _ _ _ _ c.cells.ensures.cells
    (subst (λ f. IsNoStart c.args.checked.now.program c.cells.result f) c.in-Err-Full.field-0-is c.in-Err-Full.ensures) c.nothing.ensures
