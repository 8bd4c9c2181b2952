use Rattle.std.proofs.lemmas.Result.{IfOk-weaker}
use Rattle.in_command_line.proofs.Building.{app_with, local_with}
use Rattle.in_command_line.proofs.action.limits_command.Goals as goal

pub returns-clause-app : goal.returns-clause-app
returns-clause-app c =
    let one = app_with _ _ _ _ _ c.in_ok-arg.ensures c.in_ok-cells_command.ensures.app c.number_option.ensures.rule c.number_option.ensures.local in
    let two = app_with _ _ _ _ _ c.in_ok-arg-2.ensures one c.number_option-2.ensures.rule c.number_option-2.ensures.local in
    IfOk-weaker c.arg-3.result _ _
    (λ r h. app_with _ _ _ _ _ h two c.number_option-3.ensures.rule c.number_option-3.ensures.local) c.arg-3.ensures

pub returns-clause-local : goal.returns-clause-local
returns-clause-local c =
    let one = local_with _ _ _ c.in_ok-arg.ensures c.in_ok-cells_command.ensures.local c.number_option.ensures.local in
    let two = local_with _ _ _ c.in_ok-arg-2.ensures one c.number_option-2.ensures.local in
    IfOk-weaker c.arg-3.result _ _
    (λ r h. local_with _ _ _ h two c.number_option-3.ensures.local) c.arg-3.ensures
