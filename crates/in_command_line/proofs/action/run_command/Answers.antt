use Rattle.std.proofs.lemmas.Result.{IfOk-weaker}
use Rattle.in_command_line.proofs.Building.{app_with, local_with}
use Rattle.in_command_line.proofs.action.run_command.Goals as goal

pub returns-clause-app : goal.returns-clause-app
returns-clause-app c =
    let one = app_with _ _ _ _ _ c.in_ok-arg.ensures c.in_ok-limits_command.ensures.app c.flag.ensures.rule c.flag.ensures.local in
    let two = app_with _ _ _ _ _ c.in_ok-arg-2.ensures one c.flag-2.ensures.rule c.flag-2.ensures.local in
    let three = app_with _ _ _ _ _ c.in_ok-arg-3.ensures two c.large_flag.ensures.rule c.large_flag.ensures.local in
    IfOk-weaker c.arg-4.result _ _
    (λ r h. app_with _ _ _ _ _ h three c.file_argument.ensures.rule c.file_argument.ensures.local) c.arg-4.ensures

pub returns-clause-local : goal.returns-clause-local
returns-clause-local c =
    let one = local_with _ _ _ c.in_ok-arg.ensures c.in_ok-limits_command.ensures.local c.flag.ensures.local in
    let two = local_with _ _ _ c.in_ok-arg-2.ensures one c.flag-2.ensures.local in
    let three = local_with _ _ _ c.in_ok-arg-3.ensures two c.large_flag.ensures.local in
    IfOk-weaker c.arg-4.result _ _
    (λ r h. local_with _ _ _ h three c.file_argument.ensures.local) c.arg-4.ensures
