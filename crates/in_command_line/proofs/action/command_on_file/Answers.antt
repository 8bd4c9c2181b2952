use Rattle.std.proofs.Common.{◌∙◌, ap}
use Rattle.std.proofs.lemmas.Result.{IfOk-weaker}
use Rattle.clap.specs.Simple.{app_of_fields}
use Rattle.clap.specs.declared.builder.command.Command.{Command}
use Rattle.clap.specs.declared.builder.command.Command.TheOpen.{Command-F}
use Rattle.in_command_line.proofs.Building.{app_with, local_with}
use Rattle.in_command_line.proofs.action.command_on_file.Goals as goal

pub returns-clause-app : goal.returns-clause-app
returns-clause-app c =
    let one = app_with _ _ _ _ _ c.in_ok-arg.ensures (ap app_of_fields c.about.ensures ∙ c.new.ensures.app) c.large_flag.ensures.rule c.large_flag.ensures.local in
    IfOk-weaker c.arg-2.result _ _
    (λ r h. app_with _ _ _ _ _ h one c.file_argument.ensures.rule c.file_argument.ensures.local) c.arg-2.ensures

pub returns-clause-local : goal.returns-clause-local
returns-clause-local c =
    let one = local_with _ _ _ c.in_ok-arg.ensures (ap (λ (f : Command-F Command). f.has_globals) c.about.ensures ∙ c.new.ensures.local) c.large_flag.ensures.local in
    IfOk-weaker c.arg-2.result _ _
    (λ r h. local_with _ _ _ h one c.file_argument.ensures.local) c.arg-2.ensures
