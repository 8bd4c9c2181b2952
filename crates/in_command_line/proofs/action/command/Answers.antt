use Rattle.std.proofs.Common.{ap, ap₂, ◌∙◌}
use Rattle.std.proofs.lemmas.Result.{IfOk-weaker}
use Rattle.clap.specs.Words.{App, with_subcommand}
use Rattle.in_command_line.proofs.action.command.Goals as goal

pub returns-in-Ok : goal.returns-in-Ok
returns-in-Ok c =
    IfOk-weaker c.subcommand.result _ _
    (λ r h. h.shape c.in-Ok.ensures.local ∙ ap₂ with_subcommand c.in_ok-inet.ensures (ap (λ (a : App). a.top) c.in-Ok.ensures.app)) c.subcommand.ensures
