use Rattle.std.proofs.Common.{ap, ap₂, ◌∙◌}
use Rattle.std.proofs.lemmas.Result.{IfOk-weaker}
use Rattle.clap.specs.Words.{App, with_subcommand}
use Rattle.in_command_line.proofs.action.command_without_run.Goals as goal

pub returns-in-Ok : goal.returns-in-Ok
returns-in-Ok c =
    let one = c.in_ok-inet.ensures.shape c.in_ok-check.ensures.local ∙ ap₂ with_subcommand c.command_alone.ensures (ap (λ (a : App). a.top) c.in_ok-check.ensures.app) in
    IfOk-weaker c.subcommand-in-Ok.result _ _
    (λ r h. h.shape c.in-Ok.ensures.local ∙ ap₂ with_subcommand one (ap (λ (a : App). a.top) c.in-Ok.ensures.app)) c.subcommand-in-Ok.ensures
