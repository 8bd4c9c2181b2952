use Rattle.clap.specs.Words.{found_of, rows_of}
use Rattle.in_command_line.proofs.Subcommands.{run_is_named}
use Rattle.in_command_line.proofs.action.action_named.Goals as goal

pub returns-in-run : goal.returns-in-run
returns-in-run c =
    run_is_named (rows_of (found_of c.args.options.now)) c.args.name.now c.in-run.is c.in-run.not-check c.in-run.not-derive c.run_named.result c.run_named.ensures
