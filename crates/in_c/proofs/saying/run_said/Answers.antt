use Rattle.in_command_line.specs.declared.action.Action.TheVariants.{Run}
use Rattle.in_program.specs.Acting.{IsReply}
use Rattle.in_c.proofs.Said.{answered, begins}
use Rattle.in_c.proofs.saying.run_said.Goals as goal

pub returns : goal.returns
returns c = answered (IsReply c.args.text_limits (Run c.args.limits) c.args.text.now) _ _ _ _ _ (begins _ _ c.new-writer.ensures.0 c.new-writer.ensures.1) c.run_text-status.ensures c.answer.ensures
