use Rattle.in_program.specs.Acting.{IsReply, report_action}
use Rattle.in_c.proofs.Said.{answered, begins}
use Rattle.in_c.proofs.saying.reported.Goals as goal

pub returns : goal.returns
returns c = answered (IsReply c.args.text_limits (report_action c.args.derive) c.args.text.now) _ _ _ _ _ (begins _ _ c.new-writer.ensures.0 c.new-writer.ensures.1) c.report_text-status.ensures c.answer.ensures
