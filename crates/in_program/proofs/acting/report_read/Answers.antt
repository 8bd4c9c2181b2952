use Rattle.std.proofs.Common.{refl}
use Rattle.in_program.specs.Acting.{report_action, unread}
use Rattle.in_program.proofs.Told.{tells_reply, wants_memory}
use Rattle.in_program.proofs.acting.report_read.Goals as goal

pub returns-in-Text : goal.returns-in-Text
returns-in-Text g c = tells_reply c.args.text_limits (report_action c.args.derive) _ _ _ _ c.in-Text.text.items _ _ c.as_slice.ensures.value c.in-Text.ensures c.tell_report.ensures

pub returns-in-Memory : goal.returns-in-Memory
returns-in-Memory g c = let read = c.in-Memory.ensures {u = tt} in wants_memory c.args.text_limits (report_action c.args.derive) _ _ _ _ read.0 _ read.1 c.tell.ensures

pub returns-in-Failed : goal.returns-in-Failed
returns-in-Failed g c = let read = c.in-Failed.ensures {u = tt} in unread read.0 read.1 refl refl
