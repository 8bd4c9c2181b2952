use Rattle.std.proofs.Common.{Err, subst}
use Rattle.in_export.specs.Exporting.{Exports}
use Rattle.in_c.proofs.Exported.{line_exported, refused_answer}
use Rattle.in_c.proofs.exporting.exported.Goals as goal

pub returns-in-Ok : goal.returns-in-Ok
returns-in-Ok c = line_exported c.args.text_limits c.args.text.now c.in-Ok.line.items c.in-Ok.ensures

pub returns-in-Err-Refused : goal.returns-in-Err-Refused
returns-in-Err-Refused c = refused_answer c.args.text_limits c.args.text.now c.in-Err-Refused.field-0-0 c.reported.result (subst (λ e. Exports c.args.text_limits c.args.text.now (Err e)) c.in-Err-Refused.field-0-is c.in-Err-Refused.ensures) c.reported.ensures
