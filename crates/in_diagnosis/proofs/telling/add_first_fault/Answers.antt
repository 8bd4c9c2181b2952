use Rattle.std.proofs.Common.{Err, subst}
use Rattle.in_syntax.specs.Parsing.{Parses}
use Rattle.in_diagnosis.proofs.Told.{of_tree, without_tree}
use Rattle.in_diagnosis.proofs.telling.add_first_fault.Goals as goal

pub returns-in-Ok : goal.returns-in-Ok
returns-in-Ok c = of_tree c.args.limits c.args.text.now c.in-Ok.source c.add_refusal.result c.in-Ok.ensures.tree c.add_refusal.ensures

pub returns-in-Err-Refused : goal.returns-in-Err-Refused
returns-in-Err-Refused c = without_tree c.args.limits c.args.text.now c.in-Err-Refused.refusal (subst (λ e. Parses c.args.limits c.args.text.now (Err e)) c.in-Err-Refused.field-0-is c.in-Err-Refused.ensures.tree)
