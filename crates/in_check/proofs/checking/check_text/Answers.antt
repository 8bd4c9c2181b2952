use Rattle.in_check.proofs.Declared.{text_checked, text_declared, text_refused}
use Rattle.in_check.proofs.checking.check_text.Goals as goal

pub check_types-requires : goal.check_types-requires
check_types-requires c = text_declared c.args.limits c.args.text.now c.in-Ok.declared c.in-Ok.ensures.declared

pub returns-in-Ok-clause-checked : goal.returns-in-Ok-clause-checked
returns-in-Ok-clause-checked c = text_checked c.args.limits c.args.text.now c.in-Ok.declared c.check_types.result c.in-Ok.ensures.declared c.check_types.ensures

pub returns-in-Err-clause-checked : goal.returns-in-Err-clause-checked
returns-in-Err-clause-checked c = text_refused c.args.limits c.args.text.now c.in-Err.fault c.in-Err.ensures.declared
