use Rattle.in_check.proofs.Declared.{declared_of, names_checked, names_refused}
use Rattle.in_check.proofs.checking.check_names.Goals as goal

pub check_types-requires : goal.check_types-requires
check_types-requires c = declared_of c.args.source.now c.in-Ok.declared c.requires c.in-Ok.ensures

pub returns-in-Ok : goal.returns-in-Ok
returns-in-Ok c = names_checked c.args.source.now c.in-Ok.declared c.check_types.result c.in-Ok.ensures c.check_types.ensures

pub returns-in-Err : goal.returns-in-Err
returns-in-Err c = names_refused c.args.source.now c.in-Err.fault c.in-Err.ensures
