use Rattle.std.proofs.lemmas.Result.{err_from_is_err_and}
use Rattle.in_export.proofs.OneLine.{refused_so}
use Rattle.in_export.proofs.exporting.export.Goals as goal

pub returns-in_err-checked : goal.returns-in_err-checked
returns-in_err-checked c =
    let p = err_from_is_err_and c.from_residual.result c.from_residual.ensures.1 in
    rw (p.1, p.2) (refused_so c.args.limits c.args.text.now c.in_err-checked.field-0.0 c.in_err-checked.ensures.checked)

pub returns-in-Ok : goal.returns-in-Ok
returns-in-Ok c = (c.in_ok-checked.checked, c.in_ok-checked.ensures.checked, c.in-Ok.ensures)
