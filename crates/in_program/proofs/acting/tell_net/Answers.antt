use Rattle.std.proofs.Common.{refl}
use Rattle.in_program.proofs.Told.{one, both_told, front_broken}
use Rattle.in_program.proofs.acting.tell_net.Goals as goal

pub returns-in-Ok : goal.returns-in-Ok
returns-in-Ok g c = one _ _ _ _ c.args.status _ (refl, refl) (both_told _ _ _ _ c.args.lines.now c.args.status _ c.in-Ok.ensures.1 c.tell.ensures)

pub returns-in-Err-Write : goal.returns-in-Err-Write
returns-in-Err-Write g c = one _ _ _ _ c.args.status _ (refl, refl) (front_broken _ _ _ c.args.lines.now c.in-Err-Write.field-0-0 c.args.status (rw c.in-Err-Write.field-0-is at c.in-Err-Write.ensures))
