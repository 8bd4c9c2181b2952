use Rattle.std.proofs.Common.{subst}
use Rattle.in_diagnosis.specs.Data.{IsToldAsData}
use Rattle.in_c.proofs.Told.{data_told, nothing_told}
use Rattle.in_c.proofs.diagnosing.told_as_data.Goals as goal

pub returns-in-Ok-Some : goal.returns-in-Ok-Some
returns-in-Ok-Some c = data_told c.args.text_limits c.args.text.now c.in-Ok-Some.line (subst (λ z. IsToldAsData c.args.text_limits c.args.text.now z) c.in-Ok-Some.field-0-is c.in-Ok-Some.ensures)

pub returns-in-Ok-None : goal.returns-in-Ok-None
returns-in-Ok-None c = nothing_told c.args.text_limits c.args.text.now _ (subst (λ z. IsToldAsData c.args.text_limits c.args.text.now z) c.in-Ok-None.field-0-is c.in-Ok-None.ensures) c.new.ensures.items
