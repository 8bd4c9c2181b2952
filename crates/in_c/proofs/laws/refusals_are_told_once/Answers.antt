use Rattle.in_c.proofs.AnsweredOnce.{diagnoses_have_one_status, refusal_numbers_are_one}
use Rattle.in_c.proofs.laws.refusals_are_told_once.Goals as goal

pub returns : goal.returns
returns c = record { diagnoses = diagnoses_have_one_status; numbers = refusal_numbers_are_one }
