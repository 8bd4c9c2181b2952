use Rattle.in_diagnosis.proofs.BeginsAlike.{data_begins_alike as law}
use Rattle.in_diagnosis.proofs.laws.data_begins_alike.Goals as goal

pub returns : goal.returns
returns c = law
