-- The data on a text begins in one way, since the text has one refusal.
use Rattle.std.proofs.Common.{Some, None, Ok, Err, sym, subst}
use Rattle.in_syntax.specs.declared.faults.Refusal.{Refusal}
use Rattle.in_syntax.specs.declared.faults.Fault.TheVariants.{Refused}
use Rattle.in_check.proofs.Public.{checked_once}
use Rattle.in_diagnosis.specs.Data.{IsDataOf}
use Rattle.in_diagnosis.specs.Laws.{DataBeginsAlike}

pub data_begins_alike : DataBeginsAlike
data_begins_alike limits text None None h g = tt
data_begins_alike limits text None (Some other) (p, accepts) (r, refuses, is) = absurd (checked_once limits text (Ok p) (Err (Refused r)) accepts refuses)
data_begins_alike limits text (Some one) None (r, refuses, is) (p, accepts) = absurd (checked_once limits text (Ok p) (Err (Refused r)) accepts refuses)
data_begins_alike limits text (Some one) (Some other) (r, refuses, is) (q, too, was) =
    (r, is, subst (λ (z : Refusal). IsDataOf z other.items) (sym (checked_once limits text (Err (Refused r)) (Err (Refused q)) refuses too)) was)
