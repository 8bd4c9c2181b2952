-- Interactions of the first pairs of a machine have one number and one result, since a machine is a reducer.
use Rattle.in_reducer.proofs.Public.{first_steps_are_one}
use Rattle.in_machine.specs.Taking.{FirstsTakenAreOne}
use Rattle.in_machine.proofs.StepsOn.{as_reducer}

pub firsts_taken_are_one : FirstsTakenAreOne
firsts_taken_are_one m n o most j k h = first_steps_are_one m n o most j k (as_reducer m h)
