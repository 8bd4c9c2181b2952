use Rattle.in_program.proofs.AnyOrder.{normal_calls_are_one as law, normal_count_calls_are_one}
use Rattle.in_program.proofs.laws.normal_calls_are_one.Goals as goal

pub returns : goal.returns
returns c = record { calls = law; counts = normal_count_calls_are_one }
