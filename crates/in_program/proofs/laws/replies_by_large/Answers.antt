use Rattle.in_program.proofs.Larger.{calls_by_large, replies_by_large}
use Rattle.in_program.proofs.laws.replies_by_large.Goals as goal

pub returns : goal.returns
returns c = record { replies = replies_by_large; calls = calls_by_large }
