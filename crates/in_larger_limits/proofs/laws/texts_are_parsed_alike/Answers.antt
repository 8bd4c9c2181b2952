use Rattle.in_larger_limits.proofs.Parsed.{parsed_alike}
use Rattle.in_larger_limits.proofs.laws.texts_are_parsed_alike.Goals as goal

pub returns : goal.returns
returns c = parsed_alike
