use Rattle.std.proofs.Common.{refl, sym}
use Rattle.in_c.proofs.large.inet_run_by_large.Goals as goal

pub returns : goal.returns
returns c = (c.ran_by-bytes.result, c.ran_by-bytes.ensures, refl, sym c.give.ensures.ok.1, c.give.ensures.ok.0)
