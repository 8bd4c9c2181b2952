use Rattle.std.proofs.Common.{inl}
use Rattle.in_c.proofs.choosing.ran_by.Goals as goal

pub returns-in-Some : goal.returns-in-Some
returns-in-Some c = inl (c.in-Some.limits, c.in-Some.ensures, c.run_text_by.ensures)
