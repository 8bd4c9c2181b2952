use Rattle.in_order.proofs.Gluing.PartRuns.{runs_are_glued}
use Rattle.in_order.proofs.laws.runs_are_glued.Goals as goal

pub returns : goal.returns
returns c = runs_are_glued
