use Rattle.in_order.proofs.Gluing.Names.{cut_run_and_glued}
use Rattle.in_order.proofs.laws.cut_run_and_glued.Goals as goal

pub returns : goal.returns
returns c = cut_run_and_glued
