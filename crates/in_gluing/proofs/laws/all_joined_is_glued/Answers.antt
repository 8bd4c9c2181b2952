use Rattle.in_gluing.proofs.Beside.{all_joined_is_glued}
use Rattle.in_gluing.proofs.laws.all_joined_is_glued.Goals as goal

pub returns : goal.returns
returns c = all_joined_is_glued
