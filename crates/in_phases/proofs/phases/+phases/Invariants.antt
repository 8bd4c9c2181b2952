use Rattle.std.proofs.Common.{◌*◌, ◌+◌}
use Rattle.in_phases.proofs.phases.+phases.Given as goal

abbrev pub decreases-at_once : goal.decreases-at_once
decreases-at_once g l = 3 * l.rest.parts + 2

abbrev pub decreases-at_once-join_mut+arg3 : goal.decreases-at_once-join_mut+arg3
decreases-at_once-join_mut+arg3 g l = 3 * l.rest.parts + 1

abbrev pub decreases-share_out : goal.decreases-share_out
decreases-share_out g l = 3 * l.sharing.parts
