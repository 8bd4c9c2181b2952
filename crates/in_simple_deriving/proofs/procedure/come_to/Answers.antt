use Rattle.std.specs.Prelude.{MatchOption}
use Rattle.std.proofs.Common.{subst}
use Rattle.in_open_nets.specs.Derivations.{IsDerivation}
use Rattle.in_open_nets.specs.Stuck.{IsStuckNet}
use Rattle.in_simple_deriving.specs.TakenOrder.{AreTaken}
use Rattle.in_simple_deriving.proofs.procedure.come_to.Goals as goal

pub returns-in-Some : goal.returns-in-Some
returns-in-Some c =
    let o = c.args.wired.now in
    let steps = c.finish.new.work.steps in
    let stuck = subst (λ z. MatchOption z (IsDerivation o steps × AreTaken o steps) (IsStuckNet o)) c.in-Some.is c.in_ok-finish.ensures in
    subst (λ z. IsStuckNet z c.in-Some.stuck) c.requires.net stuck
