use Rattle.std.proofs.Common.{◌≡◌, ltb-true, subst, ◌∙◌, ap, arith}
use Rattle.in_simple_deriving.specs.Planned.{AreTouched}
use Rattle.in_simple_deriving.specs.Turns.{IsNodeTurns, turn_of}
use Rattle.in_simple_deriving.proofs.Fated.{touched}
use Rattle.in_simple_deriving.proofs.plans.TaskPlan.is_of_piece.Goals as goal

pub returns-clause-piece : goal.returns-clause-piece
returns-clause-piece c = λ yes.
    let x = c.self.inside.heads.now in
    let n = c.self.inside.node in
    let o = c.order.result.now in
    let less = ltb-true 0 c.turn.result yes in
    let e : c.turn.result ≡ turn_of x n = c.turn.ensures.turn ∙ ap (λ z. turn_of z n) c.order.ensures in
    subst AreTouched c.self.view_is (touched x (subst IsNodeTurns c.order.ensures c.turn.ensures.turns) n c.self.invariant.0 (λ zero. omega arith))
