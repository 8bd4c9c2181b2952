use Rattle.std.proofs.Common.{false, refl, eq-eqb, eqb-true, arith}
use Rattle.in_open_nets.proofs.Public.{not_both}
use Rattle.in_simple_deriving.proofs.HeadParts.{from_is, last_in, left_in, left_is}
use Rattle.in_simple_deriving.proofs.Meetings.{joined_head, up_shorter}
use Rattle.in_simple_deriving.proofs.heads.is_joined.Goals as goal

pub returns-then-turn : goal.returns-then-turn
returns-then-turn c =
    let x = c.args.order.now in
    let t = c.args.turn in
    let n = c.args.node in
    let e = c.turn.ensures.turn in
    let less = c.if-turn.true in
    record {
      up = c.requires.up;
      joined = (
        (λ yes. absurd (not_both false yes refl)),
        λ g. let r = left_is x t n (last_in x t c.args.head n ((from_is x t c.args.head n).0 g)) in let r1 = r.1 in absurd (omega arith),
      );
    }

pub returns-clause-up : goal.returns-clause-up
returns-clause-up c = up_shorter c.args.order.now c.turn.ensures.turns c.args.turn c.args.up.now c.requires.up c.climb.new.up c.climb.ensures.shorter c.climb.ensures.up

pub returns-clause-joined : goal.returns-clause-joined
returns-clause-joined c =
    let x = c.args.order.now in
    let t = c.args.turn in
    let n = c.args.node in
    let e = c.turn.ensures.turn in
    let more = c.if-turn.false in
    let here = left_in x t n c.requires.node (omega arith) in
    let j = joined_head x c.turn.ensures.turns t c.args.up.now c.requires.up n c.climb.result c.args.head c.requires.head here c.climb.ensures.climbs c.climb.ensures.top in (
      (λ yes. (from_is x t c.args.head n).1 (j.0 (eqb-true c.climb.result c.args.head yes))),
      λ g. eq-eqb c.climb.result c.args.head (j.1 ((from_is x t c.args.head n).0 g)),
    )
