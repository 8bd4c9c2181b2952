use Rattle.std.proofs.Common.{◌≡◌, [], ◌∷◌, ◌++◌, ap, ◌∙◌, arith}
use Rattle.std.specs.Option.{option_to_list}
use Rattle.std.proofs.lemmas.List.Elements.{All-push, All-same}
use Rattle.in_claims.specs.Seats.{SeatView, fresh}
use Rattle.in_rounds.specs.Lending.{IsFreshHand}
use Rattle.in_rounds.proofs.Threading.{all_but_last}
use Rattle.in_rounds.proofs.lending.hands.Goals as goal

pub loop-seat-preserved : goal.loop-seat-preserved
loop-seat-preserved c =
    let split = c.pop.ensures.items ∙ ap (λ r. c.pop.new.self.items ++ option_to_list r) c.in-Some.is in
    let v = c.loop-seat.invariant in
    let Fresh = IsFreshHand c.args.plan.now c.args.board.now c.args.arena.now c.args.share in
    record {
      seats = all_but_last (λ (s : SeatView). s ≡ fresh c.args.board.now) c.loop-seat.seats.items c.pop.new.self.items c.in-Some.seat split v.seats;
      each = All-same Fresh c.push_reserved.new.self.items (c.loop-seat.hands.items ++ c.in_ok-hand.field-0 ∷ []) c.push_reserved.ensures.items (All-push Fresh c.loop-seat.hands.items c.in_ok-hand.field-0 v.each c.in_ok-hand.ensures);
      count = omega (arith, v.count, c.push_reserved.ensures.len, c.in-Some.ensures.cases);
      room = omega (arith, v.room, c.push_reserved.ensures.len, c.push_reserved.ensures.capacity, c.in-Some.ensures.cases);
    }
