use Rattle.std.proofs.Common.{◌≡◌, List, [], ◌∷◌, ◌++◌, length, map, sym, subst, ap, ◌∙◌, arith}
use Rattle.std.specs.Option.{IfSome}
use Rattle.std.proofs.lemmas.List.{length-map, nil_from_length}
use Rattle.std.proofs.lemmas.List.Elements.{All-pop}
use Rattle.atomic_table.specs.Table.{Allows, Me}
use Rattle.in_claims.specs.Rule.{AreClaims, IsBoardRule, limit_of}
use Rattle.in_claims.specs.Seats.{SeatView, hand_of}
use Rattle.in_claims.specs.declared.hands.Hand.{Hand}
use Rattle.in_claims.specs.declared.hands.Size.{Size}
use Rattle.in_claims.proofs.Keeping.{joins, tells}
use Rattle.in_claims.proofs.Seated.{taken, limit_of_seats}
use Rattle.in_claims.proofs.board.Board.take_back.Goals as goal

pub unreachable-requires : goal.unreachable-requires
unreachable-requires c =
    absurd (omega (arith, ap (λ b. b.seats) c.self.view_is, c.requires.all, c.self.invariant.some_seat, c.in_default.ensures.cases.0))

pub join_seat-requires : goal.join_seat-requires
join_seat-requires c =
    let board = c.self.inside in let seat = c.seat.inside in
    let table : board.table.shared.table_id ≡ c.args.self.now.table = ap (λ b. b.table) c.self.view_is in
    let of : SeatView → Type 0 = λ s. s.board ≡ c.args.self.now in
    let last : of c.in-Some-pop.seat =
    subst (λ r. IfSome r of) c.in-Some-pop.is (All-pop of c.loop-seat.rest.items c.pop-in-loop-seat.new.self.items c.pop-in-loop-seat.result c.pop-in-loop-seat.ensures.items c.loop-seat.invariant.of).1
    in (
      c.loop-seat.invariant.all_of ∙ sym table,
      ap (λ s. s.board.table) c.seat.view_is ∙ ap (λ b. b.table) last ∙ sym table,
      ap (λ m. m.1) c.seat.invariant.me_is,
      omega (arith, c.self.invariant.one_word),
      joins board.table.shared.key c.loop-seat.all.id c.loop-seat.all.me.0 seat.inner.id seat.inner.me.0,
    )

pub loop-seat-preserved : goal.loop-seat-preserved
loop-seat-preserved c =
    let split : c.loop-seat.rest.items ≡ c.pop-in-loop-seat.new.self.items ++ c.in-Some-pop.seat ∷ [] = c.in-Some-pop.ensures.items in
    let hand : c.seat.inside.inner.me.0 ≡ hand_of c.in-Some-pop.seat ∷ [] = ap (λ m. m.0) c.seat.invariant.me_is ∙ ap (λ s. hand_of s ∷ []) c.seat.view_is in
    let me = c.join_seat.ensures.2 in
    record {
      of = (All-pop (λ s. s.board ≡ c.args.self.now) c.loop-seat.rest.items c.pop-in-loop-seat.new.self.items c.pop-in-loop-seat.result c.pop-in-loop-seat.ensures.items c.loop-seat.invariant.of).0;
      all_of = c.join_seat.ensures.0 ∙ c.loop-seat.invariant.all_of;
      hands = ap (λ l. map hand_of c.pop-in-loop-seat.new.self.items ++ l) (ap (λ m. m.0) me ∙ ap (λ l. l ++ c.loop-seat.all.me.0) hand)
          ∙ taken c.loop-seat.rest.items c.pop-in-loop-seat.new.self.items c.in-Some-pop.seat c.loop-seat.all.me.0 _ split c.loop-seat.invariant.hands;
      no_slot = ap (λ m. m.1) me ∙ c.loop-seat.invariant.no_slot;
    }

pub load-requires : goal.load-requires
load-requires c =
    let board = c.self.inside in
    let slots = board.table.shared.table_id.slots in
    let hands : List Hand = map hand_of c.args.seats.items in
    let none : c.loop-seat.rest.items ≡ [] = nil_from_length c.loop-seat.rest.items (omega (arith, c.in_default-pop.ensures.cases.0)) in
    let mine : c.loop-seat.all.me.0 ≡ hands = ap (λ l. map hand_of l ++ c.loop-seat.all.me.0) (sym none) ∙ c.loop-seat.invariant.hands in
    let me : c.loop-seat.all.me ≡ (hands, []) = λ i. (mine i, c.loop-seat.invariant.no_slot i) in
    let allowed : Size → Me (Unit {0}) (List Hand) → Type 0 =
    λ size me. Allows (IsBoardRule size) slots c.loop-seat.all.id me 0 (λ w. w) (λ found after. AreClaims (limit_of me.0) found me.0)
    in
    let long : length hands ≡ board.size.seats = length-map c.args.seats.items hand_of ∙ c.requires.all ∙ sym (ap (λ b. b.seats) c.self.view_is) in
    let base : allowed board.size (hands, []) = tells board.size slots c.loop-seat.all.id hands c.self.invariant.some_seat long in (
      c.loop-seat.invariant.all_of ∙ sym (ap (λ b. b.table) c.self.view_is),
      omega (arith, c.self.invariant.one_word),
      subst (λ size. allowed size c.loop-seat.all.me) (sym c.self.invariant.key_is) (subst (λ m. allowed board.size m) (sym me) base),
    )

pub returns : goal.returns
returns c =
    let hands : List Hand = map hand_of c.args.seats.items in
    let none : c.loop-seat.rest.items ≡ [] = nil_from_length c.loop-seat.rest.items (omega (arith, c.in_default-pop.ensures.cases.0)) in
    let mine : c.loop-seat.all.me.0 ≡ hands = ap (λ l. map hand_of l ++ c.loop-seat.all.me.0) (sym none) ∙ c.loop-seat.invariant.hands in
    let limit : limit_of hands ≡ c.args.self.now.limit =
    limit_of_seats c.args.self.now c.args.seats.items (omega (arith, c.requires.all, ap (λ b. b.seats) c.self.view_is, c.self.invariant.some_seat)) c.requires.of_this_board
    in
    subst (λ l. AreClaims l c.load.result hands) limit (subst (λ l. AreClaims (limit_of l) c.load.result l) mine c.load.ensures.2)
