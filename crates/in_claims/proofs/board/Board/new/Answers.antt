use Rattle.std.proofs.Common.{◌≡◌, ◌+◌, ◌-◌, [], ◌∷◌, List, map, false, refl, sym, subst, ap, ◌∙◌, arith}
use Rattle.atomic_table.specs.Table.{Splits}
use Rattle.in_claims.specs.Rule.{hand, IsBoardRule}
use Rattle.in_claims.specs.Seats.{BoardView, SeatView, fresh}
use Rattle.in_claims.specs.Sitting.{only}
use Rattle.in_claims.specs.declared.hands.Hand.{Hand}
use Rattle.in_claims.specs.declared.hands.Size.{Size}
use Rattle.in_claims.proofs.Keeping.{splits}
use Rattle.in_claims.proofs.Seated.{one_more_seat}
use Rattle.in_claims.proofs.board.Board.new.Goals as goal

pub split_seat-inner-requires : goal.split_seat-inner-requires
split_seat-inner-requires c =
    let size : Size = record { limit = c.args.limit; seats = c.args.seats } in
    let opened = c.in_ok-table.ensures in
    let allowed : List Hand → Type 0 =
    λ hands. Splits (IsBoardRule c.in_ok-table.table.shared.key) c.loop-made.first.id hands (map (λ h. hand (h.shares - 1) h.size h.numbers h.done) hands) (map (λ h. hand 1 h.size [] false) hands)
    in
    let h : Hand = hand (c.args.seats + 1 - c.loop-made._made) size [] false in
    let base : allowed (h ∷ []) = splits c.in_ok-table.table.shared.key c.loop-made.first.id h (omega arith) refl in
    (c.loop-made.invariant.of, omega (arith, opened.0), subst allowed (sym (ap (λ m. m.0) c.loop-made.invariant.me)) base)

pub loop-made-preserved : goal.loop-made-preserved
loop-made-preserved c =
    let size : Size = record { limit = c.args.limit; seats = c.args.seats } in
    let me = c.loop-made.invariant.me in
    let cut = c.split_seat-inner.ensures in
    let left : c.args.seats + 1 - c.loop-made._made - 1 ≡ c.args.seats + 1 - (c.loop-made._made + 1) = omega arith in
    let board : BoardView = record { table = c.in_ok-table.table.shared.table_id; limit = c.args.limit; seats = c.args.seats } in
    let of = cut.3 ∙ c.loop-made.invariant.of in
    let mine : c.split_seat-inner.result.me ≡ (hand 1 size [] false ∷ [], []) = cut.4 ∙ ap (λ m. (map (λ (h : Hand). hand 1 h.size [] false) m.0, [])) me in
    let seat : Path SeatView _ (fresh board) =
    λ i. record { board = record { table = of i; limit = (only (mine i).0).size.limit; seats = (only (mine i).0).size.seats }; numbers = (only (mine i).0).numbers; done = false }
    in
    record {
      made = c.in_ok-push.ensures.items ∙ one_more_seat c.loop-made.all.items board (c.loop-made._made - 1) _ c.loop-made.invariant.made seat _ (omega arith);
      of = cut.0 ∙ c.loop-made.invariant.of;
      me = cut.2 ∙ ap (λ m. (map (λ (h : Hand). hand (h.shares - 1) h.size h.numbers h.done) m.0, m.1)) me ∙ ap (λ k. (hand k size [] false ∷ [], [])) left;
    }

pub returns-clause-seats : goal.returns-clause-seats
returns-clause-seats c =
    let me = c.loop-made.invariant.me in
    let of = c.loop-made.invariant.of in
    let board : BoardView = record { table = c.in_ok-table.table.shared.table_id; limit = c.args.limit; seats = c.args.seats } in
    let seat : Path SeatView _ (fresh board) =
    λ i. record { board = record { table = of i; limit = (only (me i).0).size.limit; seats = (only (me i).0).size.seats }; numbers = (only (me i).0).numbers; done = false }
    in
    c.in_ok-push-2.ensures.items ∙ one_more_seat c.loop-made.all.items board (c.loop-made._made - 1) _ c.loop-made.invariant.made seat _ (omega arith)
