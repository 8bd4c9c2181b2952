use Rattle.std.proofs.Common.{◌+◌, ◌%◌, ◌≡◌, false, List, [], ◌∷◌, map, All, sym, subst, ◌∙◌, ap, arith}
use Rattle.std.specs.List.Sorted.{IsStrictlyIncreasing}
use Rattle.atomic_table.specs.Table.{Allows, Me}
use Rattle.in_claims.specs.Rule.{IsBoardRule, drew}
use Rattle.in_claims.specs.Seats.{hand_of}
use Rattle.in_claims.specs.Sitting.{seat_view}
use Rattle.in_claims.specs.declared.hands.Hand.{Hand}
use Rattle.in_claims.specs.declared.hands.Size.{Size}
use Rattle.in_claims.proofs.Keeping.{claims}
use Rattle.in_claims.proofs.board.Board.claim.Goals as goal

pub fetch_add-found-requires : goal.fetch_add-found-requires
fetch_add-found-requires c =
    let board = c.self.inside in let seat = c.seat.inside in
    let h : Hand = hand_of (seat_view seat) in
    let slots = board.table.shared.table_id.slots in
    let not_done : seat.done ≡ false = ap (λ s. s.done) c.seat.view_is ∙ c.requires.not_done in
    let allowed : Size → Me (Unit {0}) (List Hand) → Type 0 =
    λ size me. Allows (IsBoardRule size) slots seat.inner.id me 0 (λ w. (w + 1) % 18446744073709551616) (λ found after. (after ≡ (map (λ v. drew v found) me.0, me.1)) × All (λ (v : Hand). IsStrictlyIncreasing v.numbers) after.0)
    in
    let base : allowed board.size (h ∷ [], []) = claims board.size slots seat.inner.id h (omega arith) (omega (arith, c.self.invariant.few_seats)) not_done in (
      ap (λ s. s.board.table) c.seat.view_is ∙ ap (λ b. b.table) (c.requires.of_this_board ∙ sym c.self.view_is),
      omega (arith, c.self.invariant.one_word),
      subst (λ size. allowed size seat.inner.me) (sym c.self.invariant.key_is) (subst (λ me. allowed board.size me) (sym c.seat.invariant.me_is) base),
    )
