use Rattle.std.proofs.Common.{◌≡◌, ◌≤◌, ◌*◌, ℕ, vec_len, length, All, refl, sym, ap, subst, arith}
use Rattle.std.proofs.lemmas.List.{length-replicate}
use Rattle.std.proofs.lemmas.List.Elements.{All-replicate}
use Rattle.in_arena.specs.Arenas.{free_of}
use Rattle.in_claims.specs.Seats.{SeatView, fresh}
use Rattle.in_compile.specs.Cells.{count_of}
use Rattle.in_rounds.proofs.gathering.place_in_seats.Goals as goal

pub place_jobs-requires-clause-seats : goal.place_jobs-requires-clause-seats
place_jobs-requires-clause-seats g c = λ _ _.
    let first = fresh c.in_ok-board.board in
    subst (All (λ (s : SeatView). s ≡ first)) (sym c.in_ok-board.ensures.seats) (All-replicate (λ (s : SeatView). s ≡ first) c.args.workers first refl)

pub place_jobs-requires-clause-some : goal.place_jobs-requires-clause-some
place_jobs-requires-clause-some g c = λ _ _.
    let made = ap length c.in_ok-board.ensures.seats in
    omega (arith, c.in_ok-board.seats.ok.0, made, length-replicate c.args.workers (fresh c.in_ok-board.board), c.requires.some)

pub place_jobs-requires-clause-most : goal.place_jobs-requires-clause-most
place_jobs-requires-clause-most g c = λ _ _.
    let made = ap length c.in_ok-board.ensures.seats in
    omega (arith, c.in_ok-board.seats.ok.0, made, length-replicate c.args.workers (fresh c.in_ok-board.board), c.requires.most)

pub place_jobs-requires-clause-share : goal.place_jobs-requires-clause-share
place_jobs-requires-clause-share g c = λ _ _ d.
    let made = ap length c.in_ok-board.ensures.seats in
    let many : c.args.workers ≡ vec_len c.in_ok-board.seats = omega (arith, c.in_ok-board.seats.ok.0, made, length-replicate c.args.workers (fresh c.in_ok-board.board)) in
    subst (λ (n : ℕ). n * count_of c.args.share d ≤ free_of c.args.arena.now d) many (c.requires.share d)
