-- One job more, or none.
use Rattle.std.proofs.Common.{◌≡◌, ◌⊎◌, inl, inr, ◌<◌, ◌≤◌, ℕ, true, get_or, vec_len, [], ◌∷◌, ◌++◌, length, Some, slice_get, sym, ap, ◌∙◌, subst, arith}
use Rattle.std.proofs.lemmas.List.{append-nil, append_assoc, map-append}
use Rattle.std.proofs.lemmas.List.Elements.{All-nil, All-push}
use Rattle.std.proofs.lemmas.Option.{slice_get-get_or}
use Rattle.in_arena.specs.Bags.{AreOfOne}
use Rattle.in_syntax.specs.declared.symbol_no.SymbolNo.{SymbolNo}
use Rattle.in_claims.specs.Seats.{SeatView}
use Rattle.in_compile.specs.declared.cells.Need.{Need}
use Rattle.in_compile.specs.Placing.{AreCellsOf, TakesCells}
use Rattle.in_compile.specs.Cells.{count_of, IsEnough}
use Rattle.in_compile.specs.Stocks.{StockParts, held}
use Rattle.in_compile.specs.Templates.{IsLargestNeed}
use Rattle.in_rounds.specs.Dones.{DoneParts}
use Rattle.in_rounds.specs.Holding.{holders}
use Rattle.in_rounds.proofs.Holding.{holders-cons, holders-append}
use Rattle.in_rounds.proofs.Placing.{placed_count, stays_of_one, one_of_one}
use Rattle.in_rounds.specs.Plans.{PlanParts}
use Rattle.in_rounds.specs.Works.{IsDoneJob, StopsWorking, bags, jobs, Works}
use Rattle.in_rounds.specs.declared.hand.Hand.{Hand}

-- ---- jobs

pub no_work : (plan : PlanParts) (p q : Hand) → q.done.items ≡ p.done.items → q.seat ≡ p.seat → q.stock ≡ p.stock → Works plan p q
no_work plan p q done seat stock = record {
  more = [];
  list = done ∙ sym (append-nil p.done.items);
  board = ap (λ (s : SeatView). s.board) seat;
  claimed = ap (λ (s : SeatView). s.numbers) seat ∙ sym (append-nil p.seat.numbers);
  each = All-nil (IsDoneJob plan);
  one = ((ap (λ (s : StockParts). s.bag.memory) stock, ap (λ (s : StockParts). s.bag.cells) stock), All-nil (λ (d : DoneParts). AreOfOne p.stock.bag d.placed.placed.bag));
  cells = λ n. ap (λ (s : StockParts). holders n (s.bag ∷ [])) stock;
}

-- a worker that has done some jobs claims one more and places it
pub record DoesOneMore (plan : PlanParts) (p q r : Hand) (d : DoneParts) (need : Need) : Type 0 where
  -- so far it did only jobs that its seat claimed
  pub works : Works plan p q
  -- the job is listed after those
  pub done : r.done.items ≡ q.done.items ++ d ∷ []
  -- the seat is at the same board
  pub board : r.seat.board ≡ q.seat.board
  -- the seat claimed the job's number
  pub numbers : r.seat.numbers ≡ q.seat.numbers ++ d.job ∷ []
  -- the job is one of the plan
  pub is : IsDoneJob plan d
  -- the stock loses the cells of the job's agents
  pub takes : TakesCells need d.placed.placed.cells q.stock r.stock
  -- the job's bag has these cells and no other
  pub cells : AreCellsOf d.placed.placed.bag d.placed.placed.cells
  -- this bag is of the same arena as the stock
  pub one : AreOfOne p.stock.bag d.placed.placed.bag

module _ (plan : PlanParts) (p q r : Hand) (d : DoneParts) (need : Need) (given : DoesOneMore plan p q r d need) where
  open given use {works, done, board, numbers, is, takes, cells, one}

  pub one_done : Works plan p r
  one_done = record {
    more = works.more ++ d ∷ [];
    list = done ∙ ap (λ l. l ++ d ∷ []) works.list ∙ append_assoc p.done.items works.more (d ∷ []);
    board = board ∙ works.board;
    claimed = numbers ∙ ap (λ l. l ++ d.job ∷ []) works.claimed ∙ append_assoc p.seat.numbers (jobs works.more) (d.job ∷ []) ∙ ap (λ l. p.seat.numbers ++ l) (sym (map-append (λ (e : DoneParts). e.job) works.more (d ∷ [])));
    each = All-push (IsDoneJob plan) works.more d works.each is;
    one = (
      one_of_one p.stock.bag q.stock.bag r.stock.bag works.one.0 (stays_of_one need q.stock r.stock d.placed.placed takes cells),
      All-push (λ (e : DoneParts). AreOfOne p.stock.bag e.placed.placed.bag) works.more d works.one.1 one,
    );
    cells = λ n.
        let bag = d.placed.placed.bag in
        let placed = placed_count need q.stock r.stock d.placed.placed takes cells n in
        let before = works.cells n in
        let old = holders-cons n q.stock.bag (bags works.more) in
        let new = holders-cons n r.stock.bag (bags (works.more ++ d ∷ [])) in
        let split = ap (holders n) (map-append (λ (e : DoneParts). e.placed.placed.bag) works.more (d ∷ [])) ∙ holders-append n (bags works.more) (bag ∷ []) in
        omega (arith, placed, before, old, new, split);
  }

-- a claim that found nothing
pub none_done : (plan : PlanParts) (p q r : Hand) → Works plan p q → r.done.items ≡ q.done.items → r.seat.board ≡ q.seat.board → r.seat.numbers ≡ q.seat.numbers → r.stock ≡ q.stock → Works plan p r
none_done plan p q r w done board numbers stock = record {
  more = w.more;
  list = done ∙ w.list;
  board = board ∙ w.board;
  claimed = numbers ∙ w.claimed;
  each = w.each;
  one = (one_of_one p.stock.bag q.stock.bag r.stock.bag w.one.0 (ap (λ (s : StockParts). s.bag.memory) stock, ap (λ (s : StockParts). s.bag.cells) stock), w.one.1);
  cells = λ n. ap (λ (s : StockParts). holders n (s.bag ∷ bags w.more)) stock ∙ w.cells n;
}

-- a claimed number is that of a job of the plan
pub job_at : (inside plan : PlanParts) (limit job : ℕ) → inside ≡ plan → job < limit → limit ≤ length plan.jobs → slice_get inside.jobs job ≡ Some (get_or inside.jobs job (record { 0 = 0 }, record { 0 = 0 }))
job_at inside plan limit job is below most =
    slice_get-get_or inside.jobs job (record { 0 = 0 }, record { 0 = 0 }) (let same = ap (λ (p : PlanParts). length p.jobs) is in omega (arith, below, most, same))

pub is_done : (inside plan : PlanParts) (d : DoneParts) (job : ℕ) (heads : SymbolNo × SymbolNo) → inside ≡ plan → slice_get inside.jobs job ≡ Some heads → d.job ≡ job → d.heads ≡ heads → d.templates ≡ inside.templates → IsDoneJob plan d
is_done inside plan d job heads is at number symbols templates = record {
  templates = templates ∙ ap (λ (p : PlanParts). p.templates) is;
  job = ap (λ (p : PlanParts). slice_get p.jobs d.job) (sym is) ∙ ap (slice_get inside.jobs) number ∙ at ∙ ap (λ (h : SymbolNo × SymbolNo). Some h) (sym symbols);
}

pub stops : (inside plan : PlanParts) (q : Hand) (largest : Need) → inside ≡ plan → IsLargestNeed inside.templates.templates largest → (q.seat.done ≡ true) ⊎ ((IsEnough (count_of largest) (held q.stock) → ⊥) ⊎ (vec_len q.rooms ≡ 0)) → StopsWorking plan q
stops inside plan q largest is most (inl done) = inl done
stops inside plan q largest is most (inr (inl short)) = inr (inl (largest, subst (λ (p : PlanParts). IsLargestNeed p.templates.templates largest) is most, short))
stops inside plan q largest is most (inr (inr none)) = inr (inr none)
