use Rattle.std.proofs.Common.{◌≡◌, ◌∙◌, ap, sym, subst, arith, refl, get_or, ℕ, [], ◌∷◌, ◌++◌}
use Rattle.in_syntax.specs.declared.symbol_no.SymbolNo.{SymbolNo}
use Rattle.in_claims.specs.Seats.{BoardView, SeatView}
use Rattle.in_compile.specs.Templates.{AreMostAgents}
use Rattle.in_rounds.specs.Dones.{DoneParts}
use Rattle.in_rounds.specs.Plans.{PlanParts}
use Rattle.in_rounds.specs.Works.{IsEmptyRoom}
use Rattle.in_rounds.specs.declared.hand.Hand.{Hand}
use Rattle.in_rounds.proofs.Threading.{last_of, all_but_last}
use Rattle.in_rounds.proofs.Worked.{no_work, one_done, none_done, job_at, is_done, stops}
use Rattle.in_rounds.proofs.Placing.{at_most, holds_any, one_of_one}
use Rattle.in_rounds.proofs.working.worked.Goals as goal

pub loop-plan-init : goal.loop-plan-init
loop-plan-init g c = record {
  works = no_work c.args.plan.now c.args.hand c.args.hand refl refl refl;
  rooms = c.requires.rooms;
  list = c.requires.list;
}

pub make-requires-clause-rule : goal.make-requires-clause-rule
make-requires-clause-rule g c =
    let inside : PlanParts = record { templates = c.plan.inside.templates.now; jobs = c.plan.inside.jobs.now } in
    let claimed = c.in-Some.ensures.claims in
    let board : c.loop-plan.seat.board.limit ≡ c.args.board.now.limit = ap (λ (b : BoardView). b.limit) (c.loop-plan.invariant.works.board ∙ c.requires.of_board) in
    let at = job_at inside c.args.plan.now c.loop-plan.seat.board.limit c.in-Some.job c.plan.view_is claimed.0 (omega (arith, board, c.requires.limit)) in
    c.plan.invariant c.in-Some.job (get_or c.plan.inside.jobs.now c.in-Some.job (record { 0 = 0 }, record { 0 = 0 })) at

pub make-requires-clause-holds : goal.make-requires-clause-holds
make-requires-clause-holds g c = λ t at.
    let heads : SymbolNo × SymbolNo = get_or c.plan.inside.jobs.now c.in-Some.job (record { 0 = 0 }, record { 0 = 0 }) in
    holds_any c.plan.inside.templates.now c.largest_need-largest.result c.loop-plan.stock heads.0.0 heads.1.0 t c.largest_need-largest.ensures (c.goes_on.ensures.yes c.loop-plan-test.true).1 at

pub make-requires-clause-room : goal.make-requires-clause-room
make-requires-clause-room g c = λ t at.
    let room = last_of (IsEmptyRoom c.args.plan.now.templates.templates c.args.hand.stock) c.loop-plan.rooms.items c.take_last-room.new.self.items c.take_last-room.result c.take_last-room.ensures.items c.loop-plan.invariant.rooms in
    let heads : SymbolNo × SymbolNo = get_or c.plan.inside.jobs.now c.in-Some.job (record { 0 = 0 }, record { 0 = 0 }) in
    let most = subst (λ (p : PlanParts). AreMostAgents p.templates.templates room.room.0) (sym c.plan.view_is) room.room.1 in
    let few = at_most c.plan.inside.templates.now room.room.0 heads.0.0 heads.1.0 t most at in
    omega (arith, few, room.room.2)

pub make-requires-clause-of_one : goal.make-requires-clause-of_one
make-requires-clause-of_one g c =
    let room = last_of (IsEmptyRoom c.args.plan.now.templates.templates c.args.hand.stock) c.loop-plan.rooms.items c.take_last-room.new.self.items c.take_last-room.result c.take_last-room.ensures.items c.loop-plan.invariant.rooms in
    let one = c.loop-plan.invariant.works.one.0 in
    (room.one.0 ∙ sym one.0, room.one.1 ∙ sym one.1)

pub make-requires-clause-empty : goal.make-requires-clause-empty
make-requires-clause-empty g c =
    let room = last_of (IsEmptyRoom c.args.plan.now.templates.templates c.args.hand.stock) c.loop-plan.rooms.items c.take_last-room.new.self.items c.take_last-room.result c.take_last-room.ensures.items c.loop-plan.invariant.rooms in
    room.none

pub loop-plan-preserved-in-Some : goal.loop-plan-preserved-in-Some
loop-plan-preserved-in-Some g c =
    let v = c.loop-plan.invariant in let claimed = c.in-Some.ensures.claims in let made = c.make.ensures in
    let q : Hand = record { seat = c.loop-plan.seat; stock = c.loop-plan.stock; rooms = c.loop-plan.rooms; done = c.loop-plan.done } in
    let r : Hand = record { seat = c.claim.new.seat; stock = c.make.new.stock; rooms = c.take_last-room.new.self; done = c.push_reserved.new.self } in
    let d : DoneParts = c.make.result in
    let inside : PlanParts = record { templates = c.plan.inside.templates.now; jobs = c.plan.inside.jobs.now } in
    let heads : SymbolNo × SymbolNo = get_or c.plan.inside.jobs.now c.in-Some.job (record { 0 = 0 }, record { 0 = 0 }) in
    let board : c.loop-plan.seat.board.limit ≡ c.args.board.now.limit = ap (λ (b : BoardView). b.limit) (v.works.board ∙ c.requires.of_board) in
    let at = job_at inside c.args.plan.now c.loop-plan.seat.board.limit c.in-Some.job c.plan.view_is claimed.0 (omega (arith, board, c.requires.limit)) in
    let is = is_done inside c.args.plan.now d c.in-Some.job heads c.plan.view_is at made.job made.heads made.templates in
    let room = last_of (IsEmptyRoom c.args.plan.now.templates.templates c.args.hand.stock) c.loop-plan.rooms.items c.take_last-room.new.self.items c.take_last-room.result c.take_last-room.ensures.items v.rooms in
    let one = one_of_one c.args.hand.stock.bag c.take_last-room.result.bag d.placed.placed.bag room.one made.same in
    let numbers = ap (λ (s : SeatView). s.numbers) claimed.1 ∙ ap (λ (k : ℕ). c.loop-plan.seat.numbers ++ k ∷ []) (sym made.job) in
    record {
      works = one_done c.args.plan.now c.args.hand q r d d.placed.template.member.need (record {
        works = v.works;
        done = c.push_reserved.ensures.items;
        board = ap (λ (s : SeatView). s.board) claimed.1;
        numbers = numbers;
        is = is;
        takes = made.takes;
        cells = made.template.placed.written.cells;
        one = one;
      });
      rooms = all_but_last (IsEmptyRoom c.args.plan.now.templates.templates c.args.hand.stock) c.loop-plan.rooms.items c.take_last-room.new.self.items c.take_last-room.result c.take_last-room.ensures.items v.rooms;
      list = omega (arith, v.list, c.take_last-room.ensures.len, c.push_reserved.ensures.len, c.push_reserved.ensures.capacity);
    }

pub loop-plan-preserved : goal.loop-plan-preserved
loop-plan-preserved g c =
    let v = c.loop-plan.invariant in let claimed = c.in_default.ensures.claims in
    let q : Hand = record { seat = c.loop-plan.seat; stock = c.loop-plan.stock; rooms = c.loop-plan.rooms; done = c.loop-plan.done } in
    let r : Hand = record { seat = c.claim.new.seat; stock = c.loop-plan.stock; rooms = c.take_last-room.new.self; done = c.loop-plan.done } in
    record {
      works = none_done c.args.plan.now c.args.hand q r v.works refl (ap (λ (s : SeatView). s.board) claimed) (ap (λ (s : SeatView). s.numbers) claimed) refl;
      rooms = all_but_last (IsEmptyRoom c.args.plan.now.templates.templates c.args.hand.stock) c.loop-plan.rooms.items c.take_last-room.new.self.items c.take_last-room.result c.take_last-room.ensures.items v.rooms;
      list = omega (arith, v.list, c.take_last-room.ensures.len);
    }

pub returns : goal.returns
returns g c =
    let inside : PlanParts = record { templates = c.plan.inside.templates.now; jobs = c.plan.inside.jobs.now } in
    let q : Hand = record { seat = c.loop-plan.seat; stock = c.loop-plan.stock; rooms = c.loop-plan.rooms; done = c.loop-plan.done } in
    record {
      works = c.loop-plan.invariant.works;
      stops = stops inside c.args.plan.now q c.largest_need-largest.result c.plan.view_is c.largest_need-largest.ensures (c.goes_on.ensures.ends c.loop-plan-test.false);
    }
