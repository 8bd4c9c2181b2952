use Rattle.std.proofs.Common.{ap}
use Rattle.in_compile.specs.Cells.{count_of}
use Rattle.in_compile.specs.Placing.{PlacedParts}
use Rattle.in_harness_texts.proofs.Shared.{is_empty, of_one, stock_of, placed_of, as_it_was}
use Rattle.in_harness_texts.proofs.stocks.add_placed.Goals as goal

pub place_into-requires-clause-of_one : goal.place_into-requires-clause-of_one
place_into-requires-clause-of_one c =
    let s = c.in-Ok-fill.stock in
    let adds = c.in-Ok-fill.ensures.filled.0 in
    let b = c.in-Ok.placed.bag in
    let empty = is_empty c.args.arena.now b (ap (λ (p : PlacedParts). p.bag) c.in-Ok.ensures) in
    of_one (count_of c.need-2.result) c.args.arena.now c.fill.new.arena s adds b empty

pub spend-requires : goal.spend-requires
spend-requires c =
    let s = c.in-Ok-fill.stock in
    let adds = c.in-Ok-fill.ensures.filled.0 in
    let b = c.in-Ok.placed.bag in
    let empty = is_empty c.args.arena.now b (ap (λ (p : PlacedParts). p.bag) c.in-Ok.ensures) in
    stock_of (count_of c.need-2.result) c.args.arena.now c.fill.new.arena s adds b empty
    c.args.member.now.need c.place_into.new.stock c.place_into.new.placed c.place_into.ensures.takes c.place_into.ensures.placed.written.cells c.place_into.ensures.same.0

pub spend-requires-2-clause-of : goal.spend-requires-2-clause-of
spend-requires-2-clause-of c =
    let s = c.in-Ok-fill.stock in
    let adds = c.in-Ok-fill.ensures.filled.0 in
    let b = c.in-Ok.placed.bag in
    let empty = is_empty c.args.arena.now b (ap (λ (p : PlacedParts). p.bag) c.in-Ok.ensures) in
    placed_of (count_of c.need-2.result) c.args.arena.now c.fill.new.arena s adds b empty
    c.args.member.now.need c.place_into.new.stock c.place_into.new.placed c.place_into.ensures.takes c.place_into.ensures.placed.written.cells c.place_into.ensures.same.0 c.spend.new.arena c.spend.ensures

pub returns : goal.returns
returns c =
    let s = c.in-Ok-fill.stock in
    let adds = c.in-Ok-fill.ensures.filled.0 in
    let b = c.in-Ok.placed.bag in
    let empty = is_empty c.args.arena.now b (ap (λ (p : PlacedParts). p.bag) c.in-Ok.ensures) in
    as_it_was (count_of c.need-2.result) c.args.arena.now c.fill.new.arena s adds b empty
    c.args.member.now.need c.place_into.new.stock c.place_into.new.placed c.place_into.ensures.takes c.place_into.ensures.placed.written.cells c.place_into.ensures.same.0 c.spend.new.arena c.spend.ensures c.spend-2.new.arena c.cells.ensures.1 c.spend-2.ensures.arena
