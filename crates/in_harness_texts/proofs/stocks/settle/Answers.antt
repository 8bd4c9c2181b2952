use Rattle.in_compile.specs.Cells.{count_of}
use Rattle.in_harness_texts.proofs.Shared.{of_one, stock_of, placed_of, in_place}
use Rattle.in_harness_texts.proofs.stocks.settle.Goals as goal

pub place-placed-requires-clause-of_one : goal.place-placed-requires-clause-of_one
place-placed-requires-clause-of_one c =
    let a = c.args.arena.now in
    let s = c.in-Ok.stock in
    let count = count_of c.need-2.result in
    let adds = c.in-Ok.ensures.filled.0 in
    let of = c.requires.of_one in
    of_one count a c.fill.new.arena s adds c.args.room.bag of

pub spend-requires : goal.spend-requires
spend-requires c =
    let a = c.args.arena.now in
    let s = c.in-Ok.stock in
    let count = count_of c.need-2.result in
    let adds = c.in-Ok.ensures.filled.0 in
    let of = c.requires.of_one in
    stock_of count a c.fill.new.arena s adds c.args.room.bag of
    c.args.template.now.member.need c.place-placed.new.stock c.place-placed.result.placed c.place-placed.ensures.takes c.place-placed.ensures.placed.written.cells c.place-placed.ensures.same.0

pub settle-back-requires : goal.settle-back-requires
settle-back-requires c =
    let a = c.args.arena.now in
    let s = c.in-Ok.stock in
    let count = count_of c.need-2.result in
    let adds = c.in-Ok.ensures.filled.0 in
    let of = c.requires.of_one in
    placed_of count a c.fill.new.arena s adds c.args.room.bag of
    c.args.template.now.member.need c.place-placed.new.stock c.place-placed.result.placed c.place-placed.ensures.takes c.place-placed.ensures.placed.written.cells c.place-placed.ensures.same.0 c.spend.new.arena c.spend.ensures

pub returns : goal.returns
returns c =
    let a = c.args.arena.now in
    let s = c.in-Ok.stock in
    let count = count_of c.need-2.result in
    let adds = c.in-Ok.ensures.filled.0 in
    let of = c.requires.of_one in
    in_place count a c.fill.new.arena s adds c.args.room.bag of
    c.args.template.now.member.need c.place-placed.new.stock c.place-placed.result.placed c.place-placed.ensures.takes c.place-placed.ensures.placed.written.cells c.place-placed.ensures.same.0 c.spend.new.arena c.spend.ensures c.settle-back.new.arena c.requires.whole c.cells.ensures.1 c.settle-back.ensures.arena
