use Rattle.std.proofs.Common.{◌≡◌, length, refl, subst, arith}
use Rattle.std.proofs.lemmas.Option.{slice_get_read}
use Rattle.in_arena.specs.Arenas.{changed, state_at}
use Rattle.in_arena.specs.Bags.{IsBagOf}
use Rattle.in_arena.specs.States.{IsLive, Leased}
use Rattle.in_arena.specs.declared.content.CellNo.{CellNo}
use Rattle.in_arena.proofs.Public.{live_in}
use Rattle.in_compile.proofs.Placements.Held.{one_more_back}
use Rattle.in_compile.proofs.placed.settle_all.Goals as goal

pub loop-number-preserved : goal.loop-number-preserved
loop-number-preserved c =
    let ns = c.args.numbers.now in
    let x = c.loop-number.number in
    let n = c.index-numbers-number.result in
    let at = slice_get_read ns (length ns) x c.index-numbers-number.result refl c.loop-number-test.true c.index-numbers-number.is in
    let h = c.loop-number.invariant in
    let a = c.loop-number.arena in
    let b = c.loop-number.bag in
    let new = subst (λ (p : CellNo). (c.settle_from.new.self ≡ changed a p.0 (state_at b p.0)) × (c.settle_from.new.bag ≡ changed b p.0 Leased) × IsBagOf c.settle_from.new.bag c.settle_from.new.self) c.no.ensures c.settle_from.ensures in
    one_more_back (λ x. x) IsLive ns x c.args.arena.now c.args.bag.now c.loop-number.arena c.loop-number.bag n (state_at c.loop-number.bag n.0) c.requires.written.cells.once at (live_in (state_at c.loop-number.bag n.0) (h.left.each x n (omega arith) at)) refl h
    c.settle_from.new.self c.settle_from.new.bag new.0 new.1 new.2
