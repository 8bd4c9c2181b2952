use Rattle.std.proofs.Common.{arith, refl, ◌∙◌}
use Rattle.in_cells.proofs.OnTheWay.{starts, goes_on, ends_done, symbols_kept}
use Rattle.in_cells.proofs.joining.join_all.Goals as goal

pub loop-end-init : goal.loop-end-init
loop-end-init c = (starts c.args.symbols.now c.args.own c.args.many c.args.arena.now c.args.ends.now c.args.made.now.items, c.requires.room, refl)

pub join-requires-clause-symbols : goal.join-requires-clause-symbols
join-requires-clause-symbols c = symbols_kept c.args.symbols.now c.args.arena.now c.loop-end.arena c.loop-end.invariant.0.kept c.requires.symbols

pub loop-end-preserved : goal.loop-end-preserved
loop-end-preserved c = (
  goes_on c.args.symbols.now c.args.own c.args.many c.args.arena.now c.args.ends.now c.args.made.now.items c.loop-end.end c.loop-end.arena c.loop-end.ends c.loop-end.made.items c.loop-end.invariant.0
      c.join.new.arena c.join.new.ends c.join.new.made.items c.loop-end-test.true c.join.ensures.between c.join.ensures.made c.join.ensures.kept,
  omega arith,
  c.join.ensures.capacity ∙ c.loop-end.invariant.2,
)

pub returns-clause-done : goal.returns-clause-done
returns-clause-done c = (ends_done c.args.symbols.now c.args.own c.args.many c.args.arena.now c.args.ends.now c.args.made.now.items c.loop-end.end c.loop-end.arena c.loop-end.ends c.loop-end.made.items c.loop-end.invariant.0 c.loop-end-test.false).0

pub returns-clause-made : goal.returns-clause-made
returns-clause-made c = (ends_done c.args.symbols.now c.args.own c.args.many c.args.arena.now c.args.ends.now c.args.made.now.items c.loop-end.end c.loop-end.arena c.loop-end.ends c.loop-end.made.items c.loop-end.invariant.0 c.loop-end-test.false).1
