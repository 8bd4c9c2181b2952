use Rattle.in_cells.proofs.OnTheWay.{live_after, symbols_kept, outer_place, inner_place, sides_differ, written_keeps, joined_next, pair_next}
use Rattle.in_cells.proofs.joining.join.Goals as goal

pub exchange-requires-clause-one : goal.exchange-requires-clause-one
exchange-requires-clause-one c = let r = c.requires.between in outer_place c.args.symbols.now r.0 c.args.own c.args.many c.args.end c.args.arena.now c.args.ends.now r.1 c.requires.end _ _ c.index-ends-own.is c.index-ends-own-2.is

pub exchange-requires-clause-other : goal.exchange-requires-clause-other
exchange-requires-clause-other c = let r = c.requires.between in inner_place c.args.symbols.now r.0 c.args.own c.args.many c.args.end c.args.arena.now c.args.ends.now r.1 c.requires.end _ _ c.index-ends-own.is c.index-ends-own-2.is

pub add_pair-requires-clause-one : goal.add_pair-requires-clause-one
add_pair-requires-clause-one c =
    let r = c.requires.between in
    let k = written_keeps c.args.symbols.now r.0 c.args.own c.args.many c.args.end c.args.arena.now c.args.ends.now r.1 c.requires.end _ _ c.index-ends-own.is c.index-ends-own-2.is c.exchange.new.arena c.exchange.new.ends c.exchange.ensures in
    live_after _ c.args.arena.now c.args.ends.now c.exchange.new.arena k.0 (outer_place c.args.symbols.now r.0 c.args.own c.args.many c.args.end c.args.arena.now c.args.ends.now r.1 c.requires.end _ _ c.index-ends-own.is c.index-ends-own-2.is)

pub add_pair-requires-clause-other : goal.add_pair-requires-clause-other
add_pair-requires-clause-other c =
    let r = c.requires.between in
    let k = written_keeps c.args.symbols.now r.0 c.args.own c.args.many c.args.end c.args.arena.now c.args.ends.now r.1 c.requires.end _ _ c.index-ends-own.is c.index-ends-own-2.is c.exchange.new.arena c.exchange.new.ends c.exchange.ensures in
    live_after _ c.args.arena.now c.args.ends.now c.exchange.new.arena k.0 (inner_place c.args.symbols.now r.0 c.args.own c.args.many c.args.end c.args.arena.now c.args.ends.now r.1 c.requires.end _ _ c.index-ends-own.is c.index-ends-own-2.is)

pub add_pair-requires-clause-differ : goal.add_pair-requires-clause-differ
add_pair-requires-clause-differ c = let r = c.requires.between in sides_differ c.args.symbols.now r.0 c.args.own c.args.many c.args.end c.args.arena.now c.args.ends.now r.1 c.requires.end _ _ c.index-ends-own.is c.index-ends-own-2.is

pub add_pair-requires-clause-symbols : goal.add_pair-requires-clause-symbols
add_pair-requires-clause-symbols c =
    let r = c.requires.between in
    let k = written_keeps c.args.symbols.now r.0 c.args.own c.args.many c.args.end c.args.arena.now c.args.ends.now r.1 c.requires.end _ _ c.index-ends-own.is c.index-ends-own-2.is c.exchange.new.arena c.exchange.new.ends c.exchange.ensures in
    symbols_kept c.args.symbols.now c.args.arena.now c.exchange.new.arena k.0 c.requires.symbols

pub returns-clause-between : goal.returns-clause-between
returns-clause-between c = λ x h. joined_next c.args.symbols.now x c.args.own c.args.many c.args.end c.args.arena.now c.args.ends.now h c.requires.end _ _ c.index-ends-own.is c.index-ends-own-2.is c.exchange.new.arena c.exchange.new.ends c.exchange.ensures

pub returns-clause-made : goal.returns-clause-made
returns-clause-made c = λ x first h made. pair_next c.args.symbols.now x c.args.own c.args.many c.args.end c.args.arena.now c.args.ends.now h c.requires.end _ _ c.index-ends-own.is c.index-ends-own-2.is c.exchange.new.arena c.exchange.new.ends c.exchange.ensures first c.args.made.now.items c.add_pair.new.made.items made c.add_pair.ensures.added

pub returns-clause-kept : goal.returns-clause-kept
returns-clause-kept c = let r = c.requires.between in (written_keeps c.args.symbols.now r.0 c.args.own c.args.many c.args.end c.args.arena.now c.args.ends.now r.1 c.requires.end _ _ c.index-ends-own.is c.index-ends-own-2.is c.exchange.new.arena c.exchange.new.ends c.exchange.ensures).0
