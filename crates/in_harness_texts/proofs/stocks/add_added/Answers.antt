use Rattle.std.proofs.Common.{◌≤◌, ◌+◌, sym, subst, arith}
use Rattle.in_arena.specs.declared.content.CellClass.{CellClass}
use Rattle.in_arena.proofs.Public.{empty_is_of}
use Rattle.in_compile.specs.Cells.{count_of}
use Rattle.in_compile.specs.Stocks.{StockParts, Adds, HasRoom, IsStockOf, empty_stock, held}
use Rattle.in_compile.proofs.Public.{all_back}
use Rattle.in_harness_texts.proofs.stocks.add_added.Goals as goal

pub add-requires-clause-of : goal.add-requires-clause-of
add-requires-clause-of c = subst (λ (s : StockParts). IsStockOf s c.args.arena.now) (sym c.in-Ok.ensures) (empty_is_of c.args.arena.now).0

pub add-requires-clause-room : goal.add-requires-clause-room
add-requires-clause-room c = subst (λ (s : StockParts). HasRoom s c.args.need) (sym c.in-Ok.ensures) fits
  where
    fits : (d : CellClass) → held (empty_stock c.args.arena.now c.args.need) d + count_of c.args.need d ≤ count_of c.args.need d
    fits d = let e = (empty_is_of c.args.arena.now).2 d in omega (arith, e)

pub returns : goal.returns
returns c =
    let a = c.args.arena.now in
    let adds = subst (λ (s : StockParts). Adds (count_of c.args.need) a s.bag c.add.new.arena c.add.new.self.bag) c.in-Ok.ensures c.add.ensures.0 in
    all_back (count_of c.args.need) a c.add.new.arena c.add.new.self.bag c.spend.new.arena c.cells.ensures.1 adds c.spend.ensures
