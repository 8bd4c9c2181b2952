use Rattle.std.proofs.Common.{◌≤◌, ◌+◌, sym, subst, arith}
use Rattle.in_arena.specs.declared.content.CellClass.{CellClass}
use Rattle.in_arena.proofs.Public.{empty_is_of}
use Rattle.in_compile.specs.Cells.{count_of}
use Rattle.in_compile.specs.Stocks.{StockParts, HasRoom, empty_stock, held}
use Rattle.in_compile.proofs.stock.Stock.fill.Goals as goal

pub add-requires-clause-room : goal.add-requires-clause-room
add-requires-clause-room c = subst (λ (s : StockParts). HasRoom s c.args.need) (sym c.in_ok-stock.ensures) fits
  where
    fits : (d : CellClass) → held (empty_stock c.args.arena.now c.args.need) d + count_of c.args.need d ≤ count_of c.args.need d
    fits d = let e = (empty_is_of c.args.arena.now).2 d in omega (arith, e)
