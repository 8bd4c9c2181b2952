-- The view of a stock, and the invariant of its fields.
use Rattle.in_compile.specs.Listing.{listed, room_of, IsListing}
use Rattle.in_compile.specs.Stocks.{StockParts}
use Rattle.in_compile.specs.declared.stock.Stock.TheInside.{Inside}

abbrev pub stock_view : Inside → StockParts
stock_view s = record { bag = s.bag; room = room_of s.lists }

abbrev pub IsStock : Inside → Type 0
IsStock s = IsListing s.bag (listed s.lists)
