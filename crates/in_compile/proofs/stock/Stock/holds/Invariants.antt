use Rattle.std.proofs.Common.{◌≡◌, ◌≤◌}
use Rattle.in_arena.specs.Classes.{classes}
use Rattle.in_compile.specs.Cells.{count_of}
use Rattle.in_compile.specs.Stocks.{held}
use Rattle.in_compile.proofs.Needs.Classes.{HaveItSoFar}
use Rattle.in_compile.proofs.stock.Stock.holds.Given as goal

abbrev pub invariant-loop-class : goal.invariant-loop-class
invariant-loop-class l = record { items : l.class-items ≡ classes; before : HaveItSoFar (λ d. count_of l.need d ≤ held l.self d) l.class-index }
