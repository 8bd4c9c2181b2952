use Rattle.std.proofs.Common.{◌≡◌, ◌≤◌, subst}
use Rattle.in_arena.specs.declared.content.CellClass.{CellClass}
use Rattle.in_compile.specs.declared.cells.Need.{Need}
use Rattle.in_compile.specs.Cells.{count_of}
use Rattle.in_reducer.proofs.reducer.Reducer.least_free.Goals as goal

pub returns-clause-least : goal.returns-clause-least
returns-clause-least c = subst (λ (n : Need). (d : CellClass) → c.least.result ≤ count_of n d) c.vacant.ensures c.least.ensures.least

pub returns-clause-one : goal.returns-clause-one
returns-clause-one c = subst (λ (n : Need). (d : CellClass) × (count_of n d ≡ c.least.result)) c.vacant.ensures c.least.ensures.one
