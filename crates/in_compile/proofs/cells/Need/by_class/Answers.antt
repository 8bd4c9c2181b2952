use Rattle.in_arena.specs.declared.content.CellClass.{CellClass}
use Rattle.in_arena.specs.declared.content.CellClass.TheVariants.{Small, Large, Wide}
use Rattle.in_compile.specs.Cells.{count_of}
use Rattle.in_compile.proofs.cells.Need.by_class.Goals as goal

pub returns : goal.returns
returns g c = given
  where
    given : (class : CellClass) → goal.F-post g c.args.count class (count_of (record { small = c.count.result; large = c.count-2.result; wide = c.count-3.result }) class)
    given Small = c.count.ensures
    given Large = c.count-2.ensures
    given Wide = c.count-3.ensures
