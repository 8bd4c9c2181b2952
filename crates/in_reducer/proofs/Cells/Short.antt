-- Whether some class is short of cells.
use Rattle.std.proofs.Common.{◌≡◌, true, false, Option, Some, None}
use Rattle.std.specs.Prelude.{MatchOption, is_some}
use Rattle.in_arena.specs.declared.content.CellClass.{CellClass}
use Rattle.in_compile.specs.declared.cells.Need.{Need}
use Rattle.in_compile.specs.Cells.{IsEnough, IsFirstShort, count_of}

pub enough_if : (o : Option CellClass) (need free : Need) → MatchOption o (IsEnough (count_of need) (count_of free)) (IsFirstShort (count_of need) (count_of free)) → is_some o ≡ false → IsEnough (count_of need) (count_of free)
enough_if None need free h e = h
enough_if (Some c) need free h e = absurd (let f : true ≡ false = e in cc)

pub short_if : (o : Option CellClass) (need free : Need) → MatchOption o (IsEnough (count_of need) (count_of free)) (IsFirstShort (count_of need) (count_of free)) → is_some o ≡ true → (c : CellClass) × IsFirstShort (count_of need) (count_of free) c
short_if None need free h e = absurd (let f : false ≡ true = e in cc)
short_if (Some c) need free h e = (c, h)
