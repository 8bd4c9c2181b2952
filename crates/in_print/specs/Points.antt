-- The point of an end: a cell has the number of its agent.
use Rattle.std.specs.Prelude.{ℕ}
use Rattle.in_arena.specs.declared.content.End.{End}
use Rattle.in_arena.specs.declared.content.End.TheVariants as end
use Rattle.in_net.specs.Nets.{Point, Port, Free}

abbrev pub point_at : End → Point ℕ
point_at (end.Cell c i) = Port c.0 i
point_at (end.Free k) = Free k
