-- The sides of the boundary ends of an active pair, which are set before the ends are joined.
use Rattle.std.specs.Prelude.{◌≡◌, ◌≢◌, ◌+◌, ◌-◌, ◌<◌, ℕ, suc, cond, nat_eq, nat_lt, List, length, take, Option, Some, option_map, slice_get, slice_index_or}
use Rattle.in_arena.specs.Arenas.{ArenaView, state_at}
use Rattle.in_arena.specs.States.{end_at}
use Rattle.in_arena.specs.declared.content.CellNo.{CellNo}
use Rattle.in_arena.specs.declared.content.End.{End}
use Rattle.in_arena.specs.declared.content.End.TheVariants.{Cell, Free}
use Rattle.in_compile.specs.declared.joints.Joint.{Joint}
use Rattle.in_compile.specs.declared.joints.Joint.TheVariants.{ToAgent, ToBoundary}
use Rattle.in_reducer.specs.declared.sides.Pair.{Pair}

-- the port that is the boundary end of this number: those of the first agent come first
abbrev pub port_at : Pair → ℕ → CellNo × ℕ
port_at p e = cond (nat_lt e p.first_ends) (p.one, suc e) (p.other, suc (e - p.first_ends))

-- the end at that place of that cell
abbrev pub end_there : ArenaView → CellNo × ℕ → Option End
end_there a q = end_at (state_at a q.0.0) q.1

-- an auxiliary port of the pair is the outer side of its boundary end; the sides are numbered from here on
abbrev pub outer_of : Pair → ℕ → End → End
outer_of p from (Cell c i) = cond (nat_eq c.0 p.one.0) (Free (from + (i - 1))) (cond (nat_eq c.0 p.other.0) (Free (from + p.first_ends + (i - 1))) (Cell c i))
outer_of p from (Free k) = Free k

-- the end for a joint of the right member, if its agents have these cells; for a boundary end it is its inner side
abbrev pub inner_of : List CellNo → ℕ → Joint → End
inner_of ns from (ToAgent k i) = Cell (slice_index_or ns k (record { 0 = 0 })) i
inner_of ns from (ToBoundary e) = Free (from + e)

-- the sides of the first x boundary ends are set, and the partners of the net's own free ends are as before
pub record AreSetBelow (p : Pair) (a : ArenaView) (joints : List Joint) (ns : List CellNo) (own many x : ℕ) (old new : List End) : Type 0 where
  pub long : length new ≡ length old
  pub first : take own new ≡ take own old
  pub outer : (e : ℕ) → e < x → slice_get new (own + e) ≡ option_map (outer_of p own) (end_there a (port_at p e))
  pub inner : (e : ℕ) → e < x → slice_get new (own + many + e) ≡ option_map (inner_of ns (own + many)) (slice_get joints e)

-- the port exists, and leads to no principal port of the pair
pub record HasPort (a : ArenaView) (p : Pair) (e : ℕ) : Type 0 where
  pub end : End
  pub stands : end_there a (port_at p e) ≡ Some end
  pub one : end ≢ Cell p.one 0
  pub other : end ≢ Cell p.other 0

-- a joint leads to an agent that has a cell, or to a boundary end
abbrev pub HasJoint : List CellNo → Joint → Type 0
HasJoint ns (ToAgent k i) = k < length ns
HasJoint ns (ToBoundary e) = Unit {0}
