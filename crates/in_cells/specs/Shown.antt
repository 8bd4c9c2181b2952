-- A net in cells. Each place of a cell has the end to which it leads; the end for a free end is in a list, at the free end's number.
use Rattle.std.specs.Prelude.{◌≡◌, ◌⊎◌, ◌↔◌, ◌+◌, ◌<◌, ◌≤◌, ℕ, List, length, slice_get, slice_set, Option, Some, IsSome, option_map}
use Rattle.in_arena.specs.Arenas.{ArenaView, state_at, changed}
use Rattle.in_arena.specs.States.{word_of, places, end_at, with_end}
use Rattle.in_arena.specs.declared.content.End.{End}
use Rattle.in_arena.specs.declared.content.End.TheVariants as end
use Rattle.in_net.specs.Nets.{Point, Port, Free, Net}

-- the point to which an end leads, and back
abbrev pub point_of : End → Point ℕ
point_of (end.Cell c i) = Port c.0 i
point_of (end.Free k) = Free k

abbrev pub end_of : Point ℕ → End
end_of (Port y i) = end.Cell (record { 0 = y }) i
end_of (Free k) = end.Free k

-- the end that is written at a point
abbrev pub stands_at : ArenaView → List End → Point ℕ → Option End
stands_at a ends (Port y i) = end_at (state_at a y) i
stands_at a ends (Free k) = slice_get ends k

-- the live cells are the net's agents, and its wires lead to the ends written at their points
pub record IsShown (a : ArenaView) (ends : List End) (m : Net ℕ) : Type 0 where
  pub agents : (y : ℕ) → m.symbol y ≡ word_of (state_at a y)
  pub wires : (u : Point ℕ) → m.partner u ≡ option_map point_of (stands_at a ends u)

-- ---- writing

-- the cells have this place, or the list has this free end, so it can be written
abbrev pub IsPlaceAt : ArenaView → List End → End → Type 0
IsPlaceAt a ends (end.Cell c i) = i < places (state_at a c.0)
IsPlaceAt a ends (end.Free k) = k < length ends

-- the second end is written at the first
abbrev pub IsWritten : End → End → ArenaView → List End → ArenaView → List End → Type 0
IsWritten (end.Cell c i) x a ends b after = (b ≡ changed a c.0 (with_end (state_at a c.0) i x)) × (after ≡ ends)
IsWritten (end.Free k) x a ends b after = (b ≡ a) × (after ≡ slice_set ends k x)

-- each of two ends is written at the other
pub record AreExchanged (x y : End) (a : ArenaView) (ends : List End) (b : ArenaView) (after : List End) : Type 0 where
  pub middle : ArenaView
  pub list : List End
  pub first : IsWritten x y a ends middle list
  pub second : IsWritten y x middle list b after

-- ---- while boundary ends are joined

-- a side of a boundary end below this one, if the net has `own` free ends and `many` boundary ends are added: the outer
-- sides are numbered after the net's own free ends, and the inner sides after these
abbrev pub IsSideBelow : ℕ → ℕ → ℕ → Point ℕ → Type 0
IsSideBelow own many e (Port y i) = ⊥
IsSideBelow own many e (Free k) = (d : ℕ) × (d < e) × ((k ≡ own + d) ⊎ (k ≡ own + many + d))

-- a place of a live cell, one of the net's own free ends, or such a side
abbrev pub IsPointUpTo : ArenaView → ℕ → ℕ → ℕ → Point ℕ → Type 0
IsPointUpTo a own many e (Port y i) = i < places (state_at a y)
IsPointUpTo a own many e (Free k) = (k < own) ⊎ IsSideBelow own many e (Free k)

-- the cells show the net up to the points that lead to sides of boundary ends below this one, which are not joined yet: the end at such a point is
-- open, unless the point is such a side itself
pub record IsShownUpTo (own many e : ℕ) (a : ArenaView) (ends : List End) (m : Net ℕ) : Type 0 where
  pub agents : (y s : ℕ) → (m.symbol y ≡ Some s) ↔ (word_of (state_at a y) ≡ Some s)
  pub points : (u : Point ℕ) → IsSome (m.partner u) ↔ IsPointUpTo a own many e u
  pub wires : (u v : Point ℕ) → m.partner u ≡ Some v → IsSideBelow own many e u ⊎ (IsSideBelow own many e v → ⊥) → stands_at a ends u ≡ Some (end_of v)
  pub room : own + many + many ≤ length ends
