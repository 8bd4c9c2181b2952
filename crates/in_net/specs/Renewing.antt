-- A net that gets other agents and wires, and keeps its free ends.
use Rattle.std.specs.Prelude.{◌≡◌, ℕ, false, List, [], length, Option, Some, slice_get}
use Rattle.in_net.specs.declared.nets.Cell.{Cell}
use Rattle.in_net.specs.declared.nets.FreeEnd.{FreeEnd}
use Rattle.in_net.specs.declared.nets.Point.{Point}
use Rattle.in_net.specs.declared.nets.Wire.{Wire}
use Rattle.in_net.specs.Parts.{Parts}

-- each free end gets its partner, and keeps its name and type
pub record Rejoins (ends : List Point) (old new : List FreeEnd) : Type 0 where
  pub many : length new ≡ length old
  pub each : (k : ℕ) (f : FreeEnd) (q : Point) → slice_get old k ≡ Some f → slice_get ends k ≡ Some q → slice_get new k ≡ Some (record { name = f.name; kind = f.kind; end = q })

-- a net that isn't as built: its agents and wires have no places
abbrev pub renewed : List (Option Cell) → List FreeEnd → List Wire → Parts
renewed cells free wires = record { cells = cells; free = free; wires = wires; places = []; built = false }

-- the net that gets these agents, partners and wires
abbrev pub IsRenewed : Parts → List (Option Cell) → List Point → List Wire → Parts → Type 0
IsRenewed old cells ends wires new = (free : List FreeEnd) × Rejoins ends old.free free × (new ≡ renewed cells free wires)
