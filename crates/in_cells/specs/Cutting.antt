-- The net in the cells before a wire is cut, and the cut.
use Rattle.std.specs.Prelude.{◌≡◌, ℕ, suc, List, length, take, Some}
use Rattle.in_arena.specs.Arenas.{ArenaView}
use Rattle.in_arena.specs.declared.content.End.{End}
use Rattle.in_net.specs.Nets.{Point, Port, Net, IsNet, Signature}
use Rattle.in_gluing.specs.Joining.{CutsWire}
use Rattle.in_cells.specs.Shown.{IsShown}

-- the cells, with the first `own` ends of the list for its free ends, show this net
pub record Shows (sig : Signature) (own : ℕ) (a : ArenaView) (ends : List End) (w : Net ℕ) : Type 0 where
  pub net : IsNet sig w
  pub many : own ≡ length w.free
  pub shown : IsShown a (take own ends) w

-- the wire at this place of that agent is cut: the place leads to the free end of this number, and the place's old partner to the next one
pub record IsCutAt (w : Net ℕ) (c i own : ℕ) (m : Net ℕ) : Type 0 where
  pub other : Point ℕ
  pub wire : w.partner (Port c i) ≡ Some other
  pub cut : CutsWire w (Port c i) other own (suc own) m
