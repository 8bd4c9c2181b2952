-- Maps from the ports of one graph to those of another. This project's own.
use Rattle.std.specs.Prelude.{◌≡◌, ℕ}
use Rattle.in_base.specs.Graphs.{Graph}

-- a map from the ports of g to those of h; the ports at wires have At
pub record IsMap (g h : Graph) (f : g.Node × ℕ → h.Node × ℕ) (At : g.Node × ℕ → Type 0) : Type 0 where
  pub wire : (u v : g.Node × ℕ) → g.Wire u v → h.Wire (f u) (f v)
  pub ends : (u v : g.Node × ℕ) → g.Wire u v → At u × At v
  pub onto : (u v : g.Node × ℕ) → At u → At v → u.0 ≡ v.0 → (f u).0 ≡ (f v).0
  pub apart : (u v : g.Node × ℕ) → At u → At v → (f u).0 ≡ (f v).0 → u.0 ≡ v.0
  pub classes : (u v : g.Node × ℕ) → At u → At v → u.0 ≡ v.0 → h.class (f u).0 (f u).1 ≡ h.class (f v).0 (f v).1 → g.class u.0 u.1 ≡ g.class v.0 v.1
