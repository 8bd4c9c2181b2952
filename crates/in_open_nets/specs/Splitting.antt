-- The nodes that split a sub-net, and the sub-nets that split. This project's own choice: a procedure that decides what is derivable.
use Rattle.std.specs.Prelude.{◌≡◌, ◌≢◌, ◌↔◌, ℕ, Bool, false}
use Rattle.in_base.specs.Graphs.{Graph}
use Rattle.in_open_nets.specs.Constructions.{IsIn, OwnWiresAreOfOneClass}

-- joined through nodes that have P, both ends among them
pub data Linked (g : Graph) (P : g.Node → Type 0) : g.Node → g.Node → Type 0 where
  alone : (n : g.Node) → P n → Linked g P n n
  onward : (l m k : g.Node) (i j : ℕ) → P l → g.Wire (l, i) (m, j) → Linked g P m k → Linked g P l k

-- the nodes of s without n
abbrev pub Without : {V : Type 0} → V → (V → Bool) → V → Type 0
Without n s m = IsIn m s × (m ≢ n)

-- without n, ports of n that touch one component are of one class
pub record SplitsAt (g : Graph) (n : g.Node) (s : g.Node → Bool) : Type 0 where
  pub own : OwnWiresAreOfOneClass g n
  pub touched : (i j : ℕ) (l m : g.Node) (k h : ℕ) → g.Wire (n, i) (l, k) → g.Wire (n, j) (m, h) → Linked g (Without n s) l m → g.class n i ≡ g.class n j

-- n is in s and splits it, and no node of s before n does
pub record IsFirstSplitting (g : Graph) (Before : g.Node → g.Node → Type 0) (n : g.Node) (s : g.Node → Bool) : Type 0 where
  pub here : IsIn n s
  pub splits : SplitsAt g n s
  pub first : (m : g.Node) → IsIn m s → Before m n → SplitsAt g m s → ⊥

-- c is the component of one of the nodes that have P
abbrev pub IsComponent : (g : Graph) (P : g.Node → Type 0) → (g.Node → Bool) → Type 0
IsComponent g P c = (m : g.Node) × P m × ((k : g.Node) → IsIn k c ↔ Linked g P m k)

-- s has no node, or some node splits it and without the first such node each component splits
pub data Splits (g : Graph) (Before : g.Node → g.Node → Type 0) : (g.Node → Bool) → Type 0 where
  none : (s : g.Node → Bool) → ((n : g.Node) → s n ≡ false) → Splits g Before s
  first : (s : g.Node → Bool) (n : g.Node) → IsFirstSplitting g Before n s → ((c : g.Node → Bool) → IsComponent g (Without n s) c → Splits g Before c) → Splits g Before s

-- it has nodes, and none of them splits it
abbrev pub IsStuck : (g : Graph) → (g.Node → Bool) → Type 0
IsStuck g s = ((n : g.Node) × IsIn n s) × ((n : g.Node) → IsIn n s → SplitsAt g n s → ⊥)
