-- The sets of nodes that the constructions build. Lafont 1990: a semi-simple net is built up by EMPTY, LINK, MIX, CUT and GRAFT. The
-- leaf for a class node of an open right member is this project's own.
use Rattle.std.specs.Prelude.{◌≡◌, ◌≢◌, ◌⊎◌, ◌↔◌, ℕ, zero, suc, ◌+◌, ◌<◌, ◌≤◌, cond, Bool, true, false, ◌&&◌, nat_eq}
use Rattle.in_base.specs.Graphs.{Graph}

-- a set of nodes, by a test
abbrev pub Nodes : Graph → Type 0
Nodes g = g.Node → Bool

abbrev pub IsIn : {V : Type 0} → V → (V → Bool) → Type 0
IsIn n s = s n ≡ true

-- how many numbers below b are in s
abbrev pub count : (ℕ → Bool) → ℕ → ℕ
count s zero = 0
count s (suc b) = cond (s b) 1 0 + count s b

-- each node of s is in just one of a and b
abbrev pub AreParts : {V : Type 0} → (s a b : V → Bool) → Type 0
AreParts {V} s a b = (n : V) → (IsIn n s ↔ (IsIn n a ⊎ IsIn n b)) × (IsIn n a → IsIn n b → ⊥)

-- the nodes of s that are numbered c
abbrev pub numbered : {V : Type 0} → (V → Bool) → (V → ℕ) → ℕ → V → Bool
numbered s part c n = s n && nat_eq (part n) c

-- no wire leads from a node of a to one of b
abbrev pub AreUnjoined : (g : Graph) → (a b : Nodes g) → Type 0
AreUnjoined g a b = (u v : g.Node × ℕ) → g.Wire u v → IsIn u.0 a → IsIn v.0 b → ⊥

-- a wire between two ports of n is within one class
abbrev pub OwnWiresAreOfOneClass : (g : Graph) → g.Node → Type 0
OwnWiresAreOfOneClass g n = (i j : ℕ) → g.Wire (n, i) (n, j) → g.class n i ≡ g.class n j

-- the agent n joins the nets of its `classes` classes: every other node of s is numbered by one of them, a wire
-- between two of these is within one class, and one at n leads to the net of its port's class
pub record IsGraft (g : Graph) (n : g.Node) (classes : ℕ) (s : Nodes g) (part : g.Node → ℕ) : Type 0 where
  pub root : IsIn n s
  pub others : (m : g.Node) → IsIn m s → m ≢ n → 0 < part m
  pub most : (m : g.Node) → IsIn m s → m ≢ n → part m ≤ classes
  pub own : OwnWiresAreOfOneClass g n
  pub to : (i j : ℕ) (m : g.Node) → IsIn m s → m ≢ n → g.Wire (n, i) (m, j) → part m ≡ g.class n i
  pub among : (l m : g.Node) (i j : ℕ) → IsIn l s → IsIn m s → l ≢ n → m ≢ n → g.Wire (l, i) (m, j) → part l ≡ part m

-- the sub-net of these nodes, with all wires at them, is built by the constructions, where an agent n has `classes n` classes of auxiliary
-- ports. A wire that leads out of it is an open end
pub data Built (g : Graph) (IsAgent : g.Node → Type 0) (classes : g.Node → ℕ) : (g.Node → Bool) → Type 0 where
  -- EMPTY; and LINK, a wire between two open ends, which has no node. Which wires are LINKs, a derivation says
  empty : (s : g.Node → Bool) → ((n : g.Node) → s n ≡ false) → Built g IsAgent classes s
  -- a class node, no two of whose ports are joined
  given : (n : g.Node) (s : g.Node → Bool) → (IsAgent n → ⊥) → ((m : g.Node) → IsIn m s ↔ (m ≡ n)) → ((i j : ℕ) → g.Wire (n, i) (n, j) → ⊥) → Built g IsAgent classes s
  mix : (s a b : g.Node → Bool) → AreParts s a b → AreUnjoined g a b → Built g IsAgent classes a → Built g IsAgent classes b → Built g IsAgent classes s
  -- p and q are the one wire between a and b
  cut : (s a b : g.Node → Bool) (p q : g.Node × ℕ) → AreParts s a b → g.Wire p q → IsIn p.0 a → IsIn q.0 b → ((u v : g.Node × ℕ) → g.Wire u v → IsIn u.0 a → IsIn v.0 b → (u ≡ p) × (v ≡ q)) → Built g IsAgent classes a → Built g IsAgent classes b → Built g IsAgent classes s
  -- one net for each class of the agent
  graft : (n : g.Node) (s : g.Node → Bool) (part : g.Node → ℕ) → IsAgent n → IsGraft g n (classes n) s part → ((c : ℕ) → 0 < c → c ≤ classes n → Built g IsAgent classes (numbered s part c)) → Built g IsAgent classes s
