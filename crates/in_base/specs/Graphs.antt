-- Nodes with ports in classes, and the circles among them. Lafont 1990: a vicious circle is a circular list of agents in which each
-- one's principal port is wired to an auxiliary port of the next, so that each waits for the next one and none ever interacts. The
-- crossing circle, which classes exclude, is this project's own choice.
use Rattle.std.specs.Prelude.{◌≡◌, ◌≢◌, ℕ, List, [], ◌∷◌}
use Rattle.std.specs.List.{AllByRecursion}
use Rattle.in_base.specs.Lists.{Pairwise}

-- nodes whose ports are numbered places, a class for each place, and wires between ports
pub record Graph : Type 1 where
  pub Node : Type 0
  pub class : Node → ℕ → ℕ
  pub Wire : Node × ℕ → Node × ℕ → Type 0

-- a node with a port by which it is entered and one by which it is left
pub record Passage (V : Type 0) : Type 0 where
  pub node : V
  pub enter : ℕ
  pub leave : ℕ

-- the two ports of a passage
module _ {V : Type 0} (p : Passage V) where
  abbrev pub entered : V × ℕ
  entered = (p.node, p.enter)

  abbrev pub left : V × ℕ
  left = (p.node, p.leave)

-- a wire, or wires through these nodes in turn, lead from one port to the other
abbrev pub LeadsThrough : (g : Graph) → g.Node × ℕ → List (Passage g.Node) → g.Node × ℕ → Type 0
LeadsThrough g from [] to = g.Wire from to
LeadsThrough g from (p ∷ ps) to = g.Wire from (entered p) × LeadsThrough g (left p) ps to

-- a passage changes class within its node
abbrev pub IsCrossing : (g : Graph) → Passage g.Node → Type 0
IsCrossing g p = g.class p.node p.enter ≢ g.class p.node p.leave

-- no two passages are at one node
abbrev pub AreApart : {V : Type 0} → List (Passage V) → Type 0
AreApart = Pairwise (λ p q. p.node ≢ q.node)

-- one or more different nodes in a cycle, each entered and left by ports of different classes
pub record CrossingCircle (g : Graph) : Type 0 where
  pub first : Passage g.Node
  pub rest : List (Passage g.Node)
  pub closed : LeadsThrough g (left first) rest (entered first)
  pub crossing : AllByRecursion (IsCrossing g) (first ∷ rest)
  pub apart : AreApart (first ∷ rest)

-- left by the principal port, and entered by an auxiliary one
abbrev pub IsFromPrincipal : {V : Type 0} → Passage V → Type 0
IsFromPrincipal p = (p.leave ≡ 0) × (p.enter ≢ 0)

-- one or more different nodes in a cycle, each left by its principal port, which is wired to an auxiliary port of the next
pub record ViciousCircle (g : Graph) : Type 0 where
  pub first : Passage g.Node
  pub rest : List (Passage g.Node)
  pub closed : LeadsThrough g (left first) rest (entered first)
  pub principal : AllByRecursion IsFromPrincipal (first ∷ rest)
  pub apart : AreApart (first ∷ rest)
