-- The direction of the wires of an open net. Lafont 1990: a wire joins an output to an input. That classes of outputs and the circles in
-- this direction decide whether a net is derivable is this project's own.
use Rattle.std.specs.Prelude.{◌≡◌, ◌≢◌, ◌⊎◌, ℕ, Bool, true, false, List, ◌∷◌}
use Rattle.std.specs.List.{AllByRecursion}
use Rattle.in_base.specs.Graphs.{Graph, Passage, entered, left, LeadsThrough, IsCrossing, AreApart}
use Rattle.in_open_nets.specs.declared.open_nets.OpenPoint.TheVariants.{Port}
use Rattle.in_open_nets.specs.Constructions.{IsIn}
use Rattle.in_open_nets.specs.OpenNets.{OpenNet, IsAgent, IsOpenPoint, IsWire, class_in, open_graph}

-- which ports are outputs, by node and place; the others are inputs
abbrev pub Outputs : Type 0
Outputs = ℕ → ℕ → Bool

-- a wire between two ports joins an output to an input
abbrev pub AreSigned : OpenNet → Outputs → Type 0
AreSigned o out = (w n i m j : ℕ) → IsWire o w (Port n i) (Port m j) → out n i ≢ out m j

-- all outputs of a node are of one class
abbrev pub HaveOutputsTogether : OpenNet → Outputs → Type 0
HaveOutputsTogether o out = (n i j : ℕ) → IsOpenPoint o (Port n i) → IsOpenPoint o (Port n j) → out n i ≡ true → out n j ≡ true → class_in o n i ≡ class_in o n j

-- .. of each node of a sub-net
abbrev pub HaveOutputsTogetherIn : OpenNet → Outputs → (ℕ → Bool) → Type 0
HaveOutputsTogetherIn o out t = (n i j : ℕ) → IsIn n t → IsOpenPoint o (Port n i) → IsOpenPoint o (Port n j) → out n i ≡ true → out n j ≡ true → class_in o n i ≡ class_in o n j

-- no input of a node is of the class of one of its outputs
abbrev pub AreByThemselves : OpenNet → Outputs → Type 0
AreByThemselves o out = (n i j : ℕ) → IsOpenPoint o (Port n i) → IsOpenPoint o (Port n j) → out n i ≡ false → out n j ≡ true → class_in o n i ≢ class_in o n j

-- entered by an input, and left by an output
abbrev pub IsAlong : {V : Type 0} → (V → ℕ → Bool) → Passage V → Type 0
IsAlong out p = (out p.node p.enter ≡ false) × (out p.node p.leave ≡ true)

-- one or more different nodes in a cycle, each entered by an input and left by an output: each needs the value that it gives
pub record DirectedCircle (g : Graph) (out : g.Node → ℕ → Bool) : Type 0 where
  pub first : Passage g.Node
  pub rest : List (Passage g.Node)
  pub closed : LeadsThrough g (left first) rest (entered first)
  pub along : AllByRecursion (IsAlong out) (first ∷ rest)
  pub apart : AreApart (first ∷ rest)

-- .. each by ports of different classes
abbrev pub Crosses : (g : Graph) (out : g.Node → ℕ → Bool) → DirectedCircle g out → Type 0
Crosses g out c = AllByRecursion (IsCrossing g) (c.first ∷ c.rest)

-- ---- circles that no braces remove

-- an agent, entered or left by its principal port, and by another one
abbrev pub IsByPrincipal : OpenNet → Passage ℕ → Type 0
IsByPrincipal o p = IsAgent o p.node × (((p.enter ≡ 0) × (p.leave ≢ 0)) ⊎ ((p.leave ≡ 0) × (p.enter ≢ 0)))

-- one or more different agents in a cycle, each entered or left by its principal port: Lafont 1990 has those that are left by it
pub record PrincipalCircle (o : OpenNet) : Type 0 where
  pub first : Passage ℕ
  pub rest : List (Passage ℕ)
  pub closed : LeadsThrough (open_graph o) (left first) rest (entered first)
  pub by_principal : AllByRecursion (IsByPrincipal o) (first ∷ rest)
  pub apart : AreApart (first ∷ rest)
