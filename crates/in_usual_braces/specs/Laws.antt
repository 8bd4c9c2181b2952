-- The laws of usual braces, over the definitions alone.
use Rattle.std.specs.Prelude.{◌↔◌, ℕ, Bool, ◌∷◌}
use Rattle.std.specs.List.{AllByRecursion}
use Rattle.in_open_nets.specs.Constructions.{IsIn}
use Rattle.in_open_nets.specs.OpenNets.{OpenNet, IsOpenNet, IsDerivable, open_graph}
use Rattle.in_open_nets.specs.Stuck.{IsFirstStuck}
use Rattle.in_usual_braces.specs.Directions.{Outputs, AreSigned, HaveOutputsTogether, HaveOutputsTogetherIn, AreByThemselves, DirectedCircle, Crosses, PrincipalCircle}

-- if all outputs of a node are of one class, a net is derivable exactly when no directed circle crosses
abbrev pub CrossingDirectedCirclesDecide : Type 0
CrossingDirectedCirclesDecide = (o : OpenNet) (out : Outputs) → IsOpenNet o → AreSigned o out → HaveOutputsTogether o out → IsDerivable o ↔ ((c : DirectedCircle (open_graph o) out) → Crosses (open_graph o) out c → ⊥)

-- if no input of a node is of the class of an output, each directed circle crosses
abbrev pub DirectedCirclesCross : Type 0
DirectedCirclesCross = (o : OpenNet) (out : Outputs) → IsOpenNet o → AreByThemselves o out → (c : DirectedCircle (open_graph o) out) → Crosses (open_graph o) out c

-- so with both, a net is derivable exactly when it has no directed circle
abbrev pub UsualBracesDecide : Type 0
UsualBracesDecide = (o : OpenNet) (out : Outputs) → IsOpenNet o → AreSigned o out → HaveOutputsTogether o out → AreByThemselves o out → IsDerivable o ↔ (DirectedCircle (open_graph o) out → ⊥)

-- a circle that goes through the principal port of each of its agents excludes a derivation, for any classes of auxiliary ports
abbrev pub NoBracesMend : Type 0
NoBracesMend = (o : OpenNet) → IsOpenNet o → PrincipalCircle o → IsDerivable o → ⊥

-- if all outputs of each node of the first stuck sub-net are of one class, a directed circle in it crosses
abbrev pub StuckPartsHaveCircles : Type 0
StuckPartsHaveCircles = (o : OpenNet) (out : Outputs) → IsOpenNet o → AreSigned o out → (t : ℕ → Bool) → IsFirstStuck o t → HaveOutputsTogetherIn o out t →
    (c : DirectedCircle (open_graph o) out) × Crosses (open_graph o) out c × AllByRecursion (λ p. IsIn p.node t) (c.first ∷ c.rest)
