-- The laws of crossing circles in open nets, over the definitions alone.
use Rattle.std.specs.Prelude.{◌↔◌, ◌∷◌}
use Rattle.std.specs.List.{AllByRecursion}
use Rattle.in_base.specs.Graphs.{CrossingCircle}
use Rattle.in_open_nets.specs.Constructions.{IsIn}
use Rattle.in_open_nets.specs.OpenNets.{OpenNet, NodeTest, IsOpenNet, IsDerivable, open_graph}
use Rattle.in_open_nets.specs.Stuck.{IsFirstStuck}

-- a net is derivable exactly when it has no crossing circle
abbrev pub CrossingCirclesDecide : Type 0
CrossingCirclesDecide = (o : OpenNet) → IsOpenNet o → IsDerivable o ↔ (CrossingCircle (open_graph o) → ⊥)

-- a crossing circle of nodes of the set
abbrev pub HasCircleIn : OpenNet → NodeTest → Type 0
HasCircleIn o t = (c : CrossingCircle (open_graph o)) × AllByRecursion (λ p. IsIn p.node t) (c.first ∷ c.rest)

-- the first stuck sub-net has one
abbrev pub StuckPartsHaveCrossingCircles : Type 0
StuckPartsHaveCrossingCircles = (o : OpenNet) → IsOpenNet o → (t : NodeTest) → IsFirstStuck o t → HasCircleIn o t
