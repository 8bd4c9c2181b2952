-- Directed circles and circles through principal ports cross.
use Rattle.std.proofs.Common.{ℕ, List, [], ◌∷◌, sym, inl, inr, ◌∙◌}
use Rattle.std.specs.List.{AllByRecursion}
use Rattle.in_base.specs.Graphs.{Passage, entered, left, LeadsThrough, IsCrossing, CrossingCircle}
use Rattle.in_open_nets.specs.declared.open_nets.OpenPoint.TheVariants.{Port}
use Rattle.in_open_nets.specs.OpenNets.{OpenNet, IsOpenNet, IsOpenPoint, open_graph}
use Rattle.in_open_nets.proofs.Public.{wire_turn}
use Rattle.in_usual_braces.specs.Directions.{Outputs, AreByThemselves, IsAlong, DirectedCircle, Crosses, IsByPrincipal, PrincipalCircle}

-- ---- directed circles cross

module _ (o : OpenNet) (net : IsOpenNet o) where
  pub begins : (from to : ℕ × ℕ) (ps : List (Passage ℕ)) → LeadsThrough (open_graph o) from ps to → IsOpenPoint o (Port from.0 from.1)
  begins from to [] w = net.points w.0 (Port from.0 from.1) (Port to.0 to.1) w.1
  begins from to (p ∷ ps) w = net.points w.0.0 (Port from.0 from.1) (Port p.node p.enter) w.0.1

  pub ends : (from to : ℕ × ℕ) (ps : List (Passage ℕ)) → LeadsThrough (open_graph o) from ps to → IsOpenPoint o (Port to.0 to.1)
  ends from to [] w = net.points w.0 (Port to.0 to.1) (Port from.0 from.1) (wire_turn o w.0 (Port from.0 from.1) (Port to.0 to.1) w.1)
  ends from to (p ∷ ps) w = ends (left p) to ps w.1

module _ (o : OpenNet) (out : Outputs) (net : IsOpenNet o) (alone : AreByThemselves o out) where
  walk_crosses : (from to : ℕ × ℕ) (ps : List (Passage ℕ)) → LeadsThrough (open_graph o) from ps to → AllByRecursion (IsAlong out) ps → AllByRecursion (IsCrossing (open_graph o)) ps
  walk_crosses from to [] w h = tt
  walk_crosses from to (p ∷ ps) w h = (
    alone p.node p.enter p.leave (ends o net from (entered p) [] w.0) (begins o net (left p) to ps w.1) h.0.0 h.0.1,
    walk_crosses (left p) to ps w.1 h.1,
  )

  pub circle_crosses : (c : DirectedCircle (open_graph o) out) → Crosses (open_graph o) out c
  circle_crosses c = (
    alone c.first.node c.first.enter c.first.leave (ends o net (left c.first) (entered c.first) c.rest c.closed) (begins o net (left c.first) (entered c.first) c.rest c.closed) c.along.0.0 c.along.0.1,
    walk_crosses (left c.first) (entered c.first) c.rest c.closed c.along.1,
  )

-- ---- circles through principal ports

module _ (o : OpenNet) (net : IsOpenNet o) where
  crosses : (p : Passage ℕ) → IsOpenPoint o (Port p.node p.enter) → IsOpenPoint o (Port p.node p.leave) → IsByPrincipal o p → IsCrossing (open_graph o) p
  crosses p e l (agent, inl h) same = h.1 ((net.principal p.node p.leave agent l).0 (sym same ∙ (net.principal p.node p.enter agent e).1 h.0))
  crosses p e l (agent, inr h) same = h.1 ((net.principal p.node p.enter agent e).0 (same ∙ (net.principal p.node p.leave agent l).1 h.0))

  walk_by_principal : (from to : ℕ × ℕ) (ps : List (Passage ℕ)) → LeadsThrough (open_graph o) from ps to → AllByRecursion (IsByPrincipal o) ps → AllByRecursion (IsCrossing (open_graph o)) ps
  walk_by_principal from to [] w h = tt
  walk_by_principal from to (p ∷ ps) w h = (crosses p (ends o net from (entered p) [] w.0) (begins o net (left p) to ps w.1) h.0, walk_by_principal (left p) to ps w.1 h.1)

  pub principal_circle : PrincipalCircle o → CrossingCircle (open_graph o)
  principal_circle c =
      record {
        first = c.first;
        rest = c.rest;
        closed = c.closed;
        crossing = (
          crosses c.first (ends o net (left c.first) (entered c.first) c.rest c.closed) (begins o net (left c.first) (entered c.first) c.rest c.closed) c.by_principal.0,
          walk_by_principal (left c.first) (entered c.first) c.rest c.closed c.by_principal.1,
        );
        apart = c.apart;
      }
