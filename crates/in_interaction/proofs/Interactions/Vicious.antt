-- A vicious circle is a crossing one, since the principal port is a class by itself.
use Rattle.std.proofs.Common.{◌≢◌, ℕ, zero, suc, List, [], ◌∷◌, refl, sym, ap, ◌∙◌}
use Rattle.std.specs.List.{AllByRecursion}
use Rattle.in_base.specs.Graphs.{Passage, entered, left, LeadsThrough, IsCrossing, IsFromPrincipal, CrossingCircle, ViciousCircle}
use Rattle.in_net.specs.Graphs.{class_of_symbol, graph_of}
use Rattle.in_net.specs.Nets.{Port, Signature, AreClasses, Net, IsPoint, IsNet}
use Rattle.in_net.proofs.Public.{symbol_of}

module _ {A : Type 0} (sig : Signature) (classed : AreClasses sig) (n : Net A) (net : IsNet sig n) where
  auxiliary : (s i : ℕ) → i ≢ 0 → sig.class_of s i ≢ sig.class_of s 0
  auxiliary s zero h = absurd (h refl)
  auxiliary s (suc i) h = classed s i

  crosses : (p : Passage A) → IsPoint sig n (Port p.node p.enter) → IsFromPrincipal p → IsCrossing (graph_of sig n) p
  crosses p point h same =
      let s = symbol_of sig (n.symbol p.node) p.enter point in
      auxiliary s.0 p.enter h.1 (ap (λ o. class_of_symbol sig o p.enter) (sym s.1) ∙ same ∙ ap (λ o. class_of_symbol sig o p.leave) s.1 ∙ ap (λ i. sig.class_of s.0 i) h.0)

  -- the end of a wire is a point
  far_end : (u v : A × ℕ) → (graph_of sig n).Wire u v → IsPoint sig n (Port v.0 v.1)
  far_end u v w = net.points (Port v.0 v.1) (Port u.0 u.1) (net.back (Port u.0 u.1) (Port v.0 v.1) w)

  last_end : (u v : A × ℕ) (ps : List (Passage A)) → LeadsThrough (graph_of sig n) u ps v → IsPoint sig n (Port v.0 v.1)
  last_end u v [] w = far_end u v w
  last_end u v (p ∷ ps) w = last_end (left p) v ps w.1

  all_cross : (u v : A × ℕ) (ps : List (Passage A)) → LeadsThrough (graph_of sig n) u ps v → AllByRecursion IsFromPrincipal ps → AllByRecursion (IsCrossing (graph_of sig n)) ps
  all_cross u v [] w h = tt
  all_cross u v (p ∷ ps) w h = (crosses p (far_end u (entered p) w.0) h.0, all_cross (left p) v ps w.1 h.1)

  pub crossing_circle : ViciousCircle (graph_of sig n) → CrossingCircle (graph_of sig n)
  crossing_circle c = record {
    first = c.first;
    rest = c.rest;
    closed = c.closed;
    crossing = (crosses c.first (last_end (left c.first) (entered c.first) c.rest c.closed) c.principal.0, all_cross (left c.first) (entered c.first) c.rest c.closed c.principal.1);
    apart = c.apart;
  }
