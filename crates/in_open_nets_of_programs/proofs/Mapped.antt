-- A crossing circle in one graph is one in another, if ports are mapped to ports, and nodes and classes stay apart.
use Rattle.std.proofs.Common.{◌≡◌, ℕ, List, [], ◌∷◌, map, refl, sym, subst, ap, ◌∙◌}
use mathlib.Core.HLevel.{Discrete}
use Rattle.in_open_nets_of_programs.specs.Maps.{IsMap}
use Rattle.in_base.specs.Graphs.{Graph, Passage, entered, left, CrossingCircle}
use Rattle.in_open_nets.proofs.Public.{passage_to}
use Rattle.in_base.proofs.Circuits.{Walk, AreSeparate, Circuit, IsEntered, IsLeft, crossings_separate, circuit_of, shorten}

module _ (g h : Graph) (f : g.Node × ℕ → h.Node × ℕ) (At : g.Node × ℕ → Type 0) (m : IsMap g h f At) (E L : g.Node × ℕ → Type 0) where
  -- the ports to which those of P are mapped
  abbrev Image : (g.Node × ℕ → Type 0) → h.Node × ℕ → Type 0
  Image P v = (u : g.Node × ℕ) × P u × At u × (f u ≡ v)

  starts : (from to : g.Node × ℕ) (ps : List (Passage g.Node)) → Walk g E L from ps to → At from
  starts from to [] w = (m.ends from to w).0
  starts from to (p ∷ ps) w = (m.ends from (entered p) w.0).0

  same_port : (u v : h.Node × ℕ) → u.0 ≡ v.0 → u.1 ≡ v.1 → u ≡ v
  same_port u v e d = ap (λ (a : h.Node). (a, u.1)) e ∙ ap (λ (b : ℕ). (v.0, b)) d

  left_is : (p : Passage g.Node) → At (entered p) → At (left p) → f (left p) ≡ left (passage_to f p)
  left_is p a b = same_port (f (left p)) (left (passage_to f p)) (m.onto (left p) (entered p) b a refl) refl

  walk : (from to : g.Node × ℕ) (ps : List (Passage g.Node)) → Walk g E L from ps to → Walk h (Image E) (Image L) (f from) (map (passage_to f) ps) (f to)
  walk from to [] w = m.wire from to w
  walk from to (p ∷ ps) w =
      let a = (m.ends from (entered p) w.0).1 in
      let b = starts (left p) to ps w.3 in
      let e = left_is p a b in (
        m.wire from (entered p) w.0,
        (entered p, w.1, a, refl),
        (left p, w.2, b, e),
        subst (λ v. Walk h (Image E) (Image L) v (map (passage_to f) ps) (f to)) e (walk (left p) to ps w.3),
      )

  ends_at : (from to : g.Node × ℕ) (ps : List (Passage g.Node)) → Walk g E L from ps to → At to
  ends_at from to [] w = (m.ends from to w).1
  ends_at from to (p ∷ ps) w = ends_at (left p) to ps w.3

  circuit : Circuit g E L → Circuit h (Image E) (Image L)
  circuit c =
      let a = ends_at (left c.first) (entered c.first) c.rest c.closed in
      let b = starts (left c.first) (entered c.first) c.rest c.closed in
      let e = left_is c.first a b in
      record {
        first = passage_to f c.first;
        rest = map (passage_to f) c.rest;
        enters = (entered c.first, c.enters, a, refl);
        leaves = (left c.first, c.leaves, b, e);
        closed = subst (λ v. Walk h (Image E) (Image L) v (map (passage_to f) c.rest) (f (entered c.first))) e (walk (left c.first) (entered c.first) c.rest c.closed);
      }

  separate : AreSeparate g E L → AreSeparate h (Image E) (Image L)
  separate s n i j e l same =
      let node : e.0.0 ≡ l.0.0 = m.apart e.0 l.0 e.2 l.2 (ap (λ (v : h.Node × ℕ). v.0) (e.3 ∙ refl) ∙ sym (ap (λ (v : h.Node × ℕ). v.0) l.3)) in
      let class : g.class e.0.0 e.0.1 ≡ g.class l.0.0 l.0.1 =
      m.classes e.0 l.0 e.2 l.2 node (ap (λ (v : h.Node × ℕ). h.class v.0 v.1) e.3 ∙ same ∙ sym (ap (λ (v : h.Node × ℕ). h.class v.0 v.1) l.3)) in
      s e.0.0 e.0.1 l.0.1 e.1 (subst (λ (z : g.Node). L (z, l.0.1)) (sym node) l.1) (class ∙ ap (λ z. g.class z l.0.1) (sym node))

pub circle_mapped : (g h : Graph) (f : g.Node × ℕ → h.Node × ℕ) (At : g.Node × ℕ → Type 0) → IsMap g h f At → Discrete h.Node → CrossingCircle g → CrossingCircle h
circle_mapped g h f At m same c =
    let ps = c.first ∷ c.rest in
    let E : g.Node × ℕ → Type 0 = IsEntered ps in
    let L : g.Node × ℕ → Type 0 = IsLeft ps in
    shorten h (Image g h f At m E L E) (Image g h f At m E L L) same (separate g h f At m E L (crossings_separate g ps c.crossing c.apart)) (circuit g h f At m E L (circuit_of g c))
