-- If wires lead from outputs to inputs, and all outputs of a node are of one class, a crossing circle is a directed one.
use Rattle.std.proofs.Common.{◌≡◌, ℕ, Bool, true, false, List, [], ◌∷◌, refl, sym, inl, inr, ◌∙◌}
use Rattle.std.proofs.lemmas.Bool.{false_from_ne_true, true_from_ne_false}
use Rattle.std.specs.List.{AllByRecursion}
use Rattle.in_base.specs.Graphs.{Passage, entered, left, LeadsThrough, IsCrossing, CrossingCircle}
use Rattle.in_open_nets.specs.Constructions.{IsIn}
use Rattle.in_open_nets.specs.Laws.{SplitsOrFirstStuck, SplitsWhereDerivable}
use Rattle.in_open_nets.specs.Stuck.{IsFirstStuck}
use Rattle.in_open_nets.specs.OpenNets.{OpenNet, IsOpenNet, IsDerivable, open_graph}
use Rattle.in_open_nets.proofs.Public.{Decided, derivable_no_circle}
use Rattle.in_crossing_circles.specs.Laws.{HasCircleIn}
use Rattle.in_crossing_circles.proofs.Public.{all_back, circle_back, stuck_circle, turn}
use Rattle.in_usual_braces.specs.Directions.{Outputs, AreSigned, HaveOutputsTogether, HaveOutputsTogetherIn, IsAlong, DirectedCircle, Crosses}
use Rattle.in_usual_braces.proofs.Circles.{begins, ends}

is_output : (b : Bool) → Decided (b ≡ true)
is_output true = inl refl
is_output false = inr (λ h. cc)

module _ (o : OpenNet) (out : Outputs) (net : IsOpenNet o) (signed : AreSigned o out) where
  -- the other end of an input's wire is an output, and that of an output's an input
  to_output : (u v : ℕ × ℕ) → (open_graph o).Wire u v → out u.0 u.1 ≡ false → out v.0 v.1 ≡ true
  to_output u v w e = true_from_ne_false (out v.0 v.1) (λ k. signed w.0 u.0 u.1 v.0 v.1 w.1 (e ∙ sym k))

  to_input : (u v : ℕ × ℕ) → (open_graph o).Wire u v → out u.0 u.1 ≡ true → out v.0 v.1 ≡ false
  to_input u v w e = false_from_ne_true (out v.0 v.1) (λ k. signed w.0 u.0 u.1 v.0 v.1 w.1 (e ∙ sym k))

  module _ (t : ℕ → Bool) (together : HaveOutputsTogetherIn o out t) where
    -- of the two ports of a passage, one is an input
    left_by_input : (from to : ℕ × ℕ) (p : Passage ℕ) (ps : List (Passage ℕ)) → LeadsThrough (open_graph o) from (p ∷ ps) to → IsIn p.node t → IsCrossing (open_graph o) p → out p.node p.enter ≡ true → out p.node p.leave ≡ false
    left_by_input from to p ps w here crossing e =
        false_from_ne_true (out p.node p.leave) (λ k. crossing (together p.node p.enter p.leave here (ends o net from (entered p) [] w.0) (begins o net (left p) to ps w.1) e k))

    -- from an input, each node is entered by an output and left by an input
    against : (from to : ℕ × ℕ) (ps : List (Passage ℕ)) → LeadsThrough (open_graph o) from ps to → AllByRecursion (λ p. IsIn p.node t) ps → AllByRecursion (IsCrossing (open_graph o)) ps → out from.0 from.1 ≡ false → AllByRecursion (λ p. IsAlong out (turn p)) ps × (out to.0 to.1 ≡ true)
    against from to [] w here crossing e = (tt, to_output from to w e)
    against from to (p ∷ ps) w here crossing e =
        let a = to_output from (entered p) w.0 e in
        let b = left_by_input from to p ps w here.0 crossing.0 a in
        let r = against (left p) to ps w.1 here.1 crossing.1 b in
        (((b, a), r.0), r.1)

    -- .. and from an output to an input, by an input and by an output
    onward : (from to : ℕ × ℕ) (ps : List (Passage ℕ)) → LeadsThrough (open_graph o) from ps to → AllByRecursion (λ p. IsIn p.node t) ps → AllByRecursion (IsCrossing (open_graph o)) ps → out from.0 from.1 ≡ true → out to.0 to.1 ≡ false → AllByRecursion (IsAlong out) ps
    onward from to [] w here crossing e f = tt
    onward from to (p ∷ ps) w here crossing e f =
        let b = true_from_ne_false (out p.node p.leave) (λ k. let r = against (left p) to ps w.1 here.1 crossing.1 k in let g : true ≡ false = sym r.1 ∙ f in cc) in
        ((to_input from (entered p) w.0 e, b), onward (left p) to ps w.1 here.1 crossing.1 b f)

    abbrev HasDirectedCircleIn : Type 0
    HasDirectedCircleIn = (c : DirectedCircle (open_graph o) out) × Crosses (open_graph o) out c × AllByRecursion (λ p. IsIn p.node t) (c.first ∷ c.rest)

    directed : HasCircleIn o t → HasDirectedCircleIn
    directed h = go h.0 h.1
      where
        go : (c : CrossingCircle (open_graph o)) → AllByRecursion (λ p. IsIn p.node t) (c.first ∷ c.rest) → HasDirectedCircleIn
        go c here = elim (is_output (out c.first.node c.first.leave)) [
          | inl l ↦
              let e = false_from_ne_true (out c.first.node c.first.enter) (λ k. c.crossing.0 (together c.first.node c.first.enter c.first.leave here.0
              (ends o net (left c.first) (entered c.first) c.rest c.closed) (begins o net (left c.first) (entered c.first) c.rest c.closed) k l)) in (
                record { first = c.first; rest = c.rest; closed = c.closed; along = ((e, l), onward (left c.first) (entered c.first) c.rest c.closed here.1 c.crossing.1 l e); apart = c.apart },
                c.crossing,
                here,
              )
          | inr d ↦
              let l = false_from_ne_true (out c.first.node c.first.leave) d in
              let r = against (left c.first) (entered c.first) c.rest c.closed here.1 c.crossing.1 l in
              let b = circle_back o c in (
                record { first = b.first; rest = b.rest; closed = b.closed; along = ((l, r.1), all_back (IsAlong out) c.rest r.0); apart = b.apart },
                b.crossing,
                (here.0, all_back (λ p. IsIn p.node t) c.rest here.1),
              )
        ]

    pub stuck_directed : IsFirstStuck o t → HasDirectedCircleIn
    stuck_directed first = directed (stuck_circle o net t first)

  pub directed_derivable : SplitsOrFirstStuck → SplitsWhereDerivable → HaveOutputsTogether o out → ((c : DirectedCircle (open_graph o) out) → Crosses (open_graph o) out c → ⊥) → IsDerivable o
  directed_derivable either splits together none = elim (either o net) [
    | inl h ↦ (splits o net).0 h.0
    | inr h ↦ let r = stuck_directed h.1.0 (λ n i j here. together n i j) h.1.1 in absurd (none r.0 r.1)
  ]

  -- a directed circle that crosses is a crossing circle
  pub crossing_none : IsDerivable o → (c : DirectedCircle (open_graph o) out) → Crosses (open_graph o) out c → ⊥
  crossing_none d c h = derivable_no_circle o net d (record { first = c.first; rest = c.rest; closed = c.closed; crossing = h; apart = c.apart })
