-- A closed walk of the net after an interaction, wire by wire.
use Rattle.std.proofs.Common.{◌≡◌, ◌⊎◌, ℕ, List, [], ◌∷◌, ◌++◌, refl, sym, subst, inl, inr, ◌∙◌, ap}
use Rattle.in_base.specs.Graphs.{Graph, Passage, entered, left}
use Rattle.in_net.specs.Interactions.{Side, other}
use Rattle.in_interaction.proofs.Interactions.Places.{Place, Old, New, Boundary, Loose, Path, Stays, side_of, IsJoined}
use Rattle.in_interaction.proofs.Interactions.Paths.{AreWires}
use Rattle.in_base.proofs.Circuits.{Walk, Circuit}
use Rattle.in_interaction.proofs.Interactions.Tours.{Stop, At_old, At_new, Through, enters, leaves, Tour, agents_of, boundary_of}
use Rattle.in_interaction.proofs.Interactions.Stops.{AtPlace, tour_join, boundary_join, ClosedTour}

-- the port's place
abbrev pub place : {A B : Type 0} → (A ⊎ B) × ℕ → Place A B
place v = elim v.0 [ inl x ↦ Old x v.1 | inr y ↦ New y v.1 ]

-- a property of a port, for its place
abbrev pub at_place : {A B : Type 0} → ((A ⊎ B) × ℕ → Type 0) → Place A B → Type 0
at_place P (Old x i) = P (inl x, i)
at_place P (New y i) = P (inr y, i)
at_place P (Boundary e) = ⊥
at_place P (Loose k) = ⊥

abbrev pub stop_of : {A B : Type 0} → Passage (A ⊎ B) → Stop A B
stop_of p = elim p.node [ inl x ↦ At_old x p.enter p.leave | inr y ↦ At_new y p.enter p.leave ]

-- the agents after the interaction, and the wires between them
abbrev pub after : {A B : Type 0} → (Side → Place A B → Place A B → Type 0) → (A ⊎ B → ℕ → ℕ) → Graph
after {A} {B} wire class = record { Node = A ⊎ B; class = class; Wire = λ u v. IsJoined wire (place u) (place v) }

module _ {A B : Type 0} (wire : Side → Place A B → Place A B → Type 0) (wires : AreWires wire) (class : A ⊎ B → ℕ → ℕ) (E L : (A ⊎ B) × ℕ → Type 0) where
  abbrev spot : (A ⊎ B) × ℕ → Side × Place A B
  spot v = (side_of (place v), place v)

  abbrev pub throughs : Side → List ℕ → List (Stop A B)
  throughs s [] = []
  throughs s (e ∷ es) = Through s e ∷ throughs (other s) es

  onward : (s : Side) (p : Place A B) (es : List ℕ) (q : Place A B) → Stays q → Path wire s p es q → Tour wire (AtPlace (at_place E)) (AtPlace (at_place L)) (s, p) (throughs s es) (side_of q, q)
  onward s p [] q hq w = (wires.side s p q hq w, w)
  onward s p (e ∷ es) q hq w = ((refl, w.0), tt, tt, onward (other s) (Boundary e) es q hq w.1)

  -- a wire of the net after is a walk through boundary ends
  wire_tour : (u v : (A ⊎ B) × ℕ) → IsJoined wire (place u) (place v) → (ss : List (Stop A B)) × Tour wire (AtPlace (at_place E)) (AtPlace (at_place L)) (spot u) ss (spot v)
  wire_tour u v j = (throughs (side_of (place u)) j.2.0, onward (side_of (place u)) (place u) j.2.0 (place v) j.1 j.2.1)

  -- the stop of a passage
  enters_stop : (n : A ⊎ B) (i j : ℕ) → enters (stop_of (record { node = n; enter = i; leave = j })) ≡ spot (n, i)
  enters_stop (inl x) i j = refl
  enters_stop (inr y) i j = refl

  leaves_stop : (n : A ⊎ B) (i j : ℕ) → leaves (stop_of (record { node = n; enter = i; leave = j })) ≡ spot (n, j)
  leaves_stop (inl x) i j = refl
  leaves_stop (inr y) i j = refl

  entered_stop : (p : Passage (A ⊎ B)) → E (entered p) → AtPlace (at_place E) (enters (stop_of p)).0 (enters (stop_of p)).1
  entered_stop p e = go p.node e
    where
      go : (n : A ⊎ B) → E (n, p.enter) → AtPlace (at_place E) (enters (stop_of (record { node = n; enter = p.enter; leave = p.leave }))).0 (enters (stop_of (record { node = n; enter = p.enter; leave = p.leave }))).1
      go (inl x) e = e
      go (inr y) e = e

  left_stop : (p : Passage (A ⊎ B)) → L (left p) → AtPlace (at_place L) (leaves (stop_of p)).0 (leaves (stop_of p)).1
  left_stop p l = go p.node l
    where
      go : (n : A ⊎ B) → L (n, p.leave) → AtPlace (at_place L) (leaves (stop_of (record { node = n; enter = p.enter; leave = p.leave }))).0 (leaves (stop_of (record { node = n; enter = p.enter; leave = p.leave }))).1
      go (inl x) l = l
      go (inr y) l = l

  walk_tour : (u v : (A ⊎ B) × ℕ) (ps : List (Passage (A ⊎ B))) → L u → E v → Walk (after wire class) E L u ps v → (ss : List (Stop A B)) × Tour wire (AtPlace (at_place E)) (AtPlace (at_place L)) (spot u) ss (spot v)
  walk_tour u v [] l e w = wire_tour u v w
  walk_tour u v (p ∷ ps) l e w =
      let first = wire_tour u (entered p) w.0 in
      let rest = walk_tour (left p) v ps w.2 e w.3 in (
        first.0 ++ stop_of p ∷ rest.0,
        tour_join wire (AtPlace (at_place E)) (AtPlace (at_place L)) (spot u) (spot v) first.0 (stop_of p) rest.0
            (subst (λ t. Tour wire (AtPlace (at_place E)) (AtPlace (at_place L)) (spot u) first.0 t) (sym (enters_stop p.node p.enter p.leave)) first.1)
            (entered_stop p w.1) (left_stop p w.2)
            (subst (λ t. Tour wire (AtPlace (at_place E)) (AtPlace (at_place L)) t rest.0 (spot v)) (sym (leaves_stop p.node p.enter p.leave)) rest.1),
      )

  -- a closed walk of the net after, with the ends that it passes
  pub closed_tour : Circuit (after wire class) E L → ClosedTour wire (AtPlace (at_place E)) (AtPlace (at_place L))
  closed_tour c =
      let t = walk_tour (left c.first) (entered c.first) c.rest c.leaves c.enters c.closed in
      record {
        first = stop_of c.first;
        rest = t.0;
        enter = entered_stop c.first c.enters;
        leave = left_stop c.first c.leaves;
        closed = subst (λ u. Tour wire (AtPlace (at_place E)) (AtPlace (at_place L)) u t.0 (enters (stop_of c.first))) (sym (leaves_stop c.first.node c.first.enter c.first.leave))
            (subst (λ v. Tour wire (AtPlace (at_place E)) (AtPlace (at_place L)) (spot (left c.first)) t.0 v) (sym (enters_stop c.first.node c.first.enter c.first.leave)) t.1);
      }

  -- ---- the agents on the way are those of the walk

  no_agents : (s : Side) (es : List ℕ) → agents_of (throughs s es) ≡ []
  no_agents s [] = refl
  no_agents s (e ∷ es) = no_agents (other s) es

  past : (s : Side) (es : List ℕ) (ss : List (Stop A B)) → agents_of (throughs s es ++ ss) ≡ agents_of ss
  past s [] ss = refl
  past s (e ∷ es) ss = past (other s) es ss

  agent_first : (n : A ⊎ B) (i j : ℕ) (ss : List (Stop A B)) → agents_of (stop_of (record { node = n; enter = i; leave = j }) ∷ ss) ≡ record { node = n; enter = i; leave = j } ∷ agents_of ss
  agent_first (inl x) i j ss = refl
  agent_first (inr y) i j ss = refl

  walk_agents : (u v : (A ⊎ B) × ℕ) (ps : List (Passage (A ⊎ B))) (l : L u) (e : E v) (w : Walk (after wire class) E L u ps v) → agents_of (walk_tour u v ps l e w).0 ≡ ps
  unfolding walk_tour wire_tour
  walk_agents u v [] l e w = no_agents (side_of (place u)) w.2.0
  walk_agents u v (p ∷ ps) l e w =
      past (side_of (place u)) w.0.2.0 (stop_of p ∷ (walk_tour (left p) v ps w.2 e w.3).0)
      ∙ agent_first p.node p.enter p.leave (walk_tour (left p) v ps w.2 e w.3).0
      ∙ ap (λ qs. p ∷ qs) (walk_agents (left p) v ps w.2 e w.3)

  pub tour_agents : (c : Circuit (after wire class) E L) → agents_of ((closed_tour c).first ∷ (closed_tour c).rest) ≡ c.first ∷ c.rest
  unfolding closed_tour
  tour_agents c =
      agent_first c.first.node c.first.enter c.first.leave (walk_tour (left c.first) (entered c.first) c.rest c.leaves c.enters c.closed).0
      ∙ ap (λ qs. c.first ∷ qs) (walk_agents (left c.first) (entered c.first) c.rest c.leaves c.enters c.closed)

  -- ---- and so are the boundary ends

  abbrev pub bounds : (u v : (A ⊎ B) × ℕ) (ps : List (Passage (A ⊎ B))) → Walk (after wire class) E L u ps v → List ℕ
  bounds u v [] w = w.2.0
  bounds u v (p ∷ ps) w = w.0.2.0 ++ bounds (left p) v ps w.3

  ends_on : (s : Side) (es : List ℕ) → boundary_of (throughs s es) ≡ es
  ends_on s [] = refl
  ends_on s (e ∷ es) = ap (λ fs. e ∷ fs) (ends_on (other s) es)

  no_end : (n : A ⊎ B) (i j : ℕ) (ss : List (Stop A B)) → boundary_of (stop_of (record { node = n; enter = i; leave = j }) ∷ ss) ≡ boundary_of ss
  no_end (inl x) i j ss = refl
  no_end (inr y) i j ss = refl

  walk_bounds : (u v : (A ⊎ B) × ℕ) (ps : List (Passage (A ⊎ B))) (l : L u) (e : E v) (w : Walk (after wire class) E L u ps v) → boundary_of (walk_tour u v ps l e w).0 ≡ bounds u v ps w
  unfolding walk_tour wire_tour
  walk_bounds u v [] l e w = ends_on (side_of (place u)) w.2.0
  walk_bounds u v (p ∷ ps) l e w =
      boundary_join (throughs (side_of (place u)) w.0.2.0) (stop_of p ∷ (walk_tour (left p) v ps w.2 e w.3).0)
      ∙ ap (λ fs. fs ++ boundary_of (stop_of p ∷ (walk_tour (left p) v ps w.2 e w.3).0)) (ends_on (side_of (place u)) w.0.2.0)
      ∙ ap (λ fs. w.0.2.0 ++ fs) (no_end p.node p.enter p.leave (walk_tour (left p) v ps w.2 e w.3).0 ∙ walk_bounds (left p) v ps w.2 e w.3)

  pub tour_bounds : (c : Circuit (after wire class) E L) → boundary_of ((closed_tour c).first ∷ (closed_tour c).rest) ≡ bounds (left c.first) (entered c.first) c.rest c.closed
  unfolding closed_tour
  tour_bounds c =
      no_end c.first.node c.first.enter c.first.leave (walk_tour (left c.first) (entered c.first) c.rest c.leaves c.enters c.closed).0
      ∙ walk_bounds (left c.first) (entered c.first) c.rest c.leaves c.enters c.closed
