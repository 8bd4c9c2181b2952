-- A crossing circle after an interaction, laid out wire by wire.
use Rattle.std.proofs.Common.{◌≡◌, ◌⊎◌, Some, ℕ, List, [], ◌∷◌, map, refl, sym, subst, ap, inl, inr, ◌∙◌}
use Rattle.in_base.specs.Graphs.{Graph, Passage, entered, left, AreApart, CrossingCircle}
use Rattle.in_net.specs.Graphs.{class_of_symbol, graph_of}
use Rattle.in_net.specs.Nets.{Port, Free, Signature, AreClasses, Net, IsPoint, IsNet}
use Rattle.in_net.specs.Interactions.{Side, Outer, Inner}
use Rattle.in_interaction.proofs.Interactions.Places.{Place, Old, New, Boundary, Loose, Path, IsJoined}
use Rattle.in_net.specs.Interactions.{Redex, IsRedex}
use Rattle.in_interaction.proofs.Interactions.Places.{wires, HasSymbol, IsAfter, IsByPlaces}
use Rattle.in_interaction.proofs.Interactions.Compress.{Sides}
use Rattle.in_net.proofs.Public.{symbol_of, port_agent, port_place}
use Rattle.in_interaction.proofs.Interactions.Paths.{joined_back}
use Rattle.in_base.proofs.Circuits.{Walk, AreSeparate, Circuit, IsEntered, IsLeft, circuit_of, crossings_separate}
use Rattle.std.specs.List.{AllByRecursion}
use Rattle.in_interaction.proofs.Interactions.Tours.{Stop, At_old, At_new, Through, enters, leaves, Tour, IsCrossingStop, Passes, LaidOut, agents_of}
use Rattle.in_interaction.specs.Pieces.{AreDifferent, renamed}
use Rattle.in_interaction.proofs.Interactions.EndsApart.{ends_apart}
use Rattle.in_interaction.proofs.Interactions.Cycles.{apart_unnamed}
use Rattle.in_interaction.proofs.Interactions.Stops.{AtPlace}
use Rattle.in_interaction.proofs.Interactions.Expand.{place, after, at_place, closed_tour, tour_agents, tour_bounds}
use Rattle.in_interaction.proofs.Interactions.AtNets.{are_wires, sides}

-- the classes of the agents that stay and of the new ones
abbrev classes : {A B C : Type 0} → Sides A B C → A ⊎ B → ℕ → ℕ
classes s n i = elim n [ inl x ↦ s.class x i | inr y ↦ s.new_class y i ]

module _ {A B C : Type 0} (sig : Signature) (classed : AreClasses sig) (n : Net A) (x : Redex A B) (net : IsNet sig n) (inside : IsNet sig x.member) (redex : IsRedex sig n x) (name : A ⊎ B → C) (result : Net C) (done : IsByPlaces sig n x name result) where
  -- an agent with a wire is there
  old_there : (y : A) (i : ℕ) (q : Place A B) → wires sig n x Outer (Old y i) q → (s : ℕ) × HasSymbol n x (inl y) s
  old_there y i q w =
      let h : IsPoint sig n (Port y i) = subst (IsPoint sig n) w.2.2 (net.points w.0 w.1 w.4) in
      let s = symbol_of sig (n.symbol y) i h in
      (s.0, (w.2.0, w.2.1, s.1))

  new_there : (y : B) (i : ℕ) (q : Place A B) → wires sig n x Inner (New y i) q → (s : ℕ) × HasSymbol n x (inr y) s
  new_there y i q w =
      let h : IsPoint sig x.member (Port y i) = subst (IsPoint sig x.member) w.2 (inside.points w.0 w.1 w.4) in
      symbol_of sig (x.member.symbol y) i h

  first_wire : (s : Side) (p : Place A B) (es : List ℕ) (q : Place A B) → Path (wires sig n x) s p es q → (r : Place A B) × wires sig n x s p r
  first_wire s p [] q w = (q, w)
  first_wire s p (e ∷ es) q w = (Boundary e, w.0)

  -- the agent whose port is at a place that is joined to another one
  named : (p q : Place A B) (c : C) (i : ℕ) → IsAfter name p (Port c i) → IsJoined (wires sig n x) p q → (m : A ⊎ B) × ((s : ℕ) × HasSymbol n x m s) × (name m ≡ c) × (p ≡ place (m, i))
  named (Old y k) q c i h j =
      let w = first_wire Outer (Old y k) j.2.0 q j.2.1 in
      (inl y, old_there y k w.0 w.1, sym (port_agent c (name (inl y)) i k h), ap (λ k. Old y k) (sym (port_place c (name (inl y)) i k h)))
  named (New y k) q c i h j =
      let w = first_wire Inner (New y k) j.2.0 q j.2.1 in
      (inr y, new_there y k w.0 w.1, sym (port_agent c (name (inr y)) i k h), ap (λ k. New y k) (sym (port_place c (name (inr y)) i k h)))
  named (Boundary e) q c i h j = absurd h
  named (Loose k) q c i h j = let e : Port c i ≡ Free k = h in cc

  one_agent : (l m : A ⊎ B) → ((s : ℕ) × HasSymbol n x l s) → ((s : ℕ) × HasSymbol n x m s) → name l ≡ name m → l ≡ m
  one_agent l m h k e = done.apart l m h.0 k.0 h.1 k.1 e

  module _ (E L : C × ℕ → Type 0) where
    abbrev E_in : (A ⊎ B) × ℕ → Type 0
    E_in v = ((s : ℕ) × HasSymbol n x v.0 s) × E (name v.0, v.1)

    abbrev L_in : (A ⊎ B) × ℕ → Type 0
    L_in v = ((s : ℕ) × HasSymbol n x v.0 s) × L (name v.0, v.1)

    -- a wire from an agent's port
    pull_wire : (m : A ⊎ B) (j : ℕ) (c : C) (i : ℕ) → ((s : ℕ) × HasSymbol n x m s) → result.partner (Port (name m) j) ≡ Some (Port c i) → (l : A ⊎ B) × ((s : ℕ) × HasSymbol n x l s) × (name l ≡ c) × IsJoined (wires sig n x) (place (m, j)) (place (l, i))
    pull_wire m j c i there w =
        let r = done.wired (Port (name m) j) (Port c i) w in
        let a = named r.0 r.1 (name m) j r.2 r.4 in
        let b = named r.1 r.0 c i r.3 (joined_back (wires sig n x) (are_wires sig n x net inside redex) r.0 r.1 r.4) in
        let same : a.0 ≡ m = one_agent a.0 m a.1 there a.2 in
        let at : r.0 ≡ place (m, j) = a.3 ∙ ap (λ l. place (l, j)) same in
        (b.0, b.1, b.2, subst (λ p. IsJoined (wires sig n x) p (place (b.0, i))) at (subst (λ q. IsJoined (wires sig n x) r.0 q) b.3 r.4))

    abbrev Result : Graph
    Result = after (wires sig n x) (classes (sides sig n x))

    pull : (m : A ⊎ B) (j : ℕ) (ps : List (Passage C)) (c : C) (i : ℕ) → ((s : ℕ) × HasSymbol n x m s) → Walk (graph_of sig result) E L (name m, j) ps (c, i) → (l : A ⊎ B) × (qs : List (Passage (A ⊎ B))) × ((s : ℕ) × HasSymbol n x l s) × (name l ≡ c) × Walk Result E_in L_in (m, j) qs (l, i) × (map (renamed name) qs ≡ ps)
    pull m j [] c i there w =
        let r = pull_wire m j c i there w in
        (r.0, [], r.1, r.2, r.3, refl)
    pull m j (p ∷ ps) c i there w =
        let r = pull_wire m j p.node p.enter there w.0 in
        let k = pull r.0 p.leave ps c i r.1 (subst (λ v. Walk (graph_of sig result) E L (v, p.leave) ps (c, i)) (sym r.2) w.3) in (
          k.0,
          record { node = r.0; enter = p.enter; leave = p.leave } ∷ k.1,
          k.2,
          k.3,
          (r.3, (r.1, subst (λ v. E (v, p.enter)) (sym r.2) w.1), (r.1, subst (λ v. L (v, p.leave)) (sym r.2) w.2), k.4),
          ap (λ v. record { node = v; enter = p.enter; leave = p.leave } ∷ map (renamed name) k.1) r.2 ∙ ap (λ qs. p ∷ qs) k.5,
        )

    -- the agents keep their classes
    same_class : (m : A ⊎ B) (i : ℕ) → ((s : ℕ) × HasSymbol n x m s) → class_of_symbol sig (result.symbol (name m)) i ≡ classes (sides sig n x) m i
    same_class (inl y) i h = ap (λ o. class_of_symbol sig o i) (done.kept (inl y) h.0 h.1 ∙ sym h.1.2)
    same_class (inr y) i h = ap (λ o. class_of_symbol sig o i) (done.kept (inr y) h.0 h.1 ∙ sym h.1)

    separate_in : AreSeparate (graph_of sig result) E L → AreSeparate Result E_in L_in
    separate_in h m i j e l = λ same. h (name m) i j e.1 l.1 (same_class m i e.0 ∙ same ∙ sym (same_class m j l.0))

    -- the agent of the first wire
    start : (from to : C × ℕ) (ps : List (Passage C)) → Walk (graph_of sig result) E L from ps to → (m : A ⊎ B) × ((s : ℕ) × HasSymbol n x m s) × (name m ≡ from.0)
    start from to [] w =
        let r = done.wired (Port from.0 from.1) (Port to.0 to.1) w in
        let a = named r.0 r.1 from.0 from.1 r.2 r.4 in
        (a.0, a.1, a.2)
    start from to (p ∷ ps) w =
        let r = done.wired (Port from.0 from.1) (Port p.node p.enter) w.0 in
        let a = named r.0 r.1 from.0 from.1 r.2 r.4 in
        (a.0, a.1, a.2)

    pull_circuit : (c : Circuit (graph_of sig result) E L) → (d : Circuit Result E_in L_in) × (map (renamed name) (d.first ∷ d.rest) ≡ c.first ∷ c.rest)
    pull_circuit c =
        let m = start (left c.first) (entered c.first) c.rest c.closed in
        let k = pull m.0 c.first.leave c.rest c.first.node c.first.enter m.1 (subst (λ v. Walk (graph_of sig result) E L (v, c.first.leave) c.rest (entered c.first)) (sym m.2) c.closed) in
        let same : k.0 ≡ m.0 = one_agent k.0 m.0 k.2 m.1 (k.3 ∙ sym m.2) in (
          record {
            first = record { node = m.0; enter = c.first.enter; leave = c.first.leave };
            rest = k.1;
            enters = (m.1, subst (λ v. E (v, c.first.enter)) (sym m.2) c.enters);
            leaves = (m.1, subst (λ v. L (v, c.first.leave)) (sym m.2) c.leaves);
            closed = subst (λ l. Walk Result E_in L_in (m.0, c.first.leave) k.1 (l, c.first.enter)) same k.4;
          },
          ap (λ v. record { node = v; enter = c.first.enter; leave = c.first.leave } ∷ map (renamed name) k.1) m.2 ∙ ap (λ qs. c.first ∷ qs) k.5,
        )

  module _ (E L : C × ℕ → Type 0) (separate : AreSeparate (graph_of sig result) E L) where
    abbrev En : Side → Place A B → Type 0
    En = AtPlace (at_place (E_in E L))

    abbrev Le : Side → Place A B → Type 0
    Le = AtPlace (at_place (L_in E L))

    crossing_stop : (q : Stop A B) → En (enters q).0 (enters q).1 → Le (leaves q).0 (leaves q).1 → IsCrossingStop sig n x q
    crossing_stop (At_old y i j) e l = separate_in E L separate (inl y) i j e l
    crossing_stop (At_new y i j) e l = separate_in E L separate (inr y) i j e l
    crossing_stop (Through s e) a b = tt

    plain : (u v : Side × Place A B) (ss : List (Stop A B)) → Tour (wires sig n x) En Le u ss v → Passes sig n x u ss v × AllByRecursion (IsCrossingStop sig n x) ss
    plain u v [] w = (w, tt)
    plain u v (q ∷ ss) w = let r = plain (leaves q) v ss w.3 in ((w.0, tt, tt, r.0), (crossing_stop q w.1 w.2, r.1))

    laid : (c : Circuit (graph_of sig result) E L) → AreApart (c.first ∷ c.rest) → (l : LaidOut sig n x) × (map (renamed name) (agents_of (l.first ∷ l.rest)) ≡ c.first ∷ c.rest)
    laid c apart =
        let d = pull_circuit E L c in
        let wired = are_wires sig n x net inside redex in
        let kinds = classes (sides sig n x) in
        let t = closed_tour (wires sig n x) wired kinds (E_in E L) (L_in E L) d.0 in
        let r = plain (leaves t.first) (enters t.first) t.rest t.closed in
        let agents = tour_agents (wires sig n x) wired kinds (E_in E L) (L_in E L) d.0 in
        let once = apart_unnamed name (d.0.first ∷ d.0.rest) (subst AreApart (sym d.1) apart) in
        let ends = ends_apart (wires sig n x) wired kinds (E_in E L) (L_in E L) (separate_in E L separate) d.0 once in (
          record {
            first = t.first;
            rest = t.rest;
            closed = r.0;
            crossing = (crossing_stop t.first t.enter t.leave, r.1);
            agents = subst AreApart (sym agents) once;
            boundary = subst AreDifferent (sym (tour_bounds (wires sig n x) wired kinds (E_in E L) (L_in E L) d.0)) ends;
          },
          ap (map (renamed name)) agents ∙ d.1,
        )

  -- a crossing circle after an interaction, laid out wire by wire
  pub laid_out : (r : CrossingCircle (graph_of sig result)) → (l : LaidOut sig n x) × (map (renamed name) (agents_of (l.first ∷ l.rest)) ≡ r.first ∷ r.rest)
  laid_out r =
      laid (IsEntered (r.first ∷ r.rest)) (IsLeft (r.first ∷ r.rest)) (crossings_separate (graph_of sig result) (r.first ∷ r.rest) r.crossing r.apart) (circuit_of (graph_of sig result) r) r.apart
