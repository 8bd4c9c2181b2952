-- A closed walk of the open right member shortens to a crossing circle.
use Rattle.std.proofs.Common.{◌≡◌, ◌≢◌, ◌⊎◌, ℕ, Bool, List, [], ◌∷◌, refl, sym, subst, ap, inl, inr, ◌∙◌}
use Rattle.std.specs.List.{AllByRecursion}
use mathlib.Core.HLevel.{Discrete}
use mathlib.Core.Sum as Sum
use Rattle.in_base.specs.Graphs.{Passage, entered, left, IsCrossing, CrossingCircle}
use Rattle.in_net.specs.Nets.{Signature}
use Rattle.in_base.proofs.Circuits.{AreSeparate, IsEntered, IsLeft, each_any, leads_walk, shorten}
use Rattle.in_net.specs.Interactions.{Redex, open_member}
use Rattle.in_interaction.specs.Pieces.{ports_of, AreDifferent, AtOtherAgent, AgentsOnce, ClosedWalk}
use Rattle.in_interaction.proofs.Interactions.Names.{class_discrete}

module _ {A B : Type 0} (sig : Signature) (x : Redex A B) where
  abbrev Node : Type 0
  Node = B ⊎ (Bool × ℕ)

  -- no passage enters or leaves by a port that no passage has
  other_entered : (u v : Node × ℕ) (ps : List (Passage Node)) → AllByRecursion (λ w. u ≢ w) (ports_of ps) → IsEntered ps v → u ≢ v
  other_entered u v [] h e same = absurd e
  other_entered u v (p ∷ ps) h (inl e) same = h.0 (same ∙ sym e)
  other_entered u v (p ∷ ps) h (inr e) same = other_entered u v ps h.1.1 e same

  other_left : (u v : Node × ℕ) (ps : List (Passage Node)) → AllByRecursion (λ w. u ≢ w) (ports_of ps) → IsLeft ps v → u ≢ v
  other_left u v [] h e same = absurd e
  other_left u v (p ∷ ps) h (inl e) same = h.1.0 (same ∙ sym e)
  other_left u v (p ∷ ps) h (inr e) same = other_left u v ps h.1.1 e same

  at_agent : (n : Node) (q : Passage Node) (i j : ℕ) (y : B) → n ≡ inl y → AtOtherAgent (record { node = n; enter = i; leave = j }) q → n ≡ q.node → ⊥
  at_agent (inl z) q i j y is h e = h e
  at_agent (inr c) q i j y is h e = cc

  no_entered : (p : Passage Node) (y : B) (v : Node × ℕ) (ps : List (Passage Node)) → p.node ≡ inl y → AllByRecursion (AtOtherAgent p) ps → IsEntered ps v → p.node ≢ v.0
  no_entered p y v [] is h e same = absurd e
  no_entered p y v (q ∷ ps) is h (inl e) same = at_agent p.node q p.enter p.leave y is h.0 (same ∙ sym (ap (λ z. z.0) e))
  no_entered p y v (q ∷ ps) is h (inr e) same = no_entered p y v ps is h.1 e same

  no_left : (p : Passage Node) (y : B) (v : Node × ℕ) (ps : List (Passage Node)) → p.node ≡ inl y → AllByRecursion (AtOtherAgent p) ps → IsLeft ps v → p.node ≢ v.0
  no_left p y v [] is h e same = absurd e
  no_left p y v (q ∷ ps) is h (inl e) same = at_agent p.node q p.enter p.leave y is h.0 (same ∙ sym (ap (λ z. z.0) e))
  no_left p y v (q ∷ ps) is h (inr e) same = no_left p y v ps is h.1 e same

  -- at a class node two ports of one class are equal
  one_port : (c : Bool × ℕ) (n : Node) (i j : ℕ) → n ≡ inr c → (open_member sig x).class n i ≡ (open_member sig x).class n j → i ≡ j
  one_port c n i j is e = subst (λ (z : Node). (open_member sig x).class z i ≡ (open_member sig x).class z j) is e

  kind : (n : Node) → ((y : B) × (n ≡ inl y)) ⊎ ((c : Bool × ℕ) × (n ≡ inr c))
  kind (inl y) = inl (y, refl)
  kind (inr c) = inr (c, refl)

  separate : (ps : List (Passage Node)) → AllByRecursion (IsCrossing (open_member sig x)) ps → AreDifferent (ports_of ps) → AgentsOnce ps → AreSeparate (open_member sig x) (IsEntered ps) (IsLeft ps)
  separate [] h d a n i j e l = absurd e
  separate (p ∷ ps) h d a n i j (inl e) (inl l) = λ same. h.0 (ap (λ v. (open_member sig x).class v.0 v.1) e ∙ same ∙ sym (ap (λ v. (open_member sig x).class v.0 v.1) l))
  separate (p ∷ ps) h d a n i j (inl e) (inr l) = λ same. elim (kind p.node) [
    | inl y ↦ no_left p y.0 (n, j) ps y.1 a.0 l (ap (λ z. z.0) e)
    | inr c ↦ other_left (entered p) (n, j) ps d.0.1 l (e ∙ ap (λ (z : ℕ). (n, z)) (one_port c.0 n i j (sym (ap (λ z. z.0) e) ∙ c.1) same))
  ]
  separate (p ∷ ps) h d a n i j (inr e) (inl l) = λ same. elim (kind p.node) [
    | inl y ↦ no_entered p y.0 (n, i) ps y.1 a.0 e (ap (λ z. z.0) l)
    | inr c ↦ other_entered (left p) (n, i) ps d.1.0 e (l ∙ ap (λ (z : ℕ). (n, z)) (sym (one_port c.0 n i j (sym (ap (λ z. z.0) l) ∙ c.1) same)))
  ]
  separate (p ∷ ps) h d a n i j (inr e) (inr l) = separate ps h.1 d.1.1 a.1 n i j e l

  pub shortens : Discrete B → ClosedWalk sig x → CrossingCircle (open_member sig x)
  shortens same c =
      let ps = c.first ∷ c.rest in
      let e = each_any (λ p q. entered q ≡ entered p) (λ p. refl) ps in
      let l = each_any (λ p q. left q ≡ left p) (λ p. refl) ps in
      shorten (open_member sig x) (IsEntered ps) (IsLeft ps) (Sum.discrete same class_discrete) (separate ps c.crossing c.ports c.agents) (record {
        first = c.first;
        rest = c.rest;
        enters = e.0;
        leaves = l.0;
        closed = leads_walk (open_member sig x) (IsEntered ps) (IsLeft ps) (left c.first) (entered c.first) c.rest c.closed e.1 l.1;
      })
