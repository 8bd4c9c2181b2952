-- An outer piece is a passage through one class node.
use Rattle.std.proofs.Common.{◌≡◌, ◌≢◌, ℕ, suc, ◌-◌, Bool, true, false, cond, List, [], ◌∷◌, refl, sym, subst, ap, ◌∙◌, Some}
use Rattle.std.specs.List.{AllByRecursion}
use mathlib.Core.HLevel.{Discrete}
use native.Mathlib.Decide.{ℕ_discrete}
use Rattle.in_base.specs.Graphs.{Graph, Passage, entered, left, LeadsThrough, IsCrossing, AreApart, CrossingCircle}
use Rattle.in_net.specs.Graphs.{class_of_symbol, graph_of}
use Rattle.in_net.specs.Nets.{Point, Port, Signature, AreClasses, Net, IsNet}
use Rattle.in_base.proofs.Circuits.{Walk, IsEntered, IsLeft, each_any, not_entered, not_left, crossings_separate, leads_walk}
use Rattle.in_net.specs.Interactions.{Redex, IsRedex, of_first, class_node}
use Rattle.in_interaction.specs.Pieces.{IsOuterPiece, end_port}
use Rattle.in_interaction.proofs.Interactions.Pieces.{close_one, close_two}
use Rattle.in_base.proofs.Each.{all_map}

-- the last wire of a walk
last_wire : (g : Graph) (P : Passage g.Node → Type 0) (p : Passage g.Node) (qs : List (Passage g.Node)) (to : g.Node × ℕ) → P p → AllByRecursion P qs → LeadsThrough g (left p) qs to → (r : Passage g.Node) × P r × g.Wire (left r) to
last_wire g P p [] to h all w = (p, h, w)
last_wire g P p (q ∷ qs) to h all w = last_wire g P q qs to all.0 all.1 w.1

module _ {A B : Type 0} (sig : Signature) (n : Net A) (x : Redex A B) (classed : AreClasses sig) (net : IsNet sig n) (redex : IsRedex sig n x) (same : Discrete A) (none : CrossingCircle (graph_of sig n) → ⊥) (ps : List (Passage A)) (crossing : AllByRecursion (IsCrossing (graph_of sig n)) ps) (apart : AreApart ps) (stays : AllByRecursion (λ p. (p.node ≢ x.one) × (p.node ≢ x.two)) ps) where
  abbrev g : Graph
  g = graph_of sig n

  E : A × ℕ → Type 0
  E = IsEntered ps

  L : A × ℕ → Type 0
  L = IsLeft ps

  walk : (u v : A × ℕ) → LeadsThrough g u ps v → Walk g (IsEntered ps) (IsLeft ps) u ps v
  walk u v w = leads_walk g (IsEntered ps) (IsLeft ps) u v ps w (each_any (λ p q. entered q ≡ entered p) (λ p. refl) ps) (each_any (λ p q. left q ≡ left p) (λ p. refl) ps)

  not_one : AllByRecursion (λ p. x.one ≢ p.node) ps
  not_one = all_map (λ p. (p.node ≢ x.one) × (p.node ≢ x.two)) (λ p. x.one ≢ p.node) (λ p h e. h.0 (sym e)) ps stays

  not_two : AllByRecursion (λ p. x.two ≢ p.node) ps
  not_two = all_map (λ p. (p.node ≢ x.one) × (p.node ≢ x.two)) (λ p. x.two ≢ p.node) (λ p h e. h.1 (sym e)) ps stays

  class_at : (y : A) (s i : ℕ) → n.symbol y ≡ Some s → g.class y i ≡ sig.class_of s i
  class_at y s i e = ap (λ o. class_of_symbol sig o i) e

  at_one : (i j : ℕ) → LeadsThrough g (x.one, j) ps (x.one, i) → sig.class_of x.first j ≡ sig.class_of x.first i
  at_one i j w = elim (ℕ_discrete (sig.class_of x.first j) (sig.class_of x.first i)) [
    | yes e ↦ e
    | no d ↦ absurd (none (close_one g same (IsEntered ps) (IsLeft ps) (crossings_separate g ps crossing apart) x.one i j
        (λ c. d (sym (class_at x.one x.first j redex.one) ∙ sym c ∙ class_at x.one x.first i redex.one))
        (λ v h e. not_entered x.one v ps not_one h (sym e)) (λ v h e. not_left x.one v ps not_one h (sym e)) ps (walk (x.one, j) (x.one, i) w)))
  ]

  at_two : (i j : ℕ) → LeadsThrough g (x.two, j) ps (x.two, i) → sig.class_of x.second j ≡ sig.class_of x.second i
  at_two i j w = elim (ℕ_discrete (sig.class_of x.second j) (sig.class_of x.second i)) [
    | yes e ↦ e
    | no d ↦ absurd (none (close_one g same (IsEntered ps) (IsLeft ps) (crossings_separate g ps crossing apart) x.two i j
        (λ c. d (sym (class_at x.two x.second j redex.two) ∙ sym c ∙ class_at x.two x.second i redex.two))
        (λ v h e. not_entered x.two v ps not_two h (sym e)) (λ v h e. not_left x.two v ps not_two h (sym e)) ps (walk (x.two, j) (x.two, i) w)))
  ]

  one_two : (i j : ℕ) → LeadsThrough g (x.one, suc j) ps (x.two, suc i) → ⊥
  one_two i j w = none (close_two g same (IsEntered ps) (IsLeft ps) (crossings_separate g ps crossing apart) x.one x.two (suc i) (suc j) redex.differ
      (net.back (Port x.one 0) (Port x.two 0) redex.active)
      (λ c. classed x.second i (sym (class_at x.two x.second (suc i) redex.two) ∙ c ∙ class_at x.two x.second 0 redex.two))
      (λ c. classed x.first j (sym (class_at x.one x.first (suc j) redex.one) ∙ sym c ∙ class_at x.one x.first 0 redex.one))
      (λ v h. ((λ e. not_entered x.one v ps not_one h (sym e)), (λ e. not_entered x.two v ps not_two h (sym e))))
      (λ v h. ((λ e. not_left x.one v ps not_one h (sym e)), (λ e. not_left x.two v ps not_two h (sym e)))) ps (walk (x.one, suc j) (x.two, suc i) w))

  two_one : (i j : ℕ) → LeadsThrough g (x.two, suc j) ps (x.one, suc i) → ⊥
  two_one i j w = none (close_two g same (IsEntered ps) (IsLeft ps) (crossings_separate g ps crossing apart) x.two x.one (suc i) (suc j) (λ e. redex.differ (sym e))
      redex.active
      (λ c. classed x.first i (sym (class_at x.one x.first (suc i) redex.one) ∙ c ∙ class_at x.one x.first 0 redex.one))
      (λ c. classed x.second j (sym (class_at x.two x.second (suc j) redex.two) ∙ sym c ∙ class_at x.two x.second 0 redex.two))
      (λ v h. ((λ e. not_entered x.two v ps not_two h (sym e)), (λ e. not_entered x.one v ps not_one h (sym e))))
      (λ v h. ((λ e. not_left x.two v ps not_two h (sym e)), (λ e. not_left x.one v ps not_one h (sym e)))) ps (walk (x.two, suc j) (x.one, suc i) w))

  one_node : (e f : ℕ) → LeadsThrough g (end_port sig x e) ps (end_port sig x f) → class_node sig x e ≡ class_node sig x f
  one_node e f w = go (of_first sig x e) (of_first sig x f) w
    where
      place : Bool → ℕ → ℕ
      place b e = cond b (suc e) (suc (e - sig.arity x.first))

      go : (b c : Bool) → LeadsThrough g (cond b x.one x.two, cond b (suc e) (suc (e - sig.arity x.first))) ps (cond c x.one x.two, cond c (suc f) (suc (f - sig.arity x.first))) →
          ◌≡◌ {A = Bool × ℕ} (b, sig.class_of (cond b x.first x.second) (cond b (suc e) (suc (e - sig.arity x.first)))) (c, sig.class_of (cond c x.first x.second) (cond c (suc f) (suc (f - sig.arity x.first))))
      go true true w = ap (λ (z : ℕ). (true, z)) (at_one (suc f) (suc e) w)
      go true false w = absurd (one_two (f - sig.arity x.first) e w)
      go false true w = absurd (two_one f (e - sig.arity x.first) w)
      go false false w = ap (λ (z : ℕ). (false, z)) (at_two (suc (f - sig.arity x.first)) (suc (e - sig.arity x.first)) w)

  -- a walk doesn't come back by the port by which it left
  other_port : (u v : A × ℕ) → u ≡ v → LeadsThrough g u ps v → ⊥
  other_port u v e w = go ps crossing apart (subst (λ z. LeadsThrough g u ps z) (sym e) w)
    where
      pair : (a b : A) (i j : ℕ) → ◌≡◌ {A = Point A} (Port a i) (Port b j) → ◌≡◌ {A = A × ℕ} (a, i) (b, j)
      pair a b i j h = let k : a ≡ b = cc in let l : i ≡ j = cc in ap (λ (z : A). (z, i)) k ∙ ap (λ (z : ℕ). (b, z)) l

      one : (p q : Point A) → n.partner (Port u.0 u.1) ≡ Some p → n.partner (Port u.0 u.1) ≡ Some q → p ≡ q
      one p q h k = cc

      go : (ps : List (Passage A)) → AllByRecursion (IsCrossing g) ps → AreApart ps → LeadsThrough g u ps u → ⊥
      go [] c a w = net.apart (Port u.0 u.1) w
      go (p ∷ qs) c a w =
          let r = last_wire g (λ r. p.node ≡ r.node → left r ≡ left p) p qs u (λ h. refl) (all_map (λ q. p.node ≢ q.node) (λ r. p.node ≡ r.node → left r ≡ left p) (λ q d h. absurd (d h)) qs a.0) w.1 in
          let back : n.partner (Port u.0 u.1) ≡ Some (Port r.0.node r.0.leave) = net.back (Port r.0.node r.0.leave) (Port u.0 u.1) r.2 in
          let here : entered p ≡ left r.0 = pair p.node r.0.node p.enter r.0.leave (one (Port p.node p.enter) (Port r.0.node r.0.leave) w.0 back) in
          let twice : entered p ≡ left p = here ∙ r.1 (ap (λ z. z.0) here) in
          c.0 (ap (λ z. g.class z.0 z.1) twice)

-- both, of an outer piece
pub is_passage : {A B : Type 0} (sig : Signature) (n : Net A) (x : Redex A B) → AreClasses sig → IsNet sig n → IsRedex sig n x → Discrete A → (CrossingCircle (graph_of sig n) → ⊥) → (e f : ℕ) (ps : List (Passage A)) → IsOuterPiece sig n x e f ps → (class_node sig x e ≡ class_node sig x f) × (e ≢ f)
is_passage sig n x classed net redex same none e f ps p = (
  one_node sig n x classed net redex same none ps p.crossing p.apart p.stays e f p.leads,
  λ h. other_port sig n x classed net redex same none ps p.crossing p.apart p.stays (end_port sig x e) (end_port sig x f) (ap (end_port sig x) h) p.leads,
)
