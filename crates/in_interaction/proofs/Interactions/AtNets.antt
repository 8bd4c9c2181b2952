-- The two sides of an interaction, at nets.
use Rattle.std.proofs.Common.{◌≡◌, ◌≢◌, ◌-◌, Bool, true, false, cond, Some, ℕ, suc, refl, sym, subst, ap, inl, inr, ◌∙◌}
use Rattle.std.proofs.lemmas.Option.{same_Some}
use Rattle.in_net.specs.Nets.{Point, Port, Free, Signature, AreClasses, Net, IsNet}
use Rattle.in_net.specs.Graphs.{class_of_symbol}
use Rattle.in_net.specs.Interactions.{Side, Outer, Inner}
use Rattle.in_interaction.proofs.Interactions.Places.{Place, Old, New, Boundary, Loose, Stays, side_of}
use Rattle.in_net.specs.Interactions.{Redex, IsRedex, of_first, end_agent, end_symbol, end_place, class_node, open_port}
use Rattle.in_interaction.proofs.Interactions.Places.{IsBefore, IsInside, wires}
use Rattle.in_interaction.proofs.Interactions.Paths.{AreWires}
use Rattle.in_net.proofs.Public.{port_agent, port_place, cond_cases, cond_same, end_same, end_has}
use Rattle.in_interaction.proofs.Interactions.Compress.{Sides, AreSides, outer_port, inner_port, IsOn}

-- the net before and the open right member, as the two sides
abbrev pub sides : {A B : Type 0} → Signature → Net A → Redex A B → Sides A B (Bool × ℕ)
sides {A} {B} sig n x = record {
  class = λ y i. class_of_symbol sig (n.symbol y) i;
  Joins = λ u v. n.partner (Port u.0 u.1) ≡ Some (Port v.0 v.1);
  one = x.one;
  two = x.two;
  port = λ e. (end_agent sig x e, end_place sig x e);
  new_class = λ y i. class_of_symbol sig (x.member.symbol y) i;
  group = class_node sig x;
  Open = λ u v. (p q : Point B) × (open_port sig x p ≡ u) × (open_port sig x q ≡ v) × (x.member.partner p ≡ Some q);
}

module _ {A B : Type 0} (sig : Signature) (n : Net A) (x : Redex A B) (net : IsNet sig n) (inside : IsNet sig x.member) (redex : IsRedex sig n x) where
  -- one point of the net before is at a place, and at one place alone
  before_one : (p : Place A B) (u v : Point A) → IsBefore sig x p u → IsBefore sig x p v → u ≡ v
  before_one (Old y i) u v h k = h.2 ∙ sym k.2
  before_one (New y i) u v h k = absurd h
  before_one (Boundary e) u v h k = h ∙ sym k
  before_one (Loose j) u v h k = h ∙ sym k

  not_end : (y : A) (e : ℕ) → y ≢ x.one → y ≢ x.two → y ≡ end_agent sig x e → ⊥
  not_end y e one two h = elim (cond_cases (of_first sig x e) x.one x.two) [ inl k ↦ one (h ∙ k) | inr k ↦ two (h ∙ k) ]

  before_same : (p q : Place A B) (u : Point A) → IsBefore sig x p u → IsBefore sig x q u → p ≡ q
  before_same (Old y i) (Old z j) u h k = let e : Port y i ≡ Port z j = sym h.2 ∙ k.2 in cc
  before_same (Old y i) (Boundary e) u h k = absurd (not_end y e h.0 h.1 (port_agent y (end_agent sig x e) i (end_place sig x e) (sym h.2 ∙ k)))
  before_same (Old y i) (Loose j) u h k = let e : Port y i ≡ Free j = sym h.2 ∙ k in cc
  before_same (Boundary e) (Old y i) u h k = absurd (not_end y e k.0 k.1 (port_agent y (end_agent sig x e) i (end_place sig x e) (sym k.2 ∙ h)))
  before_same (Boundary e) (Boundary f) u h k =
      let w = sym h ∙ k in
      ap (λ t. Boundary t) (end_same sig n x net inside redex e f (port_agent (end_agent sig x e) (end_agent sig x f) (end_place sig x e) (end_place sig x f) w) (port_place (end_agent sig x e) (end_agent sig x f) (end_place sig x e) (end_place sig x f) w))
  before_same (Boundary e) (Loose j) u h k = let w : Port (end_agent sig x e) (end_place sig x e) ≡ Free j = sym h ∙ k in cc
  before_same (Loose j) (Old y i) u h k = let e : Port y i ≡ Free j = sym k.2 ∙ h in cc
  before_same (Loose j) (Boundary e) u h k = let w : Port (end_agent sig x e) (end_place sig x e) ≡ Free j = sym k ∙ h in cc
  before_same (Loose j) (Loose l) u h k = let w : ◌≡◌ {A = Point A} (Free j) (Free l) = sym h ∙ k in cc
  before_same (New y i) q u h k = absurd h
  before_same p (New y i) u h k = absurd k

  inside_one : (p : Place A B) (u v : Point B) → IsInside p u → IsInside p v → u ≡ v
  inside_one (Old y i) u v h k = absurd h
  inside_one (New y i) u v h k = h ∙ sym k
  inside_one (Boundary e) u v h k = h ∙ sym k
  inside_one (Loose j) u v h k = absurd h

  inside_same : (p q : Place A B) (u : Point B) → IsInside p u → IsInside q u → p ≡ q
  inside_same (New y i) (New z j) u h k = let e : Port y i ≡ Port z j = sym h ∙ k in cc
  inside_same (New y i) (Boundary e) u h k = let e : Port y i ≡ Free e = sym h ∙ k in cc
  inside_same (Boundary e) (New y i) u h k = let e : Port y i ≡ Free e = sym k ∙ h in cc
  inside_same (Boundary e) (Boundary f) u h k = let w : ◌≡◌ {A = Point B} (Free e) (Free f) = sym h ∙ k in cc
  inside_same (Old y i) q u h k = absurd h
  inside_same (Loose j) q u h k = absurd h
  inside_same p (Old y i) u h k = absurd k
  inside_same p (Loose j) u h k = absurd k

  one_wire : (s : Side) (p q r : Place A B) → wires sig n x s p q → wires sig n x s p r → q ≡ r
  one_wire Outer p q r w v =
      let same = before_one p w.0 v.0 w.2 v.2 in
      let far : w.1 ≡ v.1 = same_Some w.1 v.1 (sym w.4 ∙ ap n.partner same ∙ v.4) in
      before_same q r v.1 (subst (IsBefore sig x q) far w.3) v.3
  one_wire Inner p q r w v =
      let same = inside_one p w.0 v.0 w.2 v.2 in
      let far : w.1 ≡ v.1 = same_Some w.1 v.1 (sym w.4 ∙ ap x.member.partner same ∙ v.4) in
      inside_same q r v.1 (subst (IsInside q) far w.3) v.3

  wire_back : (s : Side) (p q : Place A B) → wires sig n x s p q → wires sig n x s q p
  wire_back Outer p q w = (w.1, w.0, w.3, w.2, net.back w.0 w.1 w.4)
  wire_back Inner p q w = (w.1, w.0, w.3, w.2, inside.back w.0 w.1 w.4)

  wire_side : (s : Side) (p q : Place A B) → Stays q → wires sig n x s p q → s ≡ side_of q
  wire_side Outer p (Old y i) h w = refl
  wire_side Outer p (New y i) h w = absurd w.3
  wire_side Outer p (Boundary e) h w = refl
  wire_side Outer p (Loose k) h w = refl
  wire_side Inner p (Old y i) h w = absurd w.3
  wire_side Inner p (New y i) h w = refl
  wire_side Inner p (Boundary e) h w = absurd h
  wire_side Inner p (Loose k) h w = absurd w.3

  pub are_wires : AreWires (wires sig n x)
  are_wires = record { one = one_wire; back = wire_back; side = wire_side }

  at_outer : (p : Place A B) (u : Point A) → IsOn p → IsBefore sig x p u → u ≡ Port (outer_port (sides sig n x) p).0 (outer_port (sides sig n x) p).1
  at_outer (Old y i) u on h = h.2
  at_outer (New y i) u on h = absurd h
  at_outer (Boundary e) u on h = h
  at_outer (Loose k) u on h = absurd on

  at_inner : (p : Place A B) (u : Point B) → IsInside p u → open_port sig x u ≡ inner_port (sides sig n x) p
  at_inner (Old y i) u h = absurd h
  at_inner (New y i) u h = ap (open_port sig x) h
  at_inner (Boundary e) u h = ap (open_port sig x) h
  at_inner (Loose k) u h = absurd h

  end_class : (e i : ℕ) → class_of_symbol sig (n.symbol (end_agent sig x e)) i ≡ sig.class_of (end_symbol sig x e) i
  end_class e i = ap (λ s. class_of_symbol sig s i) (end_has sig n x net inside redex e)

  end_principal : AreClasses sig → (e : ℕ) → sig.class_of (end_symbol sig x e) (end_place sig x e) ≢ sig.class_of (end_symbol sig x e) 0
  end_principal classes e = go (of_first sig x e)
    where
      go : (b : Bool) → sig.class_of (end_symbol sig x e) (cond b (suc e) (suc (e - sig.arity x.first))) ≢ sig.class_of (end_symbol sig x e) 0
      go true = classes (end_symbol sig x e) e
      go false = classes (end_symbol sig x e) (e - sig.arity x.first)

  pub are_sides : AreClasses sig → AreSides (sides sig n x) (wires sig n x)
  are_sides classes = record {
    outer = λ p q on_p on_q w. sym (ap n.partner (at_outer p w.0 on_p w.2)) ∙ w.4 ∙ ap (λ v. Some v) (at_outer q w.1 on_q w.3);
    inner = λ p q w. (w.0, w.1, at_inner p w.0 w.2, at_inner q w.1 w.3, w.4);
    old = λ p y i w. (w.3.0, w.3.1);
    differ = redex.differ;
    pair = redex.active;
    pair_back = net.back (Port x.one 0) (Port x.two 0) redex.active;
    at_pair = λ e. cond_cases (of_first sig x e) x.one x.two;
    principal = λ e h. end_principal classes e (sym (end_class e (end_place sig x e)) ∙ h ∙ end_class e 0);
    grouped = λ e f h k.
        let same : of_first sig x e ≡ of_first sig x f = cond_same (of_first sig x e) (of_first sig x f) x.one x.two redex.differ h in
        let l : sig.class_of (end_symbol sig x e) (end_place sig x e) ≡ sig.class_of (end_symbol sig x f) (end_place sig x f) =
        sym (end_class e (end_place sig x e)) ∙ k ∙ end_class f (end_place sig x f) in
        cc;
  }
