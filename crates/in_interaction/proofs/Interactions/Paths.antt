-- Alternating paths are deterministic and symmetric.
use Rattle.std.proofs.Common.{◌≡◌, ℕ, List, [], ◌∷◌, refl, sym, subst}
use Rattle.in_net.specs.Interactions.{Side, Outer, Inner, other}
use Rattle.in_interaction.proofs.Interactions.Places.{Place, Boundary, Path, Stays, side_of, IsJoined}

-- each place has at most one wire on a side, and a wire has no direction
pub record AreWires {A B : Type 0} (wire : Side → Place A B → Place A B → Type 0) : Type 0 where
  pub one : (s : Side) (p q r : Place A B) → wire s p q → wire s p r → q ≡ r
  pub back : (s : Side) (p q : Place A B) → wire s p q → wire s q p
  -- a wire of the other side never ends at a place that stays
  pub side : (s : Side) (p q : Place A B) → Stays q → wire s p q → s ≡ side_of q

pub other_twice : (s : Side) → other (other s) ≡ s
other_twice Outer = refl
other_twice Inner = refl

pub other_side : (s : Side) → other s ≡ s → ⊥
other_side Outer e = cc
other_side Inner e = cc

-- a place that stays is no boundary end
not_boundary : {A B : Type 0} (p : Place A B) (e : ℕ) → Stays p → p ≡ Boundary e → ⊥
not_boundary p e h i = subst Stays i h

-- two boundary ends at one place are equal
pub same_end : {A B : Type 0} (e f : ℕ) → ◌≡◌ {A = Place A B} (Boundary e) (Boundary f) → e ≡ f
same_end e f h = cc

module _ {A B : Type 0} (wire : Side → Place A B → Place A B → Type 0) (wires : AreWires wire) where
  -- from a place and a side one path leads to one place that stays
  pub one_path : (s : Side) (p : Place A B) (es fs : List ℕ) (q r : Place A B) → Stays q → Stays r → Path wire s p es q → Path wire s p fs r → (es ≡ fs) × (q ≡ r)
  one_path s p [] [] q r hq hr u v = (refl, wires.one s p q r u v)
  one_path s p [] (f ∷ fs) q r hq hr u v = absurd (not_boundary q f hq (wires.one s p q (Boundary f) u v.0))
  one_path s p (e ∷ es) [] q r hq hr u v = absurd (not_boundary r e hr (wires.one s p r (Boundary e) v u.0))
  one_path s p (e ∷ es) (f ∷ fs) q r hq hr u v =
      let same : e ≡ f = same_end {A = A} {B = B} e f (wires.one s p (Boundary e) (Boundary f) u.0 v.0) in
      let ih = one_path (other s) (Boundary f) es fs q r hq hr (subst (λ e. Path wire (other s) (Boundary e) es q) same u.1) v.1 in
      (cc, ih.1)

  -- a path onwards from an end and one back from it make one from its far end
  turn : (s : Side) (e : ℕ) (es : List ℕ) (q : Place A B) → Stays q → Path wire s (Boundary e) es q → (acc : List ℕ) (r : Place A B) → Path wire (other s) (Boundary e) acc r → (fs : List ℕ) × Path wire (side_of q) q fs r
  turn s e [] q hq w acc r v =
      let same = wires.side s (Boundary e) q hq w in
      (e ∷ acc, subst (λ t. Path wire t q (e ∷ acc) r) same (wires.back s (Boundary e) q w, v))
  turn s e (f ∷ fs) q hq w acc r v =
      turn (other s) f fs q hq w.1 (e ∷ acc) r
      (subst (λ t. Path wire t (Boundary f) (e ∷ acc) r) (sym (other_twice s)) (wires.back s (Boundary e) (Boundary f) w.0, v))

  -- a path can be gone back
  pub path_back : (s : Side) (p : Place A B) (es : List ℕ) (q : Place A B) → Stays q → Path wire s p es q → (fs : List ℕ) × Path wire (side_of q) q fs p
  path_back s p [] q hq w = ([], subst (λ t. wire t q p) (wires.side s p q hq w) (wires.back s p q w))
  path_back s p (e ∷ es) q hq w =
      turn (other s) e es q hq w.1 [] p
      (subst (λ t. wire t (Boundary e) p) (sym (other_twice s)) (wires.back s p (Boundary e) w.0))

  pub joined_back : (p q : Place A B) → IsJoined wire p q → IsJoined wire q p
  joined_back p q j = (j.1, j.0, path_back (side_of p) p j.2.0 q j.1 j.2.1)

  pub joined_once : (p q r : Place A B) → IsJoined wire p q → IsJoined wire p r → q ≡ r
  joined_once p q r u v = (one_path (side_of p) p u.2.0 v.2.0 q r u.1 v.1 u.2.1 v.2.1).1
