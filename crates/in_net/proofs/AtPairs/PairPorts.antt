-- Ports of an active pair, and the boundary ends of the right member at them.
use Rattle.std.proofs.Common.{◌≡◌, ◌≢◌, ◌⊎◌, ◌-◌, ◌≤◌, Bool, true, false, cond, ℕ, suc, Option, Some, None, IsSomeAnd, List, [], ◌∷◌, refl, sym, subst, ap, inl, inr, ◌∙◌, arith, ltb-false}
use Rattle.in_net.specs.Nets.{Point, Port, Free, Signature, Net, IsPoint, IsNet}
use Rattle.in_net.specs.Interactions.{Redex, IsRedex, Side, Alternates, stands_for, wire_of, IsOfPair, IsNaming, of_first, end_agent, end_symbol, end_place}

pub port_agent : {A : Type 0} (x y : A) (i j : ℕ) → Port x i ≡ Port y j → x ≡ y
port_agent x y i j h = cc

pub port_place : {A : Type 0} (x y : A) (i j : ℕ) → Port x i ≡ Port y j → i ≡ j
port_place x y i j h = cc

-- places of the first agent and of the second
pub cond_cases : {A : Type 0} (b : Bool) (x y : A) → (cond b x y ≡ x) ⊎ (cond b x y ≡ y)
cond_cases true x y = inl refl
cond_cases false x y = inr refl

pub cond_same : {A : Type 0} (b c : Bool) (x y : A) → x ≢ y → cond b x y ≡ cond c x y → b ≡ c
cond_same true true x y differ h = refl
cond_same true false x y differ h = absurd (differ h)
cond_same false true x y differ h = absurd (differ (sym h))
cond_same false false x y differ h = refl

place_same : (b c : Bool) (e f k : ℕ) → b ≡ c → (b ≡ false → k ≤ e) → (c ≡ false → k ≤ f) → cond b (suc e) (suc (e - k)) ≡ cond c (suc f) (suc (f - k)) → e ≡ f
place_same true true e f k h he hf eq = omega arith
place_same true false e f k h he hf eq = cc
place_same false true e f k h he hf eq = cc
place_same false false e f k h he hf eq =
    let a : k ≤ e = he refl in
    let b : k ≤ f = hf refl in
    omega arith

pub symbol_of : (sig : Signature) (o : Option ℕ) (i : ℕ) → IsSomeAnd o (λ s. i ≤ sig.arity s) → (s : ℕ) × (o ≡ Some s)
symbol_of sig None i h = absurd h
symbol_of sig (Some s) i h = (s, refl)

module _ {A B : Type 0} (sig : Signature) (n : Net A) (x : Redex A B) (net : IsNet sig n) (inside : IsNet sig x.member) (redex : IsRedex sig n x) where
  pub end_same : (e f : ℕ) → end_agent sig x e ≡ end_agent sig x f → end_place sig x e ≡ end_place sig x f → e ≡ f
  end_same e f h k =
      place_same (of_first sig x e) (of_first sig x f) e f (sig.arity x.first) (cond_same (of_first sig x e) (of_first sig x f) x.one x.two redex.differ h)
      (λ t. ltb-false e (sig.arity x.first) t) (λ t. ltb-false f (sig.arity x.first) t) k

  pub end_has : (e : ℕ) → n.symbol (end_agent sig x e) ≡ Some (end_symbol sig x e)
  end_has e = go (of_first sig x e)
    where
      go : (b : Bool) → n.symbol (cond b x.one x.two) ≡ Some (cond b x.first x.second)
      go true = redex.one
      go false = redex.two

module _ {A B : Type 0} (sig : Signature) (n : Net A) (x : Redex A B) (name : B → A) (net : IsNet sig n) (inside : IsNet sig x.member) (redex : IsRedex sig n x) (naming : IsNaming n x name) where
  pub not_old : (k : B) (i : ℕ) (z : A) (s : ℕ) → IsPoint sig x.member (Port k i) → n.symbol z ≡ Some s → name k ≢ z
  not_old k i z s h l e =
      let t = symbol_of sig (x.member.symbol k) i h in
      let u : n.symbol z ≡ None = ap n.symbol (sym e) ∙ naming.fresh k t.0 t.1 in
      cc

  pub not_pair : (k : B) (i : ℕ) → IsPoint sig x.member (Port k i) → IsOfPair x (Port (name k) i) → ⊥
  not_pair k i h e = elim e [ inl a ↦ not_old k i x.one x.first h redex.one a | inr a ↦ not_old k i x.two x.second h redex.two a ]

  pub end_of_pair : (e : ℕ) → IsOfPair x (stands_for sig x name (Free e))
  end_of_pair e = cond_cases (of_first sig x e) x.one x.two

  -- a boundary end is at a port of the pair, and no other point is
  pub end_of : (p : Point B) → IsPoint sig x.member p → IsOfPair x (stands_for sig x name p) → (e : ℕ) × (p ≡ Free e)
  end_of (Port k i) h o = absurd (not_pair k i h o)
  end_of (Free e) h o = (e, refl)

  pub stands_one : (p q : Point B) → IsPoint sig x.member p → IsPoint sig x.member q → stands_for sig x name p ≡ stands_for sig x name q → p ≡ q
  stands_one (Port k i) (Port l j) h g e =
      let a = symbol_of sig (x.member.symbol k) i h in
      let b = symbol_of sig (x.member.symbol l) j g in
      let same : k ≡ l = naming.apart k l a.0 b.0 a.1 b.1 (port_agent (name k) (name l) i j e) in
      let place : i ≡ j = port_place (name k) (name l) i j e in
      cc
  stands_one (Port k i) (Free f) h g e = absurd (not_pair k i h (subst (IsOfPair x) (sym e) (end_of_pair f)))
  stands_one (Free f) (Port k i) h g e = absurd (not_pair k i g (subst (IsOfPair x) e (end_of_pair f)))
  stands_one (Free e) (Free f) h g w =
      ap (λ e. Free e) (end_same sig n x net inside redex e f (port_agent (end_agent sig x e) (end_agent sig x f) (end_place sig x e) (end_place sig x f) w) (port_place (end_agent sig x e) (end_agent sig x f) (end_place sig x e) (end_place sig x f) w))

  pub first_wire : (s : Side) (u : Point A) (es : List (Point A)) (v : Point A) → Alternates (wire_of sig n x name) (IsOfPair x) s u es v → (w : Point A) × wire_of sig n x name s u w
  first_wire s u [] v w = (v, w)
  first_wire s u (e ∷ es) v w = (e, w.0)
