-- The rest of a net, once an active pair is taken out, exists.
use Rattle.std.proofs.Common.{◌≡◌, ◌≢◌, ◌+◌, ◌-◌, ◌<◌, ◌≤◌, ℕ, zero, suc, Bool, true, false, cond, nat_lt, Option, Some, None, IsSomeAnd, length, map, ◌++◌, refl, sym, subst, ap, ◌∙◌, inl, inr, arith, lt-ltb, ltb-true, ltb-false, le-ltb}
use native.Mathlib.Decide.{ℕ_discrete}
use Rattle.std.specs.Prelude.{option_and_then}
use Rattle.std.proofs.lemmas.Option.{option_and_then_some, same_Some}
use Rattle.in_net.specs.Interactions.{Redex, IsRedex, of_first}
use Rattle.in_net.specs.Nets.{Point, Port, Free, Signature, Net, IsPoint, IsNet}
use Rattle.in_typing.specs.Typed.{opposite}
use Rattle.in_gluing.specs.AsGluing.{boundary_port, IsInRest, IsRestOf, RestExists}
use Rattle.in_gluing.proofs.Helpers.{cases_le}

-- a value by two steps
by_steps : {X Y : Type 0} (f : X → Option Y) (o : Option X) (y : Y) → option_and_then f o ≡ Some y → (x : X) × (o ≡ Some x) × (f x ≡ Some y)
by_steps f o y e = option_and_then_some f o y e (λ x h g. (x, h, g))

in_steps : {X Y : Type 0} (f : X → Option Y) (o : Option X) (x : X) (y : Y) → o ≡ Some x → f x ≡ Some y → option_and_then f o ≡ Some y
in_steps f o x y e g = ap (option_and_then f) e ∙ g

module _ (sig : Signature) (n : Net ℕ) (x : Redex ℕ ℕ) (net : IsNet sig n) (inside : IsNet sig x.member) (redex : IsRedex sig n x) where
  abbrev many : ℕ
  many = length x.member.free

  abbrev pt : ℕ → Point ℕ
  pt e = boundary_port sig x e

  -- the three kinds of agents
  data Kind (y : ℕ) : Type 0 where
    first : y ≡ x.one → Kind y
    second : y ≡ x.two → Kind y
    neither : y ≢ x.one → y ≢ x.two → Kind y

  abbrev kind_by : (y : ℕ) → Dec (y ≡ x.one) → Dec (y ≡ x.two) → Kind y
  kind_by y (yes e) d = first e
  kind_by y (no a) (yes e) = second e
  kind_by y (no a) (no b) = neither a b

  abbrev kind : (y : ℕ) → Kind y
  kind y = kind_by y (ℕ_discrete y x.one) (ℕ_discrete y x.two)

  -- the target of a port of an agent of this kind
  abbrev PortMap : Type 0
  PortMap = (y i : ℕ) → Kind y → Option (Point ℕ)

  -- ---- into the rest

  abbrev port_out : PortMap
  port_out y zero (first e) = None
  port_out y (suc j) (first e) = Some (Free j)
  port_out y zero (second e) = None
  port_out y (suc j) (second e) = Some (Free (sig.arity x.first + j))
  port_out y i (neither a b) = Some (Port y i)

  abbrev out : Point ℕ → Option (Point ℕ)
  out (Port y i) = port_out y i (kind y)
  out (Free k) = Some (Free (many + k))

  -- ---- and back

  abbrev port_in : PortMap
  port_in y i (first e) = None
  port_in y i (second e) = None
  port_in y i (neither a b) = Some (Port y i)

  abbrev back : Point ℕ → Option (Point ℕ)
  back (Port y i) = port_in y i (kind y)
  back (Free f) = cond (nat_lt f many) (Some (pt f)) (Some (Free (f - many)))

  abbrev symbol_by : (y : ℕ) → Kind y → Option ℕ
  symbol_by y (first e) = None
  symbol_by y (second e) = None
  symbol_by y (neither a b) = n.symbol y

  abbrev rest : Net ℕ
  rest = record {
    symbol = λ y. symbol_by y (kind y);
    partner = λ u. option_and_then (λ p. option_and_then out (n.partner p)) (back u);
    free = map opposite x.member.free ++ n.free;
  }

  -- ---- the places of points

  pt_first : (j : ℕ) → j < sig.arity x.first → pt j ≡ Port x.one (suc j)
  pt_first j h = go (of_first sig x j) (lt-ltb j (sig.arity x.first) h)
    where
      go : (b : Bool) → b ≡ true → Port (cond b x.one x.two) (cond b (suc j) (suc (j - sig.arity x.first))) ≡ Port x.one (suc j)
      go true h = refl
      go false h = cc

  pt_second : (j : ℕ) → pt (sig.arity x.first + j) ≡ Port x.two (suc j)
  pt_second j = go (of_first sig x (sig.arity x.first + j)) (le-ltb (sig.arity x.first + j) (sig.arity x.first) (omega arith))
    where
      go : (b : Bool) → b ≡ false → Port (cond b x.one x.two) (cond b (suc (sig.arity x.first + j)) (suc (sig.arity x.first + j - sig.arity x.first))) ≡ Port x.two (suc j)
      go true h = cc
      go false h = let e : sig.arity x.first + j - sig.arity x.first ≡ j = omega arith in ap (λ (j : ℕ). Port x.two (suc j)) e

  out_is : (p u : Point ℕ) → IsPoint sig n p → out p ≡ Some u → IsInRest sig x p u
  out_is (Free k) u h e = sym (same_Some (Free (many + k)) u e)
  out_is (Port y i) u h e = go i (kind y) h e
    where
      go : (i : ℕ) (k : Kind y) → IsPoint sig n (Port y i) → port_out y i k ≡ Some u → IsInRest sig x (Port y i) u
      go zero (first a) h e = cc
      go (suc j) (first a) h e =
          let low : suc j ≤ sig.arity x.first = subst (λ (o : Option ℕ). IsSomeAnd o (λ s. suc j ≤ sig.arity s)) (ap n.symbol a ∙ redex.one) h in
          let all = redex.ends in
          inr (j, omega (arith, low, all), pt_first j (omega (arith, low)) ∙ ap (λ (y : ℕ). Port y (suc j)) (sym a), sym (same_Some (Free j) u e))
      go zero (second a) h e = cc
      go (suc j) (second a) h e =
          let low : suc j ≤ sig.arity x.second = subst (λ (o : Option ℕ). IsSomeAnd o (λ s. suc j ≤ sig.arity s)) (ap n.symbol a ∙ redex.two) h in
          let all = redex.ends in
          inr (sig.arity x.first + j, omega (arith, low, all), pt_second j ∙ ap (λ (y : ℕ). Port y (suc j)) (sym a), sym (same_Some (Free (sig.arity x.first + j)) u e))
      go i (neither a b) h e = inl (a, b, sym (same_Some (Port y i) u e))

  back_is : (p u : Point ℕ) → back u ≡ Some p → IsInRest sig x p u
  back_is p (Port y i) e = go (kind y) e
    where
      go : (k : Kind y) → port_in y i k ≡ Some p → IsInRest sig x p (Port y i)
      go (first a) e = cc
      go (second a) e = cc
      go (neither a b) e = subst (λ p. IsInRest sig x p (Port y i)) (same_Some (Port y i) p e) (inl (a, b, refl))
  back_is p (Free f) e = go (nat_lt f many) (ltb-true f many) (ltb-false f many) e
    where
      go : (b : Bool) → (b ≡ true → f < many) → (b ≡ false → many ≤ f) → cond b (Some (pt f)) (Some (Free (f - many))) ≡ Some p → IsInRest sig x p (Free f)
      go true t l e = subst (λ p. IsInRest sig x p (Free f)) (same_Some (pt f) p e) (inr (f, t refl, refl, refl))
      go false t l e =
          let low = l refl in
          let same : f ≡ many + (f - many) = omega (arith, low) in
          subst (λ p. IsInRest sig x p (Free f)) (same_Some (Free (f - many)) p e) (ap (λ (f : ℕ). Free f) same)

  -- ---- and the other way round

  stays_kind : (y : ℕ) (k : Kind y) → y ≢ x.one → y ≢ x.two → (i : ℕ) → (port_in y i k ≡ Some (Port y i)) × (port_out y i k ≡ Some (Port y i))
  stays_kind y (first e) a b i = absurd (a e)
  stays_kind y (second e) a b i = absurd (b e)
  stays_kind y (neither c d) a b i = (refl, refl)

  is_back : (p u : Point ℕ) → IsInRest sig x p u → back u ≡ Some p
  is_back (Port y i) u (inl h) = ap back h.2 ∙ (stays_kind y (kind y) h.0 h.1 i).0
  is_back (Port y i) u (inr h) = ap back h.3 ∙ ap (λ (b : Bool). cond b (Some (pt h.0)) (Some (Free (h.0 - many)))) (lt-ltb h.0 many h.1) ∙ ap (λ (p : Point ℕ). Some p) h.2
  is_back (Free k) u h =
      let same : many + k - many ≡ k = omega arith in
      ap back h ∙ ap (λ (b : Bool). cond b (Some (pt (many + k))) (Some (Free (many + k - many)))) (le-ltb (many + k) many (omega arith)) ∙ ap (λ (k : ℕ). Some (Free k)) same

  out_of : (e : ℕ) → e < many → out (pt e) ≡ Some (Free e)
  out_of e low = elim (cases_le e (sig.arity x.first)) [
    | inl l ↦ ap out (pt_first e l) ∙ of_one (kind x.one) e
    | inr l ↦ (
        let same : sig.arity x.first + (e - sig.arity x.first) ≡ e = omega (arith, l) in
        ap out (ap pt (sym same) ∙ pt_second (e - sig.arity x.first)) ∙ of_two (kind x.two) (e - sig.arity x.first) ∙ ap (λ (e : ℕ). Some (Free e)) same
        )
  ]
    where
      of_one : (k : Kind x.one) (j : ℕ) → port_out x.one (suc j) k ≡ Some (Free j)
      of_one (first e) j = refl
      of_one (second e) j = absurd (redex.differ e)
      of_one (neither a b) j = absurd (a refl)

      of_two : (k : Kind x.two) (j : ℕ) → port_out x.two (suc j) k ≡ Some (Free (sig.arity x.first + j))
      of_two (first e) j = absurd (redex.differ (sym e))
      of_two (second e) j = refl
      of_two (neither a b) j = absurd (b refl)

  is_out : (p u : Point ℕ) → IsInRest sig x p u → out p ≡ Some u
  is_out (Port y i) u (inl h) = (stays_kind y (kind y) h.0 h.1 i).1 ∙ ap (λ (u : Point ℕ). Some u) (sym h.2)
  is_out (Port y i) u (inr h) = ap out (sym h.2) ∙ out_of h.0 h.1 ∙ ap (λ (u : Point ℕ). Some u) (sym h.3)
  is_out (Free k) u h = ap (λ (u : Point ℕ). Some u) (sym h)

  symbol_forth : (y s : ℕ) (k : Kind y) → symbol_by y k ≡ Some s → (y ≢ x.one) × (y ≢ x.two) × (n.symbol y ≡ Some s)
  symbol_forth y s (first e) h = cc
  symbol_forth y s (second e) h = cc
  symbol_forth y s (neither a b) h = (a, b, h)

  symbol_back : (y s : ℕ) (k : Kind y) → y ≢ x.one → y ≢ x.two → n.symbol y ≡ Some s → symbol_by y k ≡ Some s
  symbol_back y s (first e) a b h = absurd (a e)
  symbol_back y s (second e) a b h = absurd (b e)
  symbol_back y s (neither c d) a b h = h

  wire_forth : (u v : Point ℕ) → rest.partner u ≡ Some v → (p q : Point ℕ) × IsInRest sig x p u × IsInRest sig x q v × (n.partner p ≡ Some q)
  wire_forth u v e =
      let p = by_steps (λ p. option_and_then out (n.partner p)) (back u) v e in
      let q = by_steps out (n.partner p.0) v p.2 in
      (p.0, q.0, back_is p.0 u p.1, out_is q.0 v (net.points q.0 p.0 (net.back p.0 q.0 q.1)) q.2, q.1)

  is_rest : IsRestOf sig n x rest
  is_rest = record {
    agents = λ y s. ((λ e. symbol_forth y s (kind y) e), (λ h. symbol_back y s (kind y) h.0 h.1 h.2));
    wires = λ u v. (
      (λ e. wire_forth u v e),
      (λ r. in_steps (λ p. option_and_then out (n.partner p)) (back u) r.0 v (is_back r.0 u r.2) (in_steps out (n.partner r.0) r.1 v r.4 (is_out r.1 v r.3))),
    );
    free = refl;
  }

pub rest_exists : RestExists
rest_exists sig n x net inside redex = (rest sig n x net inside redex, is_rest sig n x net inside redex)
