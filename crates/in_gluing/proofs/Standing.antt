-- The rest and the right member are side by side in some net.
use Rattle.std.proofs.Common.{◌≡◌, ◌⊎◌, ◌+◌, ◌-◌, ◌<◌, ◌≤◌, ℕ, zero, suc, Option, Some, None, option_map, length, refl, sym, subst, ap, ◌∙◌, inl, inr, arith}
use Rattle.in_net.specs.Interactions.{Redex}
use Rattle.in_net.specs.Nets.{Point, Port, Free, Signature, Net, IsNet}
use Rattle.in_net.proofs.Public.{symbol_of}
use Rattle.in_interaction.proofs.Public.{has_value}
use Rattle.in_net.specs.Renaming.{renamed, IsRenamed}
use Rattle.in_gluing.specs.Joining.{IsAtNumber, IsBeside}
use Rattle.in_gluing.specs.AsGluing.{IsRestOf, two_parts, old_and_new, CanStep}
use Rattle.in_gluing.specs.EndByEnd.{end_number, inner_end, TakenApartExists}
use Rattle.in_gluing.proofs.EndNumbers.{End, outer_side, own_end, inner_side, number, outer_number, own_number, wired_end}
use Rattle.in_gluing.proofs.Names.{renamed_exists}
use Rattle.in_gluing.proofs.Helpers.{cases_le}
use Rattle.in_gluing.proofs.Points.{mapped, none_some}
use Rattle.in_gluing.proofs.Rest.{rest_exists}
use Rattle.in_gluing.proofs.TakenApart.{is_apart}
use Rattle.in_gluing.proofs.TwoParts.{rest_is_net}

module _ (sig : Signature) (n : Net ℕ) (x : Redex ℕ ℕ) (name : ℕ → ℕ) (site : CanStep sig n x name) (rest : Net ℕ) (is_rest : IsRestOf sig n x rest) (new : Net ℕ) (is_new : IsRenamed name x.member new) where
  abbrev own : ℕ
  own = length n.free

  abbrev many : ℕ
  many = length x.member.free

  abbrev At : ℕ → Point ℕ → Point ℕ → Type 0
  At i p u = IsAtNumber (number n x) (old_and_new name) i p u

  -- the places of points of the rest, and of the right member under its new names
  abbrev outer : Point ℕ → Point ℕ
  outer (Port y i) = Port y i
  outer (Free f) = Free (end_number n x 0 f)

  abbrev inner : Point ℕ → Point ℕ
  inner (Port y i) = Port y i
  inner (Free e) = Free (inner_end n x e)

  at_outer : (p : Point ℕ) → At 0 p (outer p)
  at_outer (Port y i) = refl
  at_outer (Free f) = refl

  outer_is : (p u : Point ℕ) → At 0 p u → outer p ≡ u
  outer_is (Port y i) u h = sym h
  outer_is (Free f) u h = sym h

  at_inner : (p u : Point ℕ) → renamed name p ≡ u → At 1 p (inner u)
  at_inner (Port k i) u h = subst (λ u. At 1 (Port k i) (inner u)) h refl
  at_inner (Free e) u h = subst (λ u. At 1 (Free e) (inner u)) h refl

  inner_is : (p u : Point ℕ) → At 1 p u → inner (renamed name p) ≡ u
  inner_is (Port k i) u h = sym h
  inner_is (Free e) u h = sym h

  -- ---- the net

  abbrev symbol_by : ℕ → Option ℕ → Option ℕ
  symbol_by y (Some s) = Some s
  symbol_by y None = rest.symbol y

  abbrev port_by : ℕ → ℕ → Option ℕ → Option (Point ℕ)
  port_by y i (Some s) = option_map inner (new.partner (Port y i))
  port_by y i None = option_map outer (rest.partner (Port y i))

  abbrev free_by : (f : ℕ) → (f < own) ⊎ (own ≤ f) → (f - own < many) ⊎ (many ≤ f - own) → Option (Point ℕ)
  free_by f (inl l) d = option_map outer (rest.partner (Free (many + f)))
  free_by f (inr l) (inl d) = option_map outer (rest.partner (Free (f - own)))
  free_by f (inr l) (inr d) = option_map inner (new.partner (Free (f - own - many)))

  abbrev partner_at : Point ℕ → Option (Point ℕ)
  partner_at (Port y i) = port_by y i (new.symbol y)
  partner_at (Free f) = free_by f (cases_le f own) (cases_le (f - own) many)

  abbrev standing : Net ℕ
  standing = record { symbol = λ y. symbol_by y (new.symbol y); partner = partner_at; free = n.free }

  -- ---- its agents

  -- the net before has none of the new ones
  not_new : (y s : ℕ) → n.symbol y ≡ Some s → new.symbol y ≡ None
  not_new y s old = go (new.symbol y) refl
    where
      go : (o : Option ℕ) → new.symbol y ≡ o → new.symbol y ≡ None
      go None h = h
      go (Some t) h =
          let r = (is_new.agents y t).0 h in
          let none : n.symbol y ≡ None = ap n.symbol (sym r.1) ∙ site.naming.fresh r.0 t r.2 in
          absurd (none_some (n.symbol y) s none old)

  abbrev Agent : ℕ → ℕ → Type 0
  Agent y s = (i a : ℕ) × (old_and_new name i a ≡ y) × ((two_parts rest x.member i).symbol a ≡ Some s)

  agent_forth : (y s : ℕ) (o : Option ℕ) → new.symbol y ≡ o → symbol_by y o ≡ Some s → Agent y s
  agent_forth y s None h e = (0, y, refl, e)
  agent_forth y s (Some t) h e = let r = (is_new.agents y s).0 (h ∙ e) in (1, r.0, r.1, r.2)

  agent_back : (y s i a : ℕ) → old_and_new name i a ≡ y → (two_parts rest x.member i).symbol a ≡ Some s → symbol_by y (new.symbol y) ≡ Some s
  agent_back y s zero a e h =
      let old = ((is_rest.agents a s).0 h).2 in
      subst (λ y. symbol_by y (new.symbol y) ≡ Some s) e (ap (symbol_by a) (not_new a s old) ∙ h)
  agent_back y s (suc zero) a e h = ap (symbol_by y) ((is_new.agents y s).1 (a, e, h))
  agent_back y s (suc (suc i)) a e h = cc

  -- ---- its wires

  abbrev Wire : Point ℕ → Point ℕ → Type 0
  Wire u v = (i : ℕ) × (p q : Point ℕ) × At i p u × At i q v × ((two_parts rest x.member i).partner p ≡ Some q)

  from_rest : (p u v : Point ℕ) → At 0 p u → option_map outer (rest.partner p) ≡ Some v → Wire u v
  from_rest p u v h e = let q = mapped outer (rest.partner p) v e in (0, p, q.0, h, subst (At 0 q.0) q.2 (at_outer q.0), q.1)

  from_new : (w u v : Point ℕ) → inner w ≡ u → option_map inner (new.partner w) ≡ Some v → Wire u v
  from_new w u v h e =
      let q = mapped inner (new.partner w) v e in
      let r = (is_new.wires w q.0).0 q.1 in
      (1, r.0, r.1, subst (At 1 r.0) h (at_inner r.0 w r.2), subst (At 1 r.1) q.2 (at_inner r.1 q.0 r.3), r.4)

  wire_forth : (u v : Point ℕ) → partner_at u ≡ Some v → Wire u v
  wire_forth (Port y i) v e = go (new.symbol y) e
    where
      go : (o : Option ℕ) → port_by y i o ≡ Some v → Wire (Port y i) v
      go None e = from_rest (Port y i) (Port y i) v refl e
      go (Some s) e = from_new (Port y i) (Port y i) v refl e
  wire_forth (Free f) v e = go (cases_le f own) (cases_le (f - own) many) e
    where
      go : (c : (f < own) ⊎ (own ≤ f)) (d : (f - own < many) ⊎ (many ≤ f - own)) → free_by f c d ≡ Some v → Wire (Free f) v
      go (inl l) d e = from_rest (Free (many + f)) (Free f) v (ap (λ (k : ℕ). Free k) (sym (own_number n x f))) e
      go (inr l) (inl d) e =
          let same : f ≡ number n x (0, f - own) = (let k : f ≡ own + (f - own) = omega (arith, l) in k) ∙ sym (outer_number n x (f - own) d) in
          from_rest (Free (f - own)) (Free f) v (ap (λ (k : ℕ). Free k) same) e
      go (inr l) (inr d) e =
          let same : own + many + (f - own - many) ≡ f = omega (arith, l, d) in
          from_new (Free (f - own - many)) (Free f) v (ap (λ (k : ℕ). Free k) same) e

  -- by the free end of a part
  at_end : (i f : ℕ) → End n x (i, f) → (v : Point ℕ) → ((i ≡ 0) × (option_map outer (rest.partner (Free f)) ≡ Some v)) ⊎ ((i ≡ 1) × (option_map inner (new.partner (Free f)) ≡ Some v)) → partner_at (Free (number n x (i, f))) ≡ Some v
  at_end i f end v h = go end (cases_le (number n x (i, f)) own) (cases_le (number n x (i, f) - own) many)
    where
      part : (j e : ℕ) → ◌≡◌ {A = ℕ × ℕ} (i, f) (j, e) → (i ≡ j) × (f ≡ e)
      part j e s = (ap (λ (z : ℕ × ℕ). z.0) s, ap (λ (z : ℕ × ℕ). z.1) s)

      rest_at : (g : ℕ) → i ≡ 0 → f ≡ g → option_map outer (rest.partner (Free g)) ≡ Some v
      rest_at g zero_is same = elim h [
        | inl r ↦ ap (λ (g : ℕ). option_map outer (rest.partner (Free g))) (sym same) ∙ r.1
        | inr r ↦ (let one = r.0 in absurd (omega (arith, one, zero_is)))
      ]

      new_at : (g : ℕ) → i ≡ 1 → f ≡ g → option_map inner (new.partner (Free g)) ≡ Some v
      new_at g one_is same = elim h [
        | inl r ↦ (let none = r.0 in absurd (omega (arith, none, one_is)))
        | inr r ↦ ap (λ (g : ℕ). option_map inner (new.partner (Free g))) (sym same) ∙ r.1
      ]

      go : End n x (i, f) → (c : (number n x (i, f) < own) ⊎ (own ≤ number n x (i, f))) (d : (number n x (i, f) - own < many) ⊎ (many ≤ number n x (i, f) - own)) → free_by (number n x (i, f)) c d ≡ Some v
      go (outer_side e l is) c d =
          let p = part 0 e is in
          let at : number n x (i, f) ≡ own + e = ap (number n x) is ∙ outer_number n x e l in
          by c d at
        where
          by : (c : (number n x (i, f) < own) ⊎ (own ≤ number n x (i, f))) (d : (number n x (i, f) - own < many) ⊎ (many ≤ number n x (i, f) - own)) → number n x (i, f) ≡ own + e → free_by (number n x (i, f)) c d ≡ Some v
          by (inl a) d at = absurd (omega (arith, a, at))
          by (inr a) (inr d) at = absurd (omega (arith, d, at, l))
          by (inr a) (inl d) at = let p = part 0 e is in rest_at (number n x (i, f) - own) p.0 (p.1 ∙ (let s : e ≡ number n x (i, f) - own = omega (arith, at) in s))
      go (own_end k l is) c d =
          let at : number n x (i, f) ≡ k = ap (number n x) is ∙ own_number n x k in
          by c d at
        where
          by : (c : (number n x (i, f) < own) ⊎ (own ≤ number n x (i, f))) (d : (number n x (i, f) - own < many) ⊎ (many ≤ number n x (i, f) - own)) → number n x (i, f) ≡ k → free_by (number n x (i, f)) c d ≡ Some v
          by (inr a) d at = absurd (omega (arith, a, at, l))
          by (inl a) d at = let p = part 0 (many + k) is in rest_at (many + number n x (i, f)) p.0 (p.1 ∙ (let s : many + k ≡ many + number n x (i, f) = omega (arith, at) in s))
      go (inner_side e l is) c d =
          let at : number n x (i, f) ≡ own + many + e = ap (number n x) is in
          by c d at
        where
          by : (c : (number n x (i, f) < own) ⊎ (own ≤ number n x (i, f))) (d : (number n x (i, f) - own < many) ⊎ (many ≤ number n x (i, f) - own)) → number n x (i, f) ≡ own + many + e → free_by (number n x (i, f)) c d ≡ Some v
          by (inl a) d at = absurd (omega (arith, a, at))
          by (inr a) (inl d) at = absurd (omega (arith, d, at))
          by (inr a) (inr d) at = let p = part 1 e is in new_at (number n x (i, f) - own - many) p.0 (p.1 ∙ (let s : e ≡ number n x (i, f) - own - many = omega (arith, at) in s))

  wire_back : (u v : Point ℕ) (i : ℕ) (p q : Point ℕ) → At i p u → At i q v → (two_parts rest x.member i).partner p ≡ Some q → partner_at u ≡ Some v
  wire_back u v zero p q h g e = subst (λ u. partner_at u ≡ Some v) (outer_is p u h) (go p e)
    where
      there : option_map outer (rest.partner p) ≡ Some v
      there = ap (option_map outer) e ∙ ap (λ (v : Point ℕ). Some v) (outer_is q v g)

      go : (p : Point ℕ) → rest.partner p ≡ Some q → partner_at (outer p) ≡ Some v
      go (Port y j) e =
          let net : IsNet sig rest = rest_is_net sig n x name rest site is_rest in
          let s = symbol_of sig (rest.symbol y) j (net.points (Port y j) q e) in
          let old = ((is_rest.agents y s.0).0 s.1).2 in
          ap (port_by y j) (not_new y s.0 old) ∙ ap (option_map outer) e ∙ ap (λ (v : Point ℕ). Some v) (outer_is q v g)
      go (Free f) e = at_end 0 f (wired_end n x sig name rest site is_rest 0 f q e) v (inl (refl, ap (option_map outer) e ∙ ap (λ (v : Point ℕ). Some v) (outer_is q v g)))
  wire_back u v (suc zero) p q h g e = subst (λ u. partner_at u ≡ Some v) (inner_is p u h) (go p e)
    where
      named : (p : Point ℕ) → x.member.partner p ≡ Some q → option_map inner (new.partner (renamed name p)) ≡ Some v
      named p e = ap (option_map inner) ((is_new.wires (renamed name p) (renamed name q)).1 (p, q, refl, refl, e)) ∙ ap (λ (v : Point ℕ). Some v) (inner_is q v g)

      go : (p : Point ℕ) → x.member.partner p ≡ Some q → partner_at (inner (renamed name p)) ≡ Some v
      go (Port k j) e =
          let s = symbol_of sig (x.member.symbol k) j (site.inside.points (Port k j) q e) in
          ap (port_by (name k) j) ((is_new.agents (name k) s.0).1 (k, refl, s.1)) ∙ named (Port k j) e
      go (Free f) e = at_end 1 f (wired_end n x sig name rest site is_rest 1 f q e) v (inr (refl, named (Free f) e))
  wire_back u v (suc (suc i)) p q h g e = cc

  is_beside : IsBeside (two_parts rest x.member) (old_and_new name) (number n x) standing
  is_beside = record {
    agents = λ y s. ((λ e. agent_forth y s (new.symbol y) refl e), (λ h. agent_back y s h.0 h.1 h.2 h.3));
    wires = λ u v. ((λ e. wire_forth u v e), (λ r. wire_back u v r.0 r.1 r.2 r.3 r.4 r.5));
  }

pub taken_apart_exists : TakenApartExists
taken_apart_exists sig n x name site =
    let rest = rest_exists sig n x site.net site.inside site.redex in
    let new = renamed_exists sig x.member name site.inside (λ k l h g e. (let s = has_value (x.member.symbol k) h in let t = has_value (x.member.symbol l) g in site.naming.apart k l s.0 t.0 s.1 t.1 e)) in
    let m = standing sig n x name site rest.0 rest.1 new.0 new.1 in
    (m, is_apart sig n x name m site rest.0 rest.1 (is_beside sig n x name site rest.0 rest.1 new.0 new.1), refl)
