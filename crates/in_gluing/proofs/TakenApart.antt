-- When the pair is taken out of the net and the right member is beside it, no boundary end is joined.
use Rattle.std.proofs.Common.{◌≡◌, ◌⊎◌, ◌+◌, ◌<◌, ℕ, zero, suc, false, Some, length, refl, sym, subst, ap, ◌∙◌, inl, inr}
use Rattle.in_net.specs.Interactions.{Redex}
use Rattle.in_net.specs.Nets.{Point, Port, Free, Signature, Net}
use Rattle.in_gluing.specs.Joining.{IsAtNumber, IsBeside}
use Rattle.in_gluing.specs.AsGluing.{IsInRest, IsRestOf, two_parts, old_and_new, CanStep}
use Rattle.in_gluing.specs.EndByEnd.{outer_end, IsOuterAt, IsInnerAt, IsTakenApart, TakenApartHasJoinedNone, AnyOrderIsStep}
use Rattle.in_gluing.proofs.AsGluing.{agent_forth, agent_back}
use Rattle.in_gluing.proofs.EndByEnd.{beside_has_joined_none, in_turn}
use Rattle.in_gluing.proofs.EndNumbers.{number, outer_number, own_number}
use Rattle.in_gluing.proofs.Rest.{rest_exists}

module _ (sig : Signature) (n : Net ℕ) (x : Redex ℕ ℕ) (name : ℕ → ℕ) (m : Net ℕ) (site : CanStep sig n x name) (rest : Net ℕ) (is_rest : IsRestOf sig n x rest) where
  abbrev At : ℕ → Point ℕ → Point ℕ → Type 0
  At i p u = IsAtNumber (number n x) (old_and_new name) i p u

  own_free : (k : ℕ) → ◌≡◌ {A = Point ℕ} (Free (number n x (0, length x.member.free + k))) (Free k)
  own_free k = ap (λ (k : ℕ). Free k) (own_number n x k)

  outer_free : (e : ℕ) → e < length x.member.free → ◌≡◌ {A = Point ℕ} (Free (number n x (0, e))) (Free (outer_end n x e))
  outer_free e l = ap (λ (k : ℕ). Free k) (outer_number n x e l)

  outer_at : (p w u : Point ℕ) → IsInRest sig x p w → At 0 w u → IsOuterAt sig n x p u
  outer_at (Port y i) w u (inl r) at = inl (r.0, r.1, subst (λ w. At 0 w u) r.2 at)
  outer_at (Port y i) w u (inr r) at = inr (r.0, r.1, r.2, subst (λ w. At 0 w u) r.3 at ∙ outer_free r.0 r.1)
  outer_at (Free k) w u r at = subst (λ w. At 0 w u) r at ∙ own_free k

  at_outer : (p u : Point ℕ) → IsOuterAt sig n x p u → (w : Point ℕ) × IsInRest sig x p w × At 0 w u
  at_outer (Port y i) u (inl r) = (Port y i, inl (r.0, r.1, refl), r.2)
  at_outer (Port y i) u (inr r) = (Free r.0, inr (r.0, r.1, r.2, refl), r.3 ∙ sym (outer_free r.0 r.1))
  at_outer (Free k) u r = (Free (length x.member.free + k), refl, r ∙ sym (own_free k))

  inner_at : (p u : Point ℕ) → IsInnerAt n x name p u → At 1 p u
  inner_at (Port k i) u at = at
  inner_at (Free e) u at = at

  at_inner : (p u : Point ℕ) → At 1 p u → IsInnerAt n x name p u
  at_inner (Port k i) u at = at
  at_inner (Free e) u at = at

  abbrev Wire : Point ℕ → Point ℕ → Type 0
  Wire u v = (i : ℕ) × (p q : Point ℕ) × At i p u × At i q v × ((two_parts rest x.member i).partner p ≡ Some q)

  abbrev Apart : Point ℕ → Point ℕ → Type 0
  Apart u v = ((p q : Point ℕ) × IsOuterAt sig n x p u × IsOuterAt sig n x q v × (n.partner p ≡ Some q)) ⊎ ((p q : Point ℕ) × IsInnerAt n x name p u × IsInnerAt n x name q v × (x.member.partner p ≡ Some q))

  wire_beside : (u v : Point ℕ) → Apart u v → Wire u v
  wire_beside u v (inl r) =
      let p = at_outer r.0 u r.2 in
      let q = at_outer r.1 v r.3 in
      (0, p.0, q.0, p.2, q.2, (is_rest.wires p.0 q.0).1 (r.0, r.1, p.1, q.1, r.4))
  wire_beside u v (inr r) = (1, r.0, r.1, inner_at r.0 u r.2, inner_at r.1 v r.3, r.4)

  wire_apart : (u v : Point ℕ) (i : ℕ) (p q : Point ℕ) → At i p u → At i q v → (two_parts rest x.member i).partner p ≡ Some q → Apart u v
  wire_apart u v zero p q h g e = let r = (is_rest.wires p q).0 e in inl (r.0, r.1, outer_at r.0 p u r.2 h, outer_at r.1 q v r.3 g, r.4)
  wire_apart u v (suc zero) p q h g e = inr (p, q, at_inner p u h, at_inner q v g, e)
  wire_apart u v (suc (suc i)) p q h g e = cc

  pub is_beside : IsTakenApart sig n x name m → IsBeside (two_parts rest x.member) (old_and_new name) (number n x) m
  is_beside apart = record {
    agents = λ y s. (
      (λ e. agent_forth sig n x name rest site is_rest y s ((apart.agents y s).0 e)),
      (λ h. (apart.agents y s).1 (agent_back sig n x name rest site is_rest y s h.0 h.1 h.2 h.3)),
    );
    wires = λ u v. ((λ e. wire_beside u v ((apart.wires u v).0 e)), (λ r. (apart.wires u v).1 (wire_apart u v r.0 r.1 r.2 r.3 r.4 r.5)));
  }

  pub is_apart : IsBeside (two_parts rest x.member) (old_and_new name) (number n x) m → IsTakenApart sig n x name m
  is_apart beside = record {
    agents = λ y s. (
      (λ e. (let h = (beside.agents y s).0 e in agent_back sig n x name rest site is_rest y s h.0 h.1 h.2 h.3)),
      (λ h. (beside.agents y s).1 (agent_forth sig n x name rest site is_rest y s h)),
    );
    wires = λ u v. ((λ e. (let r = (beside.wires u v).0 e in wire_apart u v r.0 r.1 r.2 r.3 r.4 r.5)), (λ h. (beside.wires u v).1 (wire_beside u v h)));
  }

pub taken_apart_has_joined_none : TakenApartHasJoinedNone
taken_apart_has_joined_none sig n x name joined m site off apart =
    let rest = rest_exists sig n x site.net site.inside site.redex in
    beside_has_joined_none sig n x name joined rest.0 m site rest.1 off (is_beside sig n x name m site rest.0 rest.1 apart)

pub any_order_is_step : AnyOrderIsStep
any_order_is_step sig n x name es m w site apart are turns same =
    in_turn sig n x name site es (λ e. false) m w (taken_apart_has_joined_none sig n x name (λ e. false) m site (λ e. refl) apart) are.once
    (λ e i. ((are.all e).1 i, refl)) (λ e low. inr ((are.all e).0 low)) turns same
