-- From each point that stays the path lands, within few turns, at the point to which it is joined.
use Rattle.std.proofs.Common.{◌≡◌, ◌+◌, ◌*◌, ◌-◌, ◌≤◌, ◌<◌, ℕ, zero, suc, Bool, true, false, cond, nat_eq, nat_lt, Option, Some, None, List, [], ◌∷◌, length, slice_get, refl, sym, subst, ap, inl, inr, ◌∙◌, arith, eq-eqb}
use Rattle.std.proofs.lemmas.Bool.{ne_eqb}
use native.Mathlib.Decide.{ℕ_discrete}
use Rattle.in_symbols.specs.Tables.{arity_of}
use Rattle.in_net.specs.declared.nets.AgentNo.{AgentNo}
use Rattle.in_net.specs.declared.nets.Point as coded
use Rattle.in_net.specs.declared.nets.Point.TheVariants as code
use Rattle.in_net.specs.Nets.{Point, Port, Free, Signature, IsPoint, net_of, signature_of, coded_point}
use Rattle.in_net.specs.Parts.{Parts, partner_in}
use Rattle.in_net.specs.Interactions.{Redex, redex_at, Outer, Inner, PairPath, stands_for, InnerWire, wire_of, IsOfPair, AreJoined, end_agent, end_place}
use Rattle.in_interaction.specs.Following.{SiteParts, end_of, end_by, port_of, most_turns, OnInner, OnEnd, Lands}
use Rattle.in_interaction.specs.Interacting.{unused}
use Rattle.in_syntax.specs.Grammar.{max_ports}
use Rattle.in_net.proofs.Public.{stands_one, not_pair, end_of_pair, map_is, lt_tells}
use Rattle.in_interaction.proofs.Interactions.PathEnds.{outer_next, not_principal, ends}
use Rattle.in_interaction.proofs.Stepping.Sites.{Site, inside, redex, few_places, known}

abbrev pub agent_no : ℕ → AgentNo
agent_no k = record { 0 = k }

module _ (here : Site) where
  open here use {t, n, r}

  abbrev sig : Signature
  sig = signature_of t

  abbrev pub member : Parts
  member = r.member

  abbrev one : ℕ
  one = here.a.0

  abbrev two : ℕ
  two = here.b.0

  -- how many auxiliary places the first agent has, and both
  abbrev count : ℕ
  count = arity_of t r.heads.0.0

  abbrev both : ℕ
  both = arity_of t r.heads.0.0 + arity_of t r.heads.1.0

  abbrev at : Redex ℕ ℕ
  at = redex_at r one two

  abbrev name : ℕ → ℕ
  name = unused n.cells

  abbrev pt : ℕ → Point ℕ
  pt e = Port (end_agent sig at e) (end_place sig at e)

  abbrev Stays : Point ℕ → Type 0
  Stays u = IsOfPair at u → ⊥

  abbrev Joined : Point ℕ → Point ℕ → Type 0
  Joined = AreJoined sig (net_of n) at name

  abbrev end_code : coded.Point → Option ℕ
  end_code p = end_of (agent_no one) (agent_no two) count p

  pub end_at : (e : ℕ) → end_code (coded_point (pt e)) ≡ Some e
  end_at e = elim (lt_tells e count) [
    | inl l ↦ ap (λ (b : Bool). end_by (agent_no one) (agent_no two) count (agent_no (cond b one two)) (cond b (suc e) (suc (e - count)))) l.0
        ∙ ap (λ (z : Bool). cond z (Some e) (cond (nat_eq one two) (Some (count + e)) None)) (eq-eqb one one refl)
    | inr l ↦
        let k = l.1 in
        let place : count + (e - count) ≡ e = omega arith in
        ap (λ (b : Bool). end_by (agent_no one) (agent_no two) count (agent_no (cond b one two)) (cond b (suc e) (suc (e - count)))) l.0
        ∙ ap (λ (z : Bool). cond z (Some (e - count)) (cond (nat_eq two two) (Some (count + (e - count))) None)) (ne_eqb two one (λ h. (redex here).differ (sym h)))
        ∙ ap (λ (z : Bool). cond z (Some (count + (e - count))) None) (eq-eqb two two refl) ∙ ap (λ (z : ℕ). Some z) place
  ]

  pub end_none : (v : Point ℕ) → Stays v → end_code (coded_point v) ≡ None
  end_none (Port y zero) h = refl
  end_none (Port y (suc i)) h =
      ap (λ (z : Bool). cond z (Some i) (cond (nat_eq y two) (Some (count + i)) None)) (ne_eqb y one (λ e. h (inl e)))
      ∙ ap (λ (z : Bool). cond z (Some (count + i)) None) (ne_eqb y two (λ e. h (inr e)))
  end_none (Free k) h = refl

  pub port_is : (e : ℕ) → port_of (agent_no one) (agent_no two) count e ≡ coded_point (pt e)
  port_is e = go (nat_lt e count)
    where
      go : (b : Bool) → cond b (code.Port (agent_no one) (e + 1)) (code.Port (agent_no two) (e - count + 1)) ≡ code.Port (agent_no (cond b one two)) (cond b (suc e) (suc (e - count)))
      go true = let k : e + 1 ≡ suc e = omega arith in ap (λ (z : ℕ). code.Port (agent_no one) z) k
      go false = let k : e - count + 1 ≡ suc (e - count) = omega arith in ap (λ (z : ℕ). code.Port (agent_no two) z) k

  pub outer_code : (p q : Point ℕ) → (net_of n).partner p ≡ Some q → partner_in n (coded_point p) ≡ Some (coded_point q)
  outer_code p q e = map_is (partner_in n (coded_point p)) q e

  module _ (names : List AgentNo) (named : (k i : ℕ) → IsPoint sig (net_of member) (Port k i) → slice_get names k ≡ Some (agent_no (name k))) where
    abbrev site : SiteParts
    site = record { net = n; rule = r; one = agent_no one; two = agent_no two; first = count; names = names }

    abbrev To : ℕ → coded.Point → coded.Point → Type 0
    To k p v = Lands site k p v

    -- the port of a new agent to which a boundary end leads
    new_port : (e l j : ℕ) → (net_of member).partner (Free e) ≡ Some (Port l j) → IsPoint sig (net_of member) (Port l j)
    new_port e l j w = (inside here).points (Port l j) (Free e) ((inside here).back (Free e) (Port l j) w)

    -- it has landed
    landed : (k : ℕ) (v : Point ℕ) → Stays v → To (suc k) (coded_point v) (coded_point v)
    unfolding Lands
    landed k v h = subst (OnEnd site (λ r. To k r (coded_point v)) (coded_point v) (coded_point v)) (sym (end_none v h)) refl

    -- from a boundary end that is entered
    enters : (k e : ℕ) (v : coded.Point) (q : Point ℕ) → (net_of member).partner (Free e) ≡ Some q → OnInner site (λ r. To k r v) v (coded_point q) → To (suc k) (coded_point (pt e)) v
    unfolding Lands
    enters k e v q w h = subst (OnEnd site (λ r. To k r v) (coded_point (pt e)) v) (sym (end_at e)) (coded_point q, map_is (partner_in member (code.Free e)) q w, h)

    -- the inner wire of a boundary end
    inner_at : (e : ℕ) (f : Point ℕ) → e < both → InnerWire sig at name (pt e) f → (q : Point ℕ) × ((net_of member).partner (Free e) ≡ Some q) × (stands_for sig at name q ≡ f)
    inner_at e f l w =
        let same = known here stands_one w.0 (Free e) ((inside here).points w.0 w.1 w.4) (subst (λ m. e < m) (sym (redex here).ends) l) w.2 in
        (w.1, ap (net_of member).partner (sym same) ∙ w.4, w.3)

    to_agent : (k e : ℕ) (v : Point ℕ) (q : Point ℕ) → (net_of member).partner (Free e) ≡ Some q → stands_for sig at name q ≡ v → Stays v → To (suc k) (coded_point (pt e)) (coded_point v)
    to_agent k e v (Port l j) w is h =
        enters k e (coded_point v) (Port l j) w (agent_no (name l), named l j (new_port e l j w), ap coded_point is)
    to_agent k e v (Free f) w is h = absurd (h (subst (IsOfPair at) is (known here end_of_pair f)))

    -- .. that is left outside again
    to_end : (k e : ℕ) (v : coded.Point) (f r q : Point ℕ) → (net_of member).partner (Free e) ≡ Some q → stands_for sig at name q ≡ f → IsOfPair at f → (net_of n).partner f ≡ Some r →
        To k (coded_point r) v → To (suc k) (coded_point (pt e)) v
    to_end k e v f r (Port l j) w is h out more = absurd (known here not_pair l j (new_port e l j w) (subst (IsOfPair at) (sym is) h))
    to_end k e v f r (Free g) w is h out more =
        enters k e v (Free g) w (coded_point r, ap (partner_in n) (port_is g) ∙ outer_code (pt g) r (ap (net_of n).partner is ∙ out), more)

    -- the boundary end that an outer wire of one leads to
    next_end : (e : ℕ) (f g q : Point ℕ) → (net_of member).partner (Free e) ≡ Some q → stands_for sig at name q ≡ f → IsOfPair at f → (net_of n).partner f ≡ Some g → IsOfPair at g →
        (h : ℕ) × (h < both) × (g ≡ pt h)
    next_end e f g (Port l j) w is h out k = absurd (known here not_pair l j (new_port e l j w) (subst (IsOfPair at) (sym is) h))
    next_end e f g (Free m) w is h out k =
        elim (known here outer_next ℕ_discrete f g out (λ s. known here not_principal ℕ_discrete m one (is ∙ s)) (λ s. known here not_principal ℕ_discrete m two (is ∙ s))) [
          | inl r ↦ absurd (r k)
          | inr r ↦ r
        ]

    lands : (k e : ℕ) (es : List (Point ℕ)) (v : Point ℕ) → e < both → length es ≤ 2 * k → PairPath sig (net_of n) at name Inner (pt e) es v → Stays v → To (suc k) (coded_point (pt e)) (coded_point v)
    lands k e [] v l most w h = let q = inner_at e v l w in to_agent k e v q.0 q.1 q.2 h
    lands zero e (f ∷ es) v l most w h = absurd (omega arith)
    lands (suc k) e (f ∷ []) v l most w h =
        let q = inner_at e f l w.0 in
        to_end (suc k) e (coded_point v) f v q.0 q.1 q.2 w.1 w.2 (landed k v h)
    lands (suc k) e (f ∷ g ∷ es) v l most w h =
        let q = inner_at e f l w.0 in
        let m = next_end e f g q.0 q.1 q.2 w.1 w.2.0 w.2.1 in
        to_end (suc k) e (coded_point v) f g q.0 q.1 q.2 w.1 w.2.0
        (subst (λ (z : Point ℕ). To (suc k) (coded_point z) (coded_point v)) (sym m.2)
        (lands k m.0 es v m.1 (omega arith) (subst (λ (z : Point ℕ). PairPath sig (net_of n) at name Inner z es v) m.2 w.2.2) h))

    -- a point that stays is joined to the end of the path that its wire begins
    pub outer_lands : (u f : Point ℕ) → Stays u → (net_of n).partner u ≡ Some f → (v : Point ℕ) × Joined u v × To most_turns (coded_point f) (coded_point v)
    outer_lands u f np w =
        elim (known here outer_next ℕ_discrete u f w (λ e. np (subst (IsOfPair at) (sym e) (inl refl))) (λ e. np (subst (IsOfPair at) (sym e) (inr refl)))) [
          | inl nf ↦ (f, (np, nf, (Outer, [], w)), landed (2 * max_ports) f nf)
          | inr h ↦
              let out : (net_of n).partner u ≡ Some (pt h.0) = w ∙ ap (λ v. Some v) h.2 in
              let r = known here ends ℕ_discrete Outer h.0 h.1 u np out in
              let most = r.4 in
              let few = few_places here in (
                r.1,
                (np, r.2, (Outer, pt h.0 ∷ r.0, (out, known here end_of_pair h.0, r.3))),
                subst (λ (z : Point ℕ). To most_turns (coded_point z) (coded_point r.1)) (sym h.2) (lands (2 * max_ports) h.0 r.0 r.1 h.1 (omega arith) r.3 r.2),
              )
        ]

    -- the wire of a new agent's port leads to a new agent, or to the end of the path that leaves by this boundary end
    abbrev pub InnerLands : Point ℕ → Point ℕ → Type 0
    InnerLands (Port l j) v = Port (name l) j ≡ v
    InnerLands (Free e) v = (r : Point ℕ) × ((net_of n).partner (pt e) ≡ Some r) × To most_turns (coded_point r) (coded_point v)

    -- a new agent's port is joined to that point
    pub inner_lands : (k i : ℕ) (q : Point ℕ) → (net_of member).partner (Port k i) ≡ Some q → (v : Point ℕ) × Joined (Port (name k) i) v × InnerLands q v
    inner_lands k i (Port l j) w = (
      Port (name l) j,
      (
        known here not_pair k i ((inside here).points (Port k i) (Port l j) w),
        known here not_pair l j ((inside here).points (Port l j) (Port k i) ((inside here).back (Port k i) (Port l j) w)),
        (Inner, [], (Port k i, Port l j, refl, refl, w)),
      ),
      refl,
    )
    inner_lands k i (Free e) w =
        let r = known here ends ℕ_discrete Inner e within (Port (name k) i) stays wire in
        go r.0 r.1 r.2 r.3 r.4
      where
        within : e < both
        within = subst (λ m. e < m) (redex here).ends ((inside here).points (Free e) (Port k i) ((inside here).back (Port k i) (Free e) w))

        stays : Stays (Port (name k) i)
        stays = known here not_pair k i ((inside here).points (Port k i) (Free e) w)

        wire : wire_of sig (net_of n) at name Inner (Port (name k) i) (pt e)
        wire = (Port k i, Free e, refl, refl, w)

        go : (es : List (Point ℕ)) (v : Point ℕ) → Stays v → PairPath sig (net_of n) at name Outer (pt e) es v → length es ≤ 2 * both → (v : Point ℕ) × Joined (Port (name k) i) v × InnerLands (Free e) v
        go [] v h a l = (v, (stays, h, (Inner, pt e ∷ [], (wire, known here end_of_pair e, a))), (v, a, landed (2 * max_ports) v h))
        go (f ∷ es) v h a l =
            let few = few_places here in
            elim (known here outer_next ℕ_discrete (pt e) f a.0 (known here not_principal ℕ_discrete e one) (known here not_principal ℕ_discrete e two)) [
              | inl nf ↦ absurd (nf a.1)
              | inr m ↦ (
                v,
                (stays, h, (Inner, pt e ∷ f ∷ es, (wire, known here end_of_pair e, a))),
                (
                  f,
                  a.0,
                  subst (λ (z : Point ℕ). To most_turns (coded_point z) (coded_point v)) (sym m.2)
                      (lands (2 * max_ports) m.0 es v m.1 (omega arith) (subst (λ (z : Point ℕ). PairPath sig (net_of n) at name Inner z es v) m.2 a.2) h),
                ),
              )
            ]
