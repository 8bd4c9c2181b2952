-- From the rest and the right member side by side, boundary end by boundary end, to the net after the interaction.
use Rattle.std.proofs.Common.{◌≡◌, ◌≢◌, ◌⊎◌, ◌+◌, ◌<◌, ℕ, zero, suc, Bool, true, false, cond, nat_eq, nat_lt, Option, Some, None, List, length, map, slice_get, refl, sym, subst, ap, ◌∙◌, inl, inr, arith, lt-ltb, le-ltb, eq-eqb}
use mathlib.Core.Path.{fun_ext}
use native.Mathlib.Decide.{ℕ_discrete}
use Rattle.std.proofs.lemmas.Bool.{ne_eqb}
use Rattle.in_base.specs.Lists.{IsAmong}
use Rattle.in_base.proofs.Among.{among_all}
use Rattle.in_interaction.specs.Pieces.{AreDifferent}
use Rattle.in_net.specs.Interactions.{Redex, Side, Outer, Inner, other, IsStep}
use Rattle.in_net.specs.Nets.{Point, Port, Free, Signature, Net}
use Rattle.in_net.proofs.Public.{port_agent, port_place, symbol_of}
use Rattle.in_interaction.proofs.Public.{same_free}
use Rattle.in_gluing.specs.Gluing.{Cuts, IsJointEnd}
use Rattle.in_gluing.specs.Joining.{HasOwnNumber, JoinsEnds, IsAtNumber, IsOneMore, IsBeside, IsRenumbered, Renumbers, WiresLeadBack}
use Rattle.in_gluing.specs.AsGluing.{IsRestOf, two_parts, old_and_new, across_at, boundary, ends_from, CanStep}
use Rattle.in_gluing.specs.EndByEnd.{outer_end, inner_end, HasJoined, IsOneEndMore, BesideHasJoinedNone, EndsAreJoinedInTurn, EndsFromHaveOneMore, EndsFromNoneToAll, AllJoinedIsStep, JoinsInTurn, no_end, end_first}
use Rattle.in_gluing.proofs.AsGluing.{from_is, is_from, own_at, at_own, free_kept, stepped}
use Rattle.in_gluing.proofs.Beside.{beside_joins_none, all_joined_is_glued}
use Rattle.in_gluing.proofs.Boundary.{Spot, part_of, across_is, outside_once, In, unlink, cut_at_end}
use Rattle.in_gluing.proofs.EndNumbers.{joint_at, outer_side, own_end, inner_side, number, outer_number, own_number, one_number, wired_end, own_numbers}
use Rattle.in_gluing.proofs.Points.{port_free}
use Rattle.in_gluing.proofs.Cutting.{joins_lead_back}
use Rattle.in_gluing.proofs.Joining.{joins_next}

-- ---- the joints

module _ (joined : ℕ → Bool) where
  joint_from : (s : Side) (e : ℕ) (p q : ℕ × ℕ) → p ≡ (part_of s, e) → q ≡ (part_of (other s), e) → joined e ≡ true → across_at joined p.0 p.1 ≡ Some q
  joint_from s e p q h k on = ap (λ (p : ℕ × ℕ). across_at joined p.0 p.1) h ∙ across_is joined s e on ∙ ap (λ (q : ℕ × ℕ). Some q) (sym k)

  pub joints_back : (p q : ℕ × ℕ) → across_at joined p.0 p.1 ≡ Some q → across_at joined q.0 q.1 ≡ Some p
  joints_back p q h = let j = joint_at joined p q h in turned j.0 j.1 j.2 j.3
    where
      turned : (s : Side) → p ≡ (part_of s, p.1) → joined p.1 ≡ true → q ≡ (part_of (other s), p.1) → across_at joined q.0 q.1 ≡ Some p
      turned Outer a on b = joint_from Inner p.1 q p b a on
      turned Inner a on b = joint_from Outer p.1 q p b a on

module _ (joined more : ℕ → Bool) (e : ℕ) (one_more : IsOneEndMore joined more e) where
  more_joined : (d : ℕ) → joined d ≡ true → more d ≡ true
  more_joined d h = one_more.others d (λ same. (let a : false ≡ true = sym one_more.before ∙ ap joined (sym same) ∙ h in cc)) ∙ h

  -- the joints, and the one at this boundary end
  joints_more : (s : Side) (p q : ℕ × ℕ) → p ≡ (part_of s, p.1) → more p.1 ≡ true → q ≡ (part_of (other s), p.1) → Dec (p.1 ≡ e) →
      (across_at joined p.0 p.1 ≡ Some q) ⊎ ((p ≡ (0, e)) × (q ≡ (1, e))) ⊎ ((p ≡ (1, e)) × (q ≡ (0, e)))
  joints_more s p q a on b (no d) = inl (joint_from joined s p.1 p q a b (sym (one_more.others p.1 d) ∙ on))
  joints_more Outer p q a on b (yes h) = inr (inl (a ∙ ap (λ (e : ℕ). (0, e)) h, b ∙ ap (λ (e : ℕ). (1, e)) h))
  joints_more Inner p q a on b (yes h) = inr (inr (a ∙ ap (λ (e : ℕ). (1, e)) h, b ∙ ap (λ (e : ℕ). (0, e)) h))

  joints_less : (p q : ℕ × ℕ) → (across_at joined p.0 p.1 ≡ Some q) ⊎ ((p ≡ (0, e)) × (q ≡ (1, e))) ⊎ ((p ≡ (1, e)) × (q ≡ (0, e))) → across_at more p.0 p.1 ≡ Some q
  joints_less p q (inl h) = let j = joint_at joined p q h in joint_from more j.0 p.1 p q j.1 j.3 (more_joined p.1 j.2)
  joints_less p q (inr (inl h)) = joint_from more Outer e p q h.0 h.1 one_more.now
  joints_less p q (inr (inr h)) = joint_from more Inner e p q h.0 h.1 one_more.now

  is_one_more : (n : Net ℕ) (x : Redex ℕ ℕ) → IsOneMore (boundary n x joined) (boundary n x more) (0, e) (1, e)
  is_one_more n x = record {
    free_one = ap (λ (b : Bool). cond {A = Option (ℕ × ℕ)} b (Some (1, e)) None) one_more.before;
    free_other = ap (λ (b : Bool). cond {A = Option (ℕ × ℕ)} b (Some (0, e)) None) one_more.before;
    joints = λ p q. ((λ h. (let j = joint_at more p q h in joints_more j.0 p q j.1 j.2 j.3 (ℕ_discrete p.1 e))), (λ h. joints_less p q h));
  }

pub ends_are_joined_in_turn : EndsAreJoinedInTurn
ends_are_joined_in_turn sig n x name joined more e m w site low h one_more ends = record {
  rest = h.rest;
  is_rest = h.is_rest;
  within = within;
  joins = joins_next (two_parts h.rest x.member) (old_and_new name) (number n x) (boundary n x joined) (boundary n x more) (0, e) (1, e) m w own_outer own_inner (joints_back joined) h.leads_back h.joins (is_one_more joined more e one_more n x) here;
  leads_back = joins_lead_back m (outer_end n x e) (inner_end n x e) w (λ k. (let b : ⊥ = omega (arith, k, low) in b)) h.leads_back ends;
}
  where
    within : (d : ℕ) → more d ≡ true → d < length x.member.free
    within d on = at (ℕ_discrete d e)
      where
        at : Dec (d ≡ e) → d < length x.member.free
        at (yes same) = subst (λ d. d < length x.member.free) (sym same) low
        at (no other) = h.within d (sym (one_more.others d other) ∙ on)

    own_outer : HasOwnNumber (two_parts h.rest x.member) (boundary n x more) (number n x) (0, e)
    own_outer = own_numbers n x sig name h.rest site h.is_rest more within (0, e) (outer_side e low refl)

    own_inner : HasOwnNumber (two_parts h.rest x.member) (boundary n x more) (number n x) (1, e)
    own_inner = own_numbers n x sig name h.rest site h.is_rest more within (1, e) (inner_side e low refl)

    here : JoinsEnds m (number n x (0, e)) (number n x (1, e)) w
    here = subst (λ k. JoinsEnds m k (inner_end n x e) w) (sym (outer_number n x e low)) ends

pub ends_from_have_one_more : EndsFromHaveOneMore
ends_from_have_one_more x e low = record {
  before = ap (λ (b : Bool). cond b false (nat_lt e (length x.member.free))) (lt-ltb e (suc e) (omega arith));
  now = from_is x e e (omega arith) low;
  others = λ d differ. ap (λ (b : Bool). cond b false (nat_lt d (length x.member.free))) (same d differ (let o : (d < e) ⊎ (e < d) = grind (arith, differ) in o));
}
  where
    same : (d : ℕ) → d ≢ e → (d < e) ⊎ (e < d) → nat_lt d e ≡ nat_lt d (suc e)
    same d differ (inl l) = lt-ltb d e l ∙ sym (lt-ltb d (suc e) (omega (arith, l)))
    same d differ (inr l) = le-ltb d e (omega (arith, l)) ∙ sym (le-ltb d (suc e) (omega (arith, l)))

pub ends_from_none_to_all : EndsFromNoneToAll
ends_from_none_to_all x = ((λ e. go e (ends_from x (length x.member.free) e) refl), λ e low. from_is x 0 e (omega arith) low)
  where
    go : (e : ℕ) (b : Bool) → ends_from x (length x.member.free) e ≡ b → ends_from x (length x.member.free) e ≡ false
    go e false h = h
    go e true h = let r = is_from x (length x.member.free) e h in let low = r.0 in let high = r.1 in absurd (omega (arith, low, high))

-- ---- side by side

module _ (sig : Signature) (n : Net ℕ) (x : Redex ℕ ℕ) (name : ℕ → ℕ) (rest : Net ℕ) (site : CanStep sig n x name) (is_rest : IsRestOf sig n x rest) where
  abbrev parts : ℕ → Net ℕ
  parts = two_parts rest x.member

  pub part_back : (i : ℕ) (p q : Point ℕ) → (parts i).partner p ≡ Some q → (parts i).partner q ≡ Some p
  part_back zero p q e = let r = (is_rest.wires p q).0 e in (is_rest.wires q p).1 (r.1, r.0, r.3, r.2, site.net.back r.0 r.1 r.4)
  part_back (suc zero) p q e = site.inside.back p q e
  part_back (suc (suc i)) p q e = cc

  pub part_apart : (i : ℕ) (p : Point ℕ) → (parts i).partner p ≢ Some p
  part_apart zero p e =
      let r = (is_rest.wires p p).0 e in
      let same : r.0 ≡ r.1 = outside_once sig n x name rest site is_rest r.0 r.1 p r.2 r.3 in
      site.net.apart r.1 (ap n.partner (sym same) ∙ r.4)
  part_apart (suc zero) p e = site.inside.apart p e
  part_apart (suc (suc i)) p e = cc

  -- the two points of a wire are at different places of the net side by side
  same_agent : (i a k b l : ℕ) → (q : Point ℕ) → (parts i).partner (Port a k) ≡ Some q → (r : Point ℕ) → (parts i).partner (Port b l) ≡ Some r → old_and_new name i a ≡ old_and_new name i b → a ≡ b
  same_agent zero a k b l q e r f h = h
  same_agent (suc zero) a k b l q e r f h =
      let s = symbol_of sig (x.member.symbol a) k (site.inside.points (Port a k) q e) in
      let t = symbol_of sig (x.member.symbol b) l (site.inside.points (Port b l) r f) in
      site.naming.apart a b s.0 t.0 s.1 t.1 h
  same_agent (suc (suc i)) a k b l q e r f h = cc

  one_spot : (i : ℕ) (p q u : Point ℕ) → (parts i).partner p ≡ Some q → IsAtNumber (number n x) (old_and_new name) i p u → IsAtNumber (number n x) (old_and_new name) i q u → p ≡ q
  one_spot i (Port a k) (Port b l) u e h g =
      let same : Port (old_and_new name i a) k ≡ Port (old_and_new name i b) l = sym h ∙ g in
      let agent = same_agent i a k b l (Port b l) e (Port a k) (part_back i (Port a k) (Port b l) e) (port_agent (old_and_new name i a) (old_and_new name i b) k l same) in
      let place = port_place (old_and_new name i a) (old_and_new name i b) k l same in
      ap (λ (a : ℕ). Port a k) agent ∙ ap (λ (k : ℕ). Port b k) place
  one_spot i (Port a k) (Free f) u e h g = absurd (port_free (old_and_new name i a) k (number n x (i, f)) (sym h ∙ g))
  one_spot i (Free f) (Port b l) u e h g = absurd (port_free (old_and_new name i b) l (number n x (i, f)) (sym g ∙ h))
  one_spot i (Free f) (Free g) u e h k =
      let a = wired_end n x sig name rest site is_rest i f (Free g) e in
      let b = wired_end n x sig name rest site is_rest i g (Free f) (part_back i (Free f) (Free g) e) in
      let same = one_number n x (i, f) (i, g) a b (same_free (number n x (i, f)) (number n x (i, g)) (sym h ∙ k)) in
      ap (λ (z : ℕ × ℕ). Free z.1) same

  beside_leads_back : (m : Net ℕ) → IsBeside parts (old_and_new name) (number n x) m → WiresLeadBack m
  beside_leads_back m beside = (
    (λ u v e. (let r = (beside.wires u v).0 e in (beside.wires v u).1 (r.0, r.2, r.1, r.4, r.3, part_back r.0 r.1 r.2 r.5))),
    (λ u e. (
        let r = (beside.wires u u).0 e in
        let same : r.1 ≡ r.2 = one_spot r.0 r.1 r.2 u r.5 r.3 r.4 in
        part_apart r.0 r.2 (ap (parts r.0).partner (sym same) ∙ r.5)
        )),
  )

  pub has_joined_none : (joined : ℕ → Bool) (m : Net ℕ) → ((e : ℕ) → joined e ≡ false) → IsBeside parts (old_and_new name) (number n x) m → HasJoined sig n x name joined m
  has_joined_none joined m none beside = record {
    rest = rest;
    is_rest = is_rest;
    within = λ e on. absurd (off e on);
    joins = beside_joins_none parts (old_and_new name) (number n x) (boundary n x joined) m (λ p. no_joint p.0 p.1) beside;
    leads_back = beside_leads_back m beside;
  }
    where
      off : (e : ℕ) → joined e ≡ true → ⊥
      off e on = let a : false ≡ true = sym (none e) ∙ on in cc

      no_joint : (i e : ℕ) → across_at joined i e ≡ None
      no_joint zero e = ap (λ (b : Bool). cond {A = Option (ℕ × ℕ)} b (Some (1, e)) None) (none e)
      no_joint (suc zero) e = ap (λ (b : Bool). cond {A = Option (ℕ × ℕ)} b (Some (0, e)) None) (none e)
      no_joint (suc (suc i)) e = refl

pub beside_has_joined_none : BesideHasJoinedNone
beside_has_joined_none sig n x name joined rest m site is_rest none beside = has_joined_none sig n x name rest site is_rest joined m none beside

-- ---- all are joined

module _ (sig : Signature) (n : Net ℕ) (x : Redex ℕ ℕ) (name : ℕ → ℕ) (m : Net ℕ) (site : CanStep sig n x name) (h : HasJoined sig n x name (ends_from x 0) m) where
  abbrev many : ℕ
  many = length x.member.free

  abbrev cuts : Cuts
  cuts = boundary n x (ends_from x 0)

  abbrev At : Spot → Point ℕ → Type 0
  At p u = IsAtNumber (number n x) (old_and_new name) p.0 p.1 u

  abbrev Final : Point ℕ → Point ℕ → Type 0
  Final u v = IsRenumbered (number n x) cuts.outer u v

  -- a free end that no joint takes is one of the net's own
  is_own : (s : Side) (f : ℕ) (u : Point ℕ) → In sig n x name h.rest site h.is_rest s (Free f) u → (IsJointEnd {A = ℕ} cuts (part_of s, Free f) → ⊥) → (k : ℕ) × (k < length n.free) × ◌≡◌ {A = ℕ × ℕ} (part_of s, f) (0, many + k)
  is_own Outer f (Free k) at left = (k, at.0, ap (λ (f : ℕ). (0, f)) (same_free f (many + k) at.1))
  is_own Outer f (Port y i) at left = elim at.1 [
    | inl r ↦ absurd (port_free y i f (sym r.2))
    | inr r ↦ absurd (left (cut_at_end sig n x name h.rest site h.is_rest (ends_from x 0) h.within Outer f (from_is x 0 f (omega arith) (subst (λ d. d < many) (sym (same_free f r.0 r.3)) r.1))))
  ]
  is_own Inner f u at left = absurd (left (cut_at_end sig n x name h.rest site h.is_rest (ends_from x 0) h.within Inner f (from_is x 0 f (omega arith) at.0)))

  -- .. which has its number
  final : (p : Spot) (u : Point ℕ) (s : Side) (z : Point ℕ) → p.0 ≡ part_of s → In sig n x name h.rest site h.is_rest s p.1 z → (IsJointEnd cuts p → ⊥) → At p u → Final u u
  final p u s z is at left here = go p.1 u (subst (λ i. IsAtNumber (number n x) (old_and_new name) i p.1 u) is here) at (subst (λ i. IsJointEnd cuts (i, p.1) → ⊥) is left)
    where
      go : (q u : Point ℕ) → At (part_of s, q) u → In sig n x name h.rest site h.is_rest s q z → (IsJointEnd cuts (part_of s, q) → ⊥) → Final u u
      go (Port a k) u here at left = subst (λ u. Final u u) (sym here) refl
      go (Free f) u here at left =
          let o = is_own s f z at left in
          let number_is : number n x (part_of s, f) ≡ o.0 = ap (number n x) o.2 ∙ own_number n x o.0 in
          subst (λ u. Final u u) (sym here) (o.0, (0, many + o.0), ap (λ (k : ℕ). Free k) number_is, at_own many (length n.free) o.0 o.1, ap (number n x) (sym o.2))

  kept : (u v : Point ℕ) → Final u v → u ≡ v
  kept (Port y i) v f = sym f
  kept (Free a) v f =
      let r = own_at many (length n.free) f.0 f.1 f.3 in
      let number_is : a ≡ f.0 = sym f.4 ∙ ap (number n x) r.0 ∙ own_number n x f.0 in
      ap (λ (a : ℕ). Free a) number_is ∙ sym f.2

  wire_final : (u v : Point ℕ) → m.partner u ≡ Some v → (a b : Point ℕ) × Final a u × Final b v × (m.partner a ≡ Some b)
  wire_final u v e =
      let r = (h.joins.wires u v).0 e in
      let k = unlink sig n x name h.rest site h.is_rest (ends_from x 0) h.within r.0 r.1 r.4 in
      (u, v, final r.0 u k.one k.u k.is_one k.at_one r.4.0 r.2, final r.1 v k.two k.v k.is_two k.at_two r.4.1 r.3, e)

  own : (k : ℕ) (p : ℕ × ℕ) → slice_get cuts.outer k ≡ Some p → HasOwnNumber (two_parts h.rest x.member) cuts (number n x) p
  own k p at =
      let r = own_at many (length n.free) k p at in
      own_numbers n x sig name h.rest site h.is_rest (ends_from x 0) h.within p (own_end k r.1 r.0)

  pub is_step : m.free ≡ n.free → IsStep sig n x name m
  is_step same =
      let renumbers : Renumbers (two_parts h.rest x.member) (number n x) cuts m m = record {
        agents = λ y s. ((λ e. e), (λ e. e));
        wires = λ u v. ((λ e. wire_final u v e), (λ r. ap m.partner (sym (kept r.0 u r.2)) ∙ r.4 ∙ ap (λ (v : Point ℕ). Some v) (kept r.1 v r.3)));
        free = ap (λ ts. map (λ t. Some t) ts) same ∙ sym (free_kept sig n x name h.rest site h.is_rest);
      } in
      stepped sig n x name h.rest site h.is_rest m (all_joined_is_glued (two_parts h.rest x.member) (old_and_new name) (number n x) cuts m m own h.joins renumbers)

-- the ends that are joined are these
joined_are : (x : Redex ℕ ℕ) (joined : ℕ → Bool) → ((e : ℕ) → joined e ≡ true → e < length x.member.free) → ((e : ℕ) → e < length x.member.free → joined e ≡ true) → joined ≡ ends_from x 0
joined_are x joined within all = fun_ext (λ e. go e (joined e) (ends_from x 0 e) refl refl)
  where
    go : (e : ℕ) (b c : Bool) → joined e ≡ b → ends_from x 0 e ≡ c → b ≡ c
    go e true true h g = refl
    go e false false h g = refl
    go e true false h g = sym (from_is x 0 e (omega arith) (within e h)) ∙ g
    go e false true h g = sym h ∙ all e (is_from x 0 e g).1

pub all_joined_is_step : AllJoinedIsStep
all_joined_is_step sig n x name joined m site h all same =
    is_step sig n x name m site (subst (λ f. HasJoined sig n x name f m) (joined_are x joined h.within all) h) same

-- ---- in any order

module _ (sig : Signature) (n : Net ℕ) (x : Redex ℕ ℕ) (name : ℕ → ℕ) (site : CanStep sig n x name) where
  -- the ends that are joined, and this one
  abbrev with_end : (ℕ → Bool) → ℕ → ℕ → Bool
  with_end joined e d = cond (nat_eq d e) true (joined d)

  is_one_end_more : (joined : ℕ → Bool) (e : ℕ) → joined e ≡ false → IsOneEndMore joined (with_end joined e) e
  is_one_end_more joined e h = record {
    before = h;
    now = ap (λ (b : Bool). cond b true (joined e)) (eq-eqb e e refl);
    others = λ d differ. ap (λ (b : Bool). cond b true (joined d)) (ne_eqb d e differ);
  }

  pub in_turn : (es : List ℕ) (joined : ℕ → Bool) (m w : Net ℕ) → HasJoined sig n x name joined m → AreDifferent es → ((e : ℕ) → IsAmong e es → (e < length x.member.free) × (joined e ≡ false)) → ((e : ℕ) → e < length x.member.free → (joined e ≡ true) ⊎ IsAmong e es) →
      JoinsInTurn n x es m w → w.free ≡ n.free → IsStep sig n x name w
  in_turn _ joined m _ h apart left all (no_end _) same = all_joined_is_step sig n x name joined m site h (λ e low. elim (all e low) [ inl on ↦ on | inr a ↦ absurd a ]) same
  in_turn _ joined m w h apart left all (end_first e es _ k _ ends rest) same =
      let here = left e (inl refl) in
      let more = is_one_end_more joined e here.1 in
      let next = ends_are_joined_in_turn sig n x name joined (with_end joined e) e m k site here.0 h more ends in
      in_turn es (with_end joined e) k w next apart.1
      (λ d i. (let l = left d (inr i) in (l.0, more.others d (λ s. among_all (λ y. e ≢ y) es d apart.0 i (sym s)) ∙ l.1)))
      (λ d low. elim (all d low) [
        | inl on ↦ inl (more_joined joined (with_end joined e) e more d on)
        | inr a ↦ elim a [ inl s ↦ inl (ap (with_end joined e) (sym s) ∙ more.now) | inr i ↦ inr i ]
      ])
      rest same
