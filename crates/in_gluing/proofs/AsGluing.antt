-- The net after an interaction is glued from the rest and the right member, and each net glued from them is the net after it.
use Rattle.std.proofs.Common.{◌≡◌, ◌≢◌, ◌⊎◌, ◌+◌, ◌<◌, ◌≤◌, ℕ, zero, suc, Bool, true, false, cond, nat_lt, Some, List, [], ◌∷◌, ◌++◌, length, map, slice_get, refl, sym, subst, ap, ◌∙◌, inl, inr, arith, lt-ltb, ltb-true, ltb-false, le-ltb, append_assoc}
use Rattle.std.proofs.lemmas.List.{length-map}
use Rattle.std.proofs.lemmas.Option.{same_Some}
use Rattle.in_symbols.specs.declared.symbols.PortType.{PortType}
use Rattle.in_net.specs.Interactions.{Redex, Side, Outer, Inner, Alternates, wire_of, IsOfPair, AreJoined, IsStep, end_agent, end_place}
use Rattle.in_net.specs.Nets.{Point, Port, Free, Signature, Net}
use Rattle.in_net.proofs.Public.{end_of_pair}
use Rattle.in_typing.specs.Typed.{opposite}
use Rattle.in_interaction.proofs.Public.{pt_same, through_ends, same_free}
use Rattle.in_gluing.specs.Gluing.{Cuts, IsPlaced, AreLinked, IsGlued}
use Rattle.in_gluing.specs.AsGluing.{IsRestOf, two_parts, old_and_new, own_ends, boundary, ends_from, CanStep, InteractionsAreGluings}
use Rattle.in_gluing.proofs.Frame.{map_some}
use Rattle.in_gluing.proofs.Boundary.{Spot, part_of, In, Stays, GoesThrough, link, unlink, port_in, port_stays}
use Rattle.in_gluing.proofs.Points.{port_free}

-- ---- the boundary ends from one on

pub from_is : (x : Redex ℕ ℕ) (e d : ℕ) → e ≤ d → d < length x.member.free → ends_from x e d ≡ true
from_is x e d h l = go (nat_lt d e) (le-ltb d e h)
  where
    go : (b : Bool) → b ≡ false → cond b false (nat_lt d (length x.member.free)) ≡ true
    go true h = cc
    go false h = lt-ltb d (length x.member.free) l

pub is_from : (x : Redex ℕ ℕ) (e d : ℕ) → ends_from x e d ≡ true → (e ≤ d) × (d < length x.member.free)
is_from x e d h = go (nat_lt d e) (ltb-false d e) h
  where
    go : (b : Bool) → (b ≡ false → e ≤ d) → cond b false (nat_lt d (length x.member.free)) ≡ true → (e ≤ d) × (d < length x.member.free)
    go true f h = cc
    go false f h = (f refl, ltb-true d (length x.member.free) h)

-- ---- the net's own free ends

pub own_at : (first k j : ℕ) (p : ℕ × ℕ) → slice_get (own_ends first k) j ≡ Some p → (p ≡ (0, first + j)) × (j < k)
own_at first zero j p e = cc
own_at first (suc k) zero p e =
    let same : (0, first) ≡ p = same_Some (0, first) p e in
    (sym same ∙ ap (λ (i : ℕ). (0, i)) (let r : first ≡ first + 0 = omega arith in r), omega arith)
own_at first (suc k) (suc j) p e =
    let r = own_at (suc first) k j p e in
    let l = r.1 in
    (r.0 ∙ ap (λ (i : ℕ). (0, i)) (let s : suc first + j ≡ first + suc j = omega arith in s), omega (arith, l))

pub at_own : (first k j : ℕ) → j < k → slice_get (own_ends first k) j ≡ Some (0, first + j)
at_own first zero j l = absurd (omega (arith, l))
at_own first (suc k) zero l = ap (λ (i : ℕ). Some (0, i)) (let r : first ≡ first + 0 = omega arith in r)
at_own first (suc k) (suc j) l = at_own (suc first) k j (omega (arith, l)) ∙ ap (λ (i : ℕ). Some (0, i)) (let s : suc first + j ≡ first + suc j = omega arith in s)

-- the types declared at them
own_types : (free_of : ℕ → List PortType) (zs ys : List PortType) → free_of 0 ≡ zs ++ ys → map (λ p. slice_get (free_of p.0) p.1) (own_ends (length zs) (length ys)) ≡ map (λ t. Some t) ys
own_types free_of zs [] e = refl
own_types free_of zs (y ∷ ys) e =
    let here : slice_get (zs ++ y ∷ ys) (length zs) ≡ Some y = at_length zs y ys in
    let longer : length (zs ++ y ∷ []) ≡ suc (length zs) = one_longer zs y in
    let rest : map (λ p. slice_get (free_of p.0) p.1) (own_ends (length (zs ++ y ∷ [])) (length ys)) ≡ map (λ t. Some t) ys = own_types free_of (zs ++ y ∷ []) ys (e ∙ sym (append_assoc zs (y ∷ []) ys)) in
    let next : map (λ p. slice_get (free_of p.0) p.1) (own_ends (suc (length zs)) (length ys)) ≡ map (λ t. Some t) ys =
    subst (λ k. map (λ p. slice_get (free_of p.0) p.1) (own_ends k (length ys)) ≡ map (λ t. Some t) ys) longer rest in
    ap (λ o. o ∷ map (λ p. slice_get (free_of p.0) p.1) (own_ends (suc (length zs)) (length ys))) (ap (λ ts. slice_get ts (length zs)) e ∙ here) ∙ ap (λ os. Some y ∷ os) next
  where
    at_length : (zs : List PortType) (y : PortType) (ys : List PortType) → slice_get (zs ++ y ∷ ys) (length zs) ≡ Some y
    at_length [] y ys = refl
    at_length (z ∷ zs) y ys = at_length zs y ys

    one_longer : (zs : List PortType) (y : PortType) → length (zs ++ y ∷ []) ≡ suc (length zs)
    one_longer [] y = refl
    one_longer (z ∷ zs) y = ap suc (one_longer zs y)

module _ (sig : Signature) (n : Net ℕ) (x : Redex ℕ ℕ) (name : ℕ → ℕ) (rest : Net ℕ) (site : CanStep sig n x name) (is_rest : IsRestOf sig n x rest) where
  abbrev many : ℕ
  many = length x.member.free

  abbrev parts : ℕ → Net ℕ
  parts = two_parts rest x.member

  pub free_kept : map (λ p. slice_get (parts p.0).free p.1) (own_ends many (length n.free)) ≡ map (λ t. Some t) n.free
  free_kept =
      let same : length (map opposite x.member.free) ≡ many = length-map x.member.free opposite in
      subst (λ k. map (λ p. slice_get (parts p.0).free p.1) (own_ends k (length n.free)) ≡ map (λ t. Some t) n.free) same
      (own_types (λ i. (parts i).free) (map opposite x.member.free) n.free is_rest.free)

  -- ---- agents

  abbrev pub After : ℕ → ℕ → Type 0
  After y s = ((y ≢ x.one) × (y ≢ x.two) × (n.symbol y ≡ Some s)) ⊎ ((k : ℕ) × (name k ≡ y) × (x.member.symbol k ≡ Some s))

  pub agent_forth : (y s : ℕ) → After y s → (i a : ℕ) × (old_and_new name i a ≡ y) × ((parts i).symbol a ≡ Some s)
  agent_forth y s (inl h) = (0, y, refl, (is_rest.agents y s).1 h)
  agent_forth y s (inr h) = (1, h.0, h.1, h.2)

  pub agent_back : (y s : ℕ) (i a : ℕ) → old_and_new name i a ≡ y → (parts i).symbol a ≡ Some s → After y s
  agent_back y s zero a e h = inl (subst (λ z. (z ≢ x.one) × (z ≢ x.two) × (n.symbol z ≡ Some s)) e ((is_rest.agents a s).0 h))
  agent_back y s (suc zero) a e h = inr (a, e, h)
  agent_back y s (suc (suc i)) a e h = cc

  -- ---- wires

  abbrev all : ℕ → Bool
  all = ends_from x 0

  abbrev cuts : Cuts
  cuts = boundary n x all

  within : (e : ℕ) → all e ≡ true → e < many
  within e h = (is_from x 0 e h).1

  abbrev At : Spot → Point ℕ → Type 0
  At p u = IsPlaced cuts (old_and_new name) p.0 p.1 u

  placed : (s : Side) (p u : Point ℕ) → In sig n x name rest site is_rest s p u → Stays sig n x name rest site is_rest u → At (part_of s, p) u
  placed Outer p (Port y i) at h = elim at.1 [
    | inl k ↦ subst (λ p. At (0, p) (Port y i)) (sym k.2) refl
    | inr k ↦ absurd (h (subst (IsOfPair x) k.2 (end_of_pair sig n x name site.net site.inside site.redex site.naming k.0)))
  ]
  placed Outer p (Free k) at h = subst (λ p. At (0, p) (Free k)) (sym at.1) (k, refl, at_own many (length n.free) k at.0)
  placed Inner (Port k i) u at h = sym at.1
  placed Inner (Free e) u at h = absurd (h (subst (IsOfPair x) at.1 (end_of_pair sig n x name site.net site.inside site.redex site.naming e)))

  placed_in : (s : Side) (p u v : Point ℕ) → In sig n x name rest site is_rest s p u → At (part_of s, p) v → (u ≡ v) × Stays sig n x name rest site is_rest u
  placed_in Outer (Port a k) u v at h = (port_in sig n x name rest site is_rest Outer a k u at ∙ sym h, port_stays sig n x name rest site is_rest Outer a k u at)
  placed_in Inner (Port a k) u v at h = (port_in sig n x name rest site is_rest Inner a k u at ∙ sym h, port_stays sig n x name rest site is_rest Inner a k u at)
  placed_in Inner (Free e) u v at h =
      let r : ◌≡◌ {A = ℕ × ℕ} (1, e) (0, many + h.0) = (own_at many (length n.free) h.0 (1, e) h.2).0 in
      let s : 1 ≡ 0 = ap (λ (z : ℕ × ℕ). z.0) r in
      absurd (omega (arith, s))
  placed_in Outer (Free f) u v at h = go u at
    where
      number : f ≡ many + h.0
      number = ap (λ (z : ℕ × ℕ). z.1) (own_at many (length n.free) h.0 (0, f) h.2).0

      go : (u : Point ℕ) → In sig n x name rest site is_rest Outer (Free f) u → (u ≡ v) × Stays sig n x name rest site is_rest u
      go (Port y i) at = elim at.1 [
        | inl k ↦ absurd (port_free y i f (sym k.2))
        | inr k ↦ absurd (let e = same_free f k.0 k.3 in let l = k.1 in let s = number in omega (arith, e, l, s))
      ]
      go (Free k) at =
          let e = same_free f (many + k) at.1 in
          let same : k ≡ h.0 = (let s = number in omega (arith, e, s)) in
          (ap (λ (k : ℕ). Free k) same ∙ sym h.1, λ o. o)

  through_all : (s : Side) (u : Point ℕ) (es : List (Point ℕ)) (v : Point ℕ) → Alternates (wire_of sig n x name) (IsOfPair x) s u es v → GoesThrough sig n x name rest site is_rest all within es
  through_all s u es v w d i =
      let r = through_ends sig n x name site.net site.inside site.redex site.naming s u es v w (Port (end_agent sig x d) (end_place sig x d)) i in
      let same : d ≡ r.0 = pt_same sig n x name site.net site.inside site.redex site.naming d r.0 r.2 in
      from_is x 0 d (omega arith) (subst (λ k. k < many) (sym same) r.1)

  glued_wire : (u v : Point ℕ) → AreJoined sig n x name u v → (p q : Spot) × At p u × At q v × AreLinked parts cuts p q
  glued_wire u v j =
      let l = link sig n x name rest site is_rest all within j.2.0 u j.2.1 v j.0 j.1 j.2.2 (through_all j.2.0 u j.2.1 v j.2.2) in
      ((part_of l.one, l.p), (part_of l.two, l.q), placed l.one l.p u l.at_one j.0, placed l.two l.q v l.at_two j.1, l.linked)

  joined_wire : (u v : Point ℕ) (p q : Spot) → At p u → At q v → AreLinked parts cuts p q → AreJoined sig n x name u v
  joined_wire u v p q hp hq l =
      let r = unlink sig n x name rest site is_rest all within p q l in
      let a = placed_in r.one p.1 r.u u r.at_one (subst (λ i. At (i, p.1) u) r.is_one hp) in
      let b = placed_in r.two q.1 r.v v r.at_two (subst (λ i. At (i, q.1) v) r.is_two hq) in
      subst (λ u. AreJoined sig n x name u v) a.0 (subst (λ v. AreJoined sig n x name r.u v) b.0 (a.1, b.1, (r.one, r.ends, r.way)))

  pub glued : (after : Net ℕ) → IsStep sig n x name after → IsGlued parts (old_and_new name) cuts after
  glued after step = record {
    agents = λ y s. ((λ e. agent_forth y s ((step.agents y s).0 e)), (λ h. (step.agents y s).1 (agent_back y s h.0 h.1 h.2 h.3)));
    wires = λ u v. ((λ e. glued_wire u v ((step.wires u v).0 e)), (λ h. (step.wires u v).1 (joined_wire u v h.0 h.1 h.2 h.3 h.4)));
    free = ap (λ ts. map (λ t. Some t) ts) step.free ∙ sym free_kept;
  }

  pub stepped : (after : Net ℕ) → IsGlued parts (old_and_new name) cuts after → IsStep sig n x name after
  stepped after g = record {
    naming = site.naming;
    agents = λ y s. ((λ e. (let h = (g.agents y s).0 e in agent_back y s h.0 h.1 h.2 h.3)), (λ h. (g.agents y s).1 (agent_forth y s h)));
    wires = λ u v. ((λ e. (let h = (g.wires u v).0 e in joined_wire u v h.0 h.1 h.2 h.3 h.4)), (λ j. (g.wires u v).1 (glued_wire u v j)));
    free = map_some after.free n.free (g.free ∙ free_kept);
  }

pub interactions_are_gluings : InteractionsAreGluings
interactions_are_gluings sig n x name rest after site is_rest = (glued sig n x name rest site is_rest after, stepped sig n x name rest site is_rest after)
