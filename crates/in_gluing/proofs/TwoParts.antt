-- The rest is a net, and it is cut from the right member at free ends of opposite types.
use Rattle.std.proofs.Common.{◌≡◌, ◌≢◌, ◌+◌, ◌-◌, ◌<◌, ◌≤◌, ℕ, zero, suc, Bool, true, false, cond, Option, Some, None, IsSome, IsSomeAnd, ◌++◌, length, map, slice_get, refl, sym, subst, ap, ◌∙◌, inl, inr, arith}
use Rattle.std.proofs.lemmas.List.{length-append, length-map}
use Rattle.in_symbols.specs.declared.symbols.PortType.{PortType}
use Rattle.in_base.proofs.Places.{kept_at, some_same, to_mapped, is_some}
use Rattle.in_net.specs.Interactions.{Redex, Side, Outer, Inner, other, end_agent, end_place}
use Rattle.in_net.specs.Nets.{Point, Port, Free, Signature, Net, IsPoint, IsNet}
use Rattle.in_net.proofs.Public.{symbol_of}
use Rattle.in_typing.specs.Typed.{opposite}
use Rattle.in_typing.proofs.Public.{opposite_twice}
use Rattle.in_interaction.proofs.Public.{has_value}
use Rattle.in_gluing.proofs.Helpers.{cases_le}
use Rattle.in_gluing.specs.Gluing.{AreCuts}
use Rattle.in_gluing.specs.AsGluing.{IsInRest, IsRestOf, two_parts, across_at, boundary, all_ends, CanStep, RestIsNet, BoundaryIsCut}
use Rattle.in_gluing.proofs.AsGluing.{from_is, is_from, own_at, at_own}
use Rattle.in_gluing.proofs.Boundary.{part_of, across_is, next_outer, at_end}
use Rattle.in_gluing.proofs.EndByEnd.{joints_back, part_back, part_apart}
use Rattle.in_gluing.proofs.EndNumbers.{joint_at}
use Rattle.in_gluing.proofs.Points.{none_some}

module _ (sig : Signature) (n : Net ℕ) (x : Redex ℕ ℕ) (rest : Net ℕ) (is_rest : IsRestOf sig n x rest) where
  abbrev many : ℕ
  many = length x.member.free

  ends_rest : length rest.free ≡ many + length n.free
  ends_rest =
      let all : length (map opposite x.member.free ++ n.free) ≡ length (map opposite x.member.free) + length n.free = length-append (map opposite x.member.free) n.free in
      ap length is_rest.free ∙ all ∙ ap (λ k. k + length n.free) (length-map x.member.free opposite)

  module _ (name : ℕ → ℕ) (site : CanStep sig n x name) where
    wired : (p u : Point ℕ) → IsPoint sig n u → IsInRest sig x u p → IsSome (rest.partner p)
    wired p u h at =
        let v = has_value (n.partner u) (site.net.joined u h) in
        let q = next_outer sig n x name rest site is_rest p u v.0 (h, at) v.1 in
        is_some (rest.partner p) q.0 q.2

    joined : (p : Point ℕ) → IsPoint sig rest p → IsSome (rest.partner p)
    joined (Port y i) h =
        let s = symbol_of sig (rest.symbol y) i h in
        let r = (is_rest.agents y s.0).0 s.1 in
        let there : IsPoint sig n (Port y i) = subst (λ o. IsSomeAnd o (λ s. i ≤ sig.arity s)) (s.1 ∙ sym r.2) h in
        wired (Port y i) (Port y i) there (inl (r.0, r.1, refl))
    joined (Free f) h = elim (cases_le f many) [
      | inl l ↦ (let e = at_end sig n x name rest site is_rest Outer f l in wired (Free f) (Port (end_agent sig x f) (end_place sig x f)) e.0 e.1)
      | inr l ↦ (
          let all = ends_rest in
          let low : f - many < length n.free = omega (arith, l, h, all) in
          let same : f ≡ many + (f - many) = omega (arith, l) in
          wired (Free f) (Free (f - many)) low (ap (λ (f : ℕ). Free f) same)
          )
    ]

    point_of : (u p : Point ℕ) → IsPoint sig n u → IsInRest sig x u p → IsPoint sig rest p
    point_of (Port y i) p h (inl r) =
        let s = symbol_of sig (n.symbol y) i h in
        let now : rest.symbol y ≡ Some s.0 = (is_rest.agents y s.0).1 (r.0, r.1, s.1) in
        subst (IsPoint sig rest) (sym r.2) (subst (λ o. IsSomeAnd o (λ s. i ≤ sig.arity s)) (s.1 ∙ sym now) h)
    point_of (Port y i) p h (inr r) = subst (IsPoint sig rest) (sym r.3) (let all = ends_rest in let l = r.1 in omega (arith, all, l))
    point_of (Free k) p h r = subst (IsPoint sig rest) (sym r) (let all = ends_rest in omega (arith, all, h))

    is_net : IsNet sig rest
    is_net = record {
      agents = site.net.agents;
      all = λ y h. (let s = has_value (rest.symbol y) h in site.net.all y (is_some (n.symbol y) s.0 ((is_rest.agents y s.0).0 s.1).2));
      joined = joined;
      points = λ p q e. (let r = (is_rest.wires p q).0 e in point_of r.0 p (site.net.points r.0 r.1 r.4) r.2);
      back = part_back sig n x name rest site is_rest 0;
      apart = part_apart sig n x name rest site is_rest 0;
    }

  -- ---- the cut

  abbrev parts : ℕ → Net ℕ
  parts = two_parts rest x.member

  abbrev all : ℕ → Bool
  all = all_ends x

  is_end : (e : ℕ) → e < many → all e ≡ true
  is_end e l = from_is x 0 e (omega arith) l

  below : (s : Side) (e : ℕ) → e < many → e < length (parts (part_of s)).free
  below Outer e l = let k = ends_rest in omega (arith, k, l)
  below Inner e l = l

  -- the types declared on the two sides of a boundary end
  rest_type : (e : ℕ) (t : PortType) → slice_get x.member.free e ≡ Some t → slice_get rest.free e ≡ Some (opposite t)
  rest_type e t h = ap (λ ts. slice_get ts e) is_rest.free ∙ kept_at (map opposite x.member.free) n.free e (opposite t) (to_mapped opposite x.member.free e t h)

  types : (side : Side) (e : ℕ) (s t : PortType) → e < many → slice_get (parts (part_of side)).free e ≡ Some s → slice_get (parts (part_of (other side))).free e ≡ Some t → t ≡ opposite s
  types Outer e s t l h g =
      let same : s ≡ opposite t = some_same (slice_get rest.free e) s (opposite t) h (rest_type e t g) in
      sym (opposite_twice t) ∙ ap opposite (sym same)
  types Inner e s t l h g = some_same (slice_get rest.free e) t (opposite s) g (rest_type e s h)

  one_part : (s : Side) (e : ℕ) → ◌≢◌ {A = ℕ × ℕ} (part_of s, e) (part_of (other s), e)
  one_part Outer e h = let k = ap (λ (z : ℕ × ℕ). z.0) h in omega (arith, k)
  one_part Inner e h = let k = ap (λ (z : ℕ × ℕ). z.0) h in omega (arith, k)

  -- a free end that isn't joined is one of the net's own
  left_over : (i e : ℕ) → across_at all i e ≡ None → e < length (parts i).free → (k : ℕ) × (k < length n.free) × ◌≡◌ {A = ℕ × ℕ} (i, e) (0, many + k)
  left_over zero e h l = elim (cases_le e many) [
    | inl low ↦ absurd (none_some (across_at all 0 e) (1, e) h (across_is all Outer e (is_end e low)))
    | inr high ↦ (
        let k = ends_rest in
        (e - many, omega (arith, k, l, high), ap (λ (e : ℕ). (0, e)) (let same : e ≡ many + (e - many) = omega (arith, high) in same))
        )
  ]
  left_over (suc zero) e h l = absurd (none_some (across_at all 1 e) (0, e) h (across_is all Inner e (is_end e l)))
  left_over (suc (suc i)) e h l = absurd (omega (arith, l))

  -- .. and those aren't joined
  own_left : (k : ℕ) → across_at all 0 (many + k) ≡ None
  own_left k = ap (λ (b : Bool). cond {A = Option (ℕ × ℕ)} b (Some (1, many + k)) None) (off (all (many + k)) refl)
    where
      off : (b : Bool) → all (many + k) ≡ b → all (many + k) ≡ false
      off false h = h
      off true h = let l = (is_from x 0 (many + k) h).1 in absurd (omega (arith, l))

  -- a joint, by its side
  at_joint : (i e : ℕ) (q : ℕ × ℕ) → across_at all i e ≡ Some q → (s : Side) × (i ≡ part_of s) × (e < many) × (q ≡ (part_of (other s), e))
  at_joint i e q h = let j = joint_at all (i, e) q h in (j.0, ap (λ (z : ℕ × ℕ). z.0) j.1, (is_from x 0 e j.2).1, j.3)

  opposite_types : (i e j f : ℕ) (s t : PortType) → across_at all i e ≡ Some (j, f) → slice_get (parts i).free e ≡ Some s → slice_get (parts j).free f ≡ Some t → t ≡ opposite s
  opposite_types i e j f s t h one two =
      let a = at_joint i e (j, f) h in
      let here : slice_get (parts (part_of a.0)).free e ≡ Some s = subst (λ i. slice_get (parts i).free e ≡ Some s) a.1 one in
      let there : slice_get (parts (part_of (other a.0))).free e ≡ Some t = subst (λ (q : ℕ × ℕ). slice_get (parts q.0).free q.1 ≡ Some t) a.3 two in
      types a.0 e s t a.2 here there

  is_cut : AreCuts parts (boundary n x all)
  is_cut = record {
    back = joints_back all;
    apart = λ p h. (let a = at_joint p.0 p.1 p h in one_part a.0 p.1 (ap (λ (i : ℕ). (i, p.1)) (sym a.1) ∙ a.3));
    within = λ i e h. (
        let q = has_value (across_at all i e) h in
        let a = at_joint i e q.0 q.1 in
        subst (λ i. e < length (parts i).free) (sym a.1) (below a.0 e a.2)
        );
    opposite_types = opposite_types;
    stay = λ k i e h. (
        let r = own_at many (length n.free) k (i, e) h in
        let l = r.1 in
        let ends = ends_rest in
        let low : many + k < length rest.free = omega (arith, l, ends) in (
          ap (λ (z : ℕ × ℕ). across_at all z.0 z.1) r.0 ∙ own_left k,
          subst (λ (z : ℕ × ℕ). z.1 < length (parts z.0).free) (sym r.0) low,
        )
        );
    once = λ k l p h g. (
        let a = (own_at many (length n.free) k p h).0 in
        let b = (own_at many (length n.free) l p g).0 in
        let same : many + k ≡ many + l = ap (λ (z : ℕ × ℕ). z.1) (sym a ∙ b) in
        omega (arith, same)
        );
    all = λ i e h l. (let o = left_over i e h l in (o.0, at_own many (length n.free) o.0 o.1 ∙ ap (λ (z : ℕ × ℕ). Some z) (sym o.2)));
  }

pub rest_is_net : RestIsNet
rest_is_net sig n x name rest site is_rest = is_net sig n x rest is_rest name site

pub boundary_is_cut : BoundaryIsCut
boundary_is_cut sig n x rest is_rest = is_cut sig n x rest is_rest
