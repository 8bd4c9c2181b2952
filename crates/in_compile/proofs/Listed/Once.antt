-- No point is in two of the listed wires.
use Rattle.std.proofs.Common.{◌≡◌, inl, inr, ◌<◌, ◌+◌, ℕ, true, false, List, [], ◌∷◌, map, Some, slice_get, refl, sym, ap, subst, ◌∙◌, arith}
use Rattle.std.specs.List.{enumerate_from, flat_map}
use Rattle.std.proofs.lemmas.Bool.Decides.{nat_tests}
use Rattle.std.proofs.lemmas.Option.{same_Some}
use Rattle.in_base.specs.Lists.{IsAmong, Pairwise}
use Rattle.in_base.proofs.Among.{of_flat, of_map}
use Rattle.in_symbols.specs.Tables.{Tables}
use Rattle.in_net.specs.Nets.{Net, Point, Port, Free, IsNet, Signature, net_of}
use Rattle.in_net.specs.Parts.{Parts}
use Rattle.in_overwriting.specs.InTurn.{in_two_parts}
use Rattle.in_overwriting.specs.MadeByWires.{LeadsFrom}
use Rattle.in_compile.specs.declared.joints.Joint.{Joint}
use Rattle.in_compile.specs.declared.joints.Joint.TheVariants.{ToAgent, ToBoundary}
use Rattle.in_compile.specs.Laws.{IsOneOf, ShareNone}
use Rattle.in_compile.specs.Members.{AgentParts, MemberParts, IsMemberOf}
use Rattle.in_compile.specs.Wires.{both_points, is_from_first, is_from_lowest, over_of, over_point, point_at, within_of, wires_at}
use Rattle.in_compile.proofs.Listed.Filtered.{among_filter, among_numbered}
use Rattle.in_compile.proofs.Listed.Pairs.{pairs_append, pairs_filter, pairs_map, pairs_numbered, pairs_of}
use Rattle.in_compile.proofs.Listed.Partners.{leads, one_joint}
use Rattle.in_compile.proofs.Listed.WiresOver.{lowest}
use Rattle.in_compile.proofs.Listed.WiresWithin.{listed}

-- ---- the order of places

Before : Joint × Joint → Joint × Joint → Type 0
Before v w = is_from_first (v.0, w.0) ≡ true

-- of two places one is before the other
not_both : (i j : Joint) → is_from_first (i, j) ≡ true → is_from_first (j, i) ≡ true → ⊥
not_both (ToAgent k i) (ToAgent l j) f g = absurd (let e : false ≡ true = grind (arith, nat_tests) in cc)
not_both (ToAgent k i) (ToBoundary e) f g = absurd (let h : false ≡ true = f in cc)
not_both (ToBoundary e) (ToAgent k i) f g = absurd (let h : false ≡ true = f in cc)
not_both (ToBoundary d) (ToBoundary e) f g = absurd (let h : false ≡ true = f in cc)

-- a wire from a first place joins two agents
no_end : (i j : Joint) (e : ℕ) → is_from_first (i, j) ≡ true → ((point_at i ≡ Free e) → ⊥) × ((point_at j ≡ Free e) → ⊥)
no_end (ToAgent k i) (ToAgent l j) e f = ((λ same. let g : Port k i ≡ Free e = same in cc), (λ same. let g : Port l j ≡ Free e = same in cc))
no_end (ToAgent k i) (ToBoundary d) e f = absurd (let h : false ≡ true = f in cc)
no_end (ToBoundary d) j e f = absurd (let h : false ≡ true = f in cc)

-- the places of agents are in their order
places_rise : (k : ℕ) (a : AgentParts) → Pairwise Before (wires_at (k, a))
unfolding Before
places_rise k a =
    pairs_map (λ (x : ℕ × Joint). (ToAgent k x.0, x.1)) Before (enumerate_from 0 a.ends)
    (pairs_of (λ (x y : ℕ × Joint). x.0 < y.0) (λ (x y : ℕ × Joint). Before (ToAgent k x.0, x.1) (ToAgent k y.0, y.1)) (enumerate_from 0 a.ends) (λ x y m n less. grind (arith, nat_tests)) (pairs_numbered 0 a.ends))

agents_rise : (k : ℕ) (xs : List AgentParts) → Pairwise Before (flat_map wires_at (enumerate_from k xs))
unfolding Before
agents_rise k [] = tt
agents_rise k (a ∷ xs) = pairs_append Before (wires_at (k, a)) (flat_map wires_at (enumerate_from (k + 1) xs)) (places_rise k a) (agents_rise (k + 1) xs) between
  where
    between : (v w : Joint × Joint) → IsAmong v (wires_at (k, a)) → IsAmong w (flat_map wires_at (enumerate_from (k + 1) xs)) → Before v w
    between v w here later =
        let x = of_map (λ (x : ℕ × Joint). (ToAgent k x.0, x.1)) (enumerate_from 0 a.ends) v here in
        let b = of_flat wires_at (enumerate_from (k + 1) xs) w later in
        let number = (among_numbered (k + 1) xs b.0.0 b.0.1 b.1).1 in
        let y = of_map (λ (y : ℕ × Joint). (ToAgent b.0.0 y.0, y.1)) (enumerate_from 0 b.0.1.ends) w b.2 in
        let less : k < b.0.0 = omega (arith, number) in
        let before : is_from_first (ToAgent k x.0.0, ToAgent b.0.0 y.0.0) ≡ true = grind (arith, nat_tests) in
        subst (λ (i : Joint). is_from_first (i, w.0) ≡ true) (ap (λ (z : Joint × Joint). z.0) x.2) (subst (λ (j : Joint). is_from_first (ToAgent k x.0.0, j) ≡ true) (ap (λ (z : Joint × Joint). z.0) y.2) before)

-- ---- wires apart

ends_apart : (d e : ℕ) → d < e → (p : Point ℕ) → p ≡ Free d → p ≡ Free e → ⊥
ends_apart d e less p a b =
    let one : Point ℕ = Free d in
    let other : Point ℕ = Free e in
    let both : one ≡ other = sym a ∙ b in
    let same : d ≡ e = cc in
    omega (arith, same, less)

module _ (t : Tables) (n : Parts) (m : MemberParts) (of : IsMemberOf t n m) (sig : Signature) (is_net : IsNet sig (net_of n)) where
  abbrev net : Net ℕ
  net = net_of n

  abbrev over_wire : ℕ × Joint → Point ℕ × Point ℕ
  over_wire w = (Free w.0, point_at w.1)

  -- a point has one partner
  one_partner : (p q r : Point ℕ) → net.partner p ≡ Some q → net.partner p ≡ Some r → q ≡ r
  one_partner p q r f g = same_Some q r (sym f ∙ g)

  -- ---- of the first list

  leads_from : (w : ℕ × Joint) → IsAmong w (over_of m) → LeadsFrom net w.0 (point_at w.1)
  leads_from w h =
      let passed = among_filter is_from_lowest (enumerate_from 0 m.joints) w h in
      let at = among_numbered 0 m.joints w.0 w.1 passed.0 in
      let number = at.1 in
      let end : at.0 ≡ w.0 = omega (arith, number) in
      let joint : slice_get m.joints w.0 ≡ Some w.1 = ap (slice_get m.joints) (sym end) ∙ at.2 in
      record { wire = leads t n m of (ToBoundary w.0) w.1 joint; lowest = lowest w.0 w.1 passed.1 }

  over_apart : (v w : ℕ × Joint) → IsAmong v (over_of m) → IsAmong w (over_of m) → v.0 < w.0 → ShareNone (over_wire v) (over_wire w)
  over_apart v w here there less p = go
    where
      one : LeadsFrom net v.0 (point_at v.1)
      one = leads_from v here

      other : LeadsFrom net w.0 (point_at w.1)
      other = leads_from w there

      -- a wire from the second end leads to no lower one
      not_back : (q : Point ℕ) → net.partner (Free w.0) ≡ Some q → q ≡ Free v.0 → ⊥
      not_back q wire same =
          let low = other.lowest v.0 (one_partner (Free w.0) (point_at w.1) q other.wire wire ∙ same) in
          omega (arith, low, less)

      go : IsOneOf p (over_wire v) → IsOneOf p (over_wire w) → ⊥
      go (inl a) (inl b) = ends_apart v.0 w.0 less p a b
      go (inl a) (inr b) = not_back (point_at w.1) other.wire (sym b ∙ a)
      go (inr a) (inl b) = not_back (Free v.0) (subst (λ (q : Point ℕ). net.partner q ≡ Some (Free v.0)) (sym a ∙ b) (is_net.back (Free v.0) (point_at v.1) one.wire)) refl
      go (inr a) (inr b) =
          ends_apart v.0 w.0 less (Free v.0) refl (one_partner p (Free v.0) (Free w.0) (subst (λ (q : Point ℕ). net.partner q ≡ Some (Free v.0)) (sym a) (is_net.back (Free v.0) (point_at v.1) one.wire))
          (subst (λ (q : Point ℕ). net.partner q ≡ Some (Free w.0)) (sym b) (is_net.back (Free w.0) (point_at w.1) other.wire)))

  -- ---- of the second one

  joined : (w : Joint × Joint) → IsAmong w (within_of m) → net.partner (point_at w.0) ≡ Some (point_at w.1)
  joined w h = leads t n m of w.0 w.1 (listed m w h).0

  within_apart : (v w : Joint × Joint) → IsAmong v (within_of m) → IsAmong w (within_of m) → Before v w → ShareNone (both_points v) (both_points w)
  unfolding Before
  within_apart v w here there before p = go
    where
      one : net.partner (point_at v.0) ≡ Some (point_at v.1)
      one = joined v here

      other : net.partner (point_at w.0) ≡ Some (point_at w.1)
      other = joined w there

      first_of : is_from_first (v.0, v.1) ≡ true
      first_of = (listed m v here).1

      other_first : is_from_first (w.0, w.1) ≡ true
      other_first = (listed m w there).1

      same_first : point_at v.0 ≡ point_at w.0 → ⊥
      same_first same =
          let joint = one_joint v.0 w.0 same in
          let itself : is_from_first (w.0, w.0) ≡ true = subst (λ (i : Joint). is_from_first (i, w.0) ≡ true) joint before in
          not_both w.0 w.0 itself itself

      -- one wire in both directions
      turned : point_at v.0 ≡ point_at w.1 → point_at v.1 ≡ point_at w.0 → ⊥
      turned a b =
          let f = one_joint v.0 w.1 a in
          let g = one_joint v.1 w.0 b in
          let back : is_from_first (w.1, w.0) ≡ true = subst (λ (i : Joint). is_from_first (i, w.0) ≡ true) f (subst (λ (j : Joint). is_from_first (v.0, j) ≡ true) g first_of) in
          not_both w.0 w.1 other_first back

      go : IsOneOf p (both_points v) → IsOneOf p (both_points w) → ⊥
      go (inl a) (inl b) = same_first (sym a ∙ b)
      go (inl a) (inr b) =
          let same : point_at v.0 ≡ point_at w.1 = sym a ∙ b in
          let to : net.partner (point_at v.0) ≡ Some (point_at w.0) = ap net.partner same ∙ is_net.back (point_at w.0) (point_at w.1) other in
          turned same (one_partner (point_at v.0) (point_at v.1) (point_at w.0) one to)
      go (inr a) (inl b) =
          let same : point_at v.1 ≡ point_at w.0 = sym a ∙ b in
          let to : net.partner (point_at w.0) ≡ Some (point_at v.0) = ap net.partner (sym same) ∙ is_net.back (point_at v.0) (point_at v.1) one in
          turned (one_partner (point_at w.0) (point_at v.0) (point_at w.1) to other) same
      go (inr a) (inr b) =
          let same : point_at v.1 ≡ point_at w.1 = sym a ∙ b in
          let to : net.partner (point_at v.1) ≡ Some (point_at w.0) = ap net.partner same ∙ is_net.back (point_at w.0) (point_at w.1) other in
          same_first (one_partner (point_at v.1) (point_at v.0) (point_at w.0) (is_net.back (point_at v.0) (point_at v.1) one) to)

  -- ---- of both

  both_apart : (v : ℕ × Joint) (w : Joint × Joint) → IsAmong v (over_of m) → IsAmong w (within_of m) → ShareNone (over_wire v) (both_points w)
  both_apart v w here there p = go
    where
      one : LeadsFrom net v.0 (point_at v.1)
      one = leads_from v here

      other : net.partner (point_at w.0) ≡ Some (point_at w.1)
      other = joined w there

      none : ((point_at w.0 ≡ Free v.0) → ⊥) × ((point_at w.1 ≡ Free v.0) → ⊥)
      none = no_end w.0 w.1 v.0 (listed m w there).1

      back : net.partner (point_at v.1) ≡ Some (Free v.0)
      back = is_net.back (Free v.0) (point_at v.1) one.wire

      go : IsOneOf p (over_wire v) → IsOneOf p (both_points w) → ⊥
      go (inl a) (inl b) = none.0 (sym b ∙ a)
      go (inl a) (inr b) = none.1 (sym b ∙ a)
      go (inr a) (inl b) = none.1 (one_partner (point_at w.0) (point_at w.1) (Free v.0) other (ap net.partner (sym b ∙ a) ∙ back))
      go (inr a) (inr b) = none.0 (one_partner (point_at w.1) (point_at w.0) (Free v.0) (is_net.back (point_at w.0) (point_at w.1) other) (ap net.partner (sym b ∙ a) ∙ back))

  over_once : Pairwise ShareNone (map (λ (w : ℕ × Point ℕ). (Free w.0, w.1)) (map over_point (over_of m)))
  over_once =
      pairs_map (λ (w : ℕ × Point ℕ). (Free w.0, w.1)) ShareNone (map over_point (over_of m))
      (pairs_map over_point (λ (v w : ℕ × Point ℕ). ShareNone (Free v.0, v.1) (Free w.0, w.1)) (over_of m)
      (pairs_of (λ (v w : ℕ × Joint). v.0 < w.0) (λ (v w : ℕ × Joint). ShareNone (over_wire v) (over_wire w)) (over_of m) over_apart
      (pairs_filter (λ (v w : ℕ × Joint). v.0 < w.0) is_from_lowest (enumerate_from 0 m.joints) (pairs_numbered 0 m.joints))))

  within_once : Pairwise ShareNone (map both_points (within_of m))
  within_once =
      pairs_map both_points ShareNone (within_of m)
      (pairs_of Before (λ (v w : Joint × Joint). ShareNone (both_points v) (both_points w)) (within_of m) within_apart
      (pairs_filter Before is_from_first (flat_map wires_at (enumerate_from 0 m.agents)) (agents_rise 0 m.agents)))

  between : (v w : Point ℕ × Point ℕ) → IsAmong v (map (λ (w : ℕ × Point ℕ). (Free w.0, w.1)) (map over_point (over_of m))) → IsAmong w (map both_points (within_of m)) → ShareNone v w
  between v w here there =
      let x = of_map (λ (w : ℕ × Point ℕ). (Free w.0, w.1)) (map over_point (over_of m)) v here in
      let y = of_map over_point (over_of m) x.0 x.1 in
      let z = of_map both_points (within_of m) w there in
      let first : over_wire y.0 ≡ v = ap (λ (w : ℕ × Point ℕ). (Free w.0, w.1)) y.2 ∙ x.2 in
      subst (λ (w : Point ℕ × Point ℕ). ShareNone v w) z.2 (subst (λ (v : Point ℕ × Point ℕ). ShareNone v (both_points z.0)) first (both_apart y.0 z.0 y.1 z.1))

  pub listed_once : Pairwise ShareNone (in_two_parts (map over_point (over_of m)) (map both_points (within_of m)))
  listed_once = pairs_append ShareNone (map (λ (w : ℕ × Point ℕ). (Free w.0, w.1)) (map over_point (over_of m))) (map both_points (within_of m)) over_once within_once between
