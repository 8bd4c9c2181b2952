-- The wires within the agents are listed.
use Rattle.std.proofs.Common.{◌≡◌, ◌⊎◌, inl, inr, ◌<◌, ℕ, true, Option, Some, None, map, slice_get, refl, sym, ap, subst, ◌∙◌, arith}
use Rattle.std.specs.Prelude.{option_and_then}
use Rattle.std.specs.List.{enumerate_from, flat_map}
use Rattle.std.proofs.lemmas.Bool.Decides.{nat_tests}
use Rattle.in_base.specs.Lists.{IsAmong}
use Rattle.in_base.proofs.Among.{in_flat, in_map, of_flat, of_map}
use Rattle.in_symbols.specs.Tables.{Tables}
use Rattle.in_net.specs.Nets.{Net, Point, Port, IsNet, Signature, net_of}
use Rattle.in_net.specs.Parts.{Parts}
use Rattle.in_overwriting.specs.InTurn.{AreWiresWithin}
use Rattle.in_compile.specs.declared.joints.Joint.{Joint}
use Rattle.in_compile.specs.declared.joints.Joint.TheVariants.{ToAgent}
use Rattle.in_compile.specs.Members.{AgentParts, MemberParts, IsMemberOf, joint_at}
use Rattle.in_compile.specs.Wires.{both_points, is_from_first, within_of, wires_at}
use Rattle.in_compile.proofs.Listed.Filtered.{among_filter, among_numbered, in_filter, in_numbered}
use Rattle.in_compile.proofs.Listed.Partners.{joins, leads, one_joint}

-- ---- listed wires

module _ (m : MemberParts) where
  -- a listed wire leads from its first place
  pub listed : (w : Joint × Joint) → IsAmong w (within_of m) → (joint_at m w.0 ≡ Some w.1) × (is_from_first w ≡ true)
  listed w h = (go in_turn.1 in_turn.2, passed.1)
    where
      passed : IsAmong w (flat_map wires_at (enumerate_from 0 m.agents)) × (is_from_first w ≡ true)
      passed = among_filter is_from_first (flat_map wires_at (enumerate_from 0 m.agents)) w h

      in_turn : (x : ℕ × AgentParts) × IsAmong x (enumerate_from 0 m.agents) × IsAmong w (wires_at x)
      in_turn = of_flat wires_at (enumerate_from 0 m.agents) w passed.0

      go : IsAmong in_turn.0 (enumerate_from 0 m.agents) → IsAmong w (wires_at in_turn.0) → joint_at m w.0 ≡ Some w.1
      go agent wire =
          let k = in_turn.0.0 in
          let a = in_turn.0.1 in
          let at = among_numbered 0 m.agents k a agent in
          let number = at.1 in
          let own : at.0 ≡ k = omega (arith, number) in
          let place = of_map (λ (x : ℕ × Joint). (ToAgent k x.0, x.1)) (enumerate_from 0 a.ends) w wire in
          let i = place.0.0 in
          let j = place.0.1 in
          let there = among_numbered 0 a.ends i j place.1 in
          let place_number = there.1 in
          let own_place : there.0 ≡ i = omega (arith, place_number) in
          let here : slice_get m.agents k ≡ Some a = ap (slice_get m.agents) (sym own) ∙ at.2 in
          let end : slice_get a.ends i ≡ Some j = ap (slice_get a.ends) (sym own_place) ∙ there.2 in
          let joint : joint_at m (ToAgent k i) ≡ Some j = ap (λ (o : Option AgentParts). option_and_then (λ (a : AgentParts). slice_get a.ends i) o) here ∙ end in
          subst (λ (w : Joint × Joint). joint_at m w.0 ≡ Some w.1) place.2 joint

  -- the wire at a place of an agent is listed if that is its first one
  pub is_listed : (k i : ℕ) (j : Joint) → joint_at m (ToAgent k i) ≡ Some j → is_from_first (ToAgent k i, j) ≡ true → IsAmong (ToAgent k i, j) (within_of m)
  is_listed k i j joint first = go (slice_get m.agents k) refl joint
    where
      go : (o : Option AgentParts) → slice_get m.agents k ≡ o → option_and_then (λ (a : AgentParts). slice_get a.ends i) o ≡ Some j → IsAmong (ToAgent k i, j) (within_of m)
      go None is at = absurd (let e : None ≡ Some j = at in cc)
      go (Some a) is at =
          let agent = in_numbered 0 m.agents k k a (omega arith) is in
          let place = in_map (λ (x : ℕ × Joint). (ToAgent k x.0, x.1)) (enumerate_from 0 a.ends) (i, j) (in_numbered 0 a.ends i i j (omega arith) at) in
          in_filter is_from_first (flat_map wires_at (enumerate_from 0 m.agents)) (ToAgent k i, j) (in_flat wires_at (enumerate_from 0 m.agents) (k, a) (ToAgent k i, j) agent place) first

-- ---- one of two places is the first

either_first : (k i l j : ℕ) → (Port k i ≡ Port l j → ⊥) → (is_from_first (ToAgent k i, ToAgent l j) ≡ true) ⊎ (is_from_first (ToAgent l j, ToAgent k i) ≡ true)
either_first k i l j apart = go (let o : (k < l) ⊎ ((l < k) ⊎ (k ≡ l)) = grind arith in o) (let o : (i < j) ⊎ ((j < i) ⊎ (i ≡ j)) = grind arith in o)
  where
    go : (k < l) ⊎ ((l < k) ⊎ (k ≡ l)) → (i < j) ⊎ ((j < i) ⊎ (i ≡ j)) → (is_from_first (ToAgent k i, ToAgent l j) ≡ true) ⊎ (is_from_first (ToAgent l j, ToAgent k i) ≡ true)
    go (inl less) o = inl (grind (arith, nat_tests))
    go (inr (inl more)) o = inr (grind (arith, nat_tests))
    go (inr (inr same)) (inl less) = inl (grind (arith, nat_tests))
    go (inr (inr same)) (inr (inl more)) = inr (grind (arith, nat_tests))
    go (inr (inr same)) (inr (inr equal)) = absurd (apart (λ n. Port (same n) (equal n)))

module _ (t : Tables) (n : Parts) (m : MemberParts) (of : IsMemberOf t n m) (sig : Signature) (is_net : IsNet sig (net_of n)) where
  abbrev net : Net ℕ
  net = net_of n

  wire : (p q : Point ℕ) → IsAmong (p, q) (map both_points (within_of m)) → net.partner p ≡ Some q
  wire p q h =
      let w = of_map both_points (within_of m) (p, q) h in
      let at = (listed m w.0 w.1).0 in
      let is = leads t n m of w.0.0 w.0.1 at in
      subst (λ (v : Point ℕ × Point ℕ). net.partner v.0 ≡ Some v.1) w.2 is

  from_first : (k l i j : ℕ) → net.partner (Port k i) ≡ Some (Port l j) → is_from_first (ToAgent k i, ToAgent l j) ≡ true → IsAmong (Port k i, Port l j) (map both_points (within_of m))
  from_first k l i j wire first =
      let to = joins t n m of (ToAgent k i) (Port l j) wire in
      let joint : to.0 ≡ ToAgent l j = one_joint to.0 (ToAgent l j) to.2 in
      let at : joint_at m (ToAgent k i) ≡ Some (ToAgent l j) = to.1 ∙ ap (λ (j : Joint). Some j) joint in
      in_map both_points (within_of m) (ToAgent k i, ToAgent l j) (is_listed m k i (ToAgent l j) at first)

  all : (k l i j : ℕ) → net.partner (Port k i) ≡ Some (Port l j) → IsAmong (Port k i, Port l j) (map both_points (within_of m)) ⊎ IsAmong (Port l j, Port k i) (map both_points (within_of m))
  all k l i j wire = go (either_first k i l j (λ same. is_net.apart (Port k i) (wire ∙ ap (λ (p : Point ℕ). Some p) (sym same))))
    where
      go : (is_from_first (ToAgent k i, ToAgent l j) ≡ true) ⊎ (is_from_first (ToAgent l j, ToAgent k i) ≡ true) → IsAmong (Port k i, Port l j) (map both_points (within_of m)) ⊎ IsAmong (Port l j, Port k i) (map both_points (within_of m))
      go (inl first) = inl (from_first k l i j wire first)
      go (inr first) = inr (from_first l k j i (is_net.back (Port k i) (Port l j) wire) first)

  pub wires_within : AreWiresWithin (net_of n) (map both_points (within_of m))
  wires_within = record { wire = wire; all = all }
