-- A turn of a path: the point to which it continues.
use Rattle.std.proofs.Common.{◌≡◌, ◌<◌, ◌≤◌, ◌+◌, ◌-◌, ℕ, suc, Some, None, List, length, slice_get, get_or, subst, ap, ◌∙◌, arith}
use Rattle.std.proofs.lemmas.Option.{get_or_from_slice_get}
use Rattle.in_base.proofs.Places.{some_same}
use Rattle.in_net.specs.declared.nets.AgentNo.{AgentNo}
use Rattle.in_net.specs.declared.nets.Point.{Point}
use Rattle.in_net.specs.declared.nets.Point.TheVariants.{Port, Free}
use Rattle.in_net.specs.Parts.{IsWhole, partner_in}
use Rattle.in_net.proofs.Public.{has_partner}
use Rattle.in_interaction.specs.Following.{SiteParts, end_of, port_of, most_turns, OnInner, OnEnd, Lands}

module _ (s : SiteParts) where
  abbrev To : ℕ → Point → Point → Type 0
  To k at v = Lands s k at v

  turn_more : (turn : ℕ) (at v : Point) → turn < most_turns → To (most_turns - turn) at v → To (suc (most_turns - (turn + 1))) at v
  turn_more turn at v h l = let e : most_turns - turn ≡ suc (most_turns - (turn + 1)) = omega arith in subst (λ (k : ℕ). To k at v) e l

  pub no_more : (turn : ℕ) (at v : Point) → most_turns ≤ turn → To (most_turns - turn) at v → ⊥
  unfolding Lands
  no_more turn at v h l = let e : most_turns - turn ≡ 0 = omega arith in subst (λ (k : ℕ). To k at v) e l

  pub at_none : (turn : ℕ) (at v : Point) → turn < most_turns → To (most_turns - turn) at v → end_of s.one s.two s.first at ≡ None → at ≡ v
  unfolding Lands
  at_none turn at v h l e = subst (OnEnd s (λ r. To (most_turns - (turn + 1)) r v) at v) e (turn_more turn at v h l)

  at_some : (turn : ℕ) (at v : Point) → turn < most_turns → To (most_turns - turn) at v → (e : ℕ) → end_of s.one s.two s.first at ≡ Some e → OnEnd s (λ r. To (most_turns - (turn + 1)) r v) at v (Some e)
  unfolding Lands
  at_some turn at v h l e is = subst (OnEnd s (λ r. To (most_turns - (turn + 1)) r v) at v) is (turn_more turn at v h l)

  pub end_within : (turn : ℕ) (at v : Point) → turn < most_turns → To (most_turns - turn) at v → (e : ℕ) → end_of s.one s.two s.first at ≡ Some e → e < length s.rule.member.free
  end_within turn at v h l e is = let q = at_some turn at v h l e is in has_partner s.rule.member (Free e) q.0 q.1

  at_inner : (turn : ℕ) (at v : Point) → turn < most_turns → To (most_turns - turn) at v → (e : ℕ) (q : Point) → end_of s.one s.two s.first at ≡ Some e → partner_in s.rule.member (Free e) ≡ Some q → OnInner s (λ r. To (most_turns - (turn + 1)) r v) v q
  at_inner turn at v h l e q is inner =
      let r = at_some turn at v h l e is in
      subst (OnInner s (λ r. To (most_turns - (turn + 1)) r v) v) (some_same (partner_in s.rule.member (Free e)) r.0 q r.1 inner) r.2

  pub to_agent : (turn : ℕ) (at v : Point) → turn < most_turns → To (most_turns - turn) at v → (e : ℕ) (l : AgentNo) (j : ℕ) → end_of s.one s.two s.first at ≡ Some e → partner_in s.rule.member (Free e) ≡ Some (Port l j) → (y : AgentNo) × (slice_get s.names l.0 ≡ Some y) × (Port y j ≡ v)
  to_agent turn at v h lands e l j is inner = at_inner turn at v h lands e (Port l j) is inner

  pub to_end : (turn : ℕ) (at v : Point) → turn < most_turns → To (most_turns - turn) at v → (e f : ℕ) → end_of s.one s.two s.first at ≡ Some e → partner_in s.rule.member (Free e) ≡ Some (Free f) → (r : Point) × (partner_in s.net (port_of s.one s.two s.first f) ≡ Some r) × To (most_turns - (turn + 1)) r v
  to_end turn at v h l e f is inner = at_inner turn at v h l e (Free f) is inner

  pub name_is : (names : List AgentNo) (l : AgentNo) (j : ℕ) (y d : AgentNo) (v : Point) → slice_get names l.0 ≡ Some y → Port y j ≡ v → Port (get_or names l.0 d) j ≡ v
  name_is names l j y d v e is = ap (λ (z : AgentNo). Port z j) (get_or_from_slice_get names l.0 y d e) ∙ is

  pub back_within : IsWhole s.rule.member → (e f : ℕ) → partner_in s.rule.member (Free e) ≡ Some (Free f) → f < length s.rule.member.free
  back_within whole e f is = has_partner s.rule.member (Free f) (Free e) (whole.back (Free e) (Free f) is)
