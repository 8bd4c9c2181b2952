-- Active pairs of a net that have an agent in common are equal.
use Rattle.std.proofs.Common.{◌≡◌, ◌⊎◌, inl, inr, ℕ, Some, sym, ap, subst, ◌∙◌}
use Rattle.in_symbols.specs.Tables.{Tables}
use Rattle.in_net.specs.declared.nets.AgentNo.{AgentNo}
use Rattle.in_net.specs.declared.nets.Point.{Point}
use Rattle.in_net.specs.declared.nets.Point.TheVariants.{Port}
use Rattle.in_net.specs.ActivePairs.{AreActive, IsActivePair}
use Rattle.in_net.specs.Nets.{IsNet, net_of, point_of, coded_point, signature_of}
use Rattle.in_net.specs.Parts.{Parts, partner_in}
use Rattle.in_net.proofs.Public.{flipped, one_partner, round_code, map_is}
use Rattle.in_interaction.proofs.Stepping.Partners.{net_wire}
use Rattle.in_interaction.specs.Queues.{agents_at, numbers_of}

-- the partner's partner, point by point of the code
pub back_in : (t : Tables) (n : Parts) → IsNet (signature_of t) (net_of n) → (u v : Point) → partner_in n u ≡ Some v → partner_in n v ≡ Some u
back_in t n net u v e = ap (partner_in n) (sym (round_code v)) ∙ map_is (partner_in n (coded_point (point_of v))) (point_of u) (net.back (point_of u) (point_of v) (net_wire n u v e)) ∙ ap (λ (z : Point). Some z) (round_code u)

pub same_numbers : (p q : ℕ × ℕ) → agents_at p ≡ agents_at q → p ≡ q
same_numbers p q e = ap numbers_of e

module _ (t : Tables) (n : Parts) (back : (p q : Point) → partner_in n p ≡ Some q → partner_in n q ≡ Some p) where
  same_pair : (p q : AgentNo × AgentNo) → p.0 ≡ q.0 → p.1 ≡ q.1 → p ≡ q
  same_pair p q e f = ap (λ (z : AgentNo). (z, p.1)) e ∙ ap (λ (z : AgentNo). (q.0, z)) f

  same_first : (p q : AgentNo × AgentNo) → IsActivePair t n p → IsActivePair t n q → p.0 ≡ q.0 → p ≡ q
  same_first p q h k e = same_pair p q e (one_partner t n q.0 p.1 q.1 (subst (λ z. AreActive n z p.1) e h.active) k.active)

  crossed : (p q : AgentNo × AgentNo) → IsActivePair t n p → IsActivePair t n q → p.0 ≡ q.1 → ⊥
  crossed p q h k e =
      let other : p.1 ≡ q.0 = one_partner t n q.1 p.1 q.0 (subst (λ z. AreActive n z p.1) e h.active) (back (Port q.0 0) (Port q.1 0) k.active) in
      flipped t n q.0 q.1 k (subst (IsActivePair t n) (same_pair p (q.1, q.0) e other) h)

  pub apart : (p q : AgentNo × AgentNo) → IsActivePair t n p → IsActivePair t n q → (p.0 ≡ q.0) ⊎ (p.0 ≡ q.1) ⊎ (p.1 ≡ q.0) ⊎ (p.1 ≡ q.1) → p ≡ q
  apart p q h k (inl e) = same_first p q h k e
  apart p q h k (inr (inl e)) = absurd (crossed p q h k e)
  apart p q h k (inr (inr (inl e))) = absurd (crossed q p k h (sym e))
  apart p q h k (inr (inr (inr e))) =
      same_pair p q (one_partner t n q.1 p.0 q.0 (subst (λ z. AreActive n z p.0) e (back (Port p.0 0) (Port p.1 0) h.active)) (back (Port q.0 0) (Port q.1 0) k.active)) e
