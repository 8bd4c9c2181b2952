-- The free ends of the two parts side by side: each one in use has its own number.
use Rattle.std.proofs.Common.{◌≡◌, ◌+◌, ◌-◌, ◌<◌, ℕ, zero, suc, Bool, true, cond, Some, length, sym, subst, ap, ◌∙◌, inl, inr, refl, arith, lt-ltb, le-ltb}
use Rattle.in_net.specs.Interactions.{Redex, Side, Outer, Inner, other}
use Rattle.in_net.specs.Nets.{Point, Port, Free, Signature, Net, IsPoint}
use Rattle.in_interaction.proofs.Public.{same_free}
use Rattle.in_gluing.specs.Joining.{IsInUse, HasOwnNumber}
use Rattle.in_gluing.specs.AsGluing.{IsInRest, IsRestOf, two_parts, across_at, boundary, CanStep}
use Rattle.in_gluing.specs.EndByEnd.{end_number, outer_end}
use Rattle.in_gluing.proofs.Boundary.{part_of, joint_is, side_of}
use Rattle.in_gluing.proofs.Points.{port_free}

-- a joint is at a joined boundary end, and leads across
pub joint_at : (joined : ℕ → Bool) (p q : ℕ × ℕ) → across_at joined p.0 p.1 ≡ Some q → (s : Side) × (p ≡ (part_of s, p.1)) × (joined p.1 ≡ true) × (q ≡ (part_of (other s), p.1))
joint_at joined p q h =
    let s = side_of joined p.0 p.1 q h in
    let j = joint_is joined s.0 p.1 q.0 q.1 (subst (λ i. across_at joined i p.1 ≡ Some q) s.1 h) in
    (s.0, ap (λ (i : ℕ). (i, p.1)) s.1, j.0, ap (λ (i : ℕ). (i, q.1)) j.1 ∙ ap (λ (e : ℕ). (part_of (other s.0), e)) j.2)

module _ (n : Net ℕ) (x : Redex ℕ ℕ) where
  abbrev many : ℕ
  many = length x.member.free

  -- the free ends of the two parts
  pub data End (p : ℕ × ℕ) : Type 0 where
    outer_side : (e : ℕ) → e < many → p ≡ (0, e) → End p
    own_end : (k : ℕ) → k < length n.free → p ≡ (0, many + k) → End p
    inner_side : (e : ℕ) → e < many → p ≡ (1, e) → End p

  abbrev pub number : ℕ × ℕ → ℕ
  number p = end_number n x p.0 p.1

  pub outer_number : (e : ℕ) → e < many → number (0, e) ≡ outer_end n x e
  outer_number e l = ap (λ (b : Bool). cond b (outer_end n x e) (e - many)) (lt-ltb e many l)

  pub own_number : (k : ℕ) → number (0, many + k) ≡ k
  own_number k = ap (λ (b : Bool). cond b (outer_end n x (many + k)) (many + k - many)) (le-ltb (many + k) many (omega arith)) ∙ (let e : many + k - many ≡ k = omega arith in e)

  value : (p : ℕ × ℕ) → End p → ℕ
  value p (outer_side e l is) = length n.free + e
  value p (own_end k l is) = k
  value p (inner_side e l is) = length n.free + many + e

  has_value : (p : ℕ × ℕ) (end : End p) → number p ≡ value p end
  unfolding value
  has_value p (outer_side e l is) = ap number is ∙ outer_number e l
  has_value p (own_end k l is) = ap number is ∙ own_number k
  has_value p (inner_side e l is) = ap number is

  one_end : (p q : ℕ × ℕ) (a : End p) (b : End q) → value p a ≡ value q b → p ≡ q
  unfolding value
  one_end p q (outer_side e l is) (outer_side f m at) h = is ∙ ap (λ (e : ℕ). (0, e)) (let s : e ≡ f = omega (arith, h) in s) ∙ sym at
  one_end p q (own_end e l is) (own_end f m at) h = is ∙ ap (λ (k : ℕ). (0, many + k)) h ∙ sym at
  one_end p q (inner_side e l is) (inner_side f m at) h = is ∙ ap (λ (e : ℕ). (1, e)) (let s : e ≡ f = omega (arith, h) in s) ∙ sym at
  one_end p q (outer_side e l is) (own_end f m at) h = absurd (omega (arith, h, l, m))
  one_end p q (outer_side e l is) (inner_side f m at) h = absurd (omega (arith, h, l, m))
  one_end p q (own_end e l is) (outer_side f m at) h = absurd (omega (arith, h, l, m))
  one_end p q (own_end e l is) (inner_side f m at) h = absurd (omega (arith, h, l, m))
  one_end p q (inner_side e l is) (outer_side f m at) h = absurd (omega (arith, h, l, m))
  one_end p q (inner_side e l is) (own_end f m at) h = absurd (omega (arith, h, l, m))

  -- different free ends have different numbers
  pub one_number : (p q : ℕ × ℕ) → End p → End q → number p ≡ number q → p ≡ q
  one_number p q a b h = one_end p q a b (sym (has_value p a) ∙ h ∙ has_value q b)

  module _ (sig : Signature) (name : ℕ → ℕ) (rest : Net ℕ) (site : CanStep sig n x name) (is_rest : IsRestOf sig n x rest) where
    rest_end : (p : Point ℕ) (f : ℕ) → IsPoint sig n p → IsInRest sig x p (Free f) → End (0, f)
    rest_end (Port y i) f h (inl r) = absurd (port_free y i f (sym r.2))
    rest_end (Port y i) f h (inr r) = outer_side r.0 r.1 (ap (λ (f : ℕ). (0, f)) (same_free f r.0 r.3))
    rest_end (Free k) f h r = own_end k h (ap (λ (f : ℕ). (0, f)) (same_free f (many + k) r))

    -- a free end with a wire is one of these
    pub wired_end : (i f : ℕ) (u : Point ℕ) → (two_parts rest x.member i).partner (Free f) ≡ Some u → End (i, f)
    wired_end zero f u e = let r = (is_rest.wires (Free f) u).0 e in rest_end r.0 f (site.net.points r.0 r.1 r.4) r.2
    wired_end (suc zero) f u e = inner_side f (site.inside.points (Free f) u e) refl
    wired_end (suc (suc i)) f u e = cc

    wired_back : (i f : ℕ) (u : Point ℕ) → (two_parts rest x.member i).partner u ≡ Some (Free f) → End (i, f)
    wired_back zero f u e = let r = (is_rest.wires u (Free f)).0 e in rest_end r.1 f (site.net.points r.1 r.0 (site.net.back r.0 r.1 r.4)) r.3
    wired_back (suc zero) f u e = inner_side f (site.inside.points (Free f) u (site.inside.back u (Free f) e)) refl
    wired_back (suc (suc i)) f u e = cc

    module _ (joined : ℕ → Bool) (within : (e : ℕ) → joined e ≡ true → e < many) where
      end_on : (s : Side) (p : ℕ × ℕ) (e : ℕ) → e < many → p ≡ (part_of s, e) → End p
      end_on Outer p e l h = outer_side e l h
      end_on Inner p e l h = inner_side e l h

      used_end : (p : ℕ × ℕ) → IsInUse (two_parts rest x.member) (boundary n x joined) p → End p
      used_end p (inl w) = wired_end p.0 p.1 w.0 w.1
      used_end p (inr (inl w)) = wired_back p.0 p.1 w.0 w.1
      used_end p (inr (inr j)) = let r = joint_at joined j.0 p j.1 in end_on (other r.0) p j.0.1 (within j.0.1 r.2) r.3

      pub own_numbers : (r : ℕ × ℕ) → End r → HasOwnNumber (two_parts rest x.member) (boundary n x joined) number r
      own_numbers r end p used h = one_number p r (used_end p used) end h
