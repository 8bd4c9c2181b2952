-- Nets side by side are a net.
use Rattle.std.proofs.Common.{◌≡◌, ℕ, zero, suc, Option, Some, IsSome, IsSomeAnd, ◌≤◌, List, sym, subst, ◌∙◌}
use Rattle.in_net.specs.Nets.{Point, Port, Free, Net, Signature, IsPoint, IsNet}
use Rattle.in_interaction.proofs.Public.{has_value}
use Rattle.in_base.proofs.Places.{is_some}
use Rattle.in_gluing.specs.AsGluing.{two_parts}
use Rattle.in_gluing.specs.SideBySide.{IsThere, IsWiredWithin, StandBeside, BesidePartsAreNets}
use Rattle.in_gluing.proofs.SideBySide.{image, is_image, wire_kept, symbol_kept, point_kept, point_there, one_place}

module _ (sig : Signature) (one two m : Net ℕ) (name : ℕ → ℕ) (ends : List (ℕ × ℕ)) (h : StandBeside one two name ends m) (net : IsNet sig m) where
  abbrev both : ℕ → Net ℕ
  both = two_parts one two

  abbrev at : ℕ → Point ℕ → Point ℕ
  at = image one two m name ends h

  module _ (i : ℕ) (wired : (j : ℕ) (u v : Point ℕ) → (both j).partner u ≡ Some v → IsThere (both j) u) where
    joined : (q : Point ℕ) → IsPoint sig (both i) q → IsSome ((both i).partner q)
    joined q g =
        let r = has_value (m.partner (at i q)) (net.joined (at i q) (point_kept one two m name ends h sig i q g)) in
        let w = (h.beside.wires (at i q) r.0).0 r.1 in
        let same = one_place one two m name ends h w.0 i w.1 q (wired w.0 w.1 w.2 w.5) (point_there sig (both i) q g) (sym (is_image one two m name ends h w.0 w.1 (at i q) w.3)) in
        is_some ((both i).partner q) w.2 (sym (λ k. (both (same.0 k)).partner (same.1 k)) ∙ w.5)

    points : (q r : Point ℕ) → (both i).partner q ≡ Some r → IsPoint sig (both i) q
    points (Port x k) r e =
        let s = has_value ((both i).symbol x) (wired i (Port x k) r e) in
        subst (λ (o : Option ℕ). IsSomeAnd o (λ s. k ≤ sig.arity s)) (symbol_kept one two m name ends h i x s.0 s.1 ∙ sym s.1)
        (net.points (at i (Port x k)) (at i r) (wire_kept one two m name ends h i (Port x k) r e))
    points (Free k) r e = wired i (Free k) r e

  module _ (wired_one : IsWiredWithin one) (wired_two : IsWiredWithin two) where
    wires_there : (j : ℕ) (u v : Point ℕ) → (both j).partner u ≡ Some v → IsThere (both j) u
    wires_there zero u v e = wired_one.there u v e
    wires_there (suc zero) u v e = wired_two.there u v e
    wires_there (suc (suc j)) u v e = cc

    first_net : IsNet sig one
    first_net = record {
      agents = wired_one.agents;
      all = wired_one.all;
      joined = joined 0 wires_there;
      points = points 0 wires_there;
      back = wired_one.back.0;
      apart = wired_one.back.1;
    }

    second_net : IsNet sig two
    second_net = record {
      agents = wired_two.agents;
      all = wired_two.all;
      joined = joined 1 wires_there;
      points = points 1 wires_there;
      back = wired_two.back.0;
      apart = wired_two.back.1;
    }

pub beside_parts_are_nets : BesidePartsAreNets
beside_parts_are_nets sig one two n name ends net wired_one wired_two h = (first_net sig one two n name ends h net wired_one wired_two, second_net sig one two n name ends h net wired_one wired_two)

-- the wires of a net lead between its own points
pub net_within : (sig : Signature) (n : Net ℕ) → IsNet sig n → IsWiredWithin n
net_within sig n net = record { agents = net.agents; all = net.all; there = λ u v e. point_there sig n u (net.points u v e); back = (net.back, net.apart) }
