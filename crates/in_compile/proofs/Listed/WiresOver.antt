-- The wires with boundary ends are listed.
use Rattle.std.proofs.Common.{◌≡◌, ◌≤◌, ◌<◌, ℕ, true, Some, map, slice_get, refl, sym, ap, subst, ◌∙◌, leb-true, le-leb, arith}
use Rattle.std.specs.Prelude.{option_map}
use Rattle.std.proofs.lemmas.Option.{slice_get-map}
use Rattle.in_base.proofs.Places.{of_mapped}
use Rattle.in_symbols.specs.Tables.{Tables}
use Rattle.in_net.specs.Nets.{Net, Point, Port, Free, net_of}
use Rattle.in_net.specs.Parts.{Parts}
use Rattle.in_overwriting.specs.MadeByWires.{AreOverEnds, LeadsFrom}
use Rattle.in_compile.specs.declared.joints.Joint.{Joint}
use Rattle.in_compile.specs.declared.joints.Joint.TheVariants.{ToAgent, ToBoundary}
use Rattle.in_compile.specs.Members.{MemberParts, IsMemberOf}
use Rattle.in_compile.specs.Wires.{is_from_lowest, over_of, over_point, point_at}
use Rattle.in_compile.proofs.Listed.Filtered.{kept, rising, there}
use Rattle.in_compile.proofs.Listed.Partners.{joins, leads}

pub lowest : (e : ℕ) (j : Joint) → is_from_lowest (e, j) ≡ true → (d : ℕ) → point_at j ≡ Free d → e ≤ d
lowest e (ToAgent k i) is d same = absurd (let f : Port k i ≡ Free d = same in cc)
lowest e (ToBoundary f) is d same =
    let low = leb-true e f is in
    let end : f ≡ d = (let g : Free f ≡ Free d = same in cc) in
    omega (arith, low, end)

from_lowest : (e : ℕ) (j : Joint) → ((d : ℕ) → point_at j ≡ Free d → e ≤ d) → is_from_lowest (e, j) ≡ true
from_lowest e (ToAgent k i) low = refl
from_lowest e (ToBoundary f) low = le-leb e f (low f refl)

-- a listed wire leads from its boundary end, and no lower one
pub over_at : (m : MemberParts) (k : ℕ) (w : ℕ × Joint) → slice_get (over_of m) k ≡ Some w → (slice_get m.joints w.0 ≡ Some w.1) × (is_from_lowest w ≡ true)
over_at m k w at =
    let s = there is_from_lowest 0 m.joints k w at in
    let number = s.1 in
    let end : s.0 ≡ w.0 = omega (arith, number) in
    (ap (slice_get m.joints) (sym end) ∙ s.2, s.3)

module _ (t : Tables) (n : Parts) (m : MemberParts) (of : IsMemberOf t n m) where
  abbrev net : Net ℕ
  net = net_of n

  each : (k : ℕ) (w : ℕ × Point ℕ) → slice_get (map over_point (over_of m)) k ≡ Some w → LeadsFrom net w.0 w.1
  each k w at =
      let x = of_mapped over_point (over_of m) k w at in
      let s = over_at m k x.0 x.1 in
      let from : LeadsFrom net x.0.0 (point_at x.0.1) = record { wire = leads t n m of (ToBoundary x.0.0) x.0.1 s.0; lowest = lowest x.0.0 x.0.1 s.1 } in
      subst (λ (w : ℕ × Point ℕ). LeadsFrom net w.0 w.1) x.2 from

  all : (w : ℕ × Point ℕ) → LeadsFrom net w.0 w.1 → (k : ℕ) × (slice_get (map over_point (over_of m)) k ≡ Some w)
  all w from =
      let j = joins t n m of (ToBoundary w.0) w.1 from.wire in
      let low = from_lowest w.0 j.0 (λ d same. from.lowest d (sym j.2 ∙ same)) in
      let s = kept is_from_lowest 0 m.joints w.0 w.0 j.0 (omega arith) j.1 low in
      let same : over_point (w.0, j.0) ≡ w = ap (λ (p : Point ℕ). (w.0, p)) j.2 in
      (s.0, slice_get-map over_point (over_of m) s.0 ∙ ap (option_map over_point) s.1 ∙ ap (λ (w : ℕ × Point ℕ). Some w) same)

  in_order : (j k : ℕ) (v w : ℕ × Point ℕ) → j < k → slice_get (map over_point (over_of m)) j ≡ Some v → slice_get (map over_point (over_of m)) k ≡ Some w → v.0 < w.0
  in_order j k v w less f g =
      let x = of_mapped over_point (over_of m) j v f in
      let y = of_mapped over_point (over_of m) k w g in
      let low = rising is_from_lowest 0 m.joints j k x.0 y.0 less x.1 y.1 in
      let a : x.0.0 ≡ v.0 = ap (λ (z : ℕ × Point ℕ). z.0) x.2 in
      let b : y.0.0 ≡ w.0 = ap (λ (z : ℕ × Point ℕ). z.0) y.2 in
      omega (arith, low, a, b)

  pub over_ends : AreOverEnds (net_of n) (map over_point (over_of m))
  over_ends = record { each = each; all = all; rising = in_order }
