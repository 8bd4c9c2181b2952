-- The points of a listed wire.
use Rattle.std.proofs.Common.{◌≡◌, ℕ, ◌<◌, List, length, Option, Some, None, IsSomeAnd, option_map, option_and_then, slice_get, sym, ap, subst, get_or, refl}
use Rattle.std.proofs.lemmas.Option.{slice_get-get_or, slice_get_within}
use Rattle.in_net.specs.declared.nets.Cell.{Cell}
use Rattle.in_net.specs.declared.nets.FreeEnd.{FreeEnd}
use Rattle.in_net.specs.declared.nets.Wire.{Wire}
use Rattle.in_net.specs.declared.nets.Point.{Point}
use Rattle.in_net.specs.declared.nets.Point.TheVariants.{Port, Free}
use Rattle.in_net.specs.Parts.{Parts, IsWhole, IsPointOf, cell_in, partner_in, wire_in}

-- a point with a partner is a point of the net
pub has_partner : (n : Parts) (p q : Point) → partner_in n p ≡ Some q → IsPointOf n p
has_partner n (Port x i) q e = by_cell (cell_in n x.0) e
  where
    by_cell : (o : Option Cell) → option_and_then (λ c. slice_get c.ends i) o ≡ Some q → IsSomeAnd o (λ c. i < length c.ends)
    by_cell None e = cc
    by_cell (Some c) e = slice_get_within c.ends i q e
has_partner n (Free k) q e = by_end (slice_get n.free k) e (λ f is. slice_get_within n.free k f is)
  where
    by_end : (o : Option FreeEnd) → option_map (λ f. f.end) o ≡ Some q → ((f : FreeEnd) → o ≡ Some f → k < length n.free) → k < length n.free
    by_end None e h = cc
    by_end (Some f) e h = h f refl

pub points_of : (n m : Parts) (wires : List Wire) (w : ℕ) (d : Wire) → n ≡ m → IsWhole n → wires ≡ n.wires → w < length m.wires → IsPointOf m (get_or wires w d).one × IsPointOf m (get_or wires w d).other
points_of n m wires w d same whole listed lt =
    let within : w < length n.wires = subst (λ (x : Parts). w < length x.wires) (sym same) lt in
    let P : List Wire → Type 0 = λ v. IsPointOf n (get_or v w d).one × IsPointOf n (get_or v w d).other in
    let found : wire_in n w ≡ Some ((get_or n.wires w d).one, (get_or n.wires w d).other) = ap (option_map {T = Wire} {U = Point × Point} (λ v. (v.one, v.other))) (slice_get-get_or n.wires w d within) in
    let partner = whole.partners w (get_or n.wires w d).one (get_or n.wires w d).other found in
    subst (λ x. IsPointOf x (get_or wires w d).one × IsPointOf x (get_or wires w d).other) same
    (subst P (sym listed) (
      has_partner n (get_or n.wires w d).one (get_or n.wires w d).other partner,
      has_partner n (get_or n.wires w d).other (get_or n.wires w d).one (whole.back (get_or n.wires w d).one (get_or n.wires w d).other partner),
    ))
