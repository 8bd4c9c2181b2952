-- The boundary ends to which wires lead are few.
use Rattle.std.proofs.Common.{◌≡◌, ◌≤◌, ◌<◌, ℕ, Option, Some, None, length, slice_get, refl, ap, ◌∙◌, arith}
use Rattle.std.specs.Prelude.{option_map, option_and_then}
use Rattle.std.proofs.lemmas.Option.{slice_get_within}
use Rattle.in_net.specs.declared.nets.Cell.{Cell}
use Rattle.in_net.specs.declared.nets.FreeEnd.{FreeEnd}
use Rattle.in_net.specs.declared.nets.Point.{Point}
use Rattle.in_net.specs.declared.nets.Point.TheVariants.{Port, Free}
use Rattle.in_syntax.specs.TextLimits.{most_free}
use Rattle.in_net.specs.Parts.{Parts, IsWhole, cell_in, partner_in}
use Rattle.in_compile.specs.Storing.{IsNarrow, AreNarrow}

module _ (n : Parts) (whole : IsWhole n) (few : length n.free ≤ most_free) where
  there : (e : ℕ) (p : Point) (o : Option FreeEnd) → slice_get n.free e ≡ o → option_map (λ (f : FreeEnd). f.end) o ≡ Some p → e < length n.free
  there e p None is h = cc
  there e p (Some f) is h = slice_get_within n.free e f is

  -- a partner of some point
  pub narrow : (p q : Point) → partner_in n p ≡ Some q → IsNarrow q
  narrow p (Port x i) h = tt
  narrow p (Free e) h = let l = there e p (slice_get n.free e) refl (whole.back p (Free e) h) in omega (arith, l, few)

  pub narrow_ends : (x : ℕ) (c : Cell) → slice_get n.cells x ≡ Some (Some c) → AreNarrow c.ends
  narrow_ends x c stands = λ i q s. narrow (Port (record { 0 = x }) i) q (
      let cell : cell_in n x ≡ Some c = ap (λ (o : Option (Option Cell)). option_and_then (λ (c : Option Cell). c) o) stands in
      ap (λ (o : Option Cell). option_and_then (λ (c : Cell). slice_get c.ends i) o) cell ∙ s
      )
