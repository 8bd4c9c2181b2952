-- The free ends of a net and the boundary ends of a rule have the partners of the first spots.
use Rattle.std.proofs.Common.{◌≡◌, ℕ, zero, suc, ◌+◌, ◌-◌, List, [], ◌∷◌, ◌++◌, length, length-append, append_assoc, map, refl, sym, ◌∙◌, ap, arith}
use Rattle.std.proofs.lemmas.List.{map-append}
use Rattle.std.specs.List.{AllByRecursion}
use Rattle.in_syntax.specs.declared.tree.SourceFree.{SourceFree}
use Rattle.in_symbols.specs.Tables.{Tables, arity_of, port_at}
use Rattle.in_net.specs.declared.reading.TextSpot.{TextSpot}
use Rattle.in_net.specs.declared.joining.Link.{Link}
use Rattle.in_net.specs.declared.nets.FreeEnd.{FreeEnd}
use Rattle.in_net.specs.declared.nets.Point.{Point}
use Rattle.in_net.specs.Building.{partner_of, ends_from, free_ends_from, boundary_from, boundary_of}
use Rattle.in_net.specs.Built.{AreJoinedTo}
use Rattle.in_net.specs.Rules.{types_from, auxiliary_types}
use Rattle.in_base.proofs.Each.{all_append}

end_of : FreeEnd → Point
end_of f = f.end

module _ (t : Tables) (spots : List TextSpot) (links : List Link) where
  pub length-free : (k : ℕ) (fs : List SourceFree) → length (free_ends_from t spots links k fs) ≡ length fs
  length-free k [] = refl
  length-free k (f ∷ fs) = ap suc (length-free (k + 1) fs)

  free_from : (k : ℕ) (fs : List SourceFree) → map (λ f. f.end) (free_ends_from t spots links k fs) ≡ ends_from spots links k (length fs)
  free_from k [] = refl
  free_from k (f ∷ fs) = ap (λ z. partner_of spots links k ∷ z) (free_from (k + 1) fs)

  pub free_joined : (fs : List SourceFree) → AreJoinedTo spots links (free_ends_from t spots links 0 fs)
  free_joined fs = free_from 0 fs ∙ ap (ends_from spots links 0) (sym (length-free 0 fs))

  length-from : (s i k n : ℕ) → length (boundary_from t spots links s i k n) ≡ n
  length-from s i k zero = refl
  length-from s i k (suc n) = ap suc (length-from s (i + 1) (k + 1) n)

  pub length-boundary : (s k : ℕ) → length (boundary_of t spots links s k) ≡ arity_of t s
  length-boundary s k = length-from s 0 k (arity_of t s)

  boundary_ends : (s i k n : ℕ) → map (λ f. f.end) (boundary_from t spots links s i k n) ≡ ends_from spots links k n
  boundary_ends s i k zero = refl
  boundary_ends s i k (suc n) = ap (λ z. partner_of spots links k ∷ z) (boundary_ends s (i + 1) (k + 1) n)

  ends_both : (k n m : ℕ) → ends_from spots links k n ++ ends_from spots links (k + n) m ≡ ends_from spots links k (n + m)
  ends_both k zero m = let e : k + 0 ≡ k = omega arith in let f : m ≡ 0 + m = omega arith in ap (λ i. ends_from spots links i m) e ∙ ap (ends_from spots links k) f
  ends_both k (suc n) m =
      let e : k + suc n ≡ k + 1 + n = omega arith in
      let f : suc (n + m) ≡ suc n + m = omega arith in
      ap (λ z. partner_of spots links k ∷ z) (ap (λ i. ends_from spots links (k + 1) n ++ ends_from spots links i m) e ∙ ends_both (k + 1) n m) ∙ ap (ends_from spots links k) f

  pub boundary_joined : (c d : ℕ) → AreJoinedTo spots links (boundary_of t spots links c 0 ++ boundary_of t spots links d (arity_of t c))
  boundary_joined c d =
      let one = boundary_of t spots links c 0 in
      let other = boundary_of t spots links d (arity_of t c) in
      let zero_on : arity_of t c ≡ 0 + arity_of t c = omega arith in
      let count : arity_of t c + arity_of t d ≡ length (boundary_of t spots links c 0 ++ boundary_of t spots links d (arity_of t c)) =
      omega (arith, length-append one other, length-boundary c 0, length-boundary d (arity_of t c)) in
      map-append (λ (f : FreeEnd). f.end) (boundary_of t spots links c 0) (boundary_of t spots links d (arity_of t c))
      ∙ ap (λ z. z ++ map (λ f. f.end) (boundary_of t spots links d (arity_of t c))) (boundary_ends c 0 0 (arity_of t c))
      ∙ ap (λ z. ends_from spots links 0 (arity_of t c) ++ z) (boundary_ends d 0 (arity_of t c) (arity_of t d) ∙ ap (λ k. ends_from spots links k (arity_of t d)) zero_on)
      ∙ ends_both 0 (arity_of t c) (arity_of t d)
      ∙ ap (ends_from spots links 0) count

  types_of : (s i k n : ℕ) → map (λ f. f.kind) (boundary_from t spots links s i k n) ≡ types_from t s (i + 1) n
  types_of s i k zero = refl
  types_of s i k (suc n) = ap (λ z. port_at t s (i + 1) ∷ z) (types_of s (i + 1) (k + 1) n)

  pub boundary_types : (c d : ℕ) → map (λ f. f.kind) (boundary_of t spots links c 0 ++ boundary_of t spots links d (arity_of t c)) ≡ auxiliary_types t c ++ auxiliary_types t d
  boundary_types c d =
      let one : 0 + 1 ≡ 1 = omega arith in
      map-append (λ (f : FreeEnd). f.kind) (boundary_of t spots links c 0) (boundary_of t spots links d (arity_of t c))
      ∙ ap (λ z. z ++ map (λ f. f.kind) (boundary_of t spots links d (arity_of t c))) (types_of c 0 0 (arity_of t c) ∙ ap (λ i. types_from t c i (arity_of t c)) one)
      ∙ ap (λ z. auxiliary_types t c ++ z) (types_of d 0 (arity_of t c) (arity_of t d) ∙ ap (λ i. types_from t d i (arity_of t d)) one)

  no_names : (s i k n : ℕ) → AllByRecursion (λ f. f.name ≡ []) (boundary_from t spots links s i k n)
  no_names s i k zero = tt
  no_names s i k (suc n) = (refl, no_names s (i + 1) (k + 1) n)

  pub boundary_unnamed : (c d : ℕ) → AllByRecursion (λ f. f.name ≡ []) (boundary_of t spots links c 0 ++ boundary_of t spots links d (arity_of t c))
  boundary_unnamed c d = all_append (λ (f : FreeEnd). f.name ≡ []) (boundary_of t spots links c 0) (boundary_of t spots links d (arity_of t c)) (no_names c 0 0 (arity_of t c)) (no_names d 0 (arity_of t c) (arity_of t d))

  -- one more boundary end
  pub one_boundary : (s i k n : ℕ) (ends : List FreeEnd) (e : FreeEnd) (all : List FreeEnd) → n ≡ suc (n - 1) → e ≡ record { name = []; kind = port_at t s (i + 1); end = partner_of spots links k } →
      ends ++ boundary_from t spots links s i k n ≡ all → (ends ++ e ∷ []) ++ boundary_from t spots links s (i + 1) (k + 1) (n - 1) ≡ all
  one_boundary s i k n ends e all some is whole =
      append_assoc ends (e ∷ []) (boundary_from t spots links s (i + 1) (k + 1) (n - 1)) ∙ ap (λ x. ends ++ x ∷ boundary_from t spots links s (i + 1) (k + 1) (n - 1)) is
      ∙ ap (λ n. ends ++ boundary_from t spots links s i k n) (sym some) ∙ whole
