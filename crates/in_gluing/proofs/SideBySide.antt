-- The points of nets that are side by side.
use Rattle.std.proofs.Common.{◌≡◌, ◌<◌, ◌≤◌, ℕ, Option, Some, IsSomeAnd, List, length, slice_get, refl, sym, subst, ap, ◌∙◌, arith}
use Rattle.std.proofs.lemmas.List.{length-map}
use Rattle.std.proofs.lemmas.Option.{same_Some, slice_get_within}
use Rattle.in_symbols.specs.declared.symbols.PortType.{PortType}
use Rattle.in_net.specs.Nets.{Point, Port, Free, Net, Signature, IsPoint}
use Rattle.in_net.proofs.Public.{symbol_of, port_agent, port_place}
use Rattle.in_gluing.proofs.Helpers.{at_outer}
use Rattle.in_base.proofs.Places.{is_some}
use Rattle.in_gluing.specs.AsGluing.{old_and_new, two_parts}
use Rattle.in_gluing.specs.Joining.{IsAtNumber}
use Rattle.in_gluing.specs.SideBySide.{IsThere, StandBeside}
use Rattle.in_base.proofs.Each.{at_index}

-- a point of a net is there
pub point_there : (sig : Signature) (n : Net ℕ) (u : Point ℕ) → IsPoint sig n u → IsThere n u
point_there sig n (Port x k) g = let s = symbol_of sig (n.symbol x) k g in is_some (n.symbol x) s.0 s.1
point_there sig n (Free k) g = g

module _ (one two m : Net ℕ) (name : ℕ → ℕ) (ends : List (ℕ × ℕ)) (h : StandBeside one two name ends m) where
  abbrev pub both : ℕ → Net ℕ
  both = two_parts one two

  abbrev pub in_whole : ℕ → ℕ → ℕ
  in_whole = old_and_new name

  -- as many free ends, each that of a part
  pub many_ends : length m.free ≡ length ends
  many_ends = sym (length-map m.free (λ (t : PortType). Some t)) ∙ ap length h.free ∙ length-map ends (λ (q : ℕ × ℕ). slice_get (both q.0).free q.1)

  pub end_type : (k : ℕ) (q : ℕ × ℕ) → slice_get ends k ≡ Some q → slice_get m.free k ≡ slice_get (both q.0).free q.1
  end_type k q at = at_outer m.free ends (λ (z : ℕ × ℕ). slice_get (both z.0).free z.1) h.free k q at

  pub end_there : (k : ℕ) (q : ℕ × ℕ) → slice_get ends k ≡ Some q → q.1 < length (both q.0).free
  end_there k q at =
      let low : k < length m.free = (let l = slice_get_within ends k q at in let e = many_ends in omega (arith, l, e)) in
      let t = at_index m.free k low in
      slice_get_within (both q.0).free q.1 t.0 (sym (end_type k q at) ∙ t.1)

  -- ---- the places of the points of the parts

  -- the place of a part's point
  abbrev pub image : ℕ → Point ℕ → Point ℕ
  image i (Port x k) = Port (in_whole i x) k
  image i (Free e) = Free (h.number (i, e))

  pub is_image : (i : ℕ) (q u : Point ℕ) → IsAtNumber h.number in_whole i q u → u ≡ image i q
  is_image i (Port x k) u e = e
  is_image i (Free k) u e = e

  at_image : (i : ℕ) (q : Point ℕ) → IsAtNumber h.number in_whole i q (image i q)
  at_image i (Port x k) = refl
  at_image i (Free k) = refl

  pub wire_kept : (i : ℕ) (q r : Point ℕ) → (both i).partner q ≡ Some r → m.partner (image i q) ≡ Some (image i r)
  wire_kept i q r e = (h.beside.wires (image i q) (image i r)).1 (i, q, r, at_image i q, at_image i r, e)

  pub symbol_kept : (i x s : ℕ) → (both i).symbol x ≡ Some s → m.symbol (in_whole i x) ≡ Some s
  symbol_kept i x s e = (h.beside.agents (in_whole i x) s).1 (i, x, refl, e)

  -- different points are at different places
  pub one_place : (i j : ℕ) (q r : Point ℕ) → IsThere (both i) q → IsThere (both j) r → image i q ≡ image j r → (i ≡ j) × (q ≡ r)
  one_place i j (Port x k) (Port y l) a b e =
      let same = h.apart i j x y a b (port_agent (in_whole i x) (in_whole j y) k l e) in
      let agent : x ≡ y = same.1 in
      let place : k ≡ l = port_place (in_whole i x) (in_whole j y) k l e in
      (same.0, cc)
  one_place i j (Port x k) (Free l) a b e = cc
  one_place i j (Free k) (Port y l) a b e = cc
  one_place i j (Free k) (Free l) a b e =
      let same : h.number (i, k) ≡ h.number (j, l) = cc in
      let pairs : ◌≡◌ {A = ℕ × ℕ} (i, k) (j, l) = same_Some (i, k) (j, l) (sym (h.all i k a) ∙ ap (slice_get ends) same ∙ h.all j l b) in
      (ap (λ (z : ℕ × ℕ). z.0) pairs, ap (λ (z : ℕ × ℕ). Free z.1) pairs)

  module _ (sig : Signature) where
    pub point_kept : (i : ℕ) (q : Point ℕ) → IsPoint sig (both i) q → IsPoint sig m (image i q)
    point_kept i (Port x k) g =
        let s = symbol_of sig ((both i).symbol x) k g in
        subst (λ (o : Option ℕ). IsSomeAnd o (λ s. k ≤ sig.arity s)) (s.1 ∙ sym (symbol_kept i x s.0 s.1)) g
    point_kept i (Free e) g =
        let l = slice_get_within ends (h.number (i, e)) (i, e) (h.all i e g) in
        let z : h.number (i, e) < length m.free = (let f = many_ends in omega (arith, l, f)) in
        z

    pub one_point : (i : ℕ) (q r : Point ℕ) → IsPoint sig (both i) q → IsPoint sig (both i) r → image i q ≡ image i r → q ≡ r
    one_point i q r a b e = (one_place i i q r (point_there sig (both i) q a) (point_there sig (both i) r b) e).1
