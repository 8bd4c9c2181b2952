-- The text holds only the net's agents and its wires without principal ports.
use Rattle.std.proofs.Common.{◌≡◌, ℕ, zero, suc, Option, Some, None, IsSome, List, [], ◌∷◌, ◌++◌, length, refl}
use Rattle.std.specs.List.{AllByRecursion}
use Rattle.in_net.specs.Nets.{Point, Port, Free, Signature, Net, IsNet}
use Rattle.in_net.proofs.Public.{symbol_of}
use Rattle.in_check.specs.NetText.{Words, TextPart, Bytes, listed, bracketed, arity_of, agent_term, term_at, term, free_lines, pair_lines, text_parts, IsQueue, IsAuxiliary, IsOfNet}
use Rattle.in_base.proofs.Places.{is_some}
use Rattle.in_base.proofs.Each.{all_append}

module _ {A : Type 0} (sig : Signature) (n : Net A) (net : IsNet sig n) where
  listed_of : (s : Point A → List (TextPart A)) (y : A) → ((i : ℕ) → AllByRecursion (IsOfNet n) (s (Port y (suc i)))) → (i k : ℕ) → AllByRecursion (IsOfNet n) (listed s y (suc i) k)
  listed_of s y h i zero = tt
  listed_of s y h i (suc zero) = h i
  listed_of s y h i (suc (suc k)) = all_append (IsOfNet n) (s (Port y (suc i))) (Bytes (44 ∷ 32 ∷ []) ∷ listed s y (suc (suc i)) (suc k)) (h i) (tt, listed_of s y h (suc i) (suc k))

  bracketed_of : (k : ℕ) (ps : List (TextPart A)) → AllByRecursion (IsOfNet n) ps → AllByRecursion (IsOfNet n) (bracketed k ps)
  bracketed_of zero ps h = tt
  bracketed_of (suc k) ps h = (tt, all_append (IsOfNet n) ps (Bytes (41 ∷ []) ∷ []) h (tt, tt))

  pub there : (y : A) (p : Point A) → n.partner p ≡ Some (Port y 0) → IsSome (n.symbol y)
  there y p e =
      let s = symbol_of sig (n.symbol y) 0 (net.points (Port y 0) p (net.back p (Port y 0) e)) in
      is_some (n.symbol y) s.0 s.1

  agent_of : (s : Point A → List (TextPart A)) → ((p : Point A) → IsAuxiliary p → AllByRecursion (IsOfNet n) (s p)) → (y : A) → IsSome (n.symbol y) → AllByRecursion (IsOfNet n) (agent_term sig n s y)
  agent_of s h y live = (live, bracketed_of (arity_of sig (n.symbol y)) (listed s y 1 (arity_of sig (n.symbol y))) (listed_of s y (λ i. h (Port y (suc i)) tt) 0 (arity_of sig (n.symbol y))))

  at_of : (s : A → List (TextPart A)) → ((y : A) → IsSome (n.symbol y) → AllByRecursion (IsOfNet n) (s y)) → (p : Point A) (o : Option (Point A)) → IsAuxiliary p → n.partner p ≡ o → AllByRecursion (IsOfNet n) (term_at s p o)
  at_of s h p None a e = tt
  at_of s h p (Some (Port y zero)) a e = h y (there y p e)
  at_of s h p (Some (Port y (suc i))) a e = ((e, a, tt), tt)
  at_of s h p (Some (Free k)) a e = ((e, a, tt), tt)

  term_of : (d : ℕ) (p : Point A) → IsAuxiliary p → AllByRecursion (IsOfNet n) (term sig n d p)
  term_of zero p a = at_of (λ y. []) (λ y h. tt) p (n.partner p) a refl
  term_of (suc d) p a = at_of (agent_term sig n (term sig n d)) (agent_of (term sig n d) (λ p a. term_of d p a)) p (n.partner p) a refl

  free_of : (words : Words) (d k more : ℕ) → AllByRecursion (IsOfNet n) (free_lines sig words n d k more)
  free_of words d k zero = tt
  free_of words d k (suc more) = (tt, all_append (IsOfNet n) (term sig n d (Free k)) (Bytes (10 ∷ []) ∷ free_lines sig words n d (suc k) more) (term_of d (Free k) tt) (tt, free_of words d (suc k) more))

  pairs_of : (d : ℕ) (qs : List (A × A)) → AllByRecursion (λ q. n.partner (Port q.0 0) ≡ Some (Port q.1 0)) qs → AllByRecursion (IsOfNet n) (pair_lines sig n d qs)
  pairs_of d [] h = tt
  pairs_of d (q ∷ qs) h =
      let one = agent_of (term sig n d) (λ p a. term_of d p a) q.0 (there q.0 (Port q.1 0) (net.back (Port q.0 0) (Port q.1 0) h.0)) in
      let two = agent_of (term sig n d) (λ p a. term_of d p a) q.1 (there q.1 (Port q.0 0) h.0) in
      all_append (IsOfNet n) (agent_term sig n (term sig n d) q.0) (Bytes (32 ∷ 126 ∷ 32 ∷ []) ∷ (agent_term sig n (term sig n d) q.1 ++ (Bytes (10 ∷ []) ∷ pair_lines sig n d qs))) one
      (tt, all_append (IsOfNet n) (agent_term sig n (term sig n d) q.1) (Bytes (10 ∷ []) ∷ pair_lines sig n d qs) two (tt, pairs_of d qs h.1))

  pub pieces_of : (words : Words) (d : ℕ) (queue : List (A × A)) → IsQueue n queue → AllByRecursion (IsOfNet n) (text_parts sig words n d queue)
  pieces_of words d queue q = all_append (IsOfNet n) (free_lines sig words n d 0 (length n.free)) (pair_lines sig n d queue) (free_of words d 0 (length n.free)) (pairs_of d queue q.active)
