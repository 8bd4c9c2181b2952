-- The calls on sets of nodes have one result.
use Rattle.std.proofs.Common.{◌≡◌, ◌⊎◌, ◌≤◌, ◌∙◌, inl, inr, ℕ, suc, Bool, false, List, [], ◌∷◌, length, Some, None, refl, sym, subst, ap, arith}
use Rattle.std.proofs.lemmas.List.{ext_get_or}
use Rattle.in_open_nets.specs.Laws.{FirstSplittingIsOne, MembersAreListedOnce, RestIsOne, SetIsItsMembers}
use Rattle.in_open_nets.specs.Members.{nodes_in}
use Rattle.in_open_nets.specs.OpenNets.{OpenNet}
use Rattle.in_open_nets.specs.Parts.{IsFirst, NoneSplits}
use Rattle.in_open_nets.specs.Stuck.{Among, RisesThrough}
use Rattle.in_open_nets.proofs.Reached.Links.{at_most}
use Rattle.in_open_nets.proofs.Reached.Reaching.{in_length}
use Rattle.in_open_nets.proofs.PartsOf.Sums.{same_test}

-- ---- sets

-- as many tests with the same members
pub same_members : SetIsItsMembers
same_members a b size same = ext_get_or false a b size (λ k l. same_test (nodes_in a k) (nodes_in b k) (same k).0 (same k).1)

pub one_rest : RestIsOne
one_rest n part a b size size' h g = same_members a b (size ∙ sym size') (λ k. ((λ x. (g k).1 ((h k).0 x)), λ x. (h k).1 ((g k).0 x)))

-- ---- the first node that splits a set

module _ (o : OpenNet) (part : List Bool) (size : length part ≡ length o.nodes) where
  not_none : (n : ℕ) → NoneSplits o part (length o.nodes) → IsFirst o part n → ⊥
  not_none n none h = let l = in_length part n h.here in none n (omega arith) (h.here, h.splits)

  one_first : (n m : ℕ) → IsFirst o part n → IsFirst o part m → n ≡ m
  one_first n m h g = elim (at_most n m) [
    | inl low ↦ elim (at_most m n) [ inl high ↦ omega arith | inr less ↦ absurd (g.first n h.here less h.splits) ]
    | inr less ↦ absurd (h.first m g.here less g.splits)
  ]

pub one_first_splitting : FirstSplittingIsOne
one_first_splitting o part None None size h g = refl
one_first_splitting o part None (Some m) size h g = absurd (not_none o part size m h g)
one_first_splitting o part (Some n) None size h g = absurd (not_none o part size n g h)
one_first_splitting o part (Some n) (Some m) size h g = ap Some (one_first o part size n m h g)

-- ---- a list of rising numbers is determined

above : (low n : ℕ) (ns : List ℕ) → RisesThrough low ns → Among n ns → low ≤ n
above low n [] up h = absurd h
above low n (m ∷ ns) up (inl e) = let le = up.0 in omega (arith, le, e)
above low n (m ∷ ns) up (inr h) = let le = up.0 in let rest = above (suc m) n ns up.1 h in omega (arith, le, rest)

-- the first numbers are equal
one_head : (n m : ℕ) (ns ms : List ℕ) → RisesThrough (suc n) ns → RisesThrough (suc m) ms → Among n (m ∷ ms) → Among m (n ∷ ns) → n ≡ m
one_head n m ns ms a b (inl e) k = e
one_head n m ns ms a b (inr h) (inl e) = sym e
one_head n m ns ms a b (inr h) (inr k) = let x = above (suc m) n ms b h in let y = above (suc n) m ns a k in absurd (omega (arith, x, y))

-- the rest of one is in the rest of the other
one_tail : (n m k : ℕ) (ns ms : List ℕ) → n ≡ m → RisesThrough (suc n) ns → ((k : ℕ) → Among k (n ∷ ns) → Among k (m ∷ ms)) → Among k ns → Among k ms
one_tail n m k ns ms e up into h = by_side (into k (inr h))
  where
    by_side : (k ≡ m) ⊎ Among k ms → Among k ms
    by_side (inl w) = let le = above (suc n) k ns up h in absurd (omega (arith, le, w, e))
    by_side (inr w) = w

one_rising : (low : ℕ) (ns ms : List ℕ) → RisesThrough low ns → RisesThrough low ms → ((n : ℕ) → Among n ns → Among n ms) → ((n : ℕ) → Among n ms → Among n ns) → ns ≡ ms
one_rising low [] [] a b f g = refl
one_rising low [] (m ∷ ms) a b f g = absurd (g m (inl refl))
one_rising low (n ∷ ns) [] a b f g = absurd (f n (inl refl))
one_rising low (n ∷ ns) (m ∷ ms) a b f g =
    let e : n ≡ m = one_head n m ns ms a.1 b.1 (f n (inl refl)) (g m (inl refl)) in
    let tails : ns ≡ ms = one_rising (suc n) ns ms a.1 (subst (λ k. RisesThrough (suc k) ms) (sym e) b.1) (λ k h. one_tail n m k ns ms e a.1 f h) (λ k h. one_tail m n k ms ns (sym e) b.1 g h) in
    ap (λ k. k ∷ ns) e ∙ ap (λ z. m ∷ z) tails

pub one_listing : MembersAreListedOnce
one_listing s ns ms h k = one_rising 0 ns ms h.rises k.rises (λ n a. (k.all n).0 ((h.all n).1 a)) (λ n a. (h.all n).0 ((k.all n).1 a))
