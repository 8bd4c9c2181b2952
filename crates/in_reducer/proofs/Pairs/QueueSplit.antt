-- A queue is split into the pairs that stay and those that go.
use Rattle.std.proofs.Common.{◌≡◌, ◌⊎◌, inl, inr, ◌<◌, ◌≤◌, ◌+◌, ℕ, zero, suc, Bool, true, false, cond, Some, None, IsSome, List, [], ◌∷◌, ◌++◌, count_by, get_or, length, map, take, drop, slice_get, refl, sym, ap, subst, ◌∙◌, append_assoc, arith}
use Rattle.std.specs.List.{filter}
use Rattle.std.proofs.lemmas.List.Sums.{length-filter, sum_by_more_le}
use Rattle.std.proofs.lemmas.Option.{get_or_from_slice_get, same_Some, slice_get_within}
use Rattle.in_symbols.specs.Tables.{Tables}
use Rattle.in_net.specs.ActivePairs.{IsActivePair}
use Rattle.in_net.specs.Nets.{IsNet, net_of, signature_of}
use Rattle.in_net.specs.Parts.{Parts, symbol_in}
use Rattle.in_interaction.specs.Queues.{IsQueueOf, agents_at, both, numbers_of}
use Rattle.in_interaction.proofs.Public.{symbol_number}
use Rattle.in_check.proofs.Public.{AreOpposed}
use Rattle.in_base.proofs.Places.{of_mapped, to_mapped, is_some as there}
use Rattle.in_gluing.specs.SideBySide.{StandBeside}
use Rattle.in_reducer.proofs.Pairs.QueueBeside as beside
use Rattle.in_reducer.proofs.Pairs.Requeued.{StandOnce}

-- ---- lists

-- one more element is tested
pub next_of : {X : Type 0} (xs ys zs : List X) (i : ℕ) (x : X) → i < length xs → drop i xs ++ ys ≡ x ∷ zs → (slice_get xs i ≡ Some x) × (zs ≡ drop (suc i) xs ++ ys)
next_of [] ys zs i x l e = absurd (omega (arith, l))
next_of (y ∷ xs) ys zs zero x l e = (cc, cc)
next_of (y ∷ xs) ys zs (suc i) x l e = next_of xs ys zs i x (omega (arith, l)) e

module _ {X : Type 0} (P : X → Bool) where
  -- the first element, and the others
  one_of : (b : Bool) (x : X) (xs : List X) → cond b (x ∷ xs) xs ≡ cond b (x ∷ []) [] ++ xs
  one_of true x xs = refl
  one_of false x xs = refl

  pub filter_next : (xs : List X) (i : ℕ) (x : X) → slice_get xs i ≡ Some x → filter P (take (suc i) xs) ≡ filter P (take i xs) ++ cond (P x) (x ∷ []) []
  filter_next [] i x e = absurd (let f : None ≡ Some x = e in cc)
  filter_next (y ∷ xs) zero x e = ap (λ (z : X). cond (P z) (z ∷ []) []) (same_Some y x e)
  filter_next (y ∷ xs) (suc i) x e =
      one_of (P y) y (filter P (take (suc i) xs)) ∙ ap (λ (zs : List X). cond (P y) (y ∷ []) [] ++ zs) (filter_next xs i x e)
      ∙ sym (append_assoc (cond (P y) (y ∷ []) []) (filter P (take i xs)) (cond (P x) (x ∷ []) [])) ∙ ap (λ (zs : List X). zs ++ cond (P x) (x ∷ []) []) (sym (one_of (P y) y (filter P (take i xs))))

  -- there is room for one more of those that pass
  pub room_for : (xs : List X) (i : ℕ) (x : X) → slice_get xs i ≡ Some x → P x ≡ true → length (filter P (take i xs)) < length (filter P xs)
  room_for xs i x e p =
      let before = length-filter P (take i xs) in
      let all = length-filter P xs in
      let more : count_by P (take i xs) + cond (P (get_or xs i x)) 1 0 ≤ count_by P xs = sum_by_more_le (λ (y : X). cond (P y) 1 0) xs i x (slice_get_within xs i x e) in
      let one : ◌≡◌ {A = ℕ} (cond (P (get_or xs i x)) 1 0) 1 = ap (λ (b : Bool). cond b 1 0) (ap P (get_or_from_slice_get xs i x x e) ∙ p) in
      omega (arith, before, all, more, one)

  -- an element that passes is in the list
  pub of_filter : (xs : List X) (j : ℕ) (x : X) → slice_get (filter P xs) j ≡ Some x → (k : ℕ) × (slice_get xs k ≡ Some x) × (P x ≡ true)
  of_filter [] j x e = absurd (let f : None ≡ Some x = e in cc)
  of_filter (y ∷ xs) j x e = go (P y) refl j e (λ i f. (let r = of_filter xs i x f in (suc r.0, r.1, r.2)))
    where
      go : (b : Bool) → P y ≡ b → (j : ℕ) → slice_get (cond b (y ∷ filter P xs) (filter P xs)) j ≡ Some x → ((i : ℕ) → slice_get (filter P xs) i ≡ Some x → (k : ℕ) × (slice_get (y ∷ xs) k ≡ Some x) × (P x ≡ true)) → (k : ℕ) × (slice_get (y ∷ xs) k ≡ Some x) × (P x ≡ true)
      go true is zero f more = (0, f, ap P (sym (same_Some y x f)) ∙ is)
      go true is (suc j) f more = more j f
      go false is j f more = more j f

  pub in_filter : (xs : List X) (k : ℕ) (x : X) → slice_get xs k ≡ Some x → P x ≡ true → (j : ℕ) × (slice_get (filter P xs) j ≡ Some x)
  in_filter [] k x e p = absurd (let f : None ≡ Some x = e in cc)
  in_filter (y ∷ xs) zero x e p = (0, ap (λ (b : Bool). slice_get (cond b (y ∷ filter P xs) (filter P xs)) 0) (ap P (same_Some y x e) ∙ p) ∙ e)
  in_filter (y ∷ xs) (suc k) x e p = go (P y) (in_filter xs k x e p)
    where
      go : (b : Bool) → (j : ℕ) × (slice_get (filter P xs) j ≡ Some x) → (j : ℕ) × (slice_get (cond b (y ∷ filter P xs) (filter P xs)) j ≡ Some x)
      go true r = (suc r.0, r.1)
      go false r = r

  pub once_filter : (xs : List X) → StandOnce xs → StandOnce (filter P xs)
  once_filter [] once j k x e d = absurd (let f : None ≡ Some x = e in cc)
  once_filter (y ∷ xs) once j k x e d = go (P y) j k e d (once_filter xs (λ i l z a b. (let s = once (suc i) (suc l) z a b in omega (arith, s))))
    where
      -- the first one is at no other place
      other : (k : ℕ) → y ≡ x → slice_get (filter P xs) k ≡ Some x → ⊥
      other k is f = let r = of_filter xs k x f in let z = once 0 (suc r.0) x (ap (λ (v : X). Some v) is) r.1 in omega (arith, z)

      go : (b : Bool) (j k : ℕ) → slice_get (cond b (y ∷ filter P xs) (filter P xs)) j ≡ Some x → slice_get (cond b (y ∷ filter P xs) (filter P xs)) k ≡ Some x → StandOnce (filter P xs) → j ≡ k
      go true zero zero e d tail = refl
      go true zero (suc k) e d tail = absurd (other k (same_Some y x e) d)
      go true (suc j) zero e d tail = absurd (other j (same_Some y x d) e)
      go true (suc j) (suc k) e d tail = ap suc (tail j k x e d)
      go false j k e d tail = tail j k x e d

-- ---- the pairs of two nets side by side

-- a net is a rest and a part side by side, and two tests tell which of its active pairs stay in the rest and which go to the part
pub record ArePairsSplit (t : Tables) (n m w : Parts) (f : ℕ → ℕ) (ends : List (ℕ × ℕ)) (name : ℕ → ℕ) (stay go : ℕ × ℕ → Bool) (qs : List (ℕ × ℕ)) : Type 0 where
  -- the rest is a net
  pub net_n : IsNet (signature_of t) (net_of n)
  -- the part is a net
  pub net_m : IsNet (signature_of t) (net_of m)
  -- the whole is the rest and the part side by side, the agents of the part under these names
  pub stand : StandBeside (net_of n) (net_of m) f ends (net_of w)
  -- of each active pair of the part, just one agent is a constructor
  pub opposed : AreOpposed t m
  -- each pair stays or goes
  pub one_of_two : (q : ℕ × ℕ) → (stay q ≡ true) ⊎ (go q ≡ true)
  -- if a pair stays, its first agent is in the rest
  pub stays : (q : ℕ × ℕ) → stay q ≡ true → IsSome ((net_of w).symbol q.0) → IsSome ((net_of n).symbol q.0)
  -- if a pair goes, its first agent is one of the part
  pub goes : (q : ℕ × ℕ) → go q ≡ true → IsSome ((net_of w).symbol q.0) → (y : ℕ) × IsSome ((net_of m).symbol y) × (f y ≡ q.0)
  -- from its name in the whole, an agent of the part gets its own name back
  pub named : (y : ℕ) → IsSome ((net_of m).symbol y) → name (f y) ≡ y
  -- the queue has the active pairs of the whole
  pub queue : IsQueueOf t w qs

module _ (t : Tables) (n m w : Parts) (f : ℕ → ℕ) (ends : List (ℕ × ℕ)) (name : ℕ → ℕ) (stay go : ℕ × ℕ → Bool) (qs : List (ℕ × ℕ)) (given : ArePairsSplit t n m w f ends name stay go qs) where
  open given use {net_n, net_m, stand, opposed, one_of_two, stays, goes, named, queue}

  lives : (q : ℕ × ℕ) → IsActivePair t w (agents_at q) → IsSome ((net_of w).symbol q.0)
  lives q h = there ((net_of w).symbol q.0) h.first.0 (symbol_number (symbol_in w q.0) h.first h.one)

  -- no agent is in both nets
  not_both : (x y : ℕ) → IsSome ((net_of n).symbol x) → IsSome ((net_of m).symbol y) → f y ≡ x → ⊥
  not_both x y a b e = let z : 0 ≡ 1 = (stand.apart 0 1 x y a b (sym e)).0 in omega (arith, z)

  rest_pair : (q : ℕ × ℕ) → stay q ≡ true → IsActivePair t w (agents_at q) → IsActivePair t n (agents_at q)
  rest_pair q p h = elim (beside.whose t n m w f ends net_n net_m stand opposed (agents_at q) h) [
    | inl a ↦ a
    | inr a ↦ absurd (not_both q.0 a.0.0 (stays q p (lives q h)) (beside.lives t n m w f ends net_n net_m stand opposed a.0 a.2).0 (ap (λ (z : ℕ × ℕ). z.0) a.1))
  ]

  part_pair : (q : ℕ × ℕ) → go q ≡ true → IsActivePair t w (agents_at q) → (z : ℕ × ℕ) × (both f z ≡ q) × IsActivePair t m (agents_at z)
  part_pair q p h = elim (beside.whose t n m w f ends net_n net_m stand opposed (agents_at q) h) [
    | inl a ↦ absurd (let y = goes q p (lives q h) in not_both q.0 y.0 (beside.own_lives t n m w f ends net_n net_m stand opposed q a) y.1 y.2)
    | inr a ↦ a
  ]

  -- the pairs of each are those of the whole that stay, and those that go
  rest_stays : (q : ℕ × ℕ) → IsActivePair t n (agents_at q) → stay q ≡ true
  rest_stays q h = elim (one_of_two q) [
    | inl p ↦ p
    | inr p ↦ absurd (let y = goes q p (lives q (beside.own_pair t n m w f ends net_n net_m stand opposed (agents_at q) h)) in not_both q.0 y.0 (beside.own_lives t n m w f ends net_n net_m stand opposed q h) y.1 y.2)
  ]

  part_goes : (q : ℕ × ℕ) → IsActivePair t m (agents_at q) → go (both f q) ≡ true
  part_goes q h = elim (one_of_two (both f q)) [
    | inl p ↦ absurd (not_both (f q.0) q.0 (stays (both f q) p (lives (both f q) (beside.their_pair t n m w f ends net_n net_m stand opposed q h))) (beside.lives t n m w f ends net_n net_m stand opposed q h).0 refl)
    | inr p ↦ p
  ]

  names_back : (q : ℕ × ℕ) → IsActivePair t m (agents_at q) → both name (both f q) ≡ q
  names_back q h = let l = beside.lives t n m w f ends net_n net_m stand opposed q h in λ i. (named q.0 l.0 i, named q.1 l.1 i)

  pub rest_queue : IsQueueOf t n (filter stay qs)
  rest_queue = record {
    pairs = λ k q e. (let r = of_filter stay qs k q e in rest_pair q r.2 (queue.pairs r.0 q r.1));
    all = λ q h. (let k = queue.all q (beside.own_pair t n m w f ends net_n net_m stand opposed q h) in in_filter stay qs k.0 (numbers_of q) k.1 (rest_stays (numbers_of q) h));
    once = once_filter stay qs queue.once;
  }

  -- a pair that goes, under the new numbers
  gone : (k : ℕ) (q : ℕ × ℕ) → slice_get (map (both name) (filter go qs)) k ≡ Some q → (slice_get (filter go qs) k ≡ Some (both f q)) × IsActivePair t m (agents_at q)
  gone k q e =
      let z = of_mapped (both name) (filter go qs) k q e in
      let r = of_filter go qs k z.0 z.1 in
      let v = part_pair z.0 r.2 (queue.pairs r.0 z.0 r.1) in
      let is : v.0 ≡ q = sym (names_back v.0 v.2) ∙ ap (both name) v.1 ∙ z.2 in
      (z.1 ∙ ap (λ (p : ℕ × ℕ). Some p) (sym v.1 ∙ ap (both f) is), subst (λ (p : ℕ × ℕ). IsActivePair t m (agents_at p)) is v.2)

  pub part_queue : IsQueueOf t m (map (both name) (filter go qs))
  part_queue = record {
    pairs = λ k q e. (gone k q e).1;
    all = λ q h. (
        let z = numbers_of q in
        let k = queue.all (agents_at (both f z)) (beside.their_pair t n m w f ends net_n net_m stand opposed z h) in
        let j = in_filter go qs k.0 (both f z) k.1 (part_goes z h) in
        (j.0, to_mapped (both name) (filter go qs) j.0 (both f z) j.1 ∙ ap (λ (p : ℕ × ℕ). Some p) (names_back z h))
        );
    once = λ j k q e d. once_filter go qs queue.once j k (both f q) (gone j q e).0 (gone k q d).0;
  }
