-- Sets as lists of tests, and the nodes that are joined in a set, by computing.
use Rattle.std.proofs.Common.{◌≡◌, ◌⊎◌, ◌↔◌, ◌<◌, ℕ, zero, suc, Bool, true, false, ◌||◌, ◌&&◌, nat_eq, Some, List, [], ◌∷◌, ◌++◌, length, slice_get, refl, sym, subst, ap, inl, inr, ◌∙◌, arith}
use Rattle.std.proofs.lemmas.Bool.{and_from, cases_Bool, eqb-true, or_cases, or_left, or_right}
use Rattle.std.proofs.lemmas.Bool.Decides.{eqb_tells}
use Rattle.std.proofs.Math.ListN.{get_or-append, length-append}
use Rattle.std.proofs.Math.Seq.{get_or-append_seam}
use Rattle.in_open_nets.specs.declared.open_nets.OpenPoint.{OpenPoint}
use Rattle.in_open_nets.specs.declared.open_nets.OpenPoint.TheVariants.{Port, Free}
use Rattle.in_open_nets.specs.Constructions.{IsIn}
use Rattle.in_open_nets.specs.Members.{nodes_in}
use Rattle.in_open_nets.specs.OpenNets.{OpenNet, IsWire, open_graph}
use Rattle.in_open_nets.specs.Splitting.{Linked, alone, onward}
use Rattle.in_base.proofs.Places.{some_same}
use Rattle.in_open_nets.proofs.Public.{both_left, both_right, in_length, link_first, not_both, same_nat, Decided, NextIn}
use Rattle.in_simple_deriving.specs.Turns.{is_pair, joined_through, next_in, tests_below}

-- ---- lists of tests

pub below_many : (n : ℕ) (s : ℕ → Bool) → length (tests_below n s) ≡ n
unfolding tests_below
below_many zero s = refl
below_many (suc n) s = let e = length-append (tests_below n s) (s n ∷ []) in let r = below_many n s in omega arith

pub below_at : (n : ℕ) (s : ℕ → Bool) (m : ℕ) → m < n → nodes_in (tests_below n s) m ≡ s m
unfolding tests_below
below_at zero s m l = absurd (omega arith)
below_at (suc n) s m l = elim (same_nat m n) [
  | inl e ↦ let many = below_many n s in
      subst (λ z. nodes_in (tests_below n s ++ s n ∷ []) z ≡ s z) (sym e) (subst (λ z. nodes_in (tests_below n s ++ s n ∷ []) z ≡ s n) many (get_or-append_seam (tests_below n s) (s n) [] false))
  | inr d ↦ let many = below_many n s in let l' : m < length (tests_below n s) = omega arith in get_or-append (tests_below n s) (s n ∷ []) false m l' ∙ below_at n s m (omega arith)
]

pub below_in : (n : ℕ) (s : ℕ → Bool) (m : ℕ) → IsIn m (nodes_in (tests_below n s)) ↔ ((m < n) × IsIn m s)
below_in n s m = (to, λ h. below_at n s m h.0 ∙ h.1)
  where
    to : IsIn m (nodes_in (tests_below n s)) → (m < n) × IsIn m s
    to h =
        let l = in_length (tests_below n s) m h in
        let many = below_many n s in
        let less : m < n = omega arith in
        (less, sym (below_at n s m less) ∙ h)

pub is_in : (s : ℕ → Bool) (n : ℕ) → Decided (IsIn n s)
is_in s n = elim (cases_Bool (s n)) [ inl h ↦ inl h | inr h ↦ inr (λ k. not_both (s n) k h) ]

-- ---- joined nodes

pub same_is : (a : ℕ) → nat_eq a a ≡ true
same_is a = elim (eqb_tells a a) [ inl t ↦ t.0 | inr t ↦ absurd (t.1 refl) ]

pair_has : (p q : OpenPoint) (l m : ℕ) → is_pair p q l m ≡ true → (i : ℕ) × (j : ℕ) × (p ≡ Port l i) × (q ≡ Port m j)
pair_has (Port a i) (Port b j) l m h = (i, j, ap (λ z. Port z i) (eqb-true a l (both_left (nat_eq a l) (nat_eq b m) h)), ap (λ z. Port z j) (eqb-true b m (both_right (nat_eq a l) (nat_eq b m) h)))
pair_has (Port a i) (Free k) l m h = absurd (cc)
pair_has (Free k) q l m h = absurd (cc)

pair_is : (l i m j : ℕ) → is_pair (Port l i) (Port m j) l m ≡ true
pair_is l i m j = and_from (nat_eq l l) (nat_eq m m) (same_is l) (same_is m)

next_has : (ws : List (OpenPoint × OpenPoint)) (l m : ℕ) → next_in ws l m ≡ true → NextIn ws l m
next_has [] l m h = absurd (cc)
next_has ((p, q) ∷ ws) l m h = elim (or_cases (is_pair p q l m || is_pair p q m l) (next_in ws l m) h) [
  | inl g ↦ elim (or_cases (is_pair p q l m) (is_pair p q m l) g) [
    | inl f ↦ let r = pair_has p q l m f in (r.0, r.1, 0, inl (ap (λ z. Some (z, q)) r.2 ∙ ap (λ z. Some (Port l r.0, z)) r.3))
    | inr f ↦ let r = pair_has p q m l f in (r.1, r.0, 0, inr (ap (λ z. Some (z, q)) r.2 ∙ ap (λ z. Some (Port m r.0, z)) r.3))
  ]
  | inr g ↦ let r = next_has ws l m g in (r.0, r.1, suc r.2, r.3)
]

next_is : (ws : List (OpenPoint × OpenPoint)) (l m i j w : ℕ) → (slice_get ws w ≡ Some (Port l i, Port m j)) ⊎ (slice_get ws w ≡ Some (Port m j, Port l i)) → next_in ws l m ≡ true
next_is [] l m i j w h = elim h [ inl e ↦ absurd (cc) | inr e ↦ absurd (cc) ]
next_is ((p, q) ∷ ws) l m i j zero (inl e) =
    let f = some_same (Some (p, q)) (p, q) (Port l i, Port m j) refl e in
    let a : p ≡ Port l i = ap (λ z. z.0) f in
    let b : q ≡ Port m j = ap (λ z. z.1) f in
    or_left (is_pair p q l m || is_pair p q m l) (next_in ws l m) (or_left (is_pair p q l m) (is_pair p q m l) (subst (λ z. is_pair z q l m ≡ true) (sym a) (subst (λ z. is_pair (Port l i) z l m ≡ true) (sym b) (pair_is l i m j))))
next_is ((p, q) ∷ ws) l m i j zero (inr e) =
    let f = some_same (Some (p, q)) (p, q) (Port m j, Port l i) refl e in
    let a : p ≡ Port m j = ap (λ z. z.0) f in
    let b : q ≡ Port l i = ap (λ z. z.1) f in
    or_left (is_pair p q l m || is_pair p q m l) (next_in ws l m) (or_right (is_pair p q l m) (is_pair p q m l) (subst (λ z. is_pair z q m l ≡ true) (sym a) (subst (λ z. is_pair (Port m j) z m l ≡ true) (sym b) (pair_is m j l i))))
next_is ((p, q) ∷ ws) l m i j (suc w) h = or_right (is_pair p q l m || is_pair p q m l) (next_in ws l m) (next_is ws l m i j w h)

module _ (o : OpenNet) (s : ℕ → Bool) where
  abbrev Ways : ℕ → ℕ → ℕ → Type 0
  Ways z l m = joined_through o s z l m ≡ true

  abbrev Near : ℕ → ℕ → Type 0
  Near l m = (l ≡ m) ⊎ ((i : ℕ) × (j : ℕ) × (w : ℕ) × IsWire o w (Port l i) (Port m j))

  near_ways : (l m : ℕ) → IsIn l s → IsIn m s → Near l m → Ways 0 l m
  unfolding joined_through
  near_ways l m h k (inl e) = and_from (s l && s m) (nat_eq l m || next_in o.wires l m) (and_from (s l) (s m) h k) (or_left (nat_eq l m) (next_in o.wires l m) (subst (λ z. nat_eq l z ≡ true) e (same_is l)))
  near_ways l m h k (inr r) = and_from (s l && s m) (nat_eq l m || next_in o.wires l m) (and_from (s l) (s m) h k) (or_right (nat_eq l m) (next_in o.wires l m) (next_is o.wires l m r.0 r.1 r.2 r.3))

  ways_near : (l m : ℕ) → Ways 0 l m → IsIn l s × IsIn m s × Near l m
  unfolding joined_through
  ways_near l m h =
      let a = both_left (s l && s m) (nat_eq l m || next_in o.wires l m) h in
      let b = both_right (s l && s m) (nat_eq l m || next_in o.wires l m) h in
      (both_left (s l) (s m) a, both_right (s l) (s m) a, elim (or_cases (nat_eq l m) (next_in o.wires l m) b) [ inl e ↦ inl (eqb-true l m e) | inr e ↦ inr (next_has o.wires l m e) ])

  ways_more : (z l m : ℕ) → Ways z l m → Ways (suc z) l m
  unfolding joined_through
  ways_more z l m h = or_left (joined_through o s z l m) (joined_through o s z l z && joined_through o s z z m) h

  ways_by : (z l m : ℕ) → Ways z l z → Ways z z m → Ways (suc z) l m
  unfolding joined_through
  ways_by z l m h k = or_right (joined_through o s z l m) (joined_through o s z l z && joined_through o s z z m) (and_from (joined_through o s z l z) (joined_through o s z z m) h k)

  ways_cases : (z l m : ℕ) → Ways (suc z) l m → Ways z l m ⊎ (Ways z l z × Ways z z m)
  unfolding joined_through
  ways_cases z l m h = elim (or_cases (joined_through o s z l m) (joined_through o s z l z && joined_through o s z z m) h) [
    | inl a ↦ inl a
    | inr a ↦ inr (both_left (joined_through o s z l z) (joined_through o s z z m) a, both_right (joined_through o s z l z) (joined_through o s z z m) a)
  ]

  near_all : (z l m : ℕ) → Ways 0 l m → Ways z l m
  near_all zero l m h = h
  near_all (suc z) l m h = ways_more z l m (near_all z l m h)

  ways_both : (z v l m : ℕ) → v < z → Ways z l v → Ways z v m → Ways z l m
  ways_both zero v l m b h k = absurd (omega arith)
  ways_both (suc z) v l m b h k = go (same_nat v z) (ways_cases z l v h) (ways_cases z v m k) (λ a c less x y. ways_both z v a c less x y)
    where
      to : Ways (suc z) l z → Ways z l z
      to t = elim (ways_cases z l z t) [ inl a ↦ a | inr a ↦ a.0 ]

      from : Ways (suc z) z m → Ways z z m
      from t = elim (ways_cases z z m t) [ inl a ↦ a | inr a ↦ a.1 ]

      go : Decided (v ≡ z) → Ways z l v ⊎ (Ways z l z × Ways z z v) → Ways z v m ⊎ (Ways z v z × Ways z z m) → ((a c : ℕ) → v < z → Ways z a v → Ways z v c → Ways z a c) → Ways (suc z) l m
      go (inl e) x y on = ways_by z l m (to (subst (λ u. Ways (suc z) l u) e h)) (from (subst (λ u. Ways (suc z) u m) e k))
      go (inr d) (inl a) (inl c) on = ways_more z l m (on l m (omega arith) a c)
      go (inr d) (inl a) (inr c) on = ways_by z l m (on l z (omega arith) a c.0) c.1
      go (inr d) (inr a) (inl c) on = ways_by z l m a.0 (on z m (omega arith) a.1 c)
      go (inr d) (inr a) (inr c) on = ways_by z l m a.0 c.1

  -- the computed answer is right
  pub ways_link : (z l m : ℕ) → Ways z l m → Linked (open_graph o) (λ u. IsIn u s) l m
  ways_link zero l m h = let r = ways_near l m h in elim r.2 [
    | inl e ↦ subst (λ z. Linked (open_graph o) (λ u. IsIn u s) l z) e (alone l r.0)
    | inr n ↦ onward l m m n.0 n.1 r.0 (n.2, n.3) (alone m r.1)
  ]
  ways_link (suc z) l m h = elim (ways_cases z l m h) [
    | inl a ↦ ways_link z l m a
    | inr a ↦ link_on l z m (ways_link z l z a.0) (ways_link z z m a.1)
  ]
    where
      link_on : (a b c : ℕ) → Linked (open_graph o) (λ u. IsIn u s) a b → Linked (open_graph o) (λ u. IsIn u s) b c → Linked (open_graph o) (λ u. IsIn u s) a c
      link_on a b c (alone _ h) r = r
      link_on a b c (onward _ n _ i j h w q) r = onward a n c i j h w (link_on n b c q r)

  pub link_ways : (b : ℕ) → ((n : ℕ) → IsIn n s → n < b) → (l m : ℕ) → Linked (open_graph o) (λ u. IsIn u s) l m → Ways b l m
  link_ways b below l m (alone _ h) = near_all b l l (near_ways l l h h (inl refl))
  link_ways b below l m (onward _ n _ i j h w k) =
      let hn = link_first (open_graph o) (λ u. IsIn u s) n m k in
      ways_both b n l m (below n hn) (near_all b l n (near_ways l n h hn (inr (i, j, w.0, w.1)))) (link_ways b below n m k)
