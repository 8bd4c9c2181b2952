-- Whether two nodes are linked can be decided.
use Rattle.std.proofs.Common.{◌≡◌, ◌⊎◌, ◌<◌, ◌≤◌, ℕ, zero, suc, Some, List, [], ◌∷◌, slice_get, refl, subst, ap, inl, inr, arith}
use Rattle.std.proofs.lemmas.Bool.Decides.{eqb_tells}
use Rattle.in_open_nets.specs.declared.open_nets.OpenPoint.{OpenPoint}
use Rattle.in_open_nets.specs.declared.open_nets.OpenPoint.TheVariants.{Port, Free}
use Rattle.in_base.specs.Graphs.{Graph}
use Rattle.in_open_nets.specs.Splitting.{Linked, alone, onward}
use Rattle.in_open_nets.specs.OpenNets.{OpenNet, IsWire, open_graph}
use Rattle.in_base.proofs.Places.{some_same}
use Rattle.in_open_nets.proofs.Built.Balance.{wire_turn}

abbrev pub Decided : Type 0 → Type 0
Decided A = A ⊎ (A → ⊥)

pub same_nat : (n m : ℕ) → Decided (n ≡ m)
same_nat n m = elim (eqb_tells n m) [ inl h ↦ inl h.1 | inr h ↦ inr h.1 ]

pub both_decided : {A B : Type 0} → Decided A → Decided B → Decided (A × B)
both_decided (inl a) (inl b) = inl (a, b)
both_decided (inl a) (inr b) = inr (λ h. b h.1)
both_decided (inr a) b = inr (λ h. a h.0)

pub either_decided : {A B : Type 0} → Decided A → Decided B → Decided (A ⊎ B)
either_decided (inl a) b = inl (inl a)
either_decided (inr a) (inl b) = inl (inr b)
either_decided (inr a) (inr b) = inr (λ h. elim h [ inl x ↦ a x | inr y ↦ b y ])

pub at_most : (a b : ℕ) → (a ≤ b) ⊎ (b < a)
at_most zero b = inl (omega arith)
at_most (suc a) zero = inr (omega arith)
at_most (suc a) (suc b) = elim (at_most a b) [ inl h ↦ inl (omega arith) | inr h ↦ inr (omega arith) ]

-- of the numbers below b, one by the least key
pub least : (P : ℕ → Type 0) → ((i : ℕ) → Decided (P i)) → (key : ℕ → ℕ) → (b : ℕ) → ((i : ℕ) → i < b → P i → ⊥) ⊎ ((i : ℕ) × (i < b) × P i × ((j : ℕ) → j < b → P j → key i ≤ key j))
least P dec key zero = inl (λ i l h. omega arith)
least P dec key (suc b) = go (dec b) (least P dec key b)
  where
    go : Decided (P b) → ((i : ℕ) → i < b → P i → ⊥) ⊎ ((i : ℕ) × (i < b) × P i × ((j : ℕ) → j < b → P j → key i ≤ key j)) → ((i : ℕ) → i < suc b → P i → ⊥) ⊎ ((i : ℕ) × (i < suc b) × P i × ((j : ℕ) → j < suc b → P j → key i ≤ key j))
    go (inr n) (inl none) = inl (λ i l h. elim (same_nat i b) [ inl e ↦ n (subst P e h) | inr d ↦ none i (omega arith) h ])
    go (inl y) (inl none) = inr (b, omega arith, y, λ j l h. elim (same_nat j b) [ inl e ↦ let f : key j ≡ key b = ap key e in omega arith | inr d ↦ absurd (none j (omega arith) h) ])
    go (inr n) (inr r) = let l0 = r.1 in inr (r.0, omega arith, r.2, λ j l h. elim (same_nat j b) [ inl e ↦ absurd (n (subst P e h)) | inr d ↦ r.3 j (omega arith) h ])
    go (inl y) (inr r) = let l0 = r.1 in elim (at_most (key r.0) (key b)) [
      | inl le ↦ inr (r.0, omega arith, r.2, λ j l h. elim (same_nat j b) [ inl e ↦ let f : key j ≡ key b = ap key e in omega arith | inr d ↦ r.3 j (omega arith) h ])
      | inr gt ↦ inr (b, omega arith, y, λ j l h. elim (same_nat j b) [ inl e ↦ let f : key j ≡ key b = ap key e in omega arith | inr d ↦ let k = r.3 j (omega arith) h in omega arith ])
    ]

pub link_first : (g : Graph) (P : g.Node → Type 0) (u v : g.Node) → Linked g P u v → P u
link_first g P u v (alone _ h) = h
link_first g P u v (onward _ m _ i j h w k) = h

pub link_last : (g : Graph) (P : g.Node → Type 0) (u v : g.Node) → Linked g P u v → P v
link_last g P u v (alone _ h) = h
link_last g P u v (onward _ m _ i j h w k) = link_last g P m v k

pub link_map : (g : Graph) (P R : g.Node → Type 0) → ((k : g.Node) → P k → R k) → (u v : g.Node) → Linked g P u v → Linked g R u v
link_map g P R f u v (alone _ h) = alone u (f u h)
link_map g P R f u v (onward _ m _ i j h w k) = onward u m v i j (f u h) w (link_map g P R f m v k)

-- some wire in the list joins a port of l and one of m
abbrev pub NextIn : List (OpenPoint × OpenPoint) → ℕ → ℕ → Type 0
NextIn ws l m = (i : ℕ) × (j : ℕ) × (w : ℕ) × ((slice_get ws w ≡ Some (Port l i, Port m j)) ⊎ (slice_get ws w ≡ Some (Port m j, Port l i)))

module _ (o : OpenNet) where
  pub link_snoc : (P : ℕ → Type 0) (u l m : ℕ) (i j w : ℕ) → Linked (open_graph o) P u l → IsWire o w (Port l i) (Port m j) → P m → Linked (open_graph o) P u m
  link_snoc P u l m i j w (alone _ h) g k = onward u m m i j h (w, g) (alone m k)
  link_snoc P u l m i j w (onward _ n _ i' j' h v r) g k = onward u n m i' j' h v (link_snoc P n l m i j w r g k)

  abbrev pub AreNext : ℕ → ℕ → Type 0
  AreNext l m = (i : ℕ) × (j : ℕ) × (w : ℕ) × IsWire o w (Port l i) (Port m j)

  abbrev IsPair : OpenPoint → OpenPoint → ℕ → ℕ → Type 0
  IsPair p q l m = (i : ℕ) × (j : ℕ) × (p ≡ Port l i) × (q ≡ Port m j)

  is_pair : (p q : OpenPoint) (l m : ℕ) → Decided (IsPair p q l m)
  is_pair (Port a i) (Port b j) l m = elim (both_decided (same_nat a l) (same_nat b m)) [
    | inl h ↦ let e0 = h.0 in let e1 = h.1 in inl (i, j, ap (λ z. Port z i) e0, ap (λ z. Port z j) e1)
    | inr h ↦ inr (λ r. let a' : ◌≡◌ {A = OpenPoint} (Port a i) (Port l r.0) = r.2 in let b' : ◌≡◌ {A = OpenPoint} (Port b j) (Port m r.1) = r.3 in h (cc, cc))
  ]
  is_pair (Port a i) (Free k) l m = inr (λ r. let b' : ◌≡◌ {A = OpenPoint} (Free k) (Port m r.1) = r.3 in cc)
  is_pair (Free k) q l m = inr (λ r. let b' : ◌≡◌ {A = OpenPoint} (Free k) (Port l r.0) = r.2 in cc)

  next_in : (ws : List (OpenPoint × OpenPoint)) (l m : ℕ) → Decided (NextIn ws l m)
  next_in [] l m = inr (λ r. elim r.3 [ inl h ↦ cc | inr h ↦ cc ])
  next_in ((p, q) ∷ ws) l m = go (is_pair p q l m) (is_pair p q m l) (next_in ws l m)
    where
      go : Decided (IsPair p q l m) → Decided (IsPair p q m l) → Decided (NextIn ws l m) → Decided (NextIn ((p, q) ∷ ws) l m)
      go (inl h) k r = inl (h.0, h.1, 0, inl (let a = h.2 in let b = h.3 in cc))
      go (inr h) (inl k) r = inl (k.1, k.0, 0, inr (let a = k.2 in let b = k.3 in cc))
      go (inr h) (inr k) (inl r) = inl (r.0, r.1, suc r.2, r.3)
      go (inr h) (inr k) (inr r) = inr (λ t. at t.2 t.0 t.1 t.3)
        where
          at : (w i j : ℕ) → (slice_get ((p, q) ∷ ws) w ≡ Some (Port l i, Port m j)) ⊎ (slice_get ((p, q) ∷ ws) w ≡ Some (Port m j, Port l i)) → ⊥
          at zero i j (inl e) = let f = some_same (Some (p, q)) (p, q) (Port l i, Port m j) refl e in h (i, j, ap (λ z. z.0) f, ap (λ z. z.1) f)
          at zero i j (inr e) = let f = some_same (Some (p, q)) (p, q) (Port m j, Port l i) refl e in k (j, i, ap (λ z. z.0) f, ap (λ z. z.1) f)
          at (suc w) i j e = r (i, j, w, e)

  pub are_next : (l m : ℕ) → Decided (AreNext l m)
  are_next l m = next_in o.wires l m

  module _ (P : ℕ → Type 0) (dec : (n : ℕ) → Decided (P n)) where
    abbrev Near : ℕ → ℕ → Type 0
    Near l m = (P l × P m) × ((l ≡ m) ⊎ AreNext l m)

    -- linked through nodes below z
    abbrev Through : ℕ → ℕ → ℕ → Type 0
    Through zero l m = Near l m
    Through (suc z) l m = Through z l m ⊎ (Through z l z × Through z z m)

    through : (z l m : ℕ) → Decided (Through z l m)
    through zero l m = both_decided (both_decided (dec l) (dec m)) (either_decided (same_nat l m) (are_next l m))
    through (suc z) l m = either_decided (through z l m) (both_decided (through z l z) (through z z m))

    pub link_join : (l m k : ℕ) → Linked (open_graph o) P l m → Linked (open_graph o) P m k → Linked (open_graph o) P l k
    link_join l m k (alone _ h) r = r
    link_join l m k (onward _ n _ i j h w q) r = onward l n k i j h w (link_join n m k q r)

    near_link : (l m : ℕ) → P l → P m → (l ≡ m) ⊎ AreNext l m → Linked (open_graph o) P l m
    near_link l m h k (inl e) = subst (λ z. Linked (open_graph o) P l z) e (alone l h)
    near_link l m h k (inr r) = onward l m m r.0 r.1 h (r.2, r.3) (alone m k)

    through_link : (z l m : ℕ) → Through z l m → Linked (open_graph o) P l m
    through_link zero l m h = near_link l m h.0.0 h.0.1 h.1
    through_link (suc z) l m (inl h) = through_link z l m h
    through_link (suc z) l m (inr h) = link_join l z m (through_link z l z h.0) (through_link z z m h.1)

    near_through : (z l m : ℕ) → Near l m → Through z l m
    near_through zero l m h = h
    near_through (suc z) l m h = inl (near_through z l m h)

    through_both : (z v l m : ℕ) → v < z → Through z l v → Through z v m → Through z l m
    through_both zero v l m b h k = absurd (omega arith)
    through_both (suc z) v l m b h k = go (same_nat v z) h k (λ c x y. through_both z v c.0 c.1 c.2 x y)
      where
        go : Decided (v ≡ z) → Through (suc z) l v → Through (suc z) v m → ((c : ℕ × ℕ × (v < z)) → Through z c.0 v → Through z v c.1 → Through z c.0 c.1) → Through (suc z) l m
        go (inl e) h k on = inr (to (subst (λ u. Through (suc z) l u) e h), from (subst (λ u. Through (suc z) u m) e k))
          where
            to : Through (suc z) l z → Through z l z
            to (inl a) = a
            to (inr a) = a.0

            from : Through (suc z) z m → Through z z m
            from (inl a) = a
            from (inr a) = a.1
        go (inr d) (inl a) (inl c) on = inl (on (l, m, omega arith) a c)
        go (inr d) (inl a) (inr c) on = inr (on (l, z, omega arith) a c.0, c.1)
        go (inr d) (inr a) (inl c) on = inr (a.0, on (z, m, omega arith) a.1 c)
        go (inr d) (inr a) (inr c) on = inr (a.0, c.1)

    link_through : (b : ℕ) → ((n : ℕ) → P n → n < b) → (l m : ℕ) → Linked (open_graph o) P l m → Through b l m
    link_through b below l m (alone _ h) = near_through b l l ((h, h), inl refl)
    link_through b below l m (onward _ n _ i j h w k) =
        let hn = link_first (open_graph o) P n m k in
        through_both b n l m (below n hn) (near_through b l n ((h, hn), inr (i, j, w.0, w.1))) (link_through b below n m k)

    pub link_back : (l m : ℕ) → Linked (open_graph o) P l m → Linked (open_graph o) P m l
    link_back l m (alone _ h) = alone l h
    link_back l m (onward _ n _ i j h w k) =
        link_join m n l (link_back n m k) (onward n l l j i (link_first (open_graph o) P n m k) (w.0, wire_turn o w.0 (Port l i) (Port n j) w.1) (alone l h))

    pub are_linked : (b : ℕ) → ((n : ℕ) → P n → n < b) → (l m : ℕ) → Decided (Linked (open_graph o) P l m)
    are_linked b below l m = elim (through b l m) [ inl h ↦ inl (through_link b l m h) | inr h ↦ inr (λ k. h (link_through b below l m k)) ]
