-- The active pairs of a net, found wire by wire.
use Rattle.std.proofs.Common.{◌≡◌, ◌⊎◌, inl, inr, ◌<◌, ◌≤◌, ◌+◌, ℕ, Option, Some, None, List, [], ◌∷◌, ◌++◌, length, slice_get, refl, sym, ap, subst, ◌∙◌, arith}
use Rattle.std.specs.Prelude.{option_map}
use Rattle.std.proofs.lemmas.Option.{slice_get_within}
use Rattle.in_symbols.specs.Tables.{Tables}
use Rattle.in_net.specs.declared.nets.Point.{Point}
use Rattle.in_net.specs.declared.nets.Point.TheVariants.{Port}
use Rattle.in_net.specs.ActivePairs.{IsActivePair}
use Rattle.in_net.specs.declared.nets.Wire.{Wire}
use Rattle.in_net.specs.Parts.{Parts, IsWhole, wire_in}
use Rattle.in_base.proofs.Places.{last_at, kept_at, more_at}
use Rattle.in_net.proofs.Public.{one_on_wire}
use Rattle.in_interaction.proofs.Queues.Apart.{same_numbers}
use Rattle.in_interaction.specs.Queues.{agents_at, numbers_of, IsQueueOf, JoinsPair, JoinsNoPair, AreInOrder, IsFirstQueue}

module _ (t : Tables) (n : Parts) where
  -- the pairs on the wires below one
  pub record AreFirst (w : ℕ) (qs : List (ℕ × ℕ)) : Type 0 where
    pub pairs : (k : ℕ) (q : ℕ × ℕ) → slice_get qs k ≡ Some q → IsActivePair t n (agents_at q) × ((v : ℕ) × (v < w) × JoinsPair n v q)
    pub all : (v : ℕ) (q : ℕ × ℕ) → v < w → IsActivePair t n (agents_at q) → JoinsPair n v q → (k : ℕ) × (slice_get qs k ≡ Some q)
    pub order : AreInOrder n qs

  pub none_yet : AreFirst 0 []
  none_yet = record { pairs = λ k q e. cc; all = λ v q l h j. absurd (omega (arith, l)); order = λ j k v w p q l e f. cc }

  pub not_here : (w : ℕ) (qs : List (ℕ × ℕ)) → AreFirst w qs → JoinsNoPair n w → AreFirst (w + 1) qs
  not_here w qs h none = record {
    pairs = λ k q e. (let r = h.pairs k q e in (r.0, (r.1.0, (let l = r.1.1 in omega (arith, l)), r.1.2)));
    all = λ v q l a j. go v q a j (let o : (v < w) ⊎ (v ≡ w) = grind (arith, l) in o);
    order = h.order;
  }
    where
      go : (v : ℕ) (q : ℕ × ℕ) → IsActivePair t n (agents_at q) → JoinsPair n v q → (v < w) ⊎ (v ≡ w) → (k : ℕ) × (slice_get qs k ≡ Some q)
      go v q a j (inl l) = h.all v q l a j
      go v q a j (inr e) = absurd (none q (subst (λ z. JoinsPair n z q) e j))

  module _ (whole : IsWhole n) where
    pub one_here : (w : ℕ) (qs : List (ℕ × ℕ)) (q : ℕ × ℕ) → AreFirst w qs → IsActivePair t n (agents_at q) → JoinsPair n w q → AreFirst (w + 1) (qs ++ q ∷ [])
    one_here w qs q h here joins = record { pairs = pairs; all = all; order = order }
      where
        pairs : (k : ℕ) (p : ℕ × ℕ) → slice_get (qs ++ q ∷ []) k ≡ Some p → IsActivePair t n (agents_at p) × ((v : ℕ) × (v < w + 1) × JoinsPair n v p)
        pairs k p e = elim (more_at qs q p k e) [
          | inl f ↦ (let r = h.pairs k p f in (r.0, (r.1.0, (let l = r.1.1 in omega (arith, l)), r.1.2)))
          | inr f ↦ (subst (λ z. IsActivePair t n (agents_at z)) f.1 here, (w, omega arith, subst (JoinsPair n w) f.1 joins))
        ]

        all_by : (v : ℕ) (p : ℕ × ℕ) → IsActivePair t n (agents_at p) → JoinsPair n v p → (v < w) ⊎ (v ≡ w) → (k : ℕ) × (slice_get (qs ++ q ∷ []) k ≡ Some p)
        all_by v p a j (inl l) = (let r = h.all v p l a j in (r.0, kept_at qs (q ∷ []) r.0 p r.1))
        all_by v p a j (inr e) = (length qs, last_at qs q ∙ ap (λ (z : ℕ × ℕ). Some z) (same_numbers q p (one_on_wire t n w (agents_at q) (agents_at p) here a joins (subst (λ z. JoinsPair n z p) e j))))

        all : (v : ℕ) (p : ℕ × ℕ) → v < w + 1 → IsActivePair t n (agents_at p) → JoinsPair n v p → (k : ℕ) × (slice_get (qs ++ q ∷ []) k ≡ Some p)
        all v p l a j = all_by v p a j (let o : (v < w) ⊎ (v ≡ w) = grind (arith, l) in o)

        -- an earlier pair is on an earlier wire than the last one
        earlier : (j : ℕ) (p x : ℕ × ℕ) → slice_get qs j ≡ Some p → q ≡ x → (u v : ℕ) → JoinsPair n u p → JoinsPair n v x → u < v
        earlier j p x e same u v a b =
            let r = h.pairs j p e in
            let one : u ≡ r.1.0 = whole.once u r.1.0 (Port (agents_at p).0 0) (Port (agents_at p).1 0) a r.1.2 in
            let two : v ≡ w = whole.once v w (Port (agents_at q).0 0) (Port (agents_at q).1 0) (subst (JoinsPair n v) (sym same) b) joins in
            let l = r.1.1 in
            omega (arith, one, two, l)

        order : AreInOrder n (qs ++ q ∷ [])
        order j k u v p x l e f a b = go (more_at qs q p j e) (more_at qs q x k f)
          where
            go : (slice_get qs j ≡ Some p) ⊎ ((j ≡ length qs) × (q ≡ p)) → (slice_get qs k ≡ Some x) ⊎ ((k ≡ length qs) × (q ≡ x)) → u < v
            go (inl c) (inl d) = h.order j k u v p x l c d a b
            go (inl c) (inr d) = earlier j p x c d.1 u v a b
            go (inr c) (inl d) = absurd (let m = slice_get_within qs k x d in let o = c.0 in omega (arith, l, m, o))
            go (inr c) (inr d) = absurd (let m = c.0 in let o = d.0 in omega (arith, l, m, o))

    is_queue : (w : ℕ) (qs : List (ℕ × ℕ)) → AreFirst w qs → length n.wires ≤ w → IsQueueOf t n qs
    is_queue w qs h last = record {
      pairs = λ k q e. (h.pairs k q e).0;
      all = λ q a. (let v = whole.listed (Port q.0 0) (Port q.1 0) a.active in h.all v.0 (numbers_of q) (let l = within v.0 (numbers_of q) v.1 in omega (arith, l, last)) a v.1);
      once = λ j k q e f. go j k q e f (let o : (j ≡ k) ⊎ (j < k) ⊎ (k < j) = grind arith in o);
    }
      where
        wire_within : (v : ℕ) (z : Point × Point) → wire_in n v ≡ Some z → v < length n.wires
        wire_within v z e = by_wire (slice_get n.wires v) refl e
          where
            by_wire : (o : Option Wire) → slice_get n.wires v ≡ o → option_map {U = Point × Point} (λ (w : Wire). (w.one, w.other)) o ≡ Some z → v < length n.wires
            by_wire None is f = cc
            by_wire (Some w) is f = slice_get_within n.wires v w is

        within : (v : ℕ) (q : ℕ × ℕ) → JoinsPair n v q → v < length n.wires
        within v q (inl e) = wire_within v _ e
        within v q (inr e) = wire_within v _ e

        go : (j k : ℕ) (q : ℕ × ℕ) → slice_get qs j ≡ Some q → slice_get qs k ≡ Some q → (j ≡ k) ⊎ (j < k) ⊎ (k < j) → j ≡ k
        go j k q e f (inl same) = same
        go j k q e f (inr (inl l)) = absurd (let r = (h.pairs j q e).1 in let m = h.order j k r.0 r.0 q q l e f r.2 r.2 in omega (arith, m))
        go j k q e f (inr (inr l)) = absurd (let r = (h.pairs j q e).1 in let m = h.order k j r.0 r.0 q q l f e r.2 r.2 in omega (arith, m))

    -- the pairs of all wires are those of the net, in order
    pub is_first : (w : ℕ) (qs : List (ℕ × ℕ)) → AreFirst w qs → length n.wires ≤ w → IsFirstQueue t n qs
    is_first w qs h last = record { pairs = is_queue w qs h last; wires = λ k q e. (let r = (h.pairs k q e).1 in (r.0, r.2)); order = h.order }
