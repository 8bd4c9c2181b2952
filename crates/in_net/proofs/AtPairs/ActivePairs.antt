-- Active pairs, found by their lower numbers.
use Rattle.std.proofs.Common.{◌≡◌, ◌≢◌, ◌⊎◌, inl, inr, ◌+◌, ◌<◌, ◌≤◌, ℕ, zero, suc, Bool, true, false, Option, Some, None, IsSomeAnd, List, [], ◌∷◌, ◌++◌, length, slice_get, refl, sym, ap, subst, ◌∙◌, arith}
use Rattle.std.specs.Prelude.{option_map, option_and_then}
use Rattle.std.specs.List.{AllByRecursion}
use Rattle.std.proofs.lemmas.Option.{slice_get_within}
use Rattle.in_symbols.specs.Tables.{Tables, IsSymbol, is_constructor}
use Rattle.in_syntax.specs.declared.symbol_no.SymbolNo.{SymbolNo}
use Rattle.in_net.specs.ActivePairs.{AreActive, StandsFirst, IsOrdered, IsActivePair, lower_of, RiseByLower, ArePairsOf}
use Rattle.in_net.specs.Built.{IsOver, IsCellOver}
use Rattle.in_net.specs.declared.nets.AgentNo.{AgentNo}
use Rattle.in_net.specs.declared.nets.Cell.{Cell}
use Rattle.in_net.specs.declared.nets.Point.{Point}
use Rattle.in_net.specs.declared.nets.Point.TheVariants.{Port}
use Rattle.in_net.specs.Parts.{Parts, IsWhole, IsPointOf, cell_in, symbol_in, partner_in}
use Rattle.in_base.proofs.Places.{last_at, kept_at, more_at}
use Rattle.in_base.proofs.Places.{some_same}
use Rattle.in_net.proofs.WholeNets.WireAt.{has_partner}

-- ---- one pair

same_agent : (a b : AgentNo) (i j : ℕ) → ◌≡◌ {A = Point} (Port a i) (Port b j) → a ≡ b
same_agent a b i j e = cc

not_both_orders : (x y : Bool) (a b : ℕ) → (((x ≡ true) × (y ≡ false)) ⊎ ((x ≡ y) × (a < b))) → (((y ≡ true) × (x ≡ false)) ⊎ ((y ≡ x) × (b < a))) → ⊥
not_both_orders x y a b (inl h) (inl k) = let e : true ≡ false = sym h.0 ∙ k.1 in cc
not_both_orders x y a b (inl h) (inr k) = let e : true ≡ false = sym h.0 ∙ sym k.0 ∙ h.1 in cc
not_both_orders x y a b (inr h) (inl k) = let e : true ≡ false = sym k.0 ∙ sym h.0 ∙ k.1 in cc
not_both_orders x y a b (inr h) (inr k) = let l = h.1 in let m = k.1 in omega (arith, l, m)

pub below_or : (m x : ℕ) → m < x + 1 → (m < x) ⊎ (m ≡ x)
below_or m x h = grind arith

-- two agents are in one order
pub no_both : (t : Tables) (a b : AgentNo) (c d : SymbolNo) → StandsFirst t c d a b → StandsFirst t d c b a → ⊥
no_both t a b c d h k = not_both_orders (is_constructor t c.0) (is_constructor t d.0) a.0 b.0 h k

module _ (t : Tables) (n : Parts) where
  pub one_partner : (a b d : AgentNo) → AreActive n a b → AreActive n a d → b ≡ d
  one_partner a b d h k = same_agent b d 0 0 (some_same (partner_in n (Port a 0)) (Port b 0) (Port d 0) h k)

  pub flipped : (a b : AgentNo) → IsActivePair t n (a, b) → IsActivePair t n (b, a) → ⊥
  flipped a b h k =
      let one : h.first ≡ k.second = some_same (symbol_in n a.0) h.first k.second h.one k.two in
      let two : h.second ≡ k.first = some_same (symbol_in n b.0) h.second k.first h.two k.one in
      no_both t a b h.first h.second h.order
      (subst (λ (s : SymbolNo). StandsFirst t h.second s b a) (sym one) (subst (λ (s : SymbolNo). StandsFirst t s k.second b a) (sym two) k.order))

  -- the pairs whose lower numbers are below one
  pub record AreFirstPairs (x : ℕ) (qs : List (AgentNo × AgentNo)) : Type 0 where
    pub pairs : (k : ℕ) (q : AgentNo × AgentNo) → slice_get qs k ≡ Some q → IsActivePair t n q × (lower_of q < x)
    pub all : (q : AgentNo × AgentNo) → IsActivePair t n q → lower_of q < x → (k : ℕ) × (slice_get qs k ≡ Some q)
    pub rising : RiseByLower qs

  module _ (whole : IsWhole n) where
    -- the lower of the two agents has this number
    record Lies (x : ℕ) (q : AgentNo × AgentNo) : Type 0 where
      other : AgentNo
      less : x < other.0
      active : AreActive n (record { 0 = x }) other
      way : (q ≡ (record { 0 = x }, other)) ⊎ (q ≡ (other, record { 0 = x }))

    pub differ : (a b : AgentNo) → AreActive n a b → a.0 ≢ b.0
    differ a b h e = whole.apart (Port a 0) (h ∙ ap (λ (z : ℕ). let y : AgentNo = record { 0 = z } in Some (Port y 0)) (sym e))

    by_order : (a b : AgentNo) → a.0 ≢ b.0 → (a.0 < b.0) ⊎ (b.0 < a.0)
    by_order a b h = grind arith

    lies : (x : ℕ) (q : AgentNo × AgentNo) → IsActivePair t n q → lower_of q ≡ x → Lies x q
    lies x q h e = go (by_order q.0 q.1 (differ q.0 q.1 h.active))
      where
        go : (q.0.0 < q.1.0) ⊎ (q.1.0 < q.0.0) → Lies x q
        go (inl l) =
            let same : q.0.0 ≡ x = omega (arith, l, e) in
            subst (λ (z : ℕ). Lies z q) same (record { other = q.1; less = l; active = h.active; way = inl refl })
        go (inr l) =
            let same : q.1.0 ≡ x = omega (arith, l, e) in
            subst (λ (z : ℕ). Lies z q) same (record { other = q.0; less = l; active = whole.back (Port q.0 0) (Port q.1 0) h.active; way = inr refl })

    one_pair : (x : ℕ) (p q : AgentNo × AgentNo) → IsActivePair t n p → IsActivePair t n q → lower_of p ≡ x → lower_of q ≡ x → p ≡ q
    one_pair x p q h k e f = go (lies x p h e) (lies x q k f)
      where
        go : Lies x p → Lies x q → p ≡ q
        go a b = ways a.way b.way
          where
            same : a.other ≡ b.other
            same = one_partner (record { 0 = x }) a.other b.other a.active b.active

            ways : (p ≡ (record { 0 = x }, a.other)) ⊎ (p ≡ (a.other, record { 0 = x })) → (q ≡ (record { 0 = x }, b.other)) ⊎ (q ≡ (b.other, record { 0 = x })) → p ≡ q
            ways (inl u) (inl v) = u ∙ ap (λ (y : AgentNo). let z : AgentNo × AgentNo = (record { 0 = x }, y) in z) same ∙ sym v
            ways (inr u) (inr v) = u ∙ ap (λ (y : AgentNo). let z : AgentNo × AgentNo = (y, record { 0 = x }) in z) same ∙ sym v
            ways (inl u) (inr v) =
                let other : q ≡ (a.other, record { 0 = x }) = v ∙ ap (λ (y : AgentNo). let z : AgentNo × AgentNo = (y, record { 0 = x }) in z) (sym same) in
                absurd (flipped (record { 0 = x }) a.other (subst (IsActivePair t n) u h) (subst (IsActivePair t n) other k))
            ways (inr u) (inl v) =
                let other : q ≡ (record { 0 = x }, a.other) = v ∙ ap (λ (y : AgentNo). let z : AgentNo × AgentNo = (record { 0 = x }, y) in z) (sym same) in
                absurd (flipped (record { 0 = x }) a.other (subst (IsActivePair t n) other k) (subst (IsActivePair t n) u h))

    -- ---- number by number

    pub there : (a b : AgentNo) → AreActive n a b → symbol_in n b.0 ≡ None → ⊥
    there a b h none = go (cell_in n b.0) refl
      where
        go : (o : Option Cell) → cell_in n b.0 ≡ o → ⊥
        go None e =
            let k : option_and_then (λ (c : Cell). slice_get c.ends 0) (cell_in n b.0) ≡ Some (Port a 0) = whole.back (Port a 0) (Port b 0) h in
            let l : option_and_then (λ (c : Cell). slice_get c.ends 0) (cell_in n b.0) ≡ None = ap (option_and_then (λ (c : Cell). slice_get c.ends 0)) e in
            cc
        go (Some c) e = let k : symbol_in n b.0 ≡ Some c.symbol = ap (option_map (λ (c : Cell). c.symbol)) e in cc

    pub not_below : (a b : AgentNo) → AreActive n a b → b.0 ≤ a.0 → b.0 < a.0
    not_below a b h le = let d = differ a b h in omega (arith, d, le)

    pub none_yet : AreFirstPairs 0 []
    none_yet = record { pairs = λ k q e. cc; all = λ q h lt. absurd (omega (arith, lt)); rising = λ j k p q lt e f. cc }

    pub none_here : (x : ℕ) (qs : List (AgentNo × AgentNo)) → AreFirstPairs x qs → ((b : AgentNo) → AreActive n (record { 0 = x }) b → b.0 < x) → AreFirstPairs (x + 1) qs
    none_here x qs h none = record {
      pairs = λ k q e. let r = h.pairs k q e in (r.0, let l = r.1 in omega (arith, l));
      all = λ q g lt. go q g (below_or (lower_of q) x lt);
      rising = h.rising;
    }
      where
        go : (q : AgentNo × AgentNo) → IsActivePair t n q → (lower_of q < x) ⊎ (lower_of q ≡ x) → (k : ℕ) × (slice_get qs k ≡ Some q)
        go q g (inl lt) = h.all q g lt
        go q g (inr e) = let l = lies x q g e in let m = none l.other l.active in let k = l.less in absurd (omega (arith, k, m))

    pub one_here : (x : ℕ) (qs : List (AgentNo × AgentNo)) (q : AgentNo × AgentNo) → AreFirstPairs x qs → IsActivePair t n q → lower_of q ≡ x → AreFirstPairs (x + 1) (qs ++ q ∷ [])
    one_here x qs q h pair lower = record {
      pairs = λ k p e. pairs k p (more_at qs q p k e);
      all = λ p g lt. all p g (below_or (lower_of p) x lt);
      rising = λ j k p r lt e f. rising j k p r lt e (more_at qs q p j e) (more_at qs q r k f);
    }
      where
        pairs : (k : ℕ) (p : AgentNo × AgentNo) → (slice_get qs k ≡ Some p) ⊎ ((k ≡ length qs) × (q ≡ p)) → IsActivePair t n p × (lower_of p < x + 1)
        pairs k p (inl e) = let r = h.pairs k p e in (r.0, let l = r.1 in omega (arith, l))
        pairs k p (inr e) = subst (λ (p : AgentNo × AgentNo). IsActivePair t n p × (lower_of p < x + 1)) e.1 (pair, omega (arith, lower))

        all : (p : AgentNo × AgentNo) → IsActivePair t n p → (lower_of p < x) ⊎ (lower_of p ≡ x) → (k : ℕ) × (slice_get (qs ++ q ∷ []) k ≡ Some p)
        all p g (inl lt) = let r = h.all p g lt in (r.0, kept_at qs (q ∷ []) r.0 p r.1)
        all p g (inr e) = (length qs, last_at qs q ∙ ap (λ (z : AgentNo × AgentNo). Some z) (one_pair x q p pair g lower e))

        rising : (j k : ℕ) (p r : AgentNo × AgentNo) → j < k → slice_get (qs ++ q ∷ []) j ≡ Some p → (slice_get qs j ≡ Some p) ⊎ ((j ≡ length qs) × (q ≡ p)) → (slice_get qs k ≡ Some r) ⊎ ((k ≡ length qs) × (q ≡ r)) → lower_of p < lower_of r
        rising j k p r lt all (inl e) (inl f) = h.rising j k p r lt e f
        rising j k p r lt all (inl e) (inr f) = let l = (h.pairs j p e).1 in let m : lower_of q ≡ lower_of r = ap lower_of f.1 in omega (arith, l, m, lower)
        rising j k p r lt all (inr e) (inl f) = let l = slice_get_within qs k r f in let m = e.0 in absurd (omega (arith, l, m, lt))
        rising j k p r lt all (inr e) (inr f) = let m = e.0 in let l = f.0 in absurd (omega (arith, m, l, lt))

    pub all_pairs : (x : ℕ) (qs : List (AgentNo × AgentNo)) → AreFirstPairs x qs → length n.cells ≤ x → ArePairsOf t n qs
    all_pairs x qs h le = record {
      pairs = λ k q e. (h.pairs k q e).0;
      all = λ q g. h.all q g (below q g);
      rising = h.rising;
    }
      where
        cell_within : (y : ℕ) → IsPointOf n (Port (record { 0 = y }) 0) → y < length n.cells
        cell_within y p = go (slice_get n.cells y) refl
          where
            go : (o : Option (Option Cell)) → slice_get n.cells y ≡ o → y < length n.cells
            go None e = absurd (subst (λ (o : Option (Option Cell)). IsSomeAnd (option_and_then (λ (c : Option Cell). c) o) (λ (c : Cell). 0 < length c.ends)) e p)
            go (Some c) e = slice_get_within n.cells y c e

        below : (q : AgentNo × AgentNo) → IsActivePair t n q → lower_of q < x
        below q g = let l = cell_within q.0.0 (has_partner n (Port q.0 0) (Port q.1 0) g.active) in omega (arith, l, le)

-- ---- at one number

symbol_within : (t : Tables) (cs : List (Option Cell)) (x : ℕ) (s : SymbolNo) → AllByRecursion (IsCellOver t) cs → option_map (λ (c : Cell). c.symbol) (option_and_then (λ (c : Option Cell). c) (slice_get cs x)) ≡ Some s → s.0 < length t.names
symbol_within t [] x s all e = cc
symbol_within t (None ∷ cs) zero s all e = cc
symbol_within t (Some c ∷ cs) zero s all e = let same : c.symbol ≡ s = cc in subst (λ (s : SymbolNo). s.0 < length t.names) same all.0.0
symbol_within t (c ∷ cs) (suc x) s all e = symbol_within t cs x s all.1 e

pub symbol_known : (t : Tables) (n : Parts) (x : ℕ) (s : SymbolNo) → IsOver t n → symbol_in n x ≡ Some s → IsSymbol t s.0
symbol_known t n x s over e = symbol_within t n.cells x s over.cells e

pub ordered_pair : (t : Tables) (n : Parts) (a b : AgentNo) (f s : SymbolNo) (q : AgentNo × AgentNo) → IsWhole n → AreActive n a b → symbol_in n a.0 ≡ Some f → symbol_in n b.0 ≡ Some s → a.0 < b.0 → IsOrdered t (a, f) (b, s) q →
    IsActivePair t n q × (lower_of q ≡ a.0)
ordered_pair t n a b f s q whole act one two lt (inl h) =
    subst (λ (q : AgentNo × AgentNo). IsActivePair t n q × (lower_of q ≡ a.0)) (sym h.0) (record { active = act; first = f; second = s; one = one; two = two; order = h.1 }, omega (arith, lt))
ordered_pair t n a b f s q whole act one two lt (inr h) =
    subst (λ (q : AgentNo × AgentNo). IsActivePair t n q × (lower_of q ≡ a.0)) (sym h.0) (record { active = whole.back (Port a 0) (Port b 0) act; first = s; second = f; one = two; two = one; order = h.1 }, omega (arith, lt))
