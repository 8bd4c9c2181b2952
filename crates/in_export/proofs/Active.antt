-- The active wires of a net are those of its first queue, wire by wire.
use Rattle.std.proofs.Common.{◌≡◌, ◌≢◌, ◌⊎◌, inl, inr, ◌<◌, ◌≤◌, ◌+◌, ℕ, zero, suc, Bool, true, false, ◌&&◌, cond, Option, Some, None, List, [], ◌∷◌, length, slice_get, refl, sym, ap, subst, ◌∙◌, arith}
use Rattle.std.specs.Prelude.{option_map}
use Rattle.std.proofs.lemmas.Bool.{eqb-true}
use Rattle.std.proofs.lemmas.Option.{slice_get_within}
use Rattle.in_base.proofs.Places.{some_same}
use Rattle.in_symbols.specs.Tables.{Tables, is_constructor}
use Rattle.in_syntax.specs.declared.symbol_no.SymbolNo.{SymbolNo}
use Rattle.in_net.specs.ActivePairs.{IsActivePair, IsOrdered}
use Rattle.in_net.specs.declared.nets.AgentNo.{AgentNo}
use Rattle.in_net.specs.declared.nets.Point.{Point}
use Rattle.in_net.specs.declared.nets.Point.TheVariants.{Port, Free}
use Rattle.in_net.specs.declared.nets.Wire.{Wire}
use Rattle.in_net.specs.Parts.{Parts, IsWhole, symbol_in, wire_in}
use Rattle.in_net.proofs.Public.{in_their_order, first_there, second_there, two_agents}
use Rattle.in_interaction.specs.Queues.{agents_at, numbers_of, JoinsPair, JoinsNoPair, AreInOrder}
use Rattle.in_export.specs.Parts.{is_principal, joins_principals, active_from}
use Rattle.in_export.specs.Queues.{AreOnWires, ActiveWiresAreTheQueue}

-- ---- the pair of a wire

-- two agents are in one order or the other
ordered : (t : Tables) (a b : AgentNo) (f s : SymbolNo) → a ≢ b → (z : AgentNo × AgentNo) × IsOrdered t (a, f) (b, s) z
ordered t a b f s apart = go (is_constructor t f.0) (is_constructor t s.0) refl refl (let o : (a.0 < b.0) ⊎ (a.0 ≡ b.0) ⊎ (b.0 < a.0) = grind arith in o)
  where
    same : a.0 ≡ b.0 → a ≡ b
    same e = (λ i. record { 0 = e i })

    by_number : is_constructor t f.0 ≡ is_constructor t s.0 → (a.0 < b.0) ⊎ (a.0 ≡ b.0) ⊎ (b.0 < a.0) → (z : AgentNo × AgentNo) × IsOrdered t (a, f) (b, s) z
    by_number e (inl l) = ((a, b), inl (refl, inr (e, l)))
    by_number e (inr (inl m)) = absurd (apart (same m))
    by_number e (inr (inr l)) = ((b, a), inr (refl, inr (sym e, l)))

    go : (c d : Bool) → is_constructor t f.0 ≡ c → is_constructor t s.0 ≡ d → (a.0 < b.0) ⊎ (a.0 ≡ b.0) ⊎ (b.0 < a.0) → (z : AgentNo × AgentNo) × IsOrdered t (a, f) (b, s) z
    go true false e g o = ((a, b), inl (refl, inl (e, g)))
    go false true e g o = ((b, a), inr (refl, inl (g, e)))
    go true true e g o = by_number (e ∙ sym g) o
    go false false e g o = by_number (e ∙ sym g) o

principal_port : (p : Point) → is_principal p ≡ true → (a : AgentNo) × (p ≡ Port a 0)
principal_port (Port x i) e = (x, ap (λ (j : ℕ). Port x j) (eqb-true i 0 e))
principal_port (Free k) e = absurd (let wrong : false ≡ true = e in cc)

both_true : (b c : Bool) → (b && c) ≡ true → (b ≡ true) × (c ≡ true)
both_true true c e = (refl, e)
both_true false c e = absurd (let wrong : false ≡ true = e in cc)

module _ (t : Tables) (n : Parts) (whole : IsWhole n) where
  -- the wire of two principal ports joins an active pair
  pair_on : (w : ℕ) → joins_principals (wire_in n w) ≡ true → (q : ℕ × ℕ) × IsActivePair t n (agents_at q) × JoinsPair n w q
  pair_on w e = by_wire (wire_in n w) refl e
    where
      by_wire : (o : Option (Point × Point)) → wire_in n w ≡ o → joins_principals o ≡ true → (q : ℕ × ℕ) × IsActivePair t n (agents_at q) × JoinsPair n w q
      by_wire None at f = absurd (let wrong : false ≡ true = f in cc)
      by_wire (Some (p, r)) at f =
          let both = both_true (is_principal p) (is_principal r) f in
          let one = principal_port p both.0 in
          let two = principal_port r both.1 in
          with_symbols one.0 two.0 one.1 two.1 (symbol_in n one.0.0) (symbol_in n two.0.0) refl refl
        where
          with_symbols : (a b : AgentNo) → p ≡ Port a 0 → r ≡ Port b 0 → (f s : Option SymbolNo) → symbol_in n a.0 ≡ f → symbol_in n b.0 ≡ s → (q : ℕ × ℕ) × IsActivePair t n (agents_at q) × JoinsPair n w q
          with_symbols a b first second None s is was = absurd (first_there t n w p r at whole a b first second is)
          with_symbols a b first second (Some f) None is was = absurd (second_there t n w p r at whole a b first second was)
          with_symbols a b first second (Some f) (Some s) is was =
              let z = ordered t a b f s (two_agents t n w p r at whole a b first second) in
              let made = in_their_order t n w p r at whole a b first second f s z.0 is was z.1 in
              (numbers_of z.0, made.0, made.1)

  -- .. and any other one joins none
  none_on : (w : ℕ) → joins_principals (wire_in n w) ≡ false → JoinsNoPair n w
  none_on w e q (inl at) = let wrong : true ≡ false = ap joins_principals (sym at) ∙ e in cc
  none_on w e q (inr at) = let wrong : true ≡ false = ap joins_principals (sym at) ∙ e in cc

  wire_within : (v : ℕ) (z : Point × Point) → wire_in n v ≡ Some z → v < length n.wires
  wire_within v z e = by_wire (slice_get n.wires v) refl e
    where
      by_wire : (o : Option Wire) → slice_get n.wires v ≡ o → option_map {U = Point × Point} (λ (w : Wire). (w.one, w.other)) o ≡ Some z → v < length n.wires
      by_wire None is f = cc
      by_wire (Some w) is f = slice_get_within n.wires v w is

  within : (v : ℕ) (q : ℕ × ℕ) → JoinsPair n v q → v < length n.wires
  within v q (inl e) = wire_within v _ e
  within v q (inr e) = wire_within v _ e

  -- ---- wire by wire

  -- the pairs on this wire and those after it
  record AreAfter (w : ℕ) (qs : List (ℕ × ℕ)) : Type 0 where
    on : (k : ℕ) (q : ℕ × ℕ) → slice_get qs k ≡ Some q → (v : ℕ) × (w ≤ v) × JoinsPair n v q
    all : (v : ℕ) (q : ℕ × ℕ) → w ≤ v → IsActivePair t n (agents_at q) → JoinsPair n v q → (k : ℕ) × (slice_get qs k ≡ Some q)
    order : AreInOrder n qs

  same_wire : (v w : ℕ) (q : ℕ × ℕ) → JoinsPair n v q → JoinsPair n w q → v ≡ w
  same_wire v w q a b = whole.once v w (Port (agents_at q).0 0) (Port (agents_at q).1 0) a b

  -- the wire joins no pair
  passed : (w : ℕ) (qs : List (ℕ × ℕ)) → JoinsNoPair n w → AreAfter w qs → AreAfter (w + 1) qs
  passed w qs none h = record {
    on = λ k q e. (let r = h.on k q e in (r.0, later r.0 q r.1 r.2, r.2));
    all = λ v q l a j. h.all v q (omega (arith, l)) a j;
    order = h.order;
  }
    where
      later : (v : ℕ) (q : ℕ × ℕ) → w ≤ v → JoinsPair n v q → w + 1 ≤ v
      later v q l j = elim (let o : (w + 1 ≤ v) ⊎ (v ≡ w) = grind (arith, l) in o) [ inl m ↦ m | inr e ↦ absurd (none q (subst (λ z. JoinsPair n z q) e j)) ]

  -- the wire joins the first of them
  taken : (w : ℕ) (q : ℕ × ℕ) (qs : List (ℕ × ℕ)) → JoinsPair n w q → AreAfter w (q ∷ qs) → AreAfter (w + 1) qs
  taken w q qs joins h = record {
    on = λ k p e. (let r = h.on (suc k) p e in (r.0, (let l = h.order 0 (suc k) w r.0 q p (omega arith) refl e joins r.2 in omega (arith, l)), r.2));
    all = λ v p l a j. other v p l j (h.all v p (omega (arith, l)) a j);
    order = λ j k v x p r l e f. h.order (suc j) (suc k) v x p r (omega (arith, l)) e f;
  }
    where
      other : (v : ℕ) (p : ℕ × ℕ) → w + 1 ≤ v → JoinsPair n v p → (k : ℕ) × (slice_get (q ∷ qs) k ≡ Some p) → (k : ℕ) × (slice_get qs k ≡ Some p)
      other v p l j (zero, e) =
          absurd (let same = same_wire v w p j (subst (JoinsPair n w) (some_same (Some q) q p refl e) joins) in omega (arith, l, same))
      other v p l j (suc k, e) = (k, e)

  -- the pair on the wire is the first of them
  first : (w : ℕ) (q : ℕ × ℕ) (x : ℕ × ℕ) (qs : List (ℕ × ℕ)) → JoinsPair n w q → AreAfter w (x ∷ qs) → (k : ℕ) → slice_get (x ∷ qs) k ≡ Some q → JoinsPair n w x
  first w q x qs joins h zero e = subst (JoinsPair n w) (sym (some_same (Some x) x q refl e)) joins
  first w q x qs joins h (suc k) e =
      absurd (let r = h.on 0 x refl in let l = h.order 0 (suc k) r.0 w x q (omega arith) refl e r.2 joins in let m = r.1 in omega (arith, l, m))

  -- the property of the wires after this one
  abbrev Rest : ℕ → ℕ → Type 0
  Rest many w = (ps : List (ℕ × ℕ)) → AreAfter (w + 1) ps → AreOnWires n (active_from n (w + 1) many) ps

  on_wires : (many w : ℕ) (qs : List (ℕ × ℕ)) → w + many ≡ length n.wires → AreAfter w qs → AreOnWires n (active_from n w many) qs
  on_wires zero w [] e h = tt
  on_wires zero w (q ∷ qs) e h = absurd (let r = h.on 0 q refl in let l = r.1 in let m = within r.0 q r.2 in omega (arith, e, l, m))
  on_wires (suc many) w qs e h = go (λ ps g. on_wires many (w + 1) ps (let f : (w + 1) + many ≡ length n.wires = omega (arith, e) in f) g) (joins_principals (wire_in n w)) refl
    where
      with_pair : Rest many w → (q : ℕ × ℕ) → IsActivePair t n (agents_at q) → JoinsPair n w q → (ps : List (ℕ × ℕ)) → AreAfter w ps → AreOnWires n (w ∷ active_from n (w + 1) many) ps
      with_pair rest q a j [] g = let r = g.all w q (let l : w ≤ w = omega arith in l) a j in let wrong : ◌≡◌ {A = Option (ℕ × ℕ)} None (Some q) = r.1 in cc
      with_pair rest q a j (x ∷ ps) g =
          let r = g.all w q (let l : w ≤ w = omega arith in l) a j in
          let here = first w q x ps j g r.0 r.1 in
          (here, rest ps (taken w x ps here g))

      go : Rest many w → (b : Bool) → joins_principals (wire_in n w) ≡ b → AreOnWires n (cond b (w ∷ active_from n (w + 1) many) (active_from n (w + 1) many)) qs
      go rest true is = (let p = pair_on w is in with_pair rest p.0 p.1 p.2 qs h)
      go rest false is = rest qs (passed w qs (none_on w is) h)

pub active_wires_are_the_queue : ActiveWiresAreTheQueue
active_wires_are_the_queue t n queue whole first =
    on_wires t n whole (length n.wires) 0 queue (omega arith) (record {
      on = λ k q e. (let r = first.wires k q e in (r.0, omega arith, r.1));
      all = λ v q l a j. first.pairs.all (agents_at q) a;
      order = first.order;
    })
