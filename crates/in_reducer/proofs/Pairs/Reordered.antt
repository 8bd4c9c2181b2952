-- Two queues of one net under any numbers are the same up to their order.
use Rattle.std.proofs.Common.{◌≡◌, ◌≢◌, ◌⊎◌, inl, inr, ◌<◌, ℕ, zero, suc, Bool, true, false, Option, Some, None, IsSome, List, length, slice_get, refl, sym, ap, subst, ◌∙◌, arith}
use Rattle.std.proofs.lemmas.Option.{same_Some, slice_get_within}
use Rattle.in_base.proofs.Each.{at_index}
use Rattle.in_base.proofs.Places.{some_same, is_some}
use Rattle.in_symbols.specs.Tables.{Tables, is_constructor}
use Rattle.in_syntax.specs.declared.symbol_no.SymbolNo.{SymbolNo}
use Rattle.in_net.specs.declared.nets.AgentNo.{AgentNo}
use Rattle.in_net.specs.declared.nets.Point.TheVariants as code
use Rattle.in_net.specs.ActivePairs.{IsActivePair, StandsFirst}
use Rattle.in_net.specs.Nets.{Point, Port, Free, Net, net_of}
use Rattle.in_net.specs.Parts.{Parts, partner_in, symbol_in}
use Rattle.in_net.proofs.Public.{map_is, no_both, port_agent}
use Rattle.in_interaction.specs.Queues.{IsQueueOf, agents_at, both}
use Rattle.in_interaction.proofs.Public.{has_value, net_wire}
use Rattle.in_check.specs.Runs.{IsRenamed}
use Rattle.in_check.proofs.Public.{agents_before}
use Rattle.in_gluing.specs.AsGluing.{old_and_new, two_parts}
use Rattle.in_gluing.specs.Joining.{IsAtNumber}
use Rattle.in_gluing.specs.SideBySide.{IsThere, IsWiredWithin, StandBeside}
use Rattle.in_reducer.specs.PartingLaws.{AreSameTwo, IsReordered}
use Rattle.in_reducer.proofs.Starts.Started.{lives, symbol_back, symbol_moved}
use Rattle.in_reducer.proofs.Pairs.Queues.{apart_agents}

-- ---- wires between agents that are there

-- a wire between two principal ports is one of agents that are there, and leads back
abbrev pub JoinsThere : Net ℕ → Type 0
JoinsThere n = (x y : ℕ) → n.partner (Port x 0) ≡ Some (Port y 0) → IsSome (n.symbol x) × (n.partner (Port y 0) ≡ Some (Port x 0))

pub joins_within : (n : Net ℕ) → IsWiredWithin n → JoinsThere n
joins_within n wired x y e = (wired.there (Port x 0) (Port y 0) e, wired.back.0 (Port x 0) (Port y 0) e)

-- .. and so in two nets side by side
module _ (one two m : Net ℕ) (name : ℕ → ℕ) (ends : List (ℕ × ℕ)) (wired_one : IsWiredWithin one) (wired_two : IsWiredWithin two) (h : StandBeside one two name ends m) where
  wired : (i : ℕ) (p q : Point ℕ) → (two_parts one two i).partner p ≡ Some q → IsThere (two_parts one two i) p × ((two_parts one two i).partner q ≡ Some p)
  wired zero p q e = (wired_one.there p q e, wired_one.back.0 p q e)
  wired (suc zero) p q e = (wired_two.there p q e, wired_two.back.0 p q e)
  wired (suc (suc i)) p q e = cc

  there_beside : (i x : ℕ) (p : Point ℕ) → IsAtNumber h.number (old_and_new name) i p (Port x 0) → IsThere (two_parts one two i) p → IsSome (m.symbol x)
  there_beside i x (Port z k) at there =
      let s = has_value ((two_parts one two i).symbol z) there in
      is_some (m.symbol x) s.0 ((h.beside.agents x s.0).1 (i, z, sym (port_agent x (old_and_new name i z) 0 k at), s.1))
  there_beside i x (Free k) at there = cc

  pub joins_beside : JoinsThere m
  joins_beside x y e =
      let w = (h.beside.wires (Port x 0) (Port y 0)).0 e in
      let g = wired w.0 w.1 w.2 w.5 in
      (there_beside w.0 x w.1 w.3 g.0, (h.beside.wires (Port y 0) (Port x 0)).1 (w.0, w.2, w.1, w.4, w.3, g.1))

-- ---- the same two agents

abbrev turned : ℕ × ℕ → ℕ × ℕ
turned q = (q.1, q.0)

pub both_same : (p q r : ℕ × ℕ) → AreSameTwo p q → AreSameTwo p r → AreSameTwo q r
both_same p q r (inl a) (inl b) = inl (b ∙ sym a)
both_same p q r (inl a) (inr b) = inr (b ∙ ap turned (sym a))
both_same p q r (inr a) (inl b) = inr (b ∙ ap turned (sym a))
both_same p q r (inr a) (inr b) = inl (b ∙ sym a)

by_number : (a b : ℕ) → a ≢ b → (a < b) ⊎ (b < a)
by_number a b differ = grind arith

-- of two agents one is first
one_first : (t : Tables) (c d : SymbolNo) (a b : AgentNo) → a.0 ≢ b.0 → StandsFirst t c d a b ⊎ StandsFirst t d c b a
one_first t c d a b differ = go (is_constructor t c.0) (is_constructor t d.0) refl refl
  where
    by : is_constructor t c.0 ≡ is_constructor t d.0 → (a.0 < b.0) ⊎ (b.0 < a.0) → StandsFirst t c d a b ⊎ StandsFirst t d c b a
    by same (inl low) = inl (inr (same, low))
    by same (inr low) = inr (inr (sym same, low))

    go : (x y : Bool) → is_constructor t c.0 ≡ x → is_constructor t d.0 ≡ y → StandsFirst t c d a b ⊎ StandsFirst t d c b a
    go true false e f = inl (inl (e, f))
    go false true e f = inr (inl (f, e))
    go true true e f = by (e ∙ sym f) (by_number a.0 b.0 differ)
    go false false e f = by (e ∙ sym f) (by_number a.0 b.0 differ)

-- as active pairs of nets with the same symbols they are in one order
pub one_order : (t : Tables) (n m : Parts) → ((x : ℕ) (s : SymbolNo) → symbol_in n x ≡ Some s → symbol_in m x ≡ Some s) → (p q : ℕ × ℕ) → IsActivePair t n (agents_at p) → IsActivePair t m (agents_at q) → AreSameTwo p q → p ≡ q
one_order t n m kept p q h g (inl e) = sym e
one_order t n m kept p q h g (inr e) =
    let k : IsActivePair t m (agents_at (p.1, p.0)) = subst (λ (z : ℕ × ℕ). IsActivePair t m (agents_at z)) e g in
    let a = (agents_at p).0 in
    let b = (agents_at p).1 in
    let one : h.first ≡ k.second = some_same (symbol_in m p.0) h.first k.second (kept p.0 h.first h.one) k.two in
    let two : h.second ≡ k.first = some_same (symbol_in m p.1) h.second k.first (kept p.1 h.second h.two) k.one in
    absurd (no_both t a b h.first h.second h.order (subst (λ (s : SymbolNo). StandsFirst t h.second s b a) (sym one) (subst (λ (s : SymbolNo). StandsFirst t s k.second b a) (sym two) k.order)))

-- ---- pairs under other numbers

module _ (t : Tables) (n : Parts) where
  -- two agents whose principal ports are one wire are an active pair
  is_pair : (a b : ℕ) (c d : SymbolNo) → a ≢ b → (net_of n).partner (Port a 0) ≡ Some (Port b 0) → (net_of n).partner (Port b 0) ≡ Some (Port a 0) → symbol_in n a ≡ Some c → symbol_in n b ≡ Some d →
      (r : ℕ × ℕ) × IsActivePair t n (agents_at r) × AreSameTwo (a, b) r
  is_pair a b c d differ wire back one two = go (one_first t c d x y differ)
    where
      x : AgentNo
      x = record { 0 = a }

      y : AgentNo
      y = record { 0 = b }

      go : StandsFirst t c d x y ⊎ StandsFirst t d c y x → (r : ℕ × ℕ) × IsActivePair t n (agents_at r) × AreSameTwo (a, b) r
      go (inl o) = ((a, b), record { active = map_is (partner_in n (code.Port x 0)) (Port b 0) wire; first = c; second = d; one = one; two = two; order = o }, inl refl)
      go (inr o) = ((b, a), record { active = map_is (partner_in n (code.Port y 0)) (Port a 0) back; first = d; second = c; one = two; two = one; order = o }, inr refl)

module _ (t : Tables) (f : ℕ → ℕ) (n m : Parts) (named : IsRenamed f (net_of n) (net_of m)) (joins : JoinsThere (net_of n)) where
  forth : (q : ℕ × ℕ) → IsActivePair t n (agents_at q) → (r : ℕ × ℕ) × IsActivePair t m (agents_at r) × AreSameTwo (both f q) r
  forth q h =
      let wire : (net_of n).partner (Port q.0 0) ≡ Some (Port q.1 0) = net_wire n (code.Port (agents_at q).0 0) (code.Port (agents_at q).1 0) h.active in
      let live = lives t n q h in
      is_pair t m (f q.0) (f q.1) h.first h.second (λ e. apart_agents t n q h (named.apart q.0 q.1 live.0 live.1 e))
      ((named.wires (Port (f q.0) 0) (Port (f q.1) 0)).1 (Port q.0 0, Port q.1 0, refl, refl, wire))
      ((named.wires (Port (f q.1) 0) (Port (f q.0) 0)).1 (Port q.1 0, Port q.0 0, refl, refl, (joins q.0 q.1 wire).1))
      (symbol_moved f n m named q.0 h.first h.one) (symbol_moved f n m named q.1 h.second h.two)

  back : (r : ℕ × ℕ) → IsActivePair t m (agents_at r) → (q : ℕ × ℕ) × IsActivePair t n (agents_at q) × AreSameTwo (both f q) r
  back r h =
      let w = agents_before f (net_of n) (net_of m) named r.0 r.1 (net_wire m (code.Port (agents_at r).0 0) (code.Port (agents_at r).1 0) h.active) in
      let here = joins w.0 w.1 w.4 in
      let there = joins w.1 w.0 here.1 in
      let s = has_value ((net_of n).symbol w.0) here.0 in
      let v = has_value ((net_of n).symbol w.1) there.0 in
      let differ : w.0 ≢ w.1 = λ e. apart_agents t m r h (sym w.2 ∙ ap f e ∙ w.3) in
      let pair =
      is_pair t n w.0 w.1 h.first h.second differ w.4 here.1
      (symbol_back f n m named w.0 s.0 h.first s.1 (ap (symbol_in m) w.2 ∙ h.one)) (symbol_back f n m named w.1 v.0 h.second v.1 (ap (symbol_in m) w.3 ∙ h.two)) in
      let moved : r ≡ (f w.0, f w.1) = ap (λ (z : ℕ). let y : ℕ × ℕ = (z, r.1) in y) (sym w.2) ∙ ap (λ (z : ℕ). let y : ℕ × ℕ = (f w.0, z) in y) (sym w.3) in
      (pair.0, pair.1, two_moved (w.0, w.1) pair.0 r moved pair.2)
    where
      two_moved : (p q r : ℕ × ℕ) → r ≡ both f p → AreSameTwo p q → AreSameTwo (both f q) r
      two_moved p q r is (inl e) = inl (is ∙ ap (both f) (sym e))
      two_moved p q r is (inr e) = inr (is ∙ ap (λ (z : ℕ × ℕ). turned (both f z)) (sym e))

  -- a pair comes from one pair
  one_before : (p q r : ℕ × ℕ) → IsActivePair t n (agents_at p) → IsActivePair t n (agents_at q) → AreSameTwo (both f p) r → AreSameTwo (both f q) r → p ≡ q
  one_before p q r h g is is_too = one_order t n n (λ x s e. e) p q h g (go is is_too)
    where
      agent : (x y : ℕ) → IsSome ((net_of n).symbol x) → IsSome ((net_of n).symbol y) → f x ≡ f y → y ≡ x
      agent x y a b e = sym (named.apart x y a b e)

      two : (x y : ℕ) → q.0 ≡ x → q.1 ≡ y → q ≡ (x, y)
      two x y e d = ap (λ (z : ℕ). let w : ℕ × ℕ = (z, q.1) in w) e ∙ ap (λ (z : ℕ). let w : ℕ × ℕ = (x, z) in w) d

      a : IsSome ((net_of n).symbol p.0) × IsSome ((net_of n).symbol p.1)
      a = lives t n p h

      b : IsSome ((net_of n).symbol q.0) × IsSome ((net_of n).symbol q.1)
      b = lives t n q g

      straight : both f p ≡ both f q → AreSameTwo p q
      straight e = inl (two p.0 p.1 (agent p.0 q.0 a.0 b.0 (ap (λ (z : ℕ × ℕ). z.0) e)) (agent p.1 q.1 a.1 b.1 (ap (λ (z : ℕ × ℕ). z.1) e)))

      crossed : both f p ≡ (f q.1, f q.0) → AreSameTwo p q
      crossed e = inr (two p.1 p.0 (agent p.1 q.0 a.1 b.0 (ap (λ (z : ℕ × ℕ). z.1) e)) (agent p.0 q.1 a.0 b.1 (ap (λ (z : ℕ × ℕ). z.0) e)))

      go : AreSameTwo (both f p) r → AreSameTwo (both f q) r → AreSameTwo p q
      go (inl e) (inl d) = straight (sym e ∙ d)
      go (inl e) (inr d) = crossed (sym e ∙ d)
      go (inr e) (inl d) = crossed (ap turned (sym e ∙ d))
      go (inr e) (inr d) = straight (ap turned (sym e ∙ d))

  -- ---- queues

  module _ (qs rs : List (ℕ × ℕ)) (queue : IsQueueOf t n qs) (queue_too : IsQueueOf t m rs) where
    abbrev Found : ℕ → Type 0
    Found k = (j : ℕ) × ((q : ℕ × ℕ) → slice_get qs k ≡ Some q → (r : ℕ × ℕ) × (slice_get rs j ≡ Some r) × AreSameTwo (both f q) r)

    found : (k : ℕ) → Found k
    found k = go (slice_get qs k) refl
      where
        go : (o : Option (ℕ × ℕ)) → slice_get qs k ≡ o → Found k
        go None e = (k, λ q d. absurd (let none : None ≡ Some q = sym e ∙ d in cc))
        go (Some p) e =
            let r = forth p (queue.pairs k p e) in
            let j = queue_too.all (agents_at r.0) r.1 in
            (j.0, λ q d. (r.0, j.1, subst (λ (z : ℕ × ℕ). AreSameTwo (both f z) r.0) (same_Some p q (sym e ∙ d)) r.2))

    pub reordered : IsReordered (λ q r. AreSameTwo (both f q) r) qs rs
    reordered = record { place = λ k. (found k).0; pairs = λ k. (found k).1; once = once; all = all }
      where
        once : (j k : ℕ) → j < length qs → k < length qs → (found j).0 ≡ (found k).0 → j ≡ k
        once j k low_j low_k e =
            let p = at_index qs j low_j in
            let q = at_index qs k low_k in
            let x = (found j).1 p.0 p.1 in
            let y = (found k).1 q.0 q.1 in
            let same : y.0 ≡ x.0 = same_Some y.0 x.0 (sym y.1 ∙ ap (slice_get rs) (sym e) ∙ x.1) in
            let pair : p.0 ≡ q.0 = one_before p.0 q.0 x.0 (queue.pairs j p.0 p.1) (queue.pairs k q.0 q.1) x.2 (subst (AreSameTwo (both f q.0)) same y.2) in
            queue.once j k q.0 (p.1 ∙ ap (λ (z : ℕ × ℕ). Some z) pair) q.1

        all : (j : ℕ) → j < length rs → (k : ℕ) × (k < length qs) × ((found k).0 ≡ j)
        all j low =
            let r = at_index rs j low in
            let q = back r.0 (queue_too.pairs j r.0 r.1) in
            let k = queue.all (agents_at q.0) q.1 in
            let x = (found k.0).1 q.0 k.1 in
            let same : x.0 ≡ r.0 = one_order t m m (λ y s e. e) x.0 r.0 (queue_too.pairs (found k.0).0 x.0 x.1) (queue_too.pairs j r.0 r.1) (both_same (both f q.0) x.0 r.0 x.2 q.2) in
            (k.0, slice_get_within qs k.0 q.0 k.1, queue_too.once (found k.0).0 j r.0 (x.1 ∙ ap (λ (z : ℕ × ℕ). Some z) same) r.1)

-- under the same numbers the pairs have their agents in the same order
pub reordered_alone : (t : Tables) (n m : Parts) → IsRenamed (λ y. y) (net_of n) (net_of m) → (qs rs : List (ℕ × ℕ)) → IsQueueOf t n qs → IsQueueOf t m rs →
    IsReordered (λ q r. AreSameTwo (both (λ y. y) q) r) qs rs → IsReordered (λ q r. q ≡ r) qs rs
reordered_alone t n m named qs rs queue queue_too h = record {
  place = h.place;
  pairs = λ k q e. (
      let x = h.pairs k q e in
      (x.0, x.1, one_order t n m (symbol_moved (λ y. y) n m named) q x.0 (queue.pairs k q e) (queue_too.pairs (h.place k) x.0 x.1) x.2)
      );
  once = h.once;
  all = h.all;
}
