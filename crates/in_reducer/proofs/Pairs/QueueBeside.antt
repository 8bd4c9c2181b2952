-- The active pairs of two nets side by side are those of both.
use Rattle.std.proofs.Common.{◌≡◌, ◌⊎◌, inl, inr, ◌+◌, ℕ, zero, suc, Some, IsSome, List, ◌++◌, length, map, slice_get, refl, sym, ap, subst, ◌∙◌, arith}
use Rattle.std.proofs.lemmas.Option.{same_Some}
use Rattle.in_base.proofs.Places.{kept_at, of_mapped, to_mapped, is_some as there}
use Rattle.in_symbols.specs.Tables.{Tables}
use Rattle.in_syntax.specs.declared.symbol_no.SymbolNo.{SymbolNo}
use Rattle.in_net.specs.declared.nets.AgentNo.{AgentNo}
use Rattle.in_net.specs.declared.nets.Point.TheVariants as code
use Rattle.in_net.specs.ActivePairs.{IsActivePair}
use Rattle.in_net.specs.Nets.{Point, Port, Free, IsNet, net_of, signature_of}
use Rattle.in_net.specs.Parts.{Parts, symbol_in, partner_in}
use Rattle.in_net.proofs.Public.{map_is, symbol_of, port_agent, port_place}
use Rattle.in_interaction.specs.Queues.{IsQueueOf, agents_at, both, numbers_of}
use Rattle.in_interaction.proofs.Public.{symbol_is, symbol_number, net_wire}
use Rattle.in_check.proofs.Public.{AreOpposed, stands_anywhere}
use Rattle.in_gluing.specs.AsGluing.{old_and_new, two_parts}
use Rattle.in_gluing.specs.Joining.{IsAtNumber}
use Rattle.in_gluing.specs.SideBySide.{StandBeside}
use Rattle.in_order.proofs.Public.{no_wire}
use Rattle.in_cells.proofs.Public.{past_first}
use Rattle.in_reducer.proofs.Pairs.Requeued.{StandOnce, in_part}

module _ (t : Tables) (n m w : Parts) (f : ℕ → ℕ) (ends : List (ℕ × ℕ)) (net_n : IsNet (signature_of t) (net_of n)) (net_m : IsNet (signature_of t) (net_of m)) (stand : StandBeside (net_of n) (net_of m) f ends (net_of w))
    (opposed : AreOpposed t m) where
  own_symbol : (x : ℕ) (s : SymbolNo) → symbol_in n x ≡ Some s → symbol_in w x ≡ Some s
  own_symbol x s e = symbol_is (symbol_in w x) s ((stand.beside.agents x s.0).1 (0, x, refl, symbol_number (symbol_in n x) s e))

  their_symbol : (x : ℕ) (s : SymbolNo) → symbol_in m x ≡ Some s → symbol_in w (f x) ≡ Some s
  their_symbol x s e = symbol_is (symbol_in w (f x)) s ((stand.beside.agents (f x) s.0).1 (1, x, refl, symbol_number (symbol_in m x) s e))

  pub own_pair : (q : AgentNo × AgentNo) → IsActivePair t n q → IsActivePair t w q
  own_pair q h = record {
    active = map_is (partner_in w (code.Port q.0 0)) (Port q.1.0 0) ((stand.beside.wires (Port q.0.0 0) (Port q.1.0 0)).1 (0, Port q.0.0 0, Port q.1.0 0, refl, refl, net_wire n (code.Port q.0 0) (code.Port q.1 0) h.active));
    first = h.first;
    second = h.second;
    one = own_symbol q.0.0 h.first h.one;
    two = own_symbol q.1.0 h.second h.two;
    order = h.order;
  }

  pub their_pair : (q : ℕ × ℕ) → IsActivePair t m (agents_at q) → IsActivePair t w (agents_at (both f q))
  their_pair q h =
      let z = agents_at (both f q) in
      record {
        active = map_is (partner_in w (code.Port z.0 0)) (Port (f q.1) 0) ((stand.beside.wires (Port (f q.0) 0) (Port (f q.1) 0)).1 (1, Port q.0 0, Port q.1 0, refl, refl, net_wire m (code.Port (agents_at q).0 0) (code.Port (agents_at q).1 0) h.active));
        first = h.first;
        second = h.second;
        one = their_symbol q.0 h.first h.one;
        two = their_symbol q.1 h.second h.two;
        order = stands_anywhere t m (agents_at q).0 (agents_at q).1 (agents_at q).0 (agents_at q).1 h.first h.second opposed h.active h.one h.two h.order z.0 z.1;
      }

  -- a symbol of the whole is that of the part
  symbol_kept : (a : Parts) (x y k : ℕ) (s : SymbolNo) → (net_of a).symbol x ≡ Some k → (net_of w).symbol y ≡ Some k → symbol_in w y ≡ Some s → symbol_in a x ≡ Some s
  symbol_kept a x y k s e g h =
      let same : k ≡ s.0 = same_Some k s.0 (sym g ∙ symbol_number (symbol_in w y) s h) in
      symbol_is (symbol_in a x) s (e ∙ ap (λ (z : ℕ). Some z) same)

  abbrev pub Whose : AgentNo × AgentNo → Type 0
  Whose q = IsActivePair t n q ⊎ ((z : ℕ × ℕ) × (both f z ≡ numbers_of q) × IsActivePair t m (agents_at z))

  pub whose : (q : AgentNo × AgentNo) → IsActivePair t w q → Whose q
  whose q h = let r = (stand.beside.wires (Port q.0.0 0) (Port q.1.0 0)).0 (net_wire w (code.Port q.0 0) (code.Port q.1 0) h.active) in go r.0 r.1 r.2 r.3 r.4 r.5
    where
      own : (net_of n).partner (Port q.0.0 0) ≡ Some (Port q.1.0 0) → IsActivePair t n q
      own e =
          let s = symbol_of (signature_of t) ((net_of n).symbol q.0.0) 0 (net_n.points (Port q.0.0 0) (Port q.1.0 0) e) in
          let v = symbol_of (signature_of t) ((net_of n).symbol q.1.0) 0 (net_n.points (Port q.1.0 0) (Port q.0.0 0) (net_n.back (Port q.0.0 0) (Port q.1.0 0) e)) in
          record {
            active = map_is (partner_in n (code.Port q.0 0)) (Port q.1.0 0) e;
            first = h.first;
            second = h.second;
            one = symbol_kept n q.0.0 q.0.0 s.0 h.first s.1 ((stand.beside.agents q.0.0 s.0).1 (0, q.0.0, refl, s.1)) h.one;
            two = symbol_kept n q.1.0 q.1.0 v.0 h.second v.1 ((stand.beside.agents q.1.0 v.0).1 (0, q.1.0, refl, v.1)) h.two;
            order = h.order;
          }

      their : (x y : ℕ) → f x ≡ q.0.0 → f y ≡ q.1.0 → (net_of m).partner (Port x 0) ≡ Some (Port y 0) → IsActivePair t m (agents_at (x, y))
      their x y is_x is_y e =
          let s = symbol_of (signature_of t) ((net_of m).symbol x) 0 (net_m.points (Port x 0) (Port y 0) e) in
          let v = symbol_of (signature_of t) ((net_of m).symbol y) 0 (net_m.points (Port y 0) (Port x 0) (net_m.back (Port x 0) (Port y 0) e)) in
          let one = symbol_kept m x q.0.0 s.0 h.first s.1 ((stand.beside.agents q.0.0 s.0).1 (1, x, is_x, s.1)) h.one in
          let two = symbol_kept m y q.1.0 v.0 h.second v.1 ((stand.beside.agents q.1.0 v.0).1 (1, y, is_y, v.1)) h.two in
          let a = agents_at (x, y) in
          let active = map_is (partner_in m (code.Port a.0 0)) (Port y 0) e in
          record { active = active; first = h.first; second = h.second; one = one; two = two; order = stands_anywhere t m a.0 a.1 q.0 q.1 h.first h.second opposed active one two h.order a.0 a.1 }

      go : (i : ℕ) (u v : Point ℕ) → IsAtNumber stand.number (old_and_new f) i u (Port q.0.0 0) → IsAtNumber stand.number (old_and_new f) i v (Port q.1.0 0) → (two_parts (net_of n) (net_of m) i).partner u ≡ Some v → Whose q
      go i (Free k) v a b e = cc
      go i (Port x k) (Free l) a b e = cc
      go zero (Port x k) (Port y l) a b e =
          let ax = port_agent q.0.0 x 0 k a in
          let ak = port_place q.0.0 x 0 k a in
          let by = port_agent q.1.0 y 0 l b in
          let bl = port_place q.1.0 y 0 l b in
          inl (own (ap (net_of n).partner a ∙ e ∙ ap (λ (z : Point ℕ). Some z) (sym b)))
      go (suc zero) (Port x k) (Port y l) a b e =
          let ax = port_agent q.0.0 (f x) 0 k a in
          let ak = port_place q.0.0 (f x) 0 k a in
          let by = port_agent q.1.0 (f y) 0 l b in
          let bl = port_place q.1.0 (f y) 0 l b in
          inr (
            (x, y),
            (λ i. (sym ax i, sym by i)),
            their x y (sym ax) (sym by) (ap (λ (z : ℕ). (net_of m).partner (Port x z)) ak ∙ e ∙ ap (λ (z : ℕ). Some (Port y z)) (sym bl)),
          )
      go (suc (suc i)) (Port x k) (Port y l) a b e = absurd (no_wire (Port x k) (Port y l) e)

  pub own_lives : (q : ℕ × ℕ) → IsActivePair t n (agents_at q) → IsSome ((net_of n).symbol q.0)
  own_lives q h = there ((net_of n).symbol q.0) h.first.0 (symbol_number (symbol_in n q.0) h.first h.one)

  pub lives : (q : ℕ × ℕ) → IsActivePair t m (agents_at q) → IsSome ((net_of m).symbol q.0) × IsSome ((net_of m).symbol q.1)
  lives q h = (there ((net_of m).symbol q.0) h.first.0 (symbol_number (symbol_in m q.0) h.first h.one), there ((net_of m).symbol q.1) h.second.0 (symbol_number (symbol_in m q.1) h.second h.two))

  -- a pair of one net isn't a pair of the other
  pub differ : (q z : ℕ × ℕ) → IsActivePair t n (agents_at q) → IsActivePair t m (agents_at z) → both f z ≡ q → ⊥
  differ q z h g e = let zero_one : 0 ≡ 1 = (stand.apart 0 1 q.0 z.0 (own_lives q h) (lives z g).0 (sym (ap (λ (x : ℕ × ℕ). x.0) e))).0 in omega (arith, zero_one)

  same_pair : (x y : ℕ × ℕ) → IsActivePair t m (agents_at x) → IsActivePair t m (agents_at y) → both f x ≡ both f y → x ≡ y
  same_pair x y h g e =
      let one = (stand.apart 1 1 x.0 y.0 (lives x h).0 (lives y g).0 (ap (λ (z : ℕ × ℕ). z.0) e)).1 in
      let two = (stand.apart 1 1 x.1 y.1 (lives x h).1 (lives y g).1 (ap (λ (z : ℕ × ℕ). z.1) e)).1 in
      λ i. (one i, two i)

  module _ (qs rs : List (ℕ × ℕ)) (queue_n : IsQueueOf t n qs) (queue_m : IsQueueOf t m rs) where
    once : StandOnce (qs ++ map (both f) rs)
    once j k q e d = go (in_part qs (map (both f) rs) j q e) (in_part qs (map (both f) rs) k q d)
      where
        go : (slice_get qs j ≡ Some q) ⊎ ((l : ℕ) × (j ≡ length qs + l) × (slice_get (map (both f) rs) l ≡ Some q)) → (slice_get qs k ≡ Some q) ⊎ ((l : ℕ) × (k ≡ length qs + l) × (slice_get (map (both f) rs) l ≡ Some q)) → j ≡ k
        go (inl a) (inl b) = queue_n.once j k q a b
        go (inl a) (inr b) = let z = of_mapped (both f) rs b.0 q b.2 in absurd (differ q z.0 (queue_n.pairs j q a) (queue_m.pairs b.0 z.0 z.1) z.2)
        go (inr a) (inl b) = let z = of_mapped (both f) rs a.0 q a.2 in absurd (differ q z.0 (queue_n.pairs k q b) (queue_m.pairs a.0 z.0 z.1) z.2)
        go (inr a) (inr b) =
            let x = of_mapped (both f) rs a.0 q a.2 in
            let y = of_mapped (both f) rs b.0 q b.2 in
            let same = same_pair x.0 y.0 (queue_m.pairs a.0 x.0 x.1) (queue_m.pairs b.0 y.0 y.1) (x.2 ∙ sym y.2) in
            let l = queue_m.once a.0 b.0 y.0 (x.1 ∙ ap (λ (z : ℕ × ℕ). Some z) same) y.1 in
            a.1 ∙ ap (λ (z : ℕ). length qs + z) l ∙ sym b.1

    pub queue_beside : IsQueueOf t w (qs ++ map (both f) rs)
    queue_beside = record {
      pairs = λ k q e. elim (in_part qs (map (both f) rs) k q e) [
        | inl a ↦ own_pair (agents_at q) (queue_n.pairs k q a)
        | inr a ↦ (let z = of_mapped (both f) rs a.0 q a.2 in subst (λ (v : ℕ × ℕ). IsActivePair t w (agents_at v)) z.2 (their_pair z.0 (queue_m.pairs a.0 z.0 z.1)))
      ];
      all = λ q h. elim (whose q h) [
        | inl a ↦ (let k = queue_n.all q a in (k.0, kept_at qs (map (both f) rs) k.0 (numbers_of q) k.1))
        | inr a ↦ (
            let k = queue_m.all (agents_at a.0) a.2 in
            (length qs + k.0, past_first qs (map (both f) rs) k.0 ∙ to_mapped (both f) rs k.0 a.0 k.1 ∙ ap (λ (z : ℕ × ℕ). Some z) a.1)
            )
      ];
      once = once;
    }
