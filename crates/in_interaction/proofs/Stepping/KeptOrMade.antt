-- The active pairs after an interaction: those of other agents, those that it makes, and the right member's own. An agent is in one at most.
use Rattle.std.proofs.Common.{◌≡◌, ◌≢◌, ◌⊎◌, ◌↔◌, inl, inr, ◌≤◌, ℕ, Option, Some, None, List, [], slice_get, sym, ap, subst, ◌∙◌}
use Rattle.std.specs.Prelude.{option_map}
use Rattle.std.proofs.lemmas.Option.{none-some}
use Rattle.in_base.specs.Lists.{IsAmong}
use Rattle.in_symbols.specs.Tables.{Tables}
use Rattle.in_syntax.specs.declared.symbol_no.SymbolNo.{SymbolNo}
use Rattle.in_net.specs.ActivePairs.{AreActive, IsActivePair}
use Rattle.in_interaction.specs.Interacting.{unused, CanInteract, Interacts, InteractsAs}
use Rattle.in_net.specs.Interactions.{Redex, Side, Outer, Inner, PairPath, stands_for, InnerWire, IsOfPair, IsNaming, IsRedex, AreJoined, IsStep, end_agent, end_place, redex_at}
use Rattle.in_interaction.specs.Made.{PassesEnd, HasSymbolAfter, IsMade, AreMadeOverEnds, IsOwn}
use Rattle.in_net.specs.Nets.{Point, Port, Free, Signature, IsNet, net_of, signature_of, coded_point}
use Rattle.in_interaction.specs.OutcomeLaws.{IsOtherPair}
use Rattle.in_net.specs.Parts.{Parts, IsWhole, symbol_in, partner_in}
use Rattle.in_net.specs.Rules.{RuleParts}
use Rattle.in_net.specs.declared.nets.AgentNo.{AgentNo}
use Rattle.in_net.specs.declared.nets.Point.TheVariants as code
use Rattle.in_net.proofs.Public.{symbol_of, end_of_pair, port_agent, port_place, map_is, one_partner, flipped}
use Rattle.in_interaction.proofs.Interactions.Through as through
use Rattle.in_interaction.proofs.Stepping.Making.{agent_same, stays_as}
use Rattle.in_interaction.proofs.Stepping.Sites.{redex_in}
use Rattle.in_interaction.proofs.Stepping.Partners.{net_wire}

-- ---- an agent is in one pair

pub apart : (t : Tables) (n : Parts) (p q : AgentNo × AgentNo) → IsWhole n → IsActivePair t n p → IsActivePair t n q → (p.0 ≡ q.0) ⊎ (p.0 ≡ q.1) ⊎ (p.1 ≡ q.0) ⊎ (p.1 ≡ q.1) → p ≡ q
apart t n p q whole h g shared = go shared
  where
    h_back : AreActive n p.1 p.0
    h_back = whole.back (code.Port p.0 0) (code.Port p.1 0) h.active

    g_back : AreActive n q.1 q.0
    g_back = whole.back (code.Port q.0 0) (code.Port q.1 0) g.active

    both : p.0 ≡ q.0 → p.1 ≡ q.1 → p ≡ q
    both e f = ap (λ (z : AgentNo). let w : AgentNo × AgentNo = (z, p.1) in w) e ∙ ap (λ (z : AgentNo). let w : AgentNo × AgentNo = (q.0, z) in w) f

    turned : p.0 ≡ q.1 → p.1 ≡ q.0 → ⊥
    turned e f =
        let is : p ≡ (q.1, q.0) = ap (λ (z : AgentNo). let w : AgentNo × AgentNo = (z, p.1) in w) e ∙ ap (λ (z : AgentNo). let w : AgentNo × AgentNo = (q.1, z) in w) f in
        flipped t n q.0 q.1 g (subst (IsActivePair t n) is h)

    go : (p.0 ≡ q.0) ⊎ (p.0 ≡ q.1) ⊎ (p.1 ≡ q.0) ⊎ (p.1 ≡ q.1) → p ≡ q
    go (inl e) = both e (one_partner t n q.0 p.1 q.1 (subst (λ (z : AgentNo). AreActive n z p.1) e h.active) g.active)
    go (inr (inl e)) = absurd (turned e (one_partner t n q.1 p.1 q.0 (subst (λ (z : AgentNo). AreActive n z p.1) e h.active) g_back))
    go (inr (inr (inl e))) = absurd (turned (one_partner t n q.0 p.0 q.1 (subst (λ (z : AgentNo). AreActive n z p.0) e h_back) g.active) e)
    go (inr (inr (inr e))) = both (one_partner t n q.1 p.0 q.0 (subst (λ (z : AgentNo). AreActive n z p.0) e h_back) g_back) e

-- ---- after an interaction

pub symbol_is : (o : Option SymbolNo) (s : SymbolNo) → option_map (λ (s : SymbolNo). s.0) o ≡ Some s.0 → o ≡ Some s
symbol_is None s e = cc
symbol_is (Some z) s e = let same : z.0 ≡ s.0 = cc in ap (λ (k : ℕ). let y : SymbolNo = record { 0 = k } in Some y) same

pub symbol_number : (o : Option SymbolNo) (s : SymbolNo) → o ≡ Some s → option_map (λ (s : SymbolNo). s.0) o ≡ Some s.0
symbol_number o s e = ap (option_map (λ (s : SymbolNo). s.0)) e

module _ (t : Tables) (n : Parts) (r : RuleParts) (a b : AgentNo) (name : ℕ → ℕ) (m : Parts) (net : IsNet (signature_of t) (net_of n)) (inside : IsNet (signature_of t) (net_of r.member)) (can : CanInteract t n r a b) (h : InteractsAs t n r a b name m) where
  abbrev sig : Signature
  sig = signature_of t

  abbrev pair : Redex ℕ ℕ
  pair = redex_at r a.0 b.0

  abbrev Joined : Point ℕ → Point ℕ → Type 0
  Joined = AreJoined sig (net_of n) pair name

  abbrev Stays : Point ℕ → Type 0
  Stays u = IsOfPair pair u → ⊥

  abbrev pt : ℕ → Point ℕ
  pt e = Port (end_agent sig pair e) (end_place sig pair e)

  abbrev step : IsStep sig (net_of n) pair name (net_of m)
  step = h.step

  abbrev naming : IsNaming (net_of n) pair name
  naming = h.step.naming

  redex : IsRedex sig (net_of n) pair
  redex = redex_in t n r a b net can

  pub stays_after : (y : AgentNo) (s : SymbolNo) → HasSymbolAfter n r a b name y s → IsOfPair (redex_at r a.0 b.0) (Port y.0 0) → ⊥
  stays_after = stays_as t n r a b name net inside redex naming

  -- the partner's partner
  back : (x y : AgentNo) → AreActive n x y → AreActive n y x
  back x y e = map_is (partner_in n (code.Port y 0)) (Port x.0 0) (net.back (Port x.0 0) (Port y.0 0) (net_wire n (code.Port x 0) (code.Port y 0) e))

  -- an agent's symbol after
  pub symbol_after : (y : AgentNo) (s : SymbolNo) → symbol_in m y.0 ≡ Some s → HasSymbolAfter n r a b name y s
  symbol_after y s e = elim ((step.agents y.0 s.0).0 (symbol_number (symbol_in m y.0) s e)) [
    | inl k ↦ inl ((λ i. k.0 (ap (λ (z : AgentNo). z.0) i)), (λ i. k.1 (ap (λ (z : AgentNo). z.0) i)), symbol_is (symbol_in n y.0) s k.2)
    | inr k ↦ inr (k.0, k.1, symbol_is (symbol_in r.member k.0) s k.2)
  ]

  pub has_symbol : (y : AgentNo) (s : SymbolNo) → HasSymbolAfter n r a b name y s → symbol_in m y.0 ≡ Some s
  has_symbol y s (inl k) = symbol_is (symbol_in m y.0) s ((step.agents y.0 s.0).1 (inl ((λ i. k.0 (agent_same y a i)), (λ i. k.1 (agent_same y b i)), symbol_number (symbol_in n y.0) s k.2)))
  has_symbol y s (inr k) = symbol_is (symbol_in m y.0) s ((step.agents y.0 s.0).1 (inr (k.0, k.1, symbol_number (symbol_in r.member k.0) s k.2)))

  active_after : (x y : AgentNo) → Joined (Port x.0 0) (Port y.0 0) → AreActive m x y
  active_after x y j = map_is (partner_in m (code.Port x 0)) (Port y.0 0) ((step.wires (Port x.0 0) (Port y.0 0)).1 j)

  -- an agent with a wire of the net before is no new one
  old_symbol : (x y : AgentNo) (s : SymbolNo) → AreActive n x y → HasSymbolAfter n r a b name x s → (x ≢ a) × (x ≢ b) × (symbol_in n x.0 ≡ Some s)
  old_symbol x y s act (inl k) = k
  old_symbol x y s act (inr k) =
      let p = symbol_of sig ((net_of n).symbol x.0) 0 (net.points (Port x.0 0) (Port y.0 0) (net_wire n (code.Port x 0) (code.Port y 0) act)) in
      let none : (net_of n).symbol x.0 ≡ None = ap (net_of n).symbol (sym k.1) ∙ naming.fresh k.0 s.0 (symbol_number (symbol_in r.member k.0) s k.2) in
      absurd (none-some p.0 (sym none ∙ p.1))

  -- .. and one with a wire of the right member is no old one
  new_symbol : (k : ℕ) (i : ℕ) (q : Point ℕ) (x : AgentNo) (s : SymbolNo) → (net_of r.member).partner (Port k i) ≡ Some q → name k ≡ x.0 → HasSymbolAfter n r a b name x s → symbol_in r.member k ≡ Some s
  new_symbol k i q x s e is o =
      let p = symbol_of sig ((net_of r.member).symbol k) i (inside.points (Port k i) q e) in
      elim o [
        | inl g ↦ (
            let none : (net_of n).symbol x.0 ≡ None = ap (net_of n).symbol (sym is) ∙ naming.fresh k p.0 p.1 in
            absurd (none-some s.0 (sym none ∙ symbol_number (symbol_in n x.0) s g.2))
            )
        | inr g ↦ (
            let same : k ≡ g.0 = naming.apart k g.0 p.0 s.0 p.1 (symbol_number (symbol_in r.member g.0) s g.2) (is ∙ sym g.1) in
            ap (symbol_in r.member) same ∙ g.2
            )
      ]

  module _ (made : List (AgentNo × AgentNo)) (are : AreMadeOverEnds t n r a b name made) where
    abbrev IsThere : AgentNo × AgentNo → Type 0
    IsThere q = IsOtherPair t n a b q ⊎ ((k : ℕ) × (slice_get made k ≡ Some q)) ⊎ IsOwn t r name q

    -- a wire of the right member between two principal ports is of new agents
    inner : (x y : AgentNo) → Stays (Port x.0 0) → Stays (Port y.0 0) → InnerWire sig pair name (Port x.0 0) (Port y.0 0) →
        (k l : AgentNo) × (name k.0 ≡ x.0) × (name l.0 ≡ y.0) × AreActive r.member k l
    inner x y hx hy w = go w.0 w.1 w.2 w.3 w.4
      where
        pair_end : (e : ℕ) → IsOfPair pair (stands_for sig pair name (Free e))
        pair_end e = end_of_pair sig (net_of n) pair name net inside redex naming e

        go : (p q : Point ℕ) → stands_for sig pair name p ≡ Port x.0 0 → stands_for sig pair name q ≡ Port y.0 0 → (net_of r.member).partner p ≡ Some q →
            (k l : AgentNo) × (name k.0 ≡ x.0) × (name l.0 ≡ y.0) × AreActive r.member k l
        go (Free e) q is_p is_q e_p = absurd (hx (subst (IsOfPair pair) is_p (pair_end e)))
        go (Port k i) (Free e) is_p is_q e_p = absurd (hy (subst (IsOfPair pair) is_q (pair_end e)))
        go (Port k i) (Port l j) is_p is_q e_p =
            let one : i ≡ 0 = port_place (name k) x.0 i 0 is_p in
            let two : j ≡ 0 = port_place (name l) y.0 j 0 is_q in
            let wire : (net_of r.member).partner (Port k 0) ≡ Some (Port l 0) = ap (λ (z : ℕ). (net_of r.member).partner (Port k z)) (sym one) ∙ e_p ∙ ap (λ (z : ℕ). Some (Port l z)) two in
            (record { 0 = k }, record { 0 = l }, port_agent (name k) x.0 i 0 is_p, port_agent (name l) y.0 j 0 is_q, map_is (partner_in r.member (coded_point (Port k 0))) (Port l 0) wire)

    there : (q : AgentNo × AgentNo) → IsActivePair t m q → IsThere q
    there q g = go j.2.0 j.2.1 j.2.2
      where
        j : Joined (Port q.0.0 0) (Port q.1.0 0)
        j = (step.wires (Port q.0.0 0) (Port q.1.0 0)).0 (net_wire m (code.Port q.0 0) (code.Port q.1 0) g.active)

        one : HasSymbolAfter n r a b name q.0 g.first
        one = symbol_after q.0 g.first g.one

        two : HasSymbolAfter n r a b name q.1 g.second
        two = symbol_after q.1 g.second g.two

        kept : AreActive n q.0 q.1 → IsThere q
        kept act =
            let x = old_symbol q.0 q.1 g.first act one in
            let y = old_symbol q.1 q.0 g.second (back q.0 q.1 act) two in
            inl (record { active = act; first = g.first; second = g.second; one = x.2; two = y.2; order = g.order }, x.0, x.1, y.0, y.1)

        own : InnerWire sig pair name (Port q.0.0 0) (Port q.1.0 0) → IsThere q
        own w =
            let k = inner q.0 q.1 j.0 j.1 w in
            let forth = net_wire r.member (code.Port k.0 0) (code.Port k.1 0) k.4 in
            inr (inr (record {
              inner = (k.0, k.1);
              active = k.4;
              first = g.first;
              second = g.second;
              one = new_symbol k.0.0 0 (Port k.1.0 0) q.0 g.first forth k.2 one;
              two = new_symbol k.1.0 0 (Port k.0.0 0) q.1 g.second (inside.back (Port k.0.0 0) (Port k.1.0 0) forth) k.3 two;
              named = (k.2, k.3);
              order = g.order;
            }))

        single : (s : Side) → PairPath sig (net_of n) pair name s (Port q.0.0 0) [] (Port q.1.0 0) → IsThere q
        single Outer w = kept (map_is (partner_in n (code.Port q.0 0)) (Port q.1.0 0) w)
        single Inner w = own w

        through_end : (s : Side) (es : List (Point ℕ)) → PairPath sig (net_of n) pair name s (Port q.0.0 0) es (Port q.1.0 0) → (e : ℕ) → IsAmong (pt e) es → ((d : ℕ) → IsAmong (pt d) es → e ≤ d) → IsThere q
        through_end s es w e i low = inr (inl (are.all e q (record { first = g.first; second = g.second; one = one; two = two; path = record { passed = (s, es, w, i); lowest = lowest }; order = g.order })))
          where
            lowest : (d : ℕ) → PassesEnd sig (net_of n) pair name d (Port q.0.0 0) (Port q.1.0 0) → e ≤ d
            lowest d p =
                let same = through.one_way sig (net_of n) pair name net inside redex naming p.0 s (Port q.0.0 0) (Port q.1.0 0) (Port q.1.0 0) p.1 es j.0 j.1 j.1 p.2 w in
                low d (subst (IsAmong (pt d)) same.0 p.3)

        go : (s : Side) (es : List (Point ℕ)) → PairPath sig (net_of n) pair name s (Port q.0.0 0) es (Port q.1.0 0) → IsThere q
        go s es w =
            let ends = through.through_ends sig (net_of n) pair name net inside redex naming s (Port q.0.0 0) es (Port q.1.0 0) w in
            elim (through.lowest sig (net_of n) pair name net inside redex naming es ends) [
              | inl alone ↦ single s (subst (λ zs. PairPath sig (net_of n) pair name s (Port q.0.0 0) zs (Port q.1.0 0)) alone w)
              | inr e ↦ through_end s es w e.0 e.1 e.2
            ]

    pub kept_or_made_of : (q : AgentNo × AgentNo) → IsActivePair t m q ↔ IsThere q
    kept_or_made_of q = (there q, (λ o. elim o [ inl g ↦ kept g | inr o ↦ elim o [ inl g ↦ of_made g.0 g.1 | inr g ↦ own g ] ]))
      where
        kept : IsOtherPair t n a b q → IsActivePair t m q
        kept g =
            let one : HasSymbolAfter n r a b name q.0 g.0.first = inl (g.1, g.2, g.0.one) in
            let two : HasSymbolAfter n r a b name q.1 g.0.second = inl (g.3, g.4, g.0.two) in
            record {
              active = active_after q.0 q.1 (stays_after q.0 g.0.first one, stays_after q.1 g.0.second two, (Outer, [], net_wire n (code.Port q.0 0) (code.Port q.1 0) g.0.active));
              first = g.0.first;
              second = g.0.second;
              one = has_symbol q.0 g.0.first one;
              two = has_symbol q.1 g.0.second two;
              order = g.0.order;
            }

        of_made : (k : ℕ) → slice_get made k ≡ Some q → IsActivePair t m q
        of_made k e =
            let g = (are.each k q e).1 in
            let p = g.path.passed in
            record {
              active = active_after q.0 q.1 (stays_after q.0 g.first g.one, stays_after q.1 g.second g.two, (p.0, p.1, p.2));
              first = g.first;
              second = g.second;
              one = has_symbol q.0 g.first g.one;
              two = has_symbol q.1 g.second g.two;
              order = g.order;
            }

        own : IsOwn t r name q → IsActivePair t m q
        own g =
            let one : HasSymbolAfter n r a b name q.0 g.first = inr (g.inner.0.0, g.named.0, g.one) in
            let two : HasSymbolAfter n r a b name q.1 g.second = inr (g.inner.1.0, g.named.1, g.two) in
            let wire : InnerWire sig pair name (Port q.0.0 0) (Port q.1.0 0) =
            (Port g.inner.0.0 0, Port g.inner.1.0 0, ap (λ (z : ℕ). Port z 0) g.named.0, ap (λ (z : ℕ). Port z 0) g.named.1, net_wire r.member (code.Port g.inner.0 0) (code.Port g.inner.1 0) g.active) in
            record {
              active = active_after q.0 q.1 (stays_after q.0 g.first one, stays_after q.1 g.second two, (Inner, [], wire));
              first = g.first;
              second = g.second;
              one = has_symbol q.0 g.first one;
              two = has_symbol q.1 g.second two;
              order = g.order;
            }

  -- two agents that one wire joins, of the net before or of the right member, are no pair that is made
  pub not_made : (s : Side) (q : AgentNo × AgentNo) → PairPath sig (net_of n) pair name s (Port q.0.0 0) [] (Port q.1.0 0) → (e : ℕ) → IsMade t n r a b name e q → ⊥
  not_made s q w e g =
      let p = g.path.passed in
      let hx = stays_after q.0 g.first g.one in
      let hy = stays_after q.1 g.second g.two in
      let same = through.one_way sig (net_of n) pair name net inside redex naming p.0 s (Port q.0.0 0) (Port q.1.0 0) (Port q.1.0 0) p.1 [] hx hy hy p.2 w in
      subst (IsAmong (pt e)) same.0 p.3

pub kept_or_made : (t : Tables) (n : Parts) (r : RuleParts) (a b : AgentNo) (name : ℕ → ℕ) (m : Parts) (made : List (AgentNo × AgentNo)) → IsNet (signature_of t) (net_of n) → IsNet (signature_of t) (net_of r.member) → CanInteract t n r a b → InteractsAs t n r a b name m → AreMadeOverEnds t n r a b name made →
    (q : AgentNo × AgentNo) → IsActivePair t m q ↔ (IsOtherPair t n a b q ⊎ ((k : ℕ) × (slice_get made k ≡ Some q)) ⊎ IsOwn t r name q)
kept_or_made t n r a b name m made net inside can h are = kept_or_made_of t n r a b name m net inside can h made are

pub least_are_names : (t : Tables) (n : Parts) (r : RuleParts) (a b : AgentNo) (m : Parts) → CanInteract t n r a b → Interacts n r a b m → InteractsAs t n r a b (unused n.cells) m
least_are_names t n r a b m can h = record { step = h.step t can; over = h.over t can; names = h.names }
