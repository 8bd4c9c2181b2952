-- A boundary end is the lowest of one pair that an interaction makes, under any names of the new agents.
use Rattle.std.proofs.Common.{◌≡◌, ◌⊎◌, ℕ, Option, Some, None, option_map, List, refl, sym, subst, ap, ◌∙◌, inl, inr}
use Rattle.in_base.proofs.Places.{some_same}
use Rattle.in_symbols.specs.Tables.{Tables}
use Rattle.in_syntax.specs.declared.symbol_no.SymbolNo.{SymbolNo}
use Rattle.in_net.specs.ActivePairs.{StandsFirst}
use Rattle.in_net.specs.declared.nets.AgentNo.{AgentNo}
use Rattle.in_net.specs.Interactions.{Redex, IsRedex, IsNaming, Side, Outer, Inner, other, PairPath, wire_of, IsOfPair, end_agent, end_place, redex_at}
use Rattle.in_net.specs.Nets.{Point, Port, IsNet, net_of, signature_of}
use Rattle.in_net.specs.Parts.{Parts, symbol_in}
use Rattle.in_net.specs.Rules.{RuleParts}
use Rattle.in_net.proofs.Public.{no_both, port_agent}
use Rattle.in_interaction.specs.Made.{HasSymbolAfter, IsMade}
use Rattle.in_interaction.proofs.Interactions.Alternating.{one_wire}
use Rattle.in_interaction.proofs.Interactions.Through as through
use Rattle.in_interaction.proofs.Stepping.Making.{agent_same, stays_as}

-- an agent after the interaction has one symbol
pub symbol_once : (n : Parts) (r : RuleParts) (a b : AgentNo) (name : ℕ → ℕ) → IsNaming (net_of n) (redex_at r a.0 b.0) name → (y : AgentNo) (s z : SymbolNo) → HasSymbolAfter n r a b name y s → HasSymbolAfter n r a b name y z → s ≡ z
symbol_once n r a b name naming y s z h g = go h g
  where
    new : (s : SymbolNo) (k : ℕ) (z : SymbolNo) → symbol_in n y.0 ≡ Some s → name k ≡ y.0 → symbol_in r.member k ≡ Some z → ⊥
    new s k z old named is =
        let here : (net_of n).symbol y.0 ≡ Some s.0 = ap (λ (o : Option SymbolNo). option_map (λ (s : SymbolNo). s.0) o) old in
        let inside : (net_of r.member).symbol k ≡ Some z.0 = ap (λ (o : Option SymbolNo). option_map (λ (s : SymbolNo). s.0) o) is in
        let none : (net_of n).symbol y.0 ≡ None = ap (net_of n).symbol (sym named) ∙ naming.fresh k z.0 inside in
        cc

    go : HasSymbolAfter n r a b name y s → HasSymbolAfter n r a b name y z → s ≡ z
    go (inl h) (inl g) = some_same (symbol_in n y.0) s z h.2 g.2
    go (inl h) (inr g) = absurd (new s g.0 z h.2 g.1 g.2)
    go (inr h) (inl g) = absurd (new z h.0 s g.2 h.1 h.2)
    go (inr h) (inr g) =
        let one : (net_of r.member).symbol h.0 ≡ Some s.0 = ap (λ (o : Option SymbolNo). option_map (λ (s : SymbolNo). s.0) o) h.2 in
        let two : (net_of r.member).symbol g.0 ≡ Some z.0 = ap (λ (o : Option SymbolNo). option_map (λ (s : SymbolNo). s.0) o) g.2 in
        let same : h.0 ≡ g.0 = naming.apart h.0 g.0 s.0 z.0 one two (h.1 ∙ sym g.1) in
        some_same (symbol_in r.member h.0) s z h.2 (ap (symbol_in r.member) same ∙ g.2)

module _ (t : Tables) (n : Parts) (r : RuleParts) (a b : AgentNo) (name : ℕ → ℕ) (net : IsNet (signature_of t) (net_of n)) (inside : IsNet (signature_of t) (net_of r.member)) (redex : IsRedex (signature_of t) (net_of n) (redex_at r a.0 b.0)) (naming : IsNaming (net_of n) (redex_at r a.0 b.0) name) where
  abbrev at : Redex ℕ ℕ
  at = redex_at r a.0 b.0

  abbrev end_at : ℕ → Point ℕ
  end_at e = Port (end_agent (signature_of t) at e) (end_place (signature_of t) at e)

  -- the path from a boundary end by one side ends at this agent's principal port
  record Half (side : Side) (e : ℕ) (z : AgentNo) : Type 0 where
    stays : IsOfPair at (Port z.0 0) → ⊥
    ends : List (Point ℕ)
    way : PairPath (signature_of t) (net_of n) at name side (end_at e) ends (Port z.0 0)

  half_once : (s : Side) (e : ℕ) (z w : AgentNo) → Half s e z → Half s e w → z ≡ w
  half_once s e z w h g =
      let r = through.same_path (wire_of (signature_of t) (net_of n) at name) (IsOfPair at) (one_wire (signature_of t) (net_of n) at name net inside redex naming) s (end_at e) h.ends g.ends (Port z.0 0) (Port w.0 0) h.stays g.stays h.way g.way in
      agent_same z w (port_agent z.0 w.0 0 0 r.1)

  abbrev Halves : ℕ → AgentNo × AgentNo → Type 0
  Halves e q = (one two : AgentNo) × Half Outer e one × Half Inner e two × ((q ≡ (one, two)) ⊎ (q ≡ (two, one)))

  halves : (e : ℕ) (q : AgentNo × AgentNo) → IsMade t n r a b name e q → Halves e q
  halves e q h = by c.side c.front c.rear c.ahead c.behind
    where
      c : through.Cut (wire_of (signature_of t) (net_of n) at name) (IsOfPair at) (Port q.0.0 0) (Port q.1.0 0) (end_at e) h.path.passed.1
      c = through.cut_at (signature_of t) (net_of n) at name net inside redex naming h.path.passed.0 (Port q.0.0 0) h.path.passed.1 (Port q.1.0 0) h.path.passed.2 (end_at e) h.path.passed.3

      stays : (y : AgentNo) (s : SymbolNo) → HasSymbolAfter n r a b name y s → IsOfPair at (Port y.0 0) → ⊥
      stays = stays_as t n r a b name net inside redex naming

      by : (s : Side) (front rear : List (Point ℕ)) → PairPath (signature_of t) (net_of n) at name s (end_at e) front (Port q.1.0 0) → PairPath (signature_of t) (net_of n) at name (other s) (end_at e) rear (Port q.0.0 0) → Halves e q
      by Outer front rear x y = (q.1, q.0, record { stays = stays q.1 h.second h.two; ends = front; way = x }, record { stays = stays q.0 h.first h.one; ends = rear; way = y }, inr refl)
      by Inner front rear x y = (q.0, q.1, record { stays = stays q.0 h.first h.one; ends = rear; way = y }, record { stays = stays q.1 h.second h.two; ends = front; way = x }, inl refl)

  not_turned : (x y : AgentNo) (d e : ℕ) → IsMade t n r a b name d (x, y) → IsMade t n r a b name e (y, x) → ⊥
  not_turned x y d e h g =
      let one = symbol_once n r a b name naming x h.first g.second h.one g.two in
      let two = symbol_once n r a b name naming y h.second g.first h.two g.one in
      no_both t x y h.first h.second h.order (subst (λ (s : SymbolNo). StandsFirst t h.second s y x) (sym one) (subst (λ (s : SymbolNo). StandsFirst t s g.second y x) (sym two) g.order))

  -- a boundary end is the lowest of one pair
  pub pair_once : (e : ℕ) (p q : AgentNo × AgentNo) → IsMade t n r a b name e p → IsMade t n r a b name e q → p ≡ q
  pair_once e p q h g = go x.4 y.4
    where
      x : Halves e p
      x = halves e p h

      y : Halves e q
      y = halves e q g

      one : x.0 ≡ y.0
      one = half_once Outer e x.0 y.0 x.2 y.2

      two : x.1 ≡ y.1
      two = half_once Inner e x.1 y.1 x.3 y.3

      same_pair : (u v w z : AgentNo) → u ≡ w → v ≡ z → ◌≡◌ {A = AgentNo × AgentNo} (u, v) (w, z)
      same_pair u v w z h k = ap (λ (u : AgentNo). (u, v)) h ∙ ap (λ (v : AgentNo). (w, v)) k

      go : (p ≡ (x.0, x.1)) ⊎ (p ≡ (x.1, x.0)) → (q ≡ (y.0, y.1)) ⊎ (q ≡ (y.1, y.0)) → p ≡ q
      go (inl u) (inl v) = u ∙ same_pair x.0 x.1 y.0 y.1 one two ∙ sym v
      go (inr u) (inr v) = u ∙ same_pair x.1 x.0 y.1 y.0 two one ∙ sym v
      go (inl u) (inr v) =
          let turned : q ≡ (x.1, x.0) = v ∙ same_pair y.1 y.0 x.1 x.0 (sym two) (sym one) in
          absurd (not_turned x.0 x.1 e e (subst (IsMade t n r a b name e) u h) (subst (IsMade t n r a b name e) turned g))
      go (inr u) (inl v) =
          let turned : q ≡ (x.0, x.1) = v ∙ same_pair y.0 y.1 x.0 x.1 (sym one) (sym two) in
          absurd (not_turned x.0 x.1 e e (subst (IsMade t n r a b name e) turned g) (subst (IsMade t n r a b name e) u h))
