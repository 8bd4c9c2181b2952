-- The active pair of a listed wire.
use Rattle.std.proofs.Common.{◌≡◌, ◌≢◌, inl, inr, ℕ, Some, None, sym, ap, subst, ◌∙◌}
use Rattle.in_base.proofs.Places.{some_same}
use Rattle.in_symbols.specs.Tables.{Tables}
use Rattle.in_syntax.specs.declared.symbol_no.SymbolNo.{SymbolNo}
use Rattle.in_net.specs.ActivePairs.{AreActive, IsOrdered, IsActivePair, JoinsAgents}
use Rattle.in_net.specs.declared.nets.AgentNo.{AgentNo}
use Rattle.in_net.specs.declared.nets.Point.{Point}
use Rattle.in_net.specs.declared.nets.Point.TheVariants.{Port}
use Rattle.in_net.specs.Parts.{Parts, IsWhole, symbol_in, wire_in}
use Rattle.in_net.specs.Laws.{WiresJoinOnePair}
use Rattle.in_net.proofs.AtPairs.ActivePairs.{differ, flipped, there}

-- a wire joins the principal ports of two agents; as an active pair these have one order
principal_same : (a b : AgentNo) → ◌≡◌ {A = Point} (Port a 0) (Port b 0) → a ≡ b
principal_same a b e = cc

one_agent : (a b x y : AgentNo) → ◌≡◌ {A = Point × Point} (Port a 0, Port b 0) (Port x 0, Port y 0) → ◌≡◌ {A = AgentNo × AgentNo} (a, b) (x, y)
one_agent a b x y e =
    ap (λ (z : AgentNo). (z, b)) (principal_same a x (ap (λ (u : Point × Point). u.0) e)) ∙ ap (λ (z : AgentNo). (x, z)) (principal_same b y (ap (λ (u : Point × Point). u.1) e))

pub one_on_wire : WiresJoinOnePair
one_on_wire t n w p q h k joins others = go joins others
  where
    same : (a b x y : AgentNo) → wire_in n w ≡ Some (Port a 0, Port b 0) → wire_in n w ≡ Some (Port x 0, Port y 0) → ◌≡◌ {A = AgentNo × AgentNo} (a, b) (x, y)
    same a b x y e f = one_agent a b x y (some_same (wire_in n w) (Port a 0, Port b 0) (Port x 0, Port y 0) e f)

    go : JoinsAgents n w p → JoinsAgents n w q → p ≡ q
    go (inl e) (inl f) = same p.0 p.1 q.0 q.1 e f
    go (inr e) (inr f) = ap (λ (z : AgentNo × AgentNo). (z.1, z.0)) (same p.1 p.0 q.1 q.0 e f)
    go (inl e) (inr f) = absurd (flipped t n q.1 q.0 (subst (IsActivePair t n) (same p.0 p.1 q.1 q.0 e f) h) k)
    go (inr e) (inl f) = absurd (flipped t n p.0 p.1 h (subst (IsActivePair t n) (sym (same p.1 p.0 q.0 q.1 e f)) k))

module _ (t : Tables) (n : Parts) (w : ℕ) (p q : Point) (at : wire_in n w ≡ Some (p, q)) where
  same_wire : (x y : Point) → wire_in n w ≡ Some (x, y) → ◌≡◌ {A = Point × Point} (p, q) (x, y)
  same_wire x y e = some_same (wire_in n w) (p, q) (x, y) at e

  -- a wire joins no pair if one of its points is no principal port
  pub none_first : ((x : AgentNo) → p ≢ Port x 0) → (z : AgentNo × AgentNo) → JoinsAgents n w z → ⊥
  none_first never z (inl e) = never z.0 (ap (λ (u : Point × Point). u.0) (same_wire (Port z.0 0) (Port z.1 0) e))
  none_first never z (inr e) = never z.1 (ap (λ (u : Point × Point). u.0) (same_wire (Port z.1 0) (Port z.0 0) e))

  pub none_second : ((x : AgentNo) → q ≢ Port x 0) → (z : AgentNo × AgentNo) → JoinsAgents n w z → ⊥
  none_second never z (inl e) = never z.1 (ap (λ (u : Point × Point). u.1) (same_wire (Port z.0 0) (Port z.1 0) e))
  none_second never z (inr e) = never z.0 (ap (λ (u : Point × Point). u.1) (same_wire (Port z.1 0) (Port z.0 0) e))

  module _ (whole : IsWhole n) (a b : AgentNo) (first : p ≡ Port a 0) (second : q ≡ Port b 0) where
    joined : wire_in n w ≡ Some (Port a 0, Port b 0)
    joined = at ∙ ap (λ (x : Point). Some (x, q)) first ∙ ap (λ (y : Point). Some (Port a 0, y)) second

    active : AreActive n a b
    active = whole.partners w (Port a 0) (Port b 0) joined

    back : AreActive n b a
    back = whole.back (Port a 0) (Port b 0) active

    pub first_there : symbol_in n a.0 ≡ None → ⊥
    first_there none = there t n whole b a back none

    pub second_there : symbol_in n b.0 ≡ None → ⊥
    second_there none = there t n whole a b active none

    pub two_agents : a ≢ b
    two_agents e = differ t n whole a b active (ap (λ (x : AgentNo). x.0) e)

    pub in_their_order : (f s : SymbolNo) (z : AgentNo × AgentNo) → symbol_in n a.0 ≡ Some f → symbol_in n b.0 ≡ Some s → IsOrdered t (a, f) (b, s) z → IsActivePair t n z × JoinsAgents n w z
    in_their_order f s z one two (inl h) =
        subst (λ (z : AgentNo × AgentNo). IsActivePair t n z × JoinsAgents n w z) (sym h.0) (record { active = active; first = f; second = s; one = one; two = two; order = h.1 }, inl joined)
    in_their_order f s z one two (inr h) =
        subst (λ (z : AgentNo × AgentNo). IsActivePair t n z × JoinsAgents n w z) (sym h.0) (record { active = back; first = s; second = f; one = two; two = one; order = h.1 }, inr joined)
