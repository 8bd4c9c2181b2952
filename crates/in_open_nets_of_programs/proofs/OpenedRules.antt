-- The open net of a rule is an open net.
use Rattle.std.proofs.Common.{◌≡◌, ◌<◌, ◌≤◌, ◌+◌, ◌-◌, ◌^◌, ℕ, suc, Bool, true, false, cond, nat_lt, Option, Some, None, IsSomeAnd, length, slice_get, get_or, refl, sym, subst, ap, inl, inr, ◌∙◌, arith}
use Rattle.std.specs.Prelude.{option_map, option_and_then}
use Rattle.std.proofs.lemmas.Bool.Decides.{leb_tells}
use Rattle.std.proofs.lemmas.List.Sums.{count_by-le-length}
use Rattle.std.proofs.lemmas.Option.{slice_get_within, get_or_from_slice_get}
use Rattle.in_syntax.specs.declared.symbol_no.SymbolNo.{SymbolNo}
use Rattle.in_symbols.specs.Tables.{Tables, arity_of, class_at, classes_of}
use Rattle.in_net.specs.declared.nets.AgentNo.{AgentNo}
use Rattle.in_net.specs.declared.nets.Cell.{Cell}
use Rattle.in_net.specs.declared.nets.Point as points
use Rattle.in_net.specs.declared.nets.Point.TheVariants as point
use Rattle.in_net.specs.declared.nets.FreeEnd.{FreeEnd}
use Rattle.in_net.specs.declared.nets.Wire.{Wire}
use Rattle.in_net.proofs.Public.{cell_over, has_partner, lt_tells}
use Rattle.in_net.specs.Built.{IsOver}
use Rattle.in_net.specs.Parts.{Parts, IsWhole, IsPointOf, IsWireBetween, cell_in, partner_in, wire_in}
use Rattle.in_net.specs.Rules.{RuleParts}
use Rattle.in_open_nets.specs.declared.open_nets.Node.{Node}
use Rattle.in_open_nets.specs.declared.open_nets.Node.TheVariants.{AgentNode, ClassNode}
use Rattle.in_open_nets.specs.declared.open_nets.OpenNode.{OpenNode}
use Rattle.in_open_nets.specs.declared.open_nets.OpenPoint.{OpenPoint}
use Rattle.in_open_nets.specs.declared.open_nets.OpenPoint.TheVariants.{Port, Free}
use Rattle.in_open_nets.specs.OpenNets as nets
use Rattle.in_open_nets.specs.OpenNets.{OpenNet, IsWire, IsOpenNet, IsOrderly, ports_in, IsAgentNode, IsAgent, class_in}
use Rattle.in_open_nets_of_programs.specs.Opening.{Each, IsNodeOf, AreNumbered}
use Rattle.in_open_nets_of_programs.specs.OpeningRules.{places_in, agents_before, agent_node, second_node, class_port, boundary_port, is_turned, rule_point, rule_wire, IsRuleWhole, OpensRule}
use Rattle.in_base.proofs.Places.{some_same}
use Rattle.in_open_nets.proofs.Public.{some_of}
use Rattle.in_open_nets_of_programs.proofs.Opened.{lower_point, few_ports}
use Rattle.in_open_nets_of_programs.proofs.RulePoints.{place_there, place_within, same_place, not_first, not_second, same_agent, agent_within, NodeKind, of_first, of_second, of_agent, kind_of}
use Rattle.in_base.proofs.Each.{at_index}
use Rattle.in_syntax.specs.Grammar.{max_ports}

same_port : (a b i j : ℕ) → a ≡ b → i ≡ j → ◌≡◌ {A = OpenPoint} (Port a i) (Port b j)
same_port a b i j e f = cc

port_node : (a b i j : ℕ) → ◌≡◌ {A = OpenPoint} (Port a i) (Port b j) → a ≡ b
port_node a b i j e = cc

port_place : (a b i j : ℕ) → ◌≡◌ {A = OpenPoint} (Port a i) (Port b j) → i ≡ j
port_place a b i j e = cc

pick_yes : (b : Bool) (x y : OpenPoint) → b ≡ true → cond b x y ≡ x
pick_yes b x y h = ap (λ z. cond z x y) h

pick_other : (b : Bool) (x y : OpenPoint) → b ≡ false → cond b x y ≡ y
pick_other b x y h = ap (λ z. cond z x y) h

lt_yes : (a b : ℕ) → a < b → nat_lt a b ≡ true
lt_yes a b h = elim (lt_tells a b) [ inl l ↦ l.0 | inr l ↦ let k = l.1 in absurd (omega arith) ]

lt_other : (a b : ℕ) → b ≤ a → nat_lt a b ≡ false
lt_other a b h = elim (lt_tells a b) [ inl l ↦ let k = l.1 in absurd (omega arith) | inr l ↦ l.0 ]

same_class_port : (t : Tables) (s u : SymbolNo) (f i j : ℕ) → s ≡ u → i ≡ suc j → class_port t s.0 f i ≡ Port (f + (class_at t u.0 (suc j) - 1)) (places_in t u.0 (class_at t u.0 (suc j)) j)
same_class_port t s u f i j e g =
    let k : i - 1 ≡ j = omega arith in
    ap (λ (z : SymbolNo). class_port t z.0 f i) e ∙ ap (λ z. Port (f + (class_at t u.0 z - 1)) (places_in t u.0 (class_at t u.0 z) (i - 1))) g ∙ ap (λ z. Port (f + (class_at t u.0 (suc j) - 1)) (places_in t u.0 (class_at t u.0 (suc j)) z)) k

pub class_low : (t : Tables) → AreNumbered t → (s i : ℕ) → suc i ≤ arity_of t s → (1 ≤ class_at t s (suc i)) × (class_at t s (suc i) ≤ classes_of t s)
class_low t numbered s i h = (elim (leb_tells 1 (class_at t s (suc i))) [ inl l ↦ l.1 | inr l ↦ let k = l.1 in let z = (numbered.principal s (suc i) h).0 (omega arith) in absurd (omega arith) ], numbered.most s (suc i) h)

-- ---- the ends of a rule's boundary: those of the head that is written first, and those of the other

module _ (t : Tables) (p : RuleParts) where
  abbrev pub first_end : Bool → ℕ → ℕ
  first_end turned i = cond turned (arity_of t p.written.1.0 + i) i

  abbrev pub second_end : Bool → ℕ → ℕ
  second_end turned i = cond turned i (arity_of t p.written.0.0 + i)

  pub data IsEnd (turned : Bool) (k : ℕ) : Type 0 where
    in_first : (i : ℕ) → suc i ≤ arity_of t p.written.0.0 → k ≡ first_end turned i → IsEnd turned k
    in_second : (i : ℕ) → suc i ≤ arity_of t p.written.1.0 → k ≡ second_end turned i → IsEnd turned k

  abbrev Heads : Bool → Type 0
  Heads turned = p.heads ≡ cond turned (p.written.1, p.written.0) p.written

  arities : (turned : Bool) → Heads turned → (arity_of t p.heads.0.0 ≡ arity_of t (cond turned p.written.1 p.written.0).0) × (arity_of t p.heads.1.0 ≡ arity_of t (cond turned p.written.0 p.written.1).0)
  arities true e = (ap (λ (z : SymbolNo × SymbolNo). arity_of t z.0.0) e, ap (λ (z : SymbolNo × SymbolNo). arity_of t z.1.0) e)
  arities false e = (ap (λ (z : SymbolNo × SymbolNo). arity_of t z.0.0) e, ap (λ (z : SymbolNo × SymbolNo). arity_of t z.1.0) e)

  pub is_end : (turned : Bool) → Heads turned → (k : ℕ) → k < arity_of t p.heads.0.0 + arity_of t p.heads.1.0 → IsEnd turned k
  is_end true e k h = let a = arities true e in let b = a.0 in let d = a.1 in elim (lt_tells k (arity_of t p.written.1.0)) [
    | inl l ↦ let m = l.1 in in_second k (omega arith) refl
    | inr l ↦ let m = l.1 in in_first (k - arity_of t p.written.1.0) (omega arith) (omega arith)
  ]
  is_end false e k h = let a = arities false e in let b = a.0 in let d = a.1 in elim (lt_tells k (arity_of t p.written.0.0)) [
    | inl l ↦ let m = l.1 in in_first k (omega arith) refl
    | inr l ↦ let m = l.1 in in_second (k - arity_of t p.written.0.0) (omega arith) (omega arith)
  ]

  first_within : (turned : Bool) → Heads turned → (i : ℕ) → suc i ≤ arity_of t p.written.0.0 → first_end turned i < arity_of t p.heads.0.0 + arity_of t p.heads.1.0
  first_within true e i h = let a = arities true e in let b = a.0 in let d = a.1 in omega arith
  first_within false e i h = let a = arities false e in let b = a.0 in let d = a.1 in omega arith

  second_within : (turned : Bool) → Heads turned → (i : ℕ) → suc i ≤ arity_of t p.written.1.0 → second_end turned i < arity_of t p.heads.0.0 + arity_of t p.heads.1.0
  second_within true e i h = let a = arities true e in let b = a.0 in let d = a.1 in omega arith
  second_within false e i h = let a = arities false e in let b = a.0 in let d = a.1 in omega arith

  pub first_port : (turned : Bool) → Heads turned → (i : ℕ) → suc i ≤ arity_of t p.written.0.0 → boundary_port t p turned (first_end turned i) ≡ Port (class_at t p.written.0.0 (suc i) - 1) (places_in t p.written.0.0 (class_at t p.written.0.0 (suc i)) i)
  first_port true e i h =
      let a = (arities true e).0 in
      pick_other _ _ _ (lt_other (arity_of t p.written.1.0 + i) (arity_of t p.heads.0.0) (omega arith))
      ∙ same_class_port t p.heads.1 p.written.0 0 (arity_of t p.written.1.0 + i - arity_of t p.heads.0.0 + 1) i (ap (λ (z : SymbolNo × SymbolNo). z.1) e) (omega arith)
      ∙ same_port _ _ _ _ (omega arith) refl
  first_port false e i h =
      let a = (arities false e).0 in
      pick_yes _ _ _ (lt_yes i (arity_of t p.heads.0.0) (omega arith))
      ∙ same_class_port t p.heads.0 p.written.0 0 (i + 1) i (ap (λ (z : SymbolNo × SymbolNo). z.0) e) (omega arith)
      ∙ same_port _ _ _ _ (omega arith) refl

  pub second_port : (turned : Bool) → Heads turned → (i : ℕ) → suc i ≤ arity_of t p.written.1.0 → boundary_port t p turned (second_end turned i) ≡ Port (second_node t p + (class_at t p.written.1.0 (suc i) - 1)) (places_in t p.written.1.0 (class_at t p.written.1.0 (suc i)) i)
  second_port true e i h =
      let a = (arities true e).0 in
      pick_yes _ _ _ (lt_yes i (arity_of t p.heads.0.0) (omega arith))
      ∙ same_class_port t p.heads.0 p.written.1 (second_node t p) (i + 1) i (ap (λ (z : SymbolNo × SymbolNo). z.0) e) (omega arith)
  second_port false e i h =
      let a = (arities false e).0 in
      pick_other _ _ _ (lt_other (arity_of t p.written.0.0 + i) (arity_of t p.heads.0.0) (omega arith))
      ∙ same_class_port t p.heads.1 p.written.1 (second_node t p) (arity_of t p.written.0.0 + i - arity_of t p.heads.0.0 + 1) i (ap (λ (z : SymbolNo × SymbolNo). z.1) e) (omega arith)

-- ---- the agents of the right member

-- the cell of a node's agent has an end for each of the node's ports
cell_of : (t : Tables) (n : Parts) (over : IsOver t n) (x : ℕ) (m : OpenNode) → IsNodeOf t n x m → (c : Cell) × (cell_in n x ≡ Some c) × (length m.class_of ≡ length c.ends)
cell_of t n over x m is = go (cell_in n x) refl is.here
  where
    go : (y : Option Cell) → cell_in n x ≡ y → option_map (λ (c : Cell). c.symbol) y ≡ Some is.symbol → (c : Cell) × (cell_in n x ≡ Some c) × (length m.class_of ≡ length c.ends)
    go None f h = cc
    go (Some c) f h =
        let s : c.symbol ≡ is.symbol = some_same (Some c.symbol) c.symbol is.symbol refl h in
        let a : arity_of t c.symbol.0 ≡ arity_of t is.symbol.0 = ap (λ (z : SymbolNo). arity_of t z.0) s in
        let l = (cell_over t n.cells x c over.cells f).1 in
        let k = is.ports.0 in
        (c, f, omega arith)

abbrev is_agent : Node → Type 0
is_agent (AgentNode y) = Unit {0}
is_agent (ClassNode y c) = ⊥

agent_is : (m : OpenNode) → IsAgentNode m → is_agent m.node
agent_is m h = go m.node h
  where
    go : (z : Node) → IsAgentNode (record { node = z; place = m.place; classes = m.classes; class_of = m.class_of }) → is_agent z
    go (AgentNode y) h = tt
    go (ClassNode y c) h = h

class_node_is_none : (m : OpenNode) {s : SymbolNo} {c : ℕ} → m.node ≡ ClassNode s c → IsAgentNode m → ⊥
class_node_is_none m {s} {c} e h = go m.node e (agent_is m h)
  where
    go : (z : Node) → z ≡ ClassNode s c → is_agent z → ⊥
    go (AgentNode y) e h = cc
    go (ClassNode y d) e h = h

class_by_node : (m : OpenNode) (i : ℕ) {s : SymbolNo} → m.node ≡ AgentNode s → nets.class_at (Some m) i ≡ get_or m.class_of i 0
class_by_node m i e = ap (λ (z : Node). elim z [ AgentNode y ↦ get_or m.class_of i 0 | ClassNode y c ↦ i ]) e

module _ (t : Tables) (p : RuleParts) (o : OpenNet) (numbered : AreNumbered t) (whole : IsRuleWhole t p) (net : IsWhole p.member) (over : IsOver t p.member) (built : p.member.built ≡ true) (opens : OpensRule t p o) where
  abbrev f : points.Point → OpenPoint
  f = rule_point t p (is_turned p)

  before_within : agents_before p ≤ length p.member.cells
  before_within = let a = net.placed built in let b = count_by-le-length (λ q. nat_lt q.from p.head_places.1.from) p.member.places in omega arith

  kind : (n : ℕ) (m : OpenNode) → slice_get o.nodes n ≡ Some m → NodeKind t p n
  kind n m e = let l = slice_get_within o.nodes n m e in let k = opens.nodes.0 in kind_of t p n before_within (omega arith)

  -- ports of a class node
  first_ports : (n : ℕ) (m : OpenNode) → slice_get o.nodes n ≡ Some m → n < classes_of t p.written.0.0 → length m.class_of ≡ places_in t p.written.0.0 (n + 1) (arity_of t p.written.0.0)
  first_ports n m e h = ((opens.nodes.1 n m e).first h).ports

  second_ports : (n c : ℕ) (m : OpenNode) → slice_get o.nodes n ≡ Some m → c < classes_of t p.written.1.0 → n ≡ second_node t p + c → length m.class_of ≡ places_in t p.written.1.0 (c + 1) (arity_of t p.written.1.0)
  second_ports n c m e h g = ((opens.nodes.1 n m e).second c h g).ports

  -- a point of the right member is one of the open net
  pub points_open : (r : points.Point) → IsPointOf p.member r → nets.IsOpenPoint o (f r)
  points_open (point.Port x i) h =
      let c = some_of (λ (c : Cell). i < length c.ends) (cell_in p.member x.0) h in
      let l = (cell_over t p.member.cells x.0 c.0 over.cells c.1).0 in
      let w = agent_within t p x.0 l in
      let q = opens.nodes.0 in
      let m = at_index o.nodes (agent_node t p x.0) (omega arith) in
      let d = cell_of t p.member over x.0 m.0 ((opens.nodes.1 (agent_node t p x.0) m.0 m.1).agent x.0 l refl) in
      let s : length d.0.ends ≡ length c.0.ends = ap (λ (z : Cell). length z.ends) (some_same (cell_in p.member x.0) d.0 c.0 d.1 c.1) in
      let u = c.2 in
      let v = d.2 in
      subst (λ z. IsSomeAnd z (λ (m : OpenNode). i < length m.class_of)) (sym m.1) (omega arith)
  points_open (point.Free k) h = go (is_end t p (is_turned p) whole.heads k (omega (arith, whole.ends, h)))
    where
      go : IsEnd t p (is_turned p) k → nets.IsOpenPoint o (boundary_port t p (is_turned p) k)
      go (in_first i l e) =
          let c = class_low t numbered p.written.0.0 i l in
          let a = c.0 in
          let b = c.1 in
          let q = opens.nodes.0 in
          let m = at_index o.nodes (class_at t p.written.0.0 (suc i) - 1) (omega arith) in
          let u = first_ports (class_at t p.written.0.0 (suc i) - 1) m.0 m.1 (omega arith) in
          let s : class_at t p.written.0.0 (suc i) - 1 + 1 ≡ class_at t p.written.0.0 (suc i) = omega arith in
          let v : length m.0.class_of ≡ places_in t p.written.0.0 (class_at t p.written.0.0 (suc i)) (arity_of t p.written.0.0) = u ∙ ap (λ z. places_in t p.written.0.0 z (arity_of t p.written.0.0)) s in
          let w = place_within t p.written.0.0 (class_at t p.written.0.0 (suc i)) (arity_of t p.written.0.0) i l refl in
          subst (nets.IsOpenPoint o) (sym (ap (boundary_port t p (is_turned p)) e ∙ first_port t p (is_turned p) whole.heads i l))
          (subst (λ z. IsSomeAnd z (λ (m : OpenNode). places_in t p.written.0.0 (class_at t p.written.0.0 (suc i)) i < length m.class_of)) (sym m.1) (omega arith))
      go (in_second i l e) =
          let c = class_low t numbered p.written.1.0 i l in
          let a = c.0 in
          let b = c.1 in
          let q = opens.nodes.0 in
          let y = before_within in
          let m = at_index o.nodes (second_node t p + (class_at t p.written.1.0 (suc i) - 1)) (omega arith) in
          let u = second_ports (second_node t p + (class_at t p.written.1.0 (suc i) - 1)) (class_at t p.written.1.0 (suc i) - 1) m.0 m.1 (omega arith) refl in
          let s : class_at t p.written.1.0 (suc i) - 1 + 1 ≡ class_at t p.written.1.0 (suc i) = omega arith in
          let v : length m.0.class_of ≡ places_in t p.written.1.0 (class_at t p.written.1.0 (suc i)) (arity_of t p.written.1.0) = u ∙ ap (λ z. places_in t p.written.1.0 z (arity_of t p.written.1.0)) s in
          let w = place_within t p.written.1.0 (class_at t p.written.1.0 (suc i)) (arity_of t p.written.1.0) i l refl in
          subst (nets.IsOpenPoint o) (sym (ap (boundary_port t p (is_turned p)) e ∙ second_port t p (is_turned p) whole.heads i l))
          (subst (λ z. IsSomeAnd z (λ (m : OpenNode). places_in t p.written.1.0 (class_at t p.written.1.0 (suc i)) i < length m.class_of)) (sym m.1) (omega arith))

  -- each point of the open net is one of the right member
  point_there : (q : OpenPoint) → nets.IsOpenPoint o q → (r : points.Point) × IsPointOf p.member r × (f r ≡ q)
  point_there (Free k) h = absurd (omega (arith, opens.free, h))
  point_there (Port n i) h = go (some_of (λ (m : OpenNode). i < length m.class_of) (slice_get o.nodes n) h)
    where
      by : (m : OpenNode) → slice_get o.nodes n ≡ Some m → i < length m.class_of → NodeKind t p n → (r : points.Point) × IsPointOf p.member r × (f r ≡ Port n i)
      by m e l (of_first a) =
          let u = first_ports n m e a in
          let j = place_there t p.written.0.0 (n + 1) (arity_of t p.written.0.0) i (omega arith) in
          let c = j.2 in
          let w = first_within t p (is_turned p) whole.heads j.0 j.1 in
          let x = whole.ends in (
            point.Free (first_end t p (is_turned p) j.0),
            omega arith,
            first_port t p (is_turned p) whole.heads j.0 j.1 ∙ same_port _ _ _ _ (omega arith) (ap (λ z. places_in t p.written.0.0 z j.0) c ∙ j.3),
          )
      by m e l (of_second d a g) =
          let u = second_ports n d m e a g in
          let j = place_there t p.written.1.0 (d + 1) (arity_of t p.written.1.0) i (omega arith) in
          let c = j.2 in
          let w = second_within t p (is_turned p) whole.heads j.0 j.1 in
          let x = whole.ends in (
            point.Free (second_end t p (is_turned p) j.0),
            omega arith,
            second_port t p (is_turned p) whole.heads j.0 j.1 ∙ same_port _ _ _ _ (omega arith) (ap (λ z. places_in t p.written.1.0 z j.0) c ∙ j.3),
          )
      by m e l (of_agent x a g) =
          let d = cell_of t p.member over x m ((opens.nodes.1 n m e).agent x a g) in
          let v = d.2 in
          (point.Port (record { 0 = x }) i, subst (λ z. IsSomeAnd z (λ (c : Cell). i < length c.ends)) (sym d.1) (omega arith), same_port _ _ _ _ (sym g) refl)

      go : (m : OpenNode) × (slice_get o.nodes n ≡ Some m) × (i < length m.class_of) → (r : points.Point) × IsPointOf p.member r × (f r ≡ Port n i)
      go m = by m.0 m.1 m.2 (kind n m.0 m.1)

  pub agent_not_end : (x : ℕ) (i k : ℕ) → k < length p.member.free → Port (agent_node t p x) i ≡ boundary_port t p (is_turned p) k → ⊥
  agent_not_end x i k h e = go (is_end t p (is_turned p) whole.heads k (omega (arith, whole.ends, h)))
    where
      go : IsEnd t p (is_turned p) k → ⊥
      go (in_first j l g) =
          let c = class_low t numbered p.written.0.0 j l in
          let a = c.0 in
          let b = c.1 in
          let u = port_node _ _ _ _ (e ∙ ap (boundary_port t p (is_turned p)) g ∙ first_port t p (is_turned p) whole.heads j l) in
          not_first t p x (class_at t p.written.0.0 (suc j) - 1) (omega arith) (sym u)
      go (in_second j l g) =
          let c = class_low t numbered p.written.1.0 j l in
          let a = c.0 in
          let b = c.1 in
          let u = port_node _ _ _ _ (e ∙ ap (boundary_port t p (is_turned p)) g ∙ second_port t p (is_turned p) whole.heads j l) in
          not_second t p x (class_at t p.written.1.0 (suc j) - 1) (second_node t p + (class_at t p.written.1.0 (suc j) - 1)) (omega arith) refl (sym u)

  first_apart : (i j : ℕ) → suc i ≤ arity_of t p.written.0.0 → suc j ≤ arity_of t p.written.1.0 → boundary_port t p (is_turned p) (first_end t p (is_turned p) i) ≡ boundary_port t p (is_turned p) (second_end t p (is_turned p) j) → ⊥
  first_apart i j l m e =
      let c = class_low t numbered p.written.0.0 i l in
      let a = c.0 in
      let b = c.1 in
      let u = port_node _ _ _ _ (sym (first_port t p (is_turned p) whole.heads i l) ∙ e ∙ second_port t p (is_turned p) whole.heads j m) in
      omega arith

  pub same_end : (k n : ℕ) → k < length p.member.free → n < length p.member.free → boundary_port t p (is_turned p) k ≡ boundary_port t p (is_turned p) n → k ≡ n
  same_end k n h g e = go (is_end t p (is_turned p) whole.heads k (omega (arith, whole.ends, h))) (is_end t p (is_turned p) whole.heads n (omega (arith, whole.ends, g)))
    where
      go : IsEnd t p (is_turned p) k → IsEnd t p (is_turned p) n → k ≡ n
      go (in_first i l a) (in_first j m b) =
          let c = class_low t numbered p.written.0.0 i l in
          let d = class_low t numbered p.written.0.0 j m in
          let c' = c.0 in
          let d' = d.0 in
          let u = sym (first_port t p (is_turned p) whole.heads i l) ∙ sym (ap (boundary_port t p (is_turned p)) a) ∙ e ∙ ap (boundary_port t p (is_turned p)) b ∙ first_port t p (is_turned p) whole.heads j m in
          let v = port_node _ _ _ _ u in
          let w = port_place _ _ _ _ u in
          let s : class_at t p.written.0.0 (suc i) ≡ class_at t p.written.0.0 (suc j) = omega arith in
          let same = same_place t p.written.0.0 (class_at t p.written.0.0 (suc j)) i j s refl (sym (ap (λ z. places_in t p.written.0.0 z i) s) ∙ w) in
          a ∙ ap (first_end t p (is_turned p)) same ∙ sym b
      go (in_first i l a) (in_second j m b) = absurd (first_apart i j l m (sym (ap (boundary_port t p (is_turned p)) a) ∙ e ∙ ap (boundary_port t p (is_turned p)) b))
      go (in_second i l a) (in_first j m b) = absurd (first_apart j i m l (sym (ap (boundary_port t p (is_turned p)) b) ∙ sym e ∙ ap (boundary_port t p (is_turned p)) a))
      go (in_second i l a) (in_second j m b) =
          let c = class_low t numbered p.written.1.0 i l in
          let d = class_low t numbered p.written.1.0 j m in
          let c' = c.0 in
          let d' = d.0 in
          let u = sym (second_port t p (is_turned p) whole.heads i l) ∙ sym (ap (boundary_port t p (is_turned p)) a) ∙ e ∙ ap (boundary_port t p (is_turned p)) b ∙ second_port t p (is_turned p) whole.heads j m in
          let v = port_node _ _ _ _ u in
          let w = port_place _ _ _ _ u in
          let s : class_at t p.written.1.0 (suc i) ≡ class_at t p.written.1.0 (suc j) = omega arith in
          let same = same_place t p.written.1.0 (class_at t p.written.1.0 (suc j)) i j s refl (sym (ap (λ z. places_in t p.written.1.0 z i) s) ∙ w) in
          a ∙ ap (second_end t p (is_turned p)) same ∙ sym b

  same_agent_point : (x y : AgentNo) (i j : ℕ) → x.0 ≡ y.0 → i ≡ j → ◌≡◌ {A = points.Point} (point.Port x i) (point.Port y j)
  same_agent_point x y i j e g = ap (λ (z : ℕ). point.Port (record { 0 = z }) i) e ∙ ap (λ (z : ℕ). point.Port y z) g

  -- different points of the right member stay different
  same_point : (r s : points.Point) → IsPointOf p.member r → IsPointOf p.member s → f r ≡ f s → r ≡ s
  same_point (point.Port x i) (point.Port y j) h k e = same_agent_point x y i j (same_agent t p x.0 y.0 (port_node _ _ _ _ e)) (port_place _ _ _ _ e)
  same_point (point.Port x i) (point.Free n) h k e = absurd (agent_not_end x.0 i n k e)
  same_point (point.Free n) (point.Port x i) h k e = absurd (agent_not_end x.0 i n h (sym e))
  same_point (point.Free n) (point.Free m) h k e = ap point.Free (same_end n m h k e)

  -- ---- wires

  record IsImage (w : ℕ) (a b : OpenPoint) : Type 0 where
    pub one : points.Point
    pub other : points.Point
    pub between : IsWireBetween p.member w one other
    pub partner : partner_in p.member one ≡ Some other
    pub one_is : f one ≡ a
    pub other_is : f other ≡ b

  of_listed : (w : ℕ) (a b : OpenPoint) → slice_get o.wires w ≡ Some (a, b) → (r : points.Point × points.Point) × (wire_in p.member w ≡ Some r) × (f r.0 ≡ a) × (f r.1 ≡ b)
  of_listed w a b e = go (wire_in p.member w) refl (opens.wires.1 w (a, b) e)
    where
      go : (v : Option (points.Point × points.Point)) → wire_in p.member w ≡ v → option_map (rule_wire t p (is_turned p)) v ≡ Some (a, b) → (r : points.Point × points.Point) × (wire_in p.member w ≡ Some r) × (f r.0 ≡ a) × (f r.1 ≡ b)
      go None g h = cc
      go (Some r) g h =
          let k : rule_wire t p (is_turned p) r ≡ (a, b) = some_same (Some (rule_wire t p (is_turned p) r)) (rule_wire t p (is_turned p) r) (a, b) refl h in
          (r, g, ap (λ z. z.0) k, ap (λ z. z.1) k)

  image : (w : ℕ) (a b : OpenPoint) → IsWire o w a b → IsImage w a b
  image w a b (inl e) =
      let r = of_listed w a b e in
      record { one = r.0.0; other = r.0.1; between = inl r.1; partner = net.partners w r.0.0 r.0.1 r.1; one_is = r.2; other_is = r.3 }
  image w a b (inr e) =
      let r = of_listed w b a e in
      record { one = r.0.1; other = r.0.0; between = inr r.1; partner = net.back r.0.0 r.0.1 (net.partners w r.0.0 r.0.1 r.1); one_is = r.3; other_is = r.2 }

  wire_listed : (w : ℕ) (r s : points.Point) → wire_in p.member w ≡ Some (r, s) → slice_get o.wires w ≡ Some (f r, f s)
  wire_listed w r s e =
      let x = at_index o.wires w (omega (arith, opens.wires.0, wire_within (slice_get p.member.wires w) refl e)) in
      let h : Some (rule_wire t p (is_turned p) (r, s)) ≡ Some x.0 = ap (option_map (rule_wire t p (is_turned p))) (sym e) ∙ opens.wires.1 w x.0 x.1 in
      x.1 ∙ sym h
    where
      wire_within : (x : Option Wire) → slice_get p.member.wires w ≡ x → option_map {T = Wire} {U = points.Point × points.Point} (λ v. (v.one, v.other)) x ≡ Some (r, s) → w < length p.member.wires
      wire_within None g h = cc
      wire_within (Some x) g h = slice_get_within p.member.wires w x g

  pub listed : (w : ℕ) (r s : points.Point) → IsWireBetween p.member w r s → IsWire o w (f r) (f s)
  listed w r s (inl h) = inl (wire_listed w r s h)
  listed w r s (inr h) = inr (wire_listed w s r h)

  partner_at : (r : points.Point) → IsPointOf p.member r → (s : points.Point) × (partner_in p.member r ≡ Some s)
  partner_at (point.Free k) h =
      let x = at_index p.member.free k h in
      (x.0.end, ap (option_map (λ (z : FreeEnd). z.end)) x.1)
  partner_at (point.Port x i) h =
      let c = some_of (λ (c : Cell). i < length c.ends) (cell_in p.member x.0) h in
      let y = at_index c.0.ends i c.2 in
      (y.0, ap (option_and_then (λ (c : Cell). slice_get c.ends i)) c.1 ∙ y.1)

  joined : (a : OpenPoint) → nets.IsOpenPoint o a → (w : ℕ) × (b : OpenPoint) × IsWire o w a b
  joined a h =
      let r = point_there a h in
      let s = partner_at r.0 r.1 in
      let w = net.listed r.0 s.0 s.1 in
      (w.0, f s.0, subst (λ z. IsWire o w.0 z (f s.0)) r.2 (listed w.0 r.0 s.0 w.1))

  image_point : (w : ℕ) (a b : OpenPoint) → (i : IsImage w a b) → IsPointOf p.member i.one
  image_point w a b i = has_partner p.member i.one i.other i.partner

  apart : (w : ℕ) (a b : OpenPoint) → IsWire o w a b → a ≡ b → ⊥
  apart w a b h e =
      let i = image w a b h in
      let k : IsPointOf p.member i.other = has_partner p.member i.other i.one (net.back i.one i.other i.partner) in
      let s : i.one ≡ i.other = same_point i.one i.other (image_point w a b i) k (i.one_is ∙ e ∙ sym i.other_is) in
      net.apart i.one (i.partner ∙ ap Some (sym s))

  -- ---- classes

  agent_at : (n : ℕ) → IsAgent o n → (m : OpenNode) × (slice_get o.nodes n ≡ Some m) × (x : ℕ) × IsNodeOf t p.member x m
  agent_at n h = go (some_of IsAgentNode (slice_get o.nodes n) h)
    where
      by : (m : OpenNode) → slice_get o.nodes n ≡ Some m → IsAgentNode m → NodeKind t p n → (m : OpenNode) × (slice_get o.nodes n ≡ Some m) × (x : ℕ) × IsNodeOf t p.member x m
      by m e a (of_first l) = absurd (class_node_is_none m ((opens.nodes.1 n m e).first l).node a)
      by m e a (of_second c l g) = absurd (class_node_is_none m ((opens.nodes.1 n m e).second c l g).node a)
      by m e a (of_agent x l g) = (m, e, x, (opens.nodes.1 n m e).agent x l g)

      go : (m : OpenNode) × (slice_get o.nodes n ≡ Some m) × IsAgentNode m → (m : OpenNode) × (slice_get o.nodes n ≡ Some m) × (x : ℕ) × IsNodeOf t p.member x m
      go m = by m.0 m.1 m.2 (kind n m.0 m.1)

  class_is : (n i : ℕ) (m : OpenNode) (x : ℕ) → slice_get o.nodes n ≡ Some m → (is : IsNodeOf t p.member x m) → nets.IsOpenPoint o (Port n i) → (i ≤ arity_of t is.symbol.0) × (class_in o n i ≡ class_at t is.symbol.0 i)
  class_is n i m x e is h =
      let k = some_of (λ (m : OpenNode). i < length m.class_of) (slice_get o.nodes n) h in
      let s : length k.0.class_of ≡ length m.class_of = ap (λ (z : OpenNode). length z.class_of) (some_same (slice_get o.nodes n) k.0 m k.1 e) in
      let l = k.2 in
      let a = is.ports.0 in
      let c = at_index m.class_of i (omega arith) in
      (omega arith, ap (λ z. nets.class_at z i) e ∙ class_by_node m i is.node ∙ get_or_from_slice_get m.class_of i c.0 0 c.1 ∙ is.ports.1 i c.0 c.1)

  pub is_open_net : IsOpenNet o
  is_open_net = record {
    points = λ w a b h. let i = image w a b h in subst (nets.IsOpenPoint o) i.one_is (points_open i.one (image_point w a b i));
    joined = λ a h. joined a h;
    once = λ w v a b d h k.
        let i = image w a b h in
        let j = image v a d k in
        let e : i.one ≡ j.one = same_point i.one j.one (image_point w a b i) (image_point v a d j) (i.one_is ∙ sym j.one_is) in
        let g : i.other ≡ j.other = some_same (partner_in p.member j.one) i.other j.other (subst (λ z. partner_in p.member z ≡ Some i.other) e i.partner) j.partner in (
          net.once w v j.one j.other (subst (λ z. IsWireBetween p.member w z j.other) e (subst (λ z. IsWireBetween p.member w i.one z) g i.between)) j.between,
          sym i.other_is ∙ ap f g ∙ j.other_is,
        );
    apart = λ w a b h e. apart w a b h e;
    principal = λ n i a h.
        let m = agent_at n a in
        let c = class_is n i m.0 m.2 m.1 m.3 h in
        let k = numbered.principal m.3.symbol.0 i c.0 in
        ((λ e. k.0 (sym c.1 ∙ e)), λ e. c.1 ∙ k.1 e);
    classes = λ n i a h.
        let m = agent_at n a in
        let c = class_is n i m.0 m.2 m.1 m.3 h in
        let k = numbered.most m.3.symbol.0 i c.0 in
        let e = c.1 in
        let g : nets.classes_of o n ≡ classes_of t m.3.symbol.0 = ap (λ (z : Option OpenNode). elim z [ None ↦ 0 | Some m ↦ m.classes ]) m.1 ∙ m.3.classes in
        omega arith;
  }

  pub is_orderly : length o.nodes < 2 ^ 32 → Each (λ n node. length node.class_of ≤ max_ports + 1) o.nodes → IsOrderly o
  is_orderly small few = record {
    nodes = small;
    wires = let a = net.wires in let b = opens.wires.0 in omega arith;
    ports = few_ports o few;
    net = is_open_net;
    ordered = λ n i j a k z l.
        let m = agent_at n a in
        let c = class_is n i m.0 m.2 m.1 m.3 (lower_point o n i j l k) in
        let d = class_is n j m.0 m.2 m.1 m.3 k in
        let u = numbered.ordered m.3.symbol.0 i j z l d.0 in
        let v = c.1 in
        let w = d.1 in
        omega arith;
  }
