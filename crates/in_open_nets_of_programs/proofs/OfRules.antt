-- A crossing circle of a right member with its class nodes is one of the rule's open net.
use Rattle.std.proofs.Common.{◌≡◌, ◌⊎◌, ◌<◌, ◌≤◌, ◌+◌, ◌-◌, ℕ, suc, Bool, true, false, cond, nat_lt, Some, length, slice_get, get_or, refl, sym, subst, ap, inl, inr, ◌∙◌, arith}
use Rattle.std.proofs.lemmas.List.{length-map}
use native.Mathlib.Decide.{ℕ_discrete}
use Rattle.in_syntax.specs.declared.symbol_no.SymbolNo.{SymbolNo}
use Rattle.in_symbols.specs.Tables.{Tables, arity_of, class_at, classes_of}
use Rattle.in_net.specs.declared.nets.FreeEnd.{FreeEnd}
use Rattle.in_net.specs.declared.nets.Point.TheVariants as code
use Rattle.in_net.specs.Built.{IsOver}
use Rattle.in_base.specs.Graphs.{Graph, CrossingCircle}
use Rattle.in_net.specs.Graphs.{class_of_symbol}
use Rattle.in_net.specs.Nets.{Point, Port, Free, IsPoint, net_of, signature_of, coded_point}
use Rattle.in_net.specs.Parts.{IsWhole, partner_in}
use Rattle.in_net.specs.Rules.{RuleParts}
use Rattle.in_net.proofs.Public.{map_is, is_net, lt_tells, symbol_within}
use Rattle.in_open_nets.specs.declared.open_nets.Node.{Node}
use Rattle.in_open_nets.specs.declared.open_nets.Node.TheVariants.{AgentNode, ClassNode}
use Rattle.in_open_nets.specs.declared.open_nets.OpenNode.{OpenNode}
use Rattle.in_open_nets.specs.declared.open_nets.OpenPoint as opened
use Rattle.in_open_nets.specs.declared.open_nets.OpenPoint.TheVariants as open_p
use Rattle.in_open_nets.specs.OpenNets as nets
use Rattle.in_open_nets.specs.OpenNets.{OpenNet, IsWire, class_in, open_graph}
use Rattle.in_open_nets_of_programs.specs.Opening.{AreNumbered}
use Rattle.in_open_nets_of_programs.specs.OpeningRules.{agent_node, second_node, class_port, boundary_port, is_turned, rule_point, IsRuleWhole, OpensRule}
use Rattle.in_open_nets.proofs.Public.{pair_same, some_of}
use Rattle.in_open_nets_of_programs.proofs.RulePoints.{same_agent, agent_within}
use Rattle.in_open_nets_of_programs.proofs.OpenedRules.{listed, points_open, agent_not_end, same_end, is_end, IsEnd, in_first, in_second, first_port, second_port, class_low}
use Rattle.in_net.specs.Interactions.{Redex, redex_at, open_member, open_port, class_node}
use Rattle.in_open_nets_of_programs.proofs.Mapped.{circle_mapped}
use Rattle.in_open_nets_of_programs.proofs.OfNets.{symbol_at, class_of_node}
use Rattle.in_base.proofs.Each.{at_index}

abbrev pair_of : opened.OpenPoint → ℕ × ℕ
pair_of (open_p.Port n i) = (n, i)
pair_of (open_p.Free k) = (0, 0)

abbrev of_pair : ℕ × ℕ → opened.OpenPoint
of_pair u = open_p.Port u.0 u.1

pair_cond : (b : Bool) (n i m j : ℕ) → cond b (open_p.Port n i) (open_p.Port m j) ≡ of_pair (pair_of (cond b (open_p.Port n i) (open_p.Port m j)))
pair_cond true n i m j = refl
pair_cond false n i m j = refl

-- an agent's node and a class node
NodeIs : Type 0
NodeIs = ℕ ⊎ (Bool × ℕ)

one_agent : (y z : ℕ) → ◌≡◌ {A = ℕ ⊎ (Bool × ℕ)} (inl y) (inl z) → y ≡ z
one_agent y z e = cc

one_class : (c d : Bool × ℕ) → ◌≡◌ {A = ℕ ⊎ (Bool × ℕ)} (inr c) (inr d) → c ≡ d
one_class c d e = cc

not_one : (y : ℕ) (c : Bool × ℕ) → ◌≡◌ {A = ℕ ⊎ (Bool × ℕ)} (inl y) (inr c) → ⊥
not_one y c e = cc

module _ (t : Tables) (p : RuleParts) (o : OpenNet) (numbered : AreNumbered t) (whole : IsRuleWhole t p) (net : IsWhole p.member) (over : IsOver t p.member) (built : p.member.built ≡ true) (opens : OpensRule t p o) where
  abbrev redex : Redex ℕ ℕ
  redex = redex_at p 0 1

  abbrev turned : Bool
  turned = is_turned p

  abbrev members : Graph
  members = open_member (signature_of t) redex

  abbrev end_at : ℕ → ℕ × ℕ
  end_at e = pair_of (boundary_port t p turned e)

  -- the port of the open net for a port
  abbrev port : (ℕ ⊎ (Bool × ℕ)) × ℕ → ℕ × ℕ
  port u = elim u.0 [ inl y ↦ (agent_node t p y, u.1) | inr c ↦ end_at u.1 ]

  abbrev port_of : Point ℕ → ℕ × ℕ
  port_of q = port (open_port (signature_of t) redex q)

  abbrev node_at : Point ℕ → ℕ ⊎ (Bool × ℕ)
  node_at q = (open_port (signature_of t) redex q).0

  abbrev IsMember : Point ℕ → Type 0
  IsMember q = IsPoint (signature_of t) (net_of p.member) q

  abbrev AtMember : (ℕ ⊎ (Bool × ℕ)) × ℕ → Type 0
  AtMember u = (q : Point ℕ) × IsMember q × (open_port (signature_of t) redex q ≡ u)

  end_is : (e : ℕ) → boundary_port t p turned e ≡ of_pair (end_at e)
  end_is e = pair_cond (nat_lt e (arity_of t p.heads.0.0)) _ _ _ _

  point_is : (q : Point ℕ) → rule_point t p turned (coded_point q) ≡ of_pair (port_of q)
  point_is (Port y i) = refl
  point_is (Free e) = end_is e

  within : (e : ℕ) → IsMember (Free e) → e < length p.member.free
  within e h = omega (arith, h, length-map p.member.free (λ (f : FreeEnd). f.kind))

  -- ---- the numbers of class nodes

  abbrev first_at : Bool → ℕ
  first_at true = cond turned (second_node t p) 0
  first_at false = cond turned 0 (second_node t p)

  abbrev number_of : Bool × ℕ → ℕ
  number_of c = first_at c.0 + (c.1 - 1)

  abbrev class_of_end : ℕ → Bool × ℕ
  class_of_end e = class_node (signature_of t) redex e

  end_node : (e : ℕ) → (end_at e).0 ≡ number_of (class_of_end e)
  end_node e = go (nat_lt e (arity_of t p.heads.0.0))
    where
      go : (b : Bool) → (pair_of (cond b (class_port t p.heads.0.0 (cond turned (second_node t p) 0) (e + 1)) (class_port t p.heads.1.0 (cond turned 0 (second_node t p)) (e - arity_of t p.heads.0.0 + 1)))).0
          ≡ number_of (b, class_at t (cond b p.heads.0.0 p.heads.1.0) (cond b (suc e) (suc (e - arity_of t p.heads.0.0))))
      go true = let k : e + 1 ≡ suc e = omega arith in ap (λ z. cond turned (second_node t p) 0 + (class_at t p.heads.0.0 z - 1)) k
      go false = let k : e - arity_of t p.heads.0.0 + 1 ≡ suc (e - arity_of t p.heads.0.0) = omega arith in ap (λ z. cond turned 0 (second_node t p) + (class_at t p.heads.1.0 z - 1)) k

  first_class : (e : ℕ) → nat_lt e (arity_of t p.heads.0.0) ≡ true → class_of_end e ≡ (true, class_at t p.heads.0.0 (suc e))
  first_class e h = ap (λ (b : Bool). (b, class_at t (cond b p.heads.0.0 p.heads.1.0) (cond b (suc e) (suc (e - arity_of t p.heads.0.0))))) h

  second_class : (e : ℕ) → nat_lt e (arity_of t p.heads.0.0) ≡ false → class_of_end e ≡ (false, class_at t p.heads.1.0 (suc (e - arity_of t p.heads.0.0)))
  second_class e h = ap (λ (b : Bool). (b, class_at t (cond b p.heads.0.0 p.heads.1.0) (cond b (suc e) (suc (e - arity_of t p.heads.0.0))))) h

  -- nodes of the two heads are apart
  heads_apart : (b : Bool) → p.heads ≡ cond b (p.written.1, p.written.0) p.written → (c d : ℕ) → 1 ≤ c → c ≤ classes_of t p.heads.0.0 → 1 ≤ d → d ≤ classes_of t p.heads.1.0 →
      cond b (second_node t p) 0 + (c - 1) ≡ cond b 0 (second_node t p) + (d - 1) → ⊥
  heads_apart true e c d c1 c2 d1 d2 h =
      let k : classes_of t p.heads.1.0 ≡ classes_of t p.written.0.0 = ap (λ (z : SymbolNo × SymbolNo). classes_of t z.1.0) e in
      omega arith
  heads_apart false e c d c1 c2 d1 d2 h =
      let k : classes_of t p.heads.0.0 ≡ classes_of t p.written.0.0 = ap (λ (z : SymbolNo × SymbolNo). classes_of t z.0.0) e in
      omega arith

  same_class : (e f : ℕ) → IsMember (Free e) → IsMember (Free f) → (end_at e).0 ≡ (end_at f).0 → class_of_end e ≡ class_of_end f
  same_class e f he hf h =
      let we = within e he in
      let wf = within f hf in
      let ends = whole.ends in
      let same : number_of (class_of_end e) ≡ number_of (class_of_end f) = sym (end_node e) ∙ h ∙ end_node f in
      elim (lt_tells e (arity_of t p.heads.0.0)) [
        | inl l ↦ elim (lt_tells f (arity_of t p.heads.0.0)) [
          | inl m ↦
              let a = l.1 in
              let b = m.1 in
              let c = class_low t numbered p.heads.0.0 e (omega arith) in
              let d = class_low t numbered p.heads.0.0 f (omega arith) in
              let c1 = c.0 in
              let d1 = d.0 in
              let at : cond turned (second_node t p) 0 + (class_at t p.heads.0.0 (suc e) - 1) ≡ cond turned (second_node t p) 0 + (class_at t p.heads.0.0 (suc f) - 1) =
              sym (ap number_of (first_class e l.0)) ∙ same ∙ ap number_of (first_class f m.0) in
              let k : class_at t p.heads.0.0 (suc e) ≡ class_at t p.heads.0.0 (suc f) = omega arith in
              first_class e l.0 ∙ ap (λ (z : ℕ). (true, z)) k ∙ sym (first_class f m.0)
          | inr m ↦
              let a = l.1 in
              let b = m.1 in
              let c = class_low t numbered p.heads.0.0 e (omega arith) in
              let d = class_low t numbered p.heads.1.0 (f - arity_of t p.heads.0.0) (omega arith) in
              absurd (heads_apart turned whole.heads (class_at t p.heads.0.0 (suc e)) (class_at t p.heads.1.0 (suc (f - arity_of t p.heads.0.0))) c.0 c.1 d.0 d.1
              (sym (ap number_of (first_class e l.0)) ∙ same ∙ ap number_of (second_class f m.0)))
        ]
        | inr l ↦ elim (lt_tells f (arity_of t p.heads.0.0)) [
          | inl m ↦
              let a = l.1 in
              let b = m.1 in
              let c = class_low t numbered p.heads.0.0 f (omega arith) in
              let d = class_low t numbered p.heads.1.0 (e - arity_of t p.heads.0.0) (omega arith) in
              absurd (heads_apart turned whole.heads (class_at t p.heads.0.0 (suc f)) (class_at t p.heads.1.0 (suc (e - arity_of t p.heads.0.0))) c.0 c.1 d.0 d.1
              (sym (ap number_of (first_class f m.0)) ∙ sym same ∙ ap number_of (second_class e l.0)))
          | inr m ↦
              let a = l.1 in
              let b = m.1 in
              let c = class_low t numbered p.heads.1.0 (e - arity_of t p.heads.0.0) (omega arith) in
              let d = class_low t numbered p.heads.1.0 (f - arity_of t p.heads.0.0) (omega arith) in
              let c1 = c.0 in
              let d1 = d.0 in
              let at : cond turned 0 (second_node t p) + (class_at t p.heads.1.0 (suc (e - arity_of t p.heads.0.0)) - 1) ≡ cond turned 0 (second_node t p) + (class_at t p.heads.1.0 (suc (f - arity_of t p.heads.0.0)) - 1) =
              sym (ap number_of (second_class e l.0)) ∙ same ∙ ap number_of (second_class f m.0) in
              let k : class_at t p.heads.1.0 (suc (e - arity_of t p.heads.0.0)) ≡ class_at t p.heads.1.0 (suc (f - arity_of t p.heads.0.0)) = omega arith in
              second_class e l.0 ∙ ap (λ (z : ℕ). (false, z)) k ∙ sym (second_class f m.0)
        ]
      ]

  -- ---- nodes go to nodes, and stay apart

  onto : (q r : Point ℕ) → node_at q ≡ node_at r → (port_of q).0 ≡ (port_of r).0
  onto (Port y i) (Port z j) e = ap (agent_node t p) (one_agent y z e)
  onto (Port y i) (Free k) e = absurd (not_one y (class_of_end k) e)
  onto (Free k) (Port y i) e = absurd (not_one y (class_of_end k) (sym e))
  onto (Free e) (Free f) h = end_node e ∙ ap number_of (one_class (class_of_end e) (class_of_end f) h) ∙ sym (end_node f)

  not_end : (y k : ℕ) → IsMember (Free k) → agent_node t p y ≡ (end_at k).0 → ⊥
  not_end y k h e = agent_not_end t p o numbered whole net over built opens y (end_at k).1 k (within k h) (ap (λ z. open_p.Port z (end_at k).1) e ∙ sym (end_is k))

  apart : (q r : Point ℕ) → IsMember q → IsMember r → (port_of q).0 ≡ (port_of r).0 → node_at q ≡ node_at r
  apart (Port y i) (Port z j) h k e = ap (λ (n : ℕ). inl n) (same_agent t p y z e)
  apart (Port y i) (Free f) h k e = absurd (not_end y f k e)
  apart (Free e) (Port z j) h k d = absurd (not_end z e h (sym d))
  apart (Free e) (Free f) h k d = ap (λ (n : Bool × ℕ). inr n) (same_class e f h k d)

  -- ---- classes

  agent_class : (y i : ℕ) → IsMember (Port y i) → class_in o (agent_node t p y) i ≡ class_of_symbol (signature_of t) ((net_of p.member).symbol y) i
  agent_class y i h =
      let s = symbol_at t p.member y i h in
      let l = symbol_within p.member y s.0 s.1 in
      let m = at_index o.nodes (agent_node t p y) (omega (arith, agent_within t p y l, opens.nodes.0)) in
      class_of_node t p.member o (agent_node t p y) y i m.0 s.0 m.1 ((opens.nodes.1 (agent_node t p y) m.0 m.1).agent y l refl) s.1 s.2

  -- each port of a class node is a class by itself
  by_class_node : (n i : ℕ) (m : OpenNode) (s : SymbolNo) (c : ℕ) → slice_get o.nodes n ≡ Some m → m.node ≡ ClassNode s c → class_in o n i ≡ i
  by_class_node n i m s c e is = ap (λ z. nets.class_at z i) e ∙ ap (λ (z : Node). elim z [ AgentNode y ↦ get_or m.class_of i 0 | ClassNode y c ↦ i ]) is

  node_port : (a b i j : ℕ) → ◌≡◌ {A = opened.OpenPoint} (open_p.Port a i) (open_p.Port b j) → a ≡ b
  node_port a b i j e = cc

  end_class : (k : ℕ) → IsMember (Free k) → class_in o (end_at k).0 (end_at k).1 ≡ (end_at k).1
  end_class k h =
      let there = points_open t p o numbered whole net over built opens (code.Free k) (within k h) in
      let m = some_of (λ (m : OpenNode). (end_at k).1 < length m.class_of) (slice_get o.nodes (end_at k).0) (subst (nets.IsOpenPoint o) (end_is k) there) in
      go m.0 m.1 (is_end t p turned whole.heads k (omega (arith, whole.ends, within k h)))
    where
      go : (m : OpenNode) → slice_get o.nodes (end_at k).0 ≡ Some m → IsEnd t p turned k → class_in o (end_at k).0 (end_at k).1 ≡ (end_at k).1
      go m e (in_first j l g) =
          let c = class_low t numbered p.written.0.0 j l in
          let a = c.0 in
          let b = c.1 in
          let n : (end_at k).0 ≡ class_at t p.written.0.0 (suc j) - 1 = node_port _ _ _ _ (sym (end_is k) ∙ ap (boundary_port t p turned) g ∙ first_port t p turned whole.heads j l) in
          by_class_node (end_at k).0 (end_at k).1 m _ _ e ((opens.nodes.1 (end_at k).0 m e).first (omega arith)).node
      go m e (in_second j l g) =
          let c = class_low t numbered p.written.1.0 j l in
          let a = c.0 in
          let b = c.1 in
          let n : (end_at k).0 ≡ second_node t p + (class_at t p.written.1.0 (suc j) - 1) = node_port _ _ _ _ (sym (end_is k) ∙ ap (boundary_port t p turned) g ∙ second_port t p turned whole.heads j l) in
          by_class_node (end_at k).0 (end_at k).1 m _ _ e ((opens.nodes.1 (end_at k).0 m e).second (class_at t p.written.1.0 (suc j) - 1) (omega arith) n).node

  classes : (q r : Point ℕ) → IsMember q → IsMember r → node_at q ≡ node_at r → class_in o (port_of q).0 (port_of q).1 ≡ class_in o (port_of r).0 (port_of r).1 →
      members.class (node_at q) (open_port (signature_of t) redex q).1 ≡ members.class (node_at r) (open_port (signature_of t) redex r).1
  classes (Port y i) (Port z j) h k e same = sym (agent_class y i h) ∙ same ∙ agent_class z j k
  classes (Port y i) (Free f) h k e same = absurd (not_one y (class_of_end f) e)
  classes (Free f) (Port y i) h k e same = absurd (not_one y (class_of_end f) (sym e))
  classes (Free e) (Free f) h k n same =
      let place : (end_at e).1 ≡ (end_at f).1 = sym (end_class e h) ∙ same ∙ end_class f k in
      let node : (end_at e).0 ≡ (end_at f).0 = onto (Free e) (Free f) n in
      same_end t p o numbered whole net over built opens e f (within e h) (within f k) (end_is e ∙ ap of_pair (pair_same (end_at e) (end_at f) node place) ∙ sym (end_is f))

  pub rule_circle : CrossingCircle (open_member (signature_of t) redex) → CrossingCircle (open_graph o)
  rule_circle c =
      let of = is_net t p.member net over in
      circle_mapped members (open_graph o) port AtMember (record {
        wire = λ u v e. (
            let w = net.listed (coded_point e.0) (coded_point e.1) (map_is (partner_in p.member (coded_point e.0)) e.1 e.4) in
            let i = listed t p o numbered whole net over built opens w.0 (coded_point e.0) (coded_point e.1) w.1 in
            (w.0, subst (λ z. IsWire o w.0 z (of_pair (port v))) (point_is e.0 ∙ ap (λ z. of_pair (port z)) e.2) (subst (λ z. IsWire o w.0 (rule_point t p turned (coded_point e.0)) z) (point_is e.1 ∙ ap (λ z. of_pair (port z)) e.3) i))
            );
        ends = λ u v e. ((e.0, of.points e.0 e.1 e.4, e.2), (e.1, of.points e.1 e.0 (of.back e.0 e.1 e.4), e.3));
        onto = λ u v a b e. sym (ap (λ z. (port z).0) a.2) ∙ onto a.0 b.0 (ap (λ z. z.0) a.2 ∙ e ∙ sym (ap (λ z. z.0) b.2)) ∙ ap (λ z. (port z).0) b.2;
        apart = λ u v a b e. sym (ap (λ z. z.0) a.2) ∙ apart a.0 b.0 a.1 b.1 (ap (λ z. (port z).0) a.2 ∙ e ∙ sym (ap (λ z. (port z).0) b.2)) ∙ ap (λ z. z.0) b.2;
        classes = λ u v a b e same.
            sym (ap (λ z. members.class z.0 z.1) a.2) ∙ classes a.0 b.0 a.1 b.1 (ap (λ z. z.0) a.2 ∙ e ∙ sym (ap (λ z. z.0) b.2)) (ap (λ z. class_in o (port z).0 (port z).1) a.2 ∙ same ∙ sym (ap (λ z. class_in o (port z).0 (port z).1) b.2)) ∙ ap (λ z. members.class z.0 z.1) b.2;
      }) ℕ_discrete c
