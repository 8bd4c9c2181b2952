-- Directed circles of a net and of its open net are the same, and so are those of a right member and of its rule's open net.
use Rattle.std.proofs.Common.{◌≡◌, ◌↔◌, ◌<◌, ◌+◌, ◌-◌, ℕ, true, cond, nat_lt, Option, Some, None, length, slice_get, refl, sym, subst, ap, inl, inr, ◌∙◌, arith}
use Rattle.std.specs.Prelude.{option_map}
use Rattle.in_symbols.specs.Tables.{Tables, classes_of}
use Rattle.in_base.specs.Graphs.{Graph}
use Rattle.in_net.specs.Built.{IsOver}
use Rattle.in_net.specs.Graphs.{graph_of}
use Rattle.in_net.specs.Nets.{Port, net_of, signature_of, coded_point, point_of}
use Rattle.in_net.specs.declared.nets.Cell.{Cell}
use Rattle.in_net.specs.declared.nets.Point as points
use Rattle.in_net.specs.declared.nets.Point.TheVariants as point
use Rattle.in_net.specs.Parts.{Parts, IsWhole, IsPointOf, partner_in, cell_in, wire_in}
use Rattle.in_net.specs.Rules.{RuleParts}
use Rattle.in_net.proofs.Public.{cell_over, has_partner, lt_tells, map_is}
use Rattle.in_open_nets.specs.declared.open_nets.OpenNode.{OpenNode}
use Rattle.in_open_nets.specs.declared.open_nets.OpenPoint.TheVariants as open_p
use Rattle.in_open_nets.specs.OpenNets.{OpenNet, IsDerivable, IsOpenPoint, open_graph}
use Rattle.in_open_nets.proofs.Public.{port_place, some_of, wire_turn}
use Rattle.in_open_nets_of_programs.specs.Opening.{AreNumbered, IsNodeOf, Opens, open_wire}
use Rattle.in_open_nets_of_programs.specs.OpeningRules.{agents_before, agent_node, is_turned, rule_point, rule_wire, IsRuleWhole, OpensRule}
use Rattle.in_open_nets_of_programs.proofs.Public.OpenedRules as rules
use Rattle.in_open_nets_of_programs.proofs.Public.Opened as opened
use Rattle.in_open_nets_of_programs.proofs.Public.{agent_within, same_agent}
use Rattle.in_base.proofs.Each.{at_index}
use Rattle.in_base.proofs.Places.{some_same}
use Rattle.in_usual_braces.specs.Directions.{DirectedCircle}
use Rattle.in_usual_braces.proofs.Public.{circle_inside, circle_moved}
use Rattle.in_usual_braces_of_programs.specs.Laws.{HasNoDirectedCircle}
use Rattle.in_usual_braces_of_programs.specs.Signs.{AreUsual, member_signs, sign_of, signs_of}
use Rattle.in_usual_braces_of_programs.proofs.OfNets.{agent_sign, same_code}
use Rattle.in_usual_braces_of_programs.proofs.OfRules.{IsOfAgent, circle_agents}

-- the sign of an agent's port, in the member and in the open net
signs_agree : (t : Tables) (n : Parts) (o : OpenNet) (x y i : ℕ) (m : OpenNode) → slice_get o.nodes y ≡ Some m → (is : IsNodeOf t n x m) → signs_of t o y i ≡ member_signs t n x i
signs_agree t n o x y i m e is = agent_sign t o y i m is.symbol e is.node ∙ sym (ap (λ z. sign_of t z i) is.here)

agent_point : (p : points.Point) (x i : ℕ) → p ≡ point.Port (record { 0 = x }) i → point_of p ≡ Port x i
agent_point p x i e = ap point_of e

-- ---- nets

module _ (t : Tables) (n : Parts) (o : OpenNet) (numbered : AreNumbered t) (whole : IsWhole n) (over : IsOver t n) (opens : Opens t n o) where
  abbrev member : Graph
  member = graph_of (signature_of t) (net_of n)

  abbrev IsThere : ℕ → Type 0
  IsThere x = (m : OpenNode) × (slice_get o.nodes x ≡ Some m) × IsNodeOf t n x m

  there : (x i : ℕ) → IsOpenPoint o (open_p.Port x i) → IsThere x
  there x i h =
      let m = some_of (λ (m : OpenNode). i < length m.class_of) (slice_get o.nodes x) h in
      (m.0, m.1, opens.nodes.1 x m.0 m.1)

  to_open : (u v : ℕ × ℕ) → member.Wire u v → (open_graph o).Wire u v
  to_open u v e =
      let w = whole.listed (coded_point (Port u.0 u.1)) (coded_point (Port v.0 v.1)) (map_is (partner_in n (coded_point (Port u.0 u.1))) (Port v.0 v.1) e) in
      (w.0, opened.listed t n o numbered whole over opens w.0 (coded_point (Port u.0 u.1)) (coded_point (Port v.0 v.1)) w.1)

  net_there : (u v : ℕ × ℕ) → (open_graph o).Wire u v → IsThere v.0
  net_there u v w = there v.0 v.1 ((opened.is_open_net t n o numbered whole over opens).points w.0 (open_p.Port v.0 v.1) (open_p.Port u.0 u.1) (wire_turn o w.0 (open_p.Port u.0 u.1) (open_p.Port v.0 v.1) w.1))

  from_listed : (w x i y j : ℕ) → slice_get o.wires w ≡ Some (open_p.Port x i, open_p.Port y j) → partner_in n (point.Port (record { 0 = x }) i) ≡ Some (point.Port (record { 0 = y }) j)
  from_listed w x i y j e = go (wire_in n w) refl (opens.wires.1 w (open_p.Port x i, open_p.Port y j) e)
    where
      go : (v : Option (points.Point × points.Point)) → wire_in n w ≡ v → option_map open_wire v ≡ Some (open_p.Port x i, open_p.Port y j) → partner_in n (point.Port (record { 0 = x }) i) ≡ Some (point.Port (record { 0 = y }) j)
      go None h k = cc
      go (Some r) h k =
          let f : open_wire r ≡ (open_p.Port x i, open_p.Port y j) = some_same (Some (open_wire r)) (open_wire r) (open_p.Port x i, open_p.Port y j) refl k in
          let p = same_code r.0 x i (ap (λ z. z.0) f) in
          let q = same_code r.1 y j (ap (λ z. z.1) f) in
          ap (partner_in n) (sym p) ∙ whole.partners w r.0 r.1 h ∙ ap Some q

  from_open : (u v : ℕ × ℕ) → (open_graph o).Wire u v → member.Wire u v
  from_open u v (w, inl h) = ap (option_map point_of) (from_listed w u.0 u.1 v.0 v.1 h)
  from_open u v (w, inr h) = ap (option_map point_of) (whole.back (point.Port (record { 0 = v.0 }) v.1) (point.Port (record { 0 = u.0 }) u.1) (from_listed w v.0 v.1 u.0 u.1 h))

  net_circle_up : DirectedCircle member (member_signs t n) → DirectedCircle (open_graph o) (signs_of t o)
  net_circle_up c = circle_moved member (open_graph o) (member_signs t n) (signs_of t o) (λ x. x) IsThere (record {
    wire = λ x i y j a b w. to_open (x, i) (y, j) w;
    sign = λ x i a. signs_agree t n o x x i a.0 a.1 a.2;
    apart = λ x y a b e. e;
  }) c (circle_inside member (member_signs t n) IsThere (λ u v w. net_there u v (to_open u v w)) c)

  net_circle_down : DirectedCircle (open_graph o) (signs_of t o) → DirectedCircle member (member_signs t n)
  net_circle_down c = circle_moved (open_graph o) member (signs_of t o) (member_signs t n) (λ x. x) IsThere (record {
    wire = λ x i y j a b w. from_open (x, i) (y, j) w;
    sign = λ x i a. sym (signs_agree t n o x x i a.0 a.1 a.2);
    apart = λ x y a b e. e;
  }) c (circle_inside (open_graph o) (signs_of t o) IsThere net_there c)

  pub net_decides : IsDerivable o ↔ (DirectedCircle (open_graph o) (signs_of t o) → ⊥) → IsDerivable o ↔ HasNoDirectedCircle t n
  net_decides decided = ((λ d c. decided.0 d (net_circle_up c)), λ no_circle. decided.1 (λ c. no_circle (net_circle_down c)))

-- ---- rules

module _ (t : Tables) (p : RuleParts) (o : OpenNet) (numbered : AreNumbered t) (whole : IsRuleWhole t p) (net : IsWhole p.member) (over : IsOver t p.member) (built : p.member.built ≡ true) (opens : OpensRule t p o) where
  abbrev right : Graph
  right = graph_of (signature_of t) (net_of p.member)

  -- the agent of a node
  abbrev agent_of : ℕ → ℕ
  agent_of n = cond (nat_lt (n - classes_of t p.written.0.0) (agents_before p)) (n - classes_of t p.written.0.0) (n - classes_of t p.written.0.0 - classes_of t p.written.1.0)

  agent_back : (x : ℕ) → agent_of (agent_node t p x) ≡ x
  agent_back x = elim (lt_tells x (agents_before p)) [
    | inl l ↦
        let k = l.1 in
        let a : agent_node t p x ≡ classes_of t p.written.0.0 + x = ap (λ z. cond z (classes_of t p.written.0.0 + x) (classes_of t p.written.0.0 + (classes_of t p.written.1.0 + x))) l.0 in
        elim (lt_tells (agent_node t p x - classes_of t p.written.0.0) (agents_before p)) [
          | inl m ↦ ap (λ z. cond z (agent_node t p x - classes_of t p.written.0.0) (agent_node t p x - classes_of t p.written.0.0 - classes_of t p.written.1.0)) m.0 ∙ omega arith
          | inr m ↦ let b = m.1 in absurd (omega arith)
        ]
    | inr l ↦
        let k = l.1 in
        let a : agent_node t p x ≡ classes_of t p.written.0.0 + (classes_of t p.written.1.0 + x) = ap (λ z. cond z (classes_of t p.written.0.0 + x) (classes_of t p.written.0.0 + (classes_of t p.written.1.0 + x))) l.0 in
        elim (lt_tells (agent_node t p x - classes_of t p.written.0.0) (agents_before p)) [
          | inl m ↦ let b = m.1 in absurd (omega arith)
          | inr m ↦ ap (λ z. cond z (agent_node t p x - classes_of t p.written.0.0) (agent_node t p x - classes_of t p.written.0.0 - classes_of t p.written.1.0)) m.0 ∙ omega arith
        ]
  ]

  -- the agent of that number, as a node
  abbrev IsHere : ℕ → Type 0
  IsHere x = (m : OpenNode) × (slice_get o.nodes (agent_node t p x) ≡ Some m) × IsNodeOf t p.member x m

  here : (x i : ℕ) → IsPointOf p.member (point.Port (record { 0 = x }) i) → IsHere x
  here x i h =
      let c = some_of (λ (c : Cell). i < length c.ends) (cell_in p.member x) h in
      let l = (cell_over t p.member.cells x c.0 over.cells c.1).0 in
      let w = agent_within t p x l in
      let q = opens.nodes.0 in
      let m = at_index o.nodes (agent_node t p x) (omega arith) in
      (m.0, m.1, (opens.nodes.1 (agent_node t p x) m.0 m.1).agent x l refl)

  partner_of : (u v : ℕ × ℕ) → right.Wire u v → partner_in p.member (coded_point (Port u.0 u.1)) ≡ Some (coded_point (Port v.0 v.1))
  partner_of u v e = map_is (partner_in p.member (coded_point (Port u.0 u.1))) (Port v.0 v.1) e

  up : (u v : ℕ × ℕ) → right.Wire u v → (open_graph o).Wire (agent_node t p u.0, u.1) (agent_node t p v.0, v.1)
  up u v e =
      let w = net.listed (coded_point (Port u.0 u.1)) (coded_point (Port v.0 v.1)) (partner_of u v e) in
      (w.0, rules.listed t p o numbered whole net over built opens w.0 (coded_point (Port u.0 u.1)) (coded_point (Port v.0 v.1)) w.1)

  right_here : (u v : ℕ × ℕ) → right.Wire u v → IsHere v.0
  right_here u v e = here v.0 v.1 (has_partner p.member (coded_point (Port v.0 v.1)) (coded_point (Port u.0 u.1)) (net.back (coded_point (Port u.0 u.1)) (coded_point (Port v.0 v.1)) (partner_of u v e)))

  circle_up : DirectedCircle right (member_signs t p.member) → DirectedCircle (open_graph o) (signs_of t o)
  circle_up c = circle_moved right (open_graph o) (member_signs t p.member) (signs_of t o) (agent_node t p) IsHere (record {
    wire = λ x i y j a b w. up (x, i) (y, j) w;
    sign = λ x i a. signs_agree t p.member o x (agent_node t p x) i a.0 a.1 a.2;
    apart = λ x y a b e. same_agent t p x y e;
  }) c (circle_inside right (member_signs t p.member) IsHere right_here c)

  -- ---- and back

  abbrev OfAgent : ℕ → Type 0
  OfAgent = IsOfAgent t p o numbered whole net over built opens

  code_of : (r : points.Point) (x i : ℕ) → IsPointOf p.member r → rule_point t p (is_turned p) r ≡ open_p.Port (agent_node t p x) i → r ≡ point.Port (record { 0 = x }) i
  code_of (point.Port z k) x i h e =
      let q = port_place (agent_node t p z.0) (agent_node t p x) k i e in
      ap (λ (z : ℕ). point.Port (record { 0 = z }) k) (same_agent t p z.0 x q.0) ∙ ap (λ (k : ℕ). point.Port (record { 0 = x }) k) q.1
  code_of (point.Free k) x i h e = absurd (rules.agent_not_end t p o numbered whole net over built opens x i k h (sym e))

  down_listed : (w x i y j : ℕ) → slice_get o.wires w ≡ Some (open_p.Port (agent_node t p x) i, open_p.Port (agent_node t p y) j) → partner_in p.member (point.Port (record { 0 = x }) i) ≡ Some (point.Port (record { 0 = y }) j)
  down_listed w x i y j e = go (wire_in p.member w) refl (opens.wires.1 w (open_p.Port (agent_node t p x) i, open_p.Port (agent_node t p y) j) e)
    where
      go : (v : Option (points.Point × points.Point)) → wire_in p.member w ≡ v → option_map (rule_wire t p (is_turned p)) v ≡ Some (open_p.Port (agent_node t p x) i, open_p.Port (agent_node t p y) j) → partner_in p.member (point.Port (record { 0 = x }) i) ≡ Some (point.Port (record { 0 = y }) j)
      go None h k = cc
      go (Some r) h k =
          let f : rule_wire t p (is_turned p) r ≡ (open_p.Port (agent_node t p x) i, open_p.Port (agent_node t p y) j) = some_same (Some (rule_wire t p (is_turned p) r)) (rule_wire t p (is_turned p) r) (open_p.Port (agent_node t p x) i, open_p.Port (agent_node t p y) j) refl k in
          let joined = net.partners w r.0 r.1 h in
          let a = code_of r.0 x i (has_partner p.member r.0 r.1 joined) (ap (λ z. z.0) f) in
          let b = code_of r.1 y j (has_partner p.member r.1 r.0 (net.back r.0 r.1 joined)) (ap (λ z. z.1) f) in
          ap (partner_in p.member) (sym a) ∙ joined ∙ ap Some b

  down_agents : (x i y j : ℕ) → (open_graph o).Wire (agent_node t p x, i) (agent_node t p y, j) → right.Wire (x, i) (y, j)
  down_agents x i y j (w, inl h) = ap (option_map point_of) (down_listed w x i y j h)
  down_agents x i y j (w, inr h) = ap (option_map point_of) (net.back (point.Port (record { 0 = y }) j) (point.Port (record { 0 = x }) i) (down_listed w y j x i h))

  number_is : (n : ℕ) (a : OfAgent n) → agent_of n ≡ a.1
  number_is n a = ap agent_of a.4 ∙ agent_back a.1

  down : (n i m j : ℕ) → OfAgent n → OfAgent m → (open_graph o).Wire (n, i) (m, j) → right.Wire (agent_of n, i) (agent_of m, j)
  down n i m j a b w =
      let e : agent_node t p (agent_of n) ≡ n = ap (agent_node t p) (number_is n a) ∙ sym a.4 in
      let f : agent_node t p (agent_of m) ≡ m = ap (agent_node t p) (number_is m b) ∙ sym b.4 in
      down_agents (agent_of n) i (agent_of m) j (subst (λ z. (open_graph o).Wire (z, i) (agent_node t p (agent_of m), j)) (sym e) (subst (λ z. (open_graph o).Wire (n, i) (z, j)) (sym f) w))

  down_sign : (n i : ℕ) → OfAgent n → member_signs t p.member (agent_of n) i ≡ signs_of t o n i
  down_sign n i a = ap (λ z. member_signs t p.member z i) (number_is n a) ∙ sym (signs_agree t p.member o a.1 n i a.0 a.2 a.3)

  down_apart : (n m : ℕ) → OfAgent n → OfAgent m → agent_of n ≡ agent_of m → n ≡ m
  down_apart n m a b e = a.4 ∙ ap (agent_node t p) (sym (number_is n a) ∙ e ∙ number_is m b) ∙ sym b.4

  circle_down : AreUsual t → DirectedCircle (open_graph o) (signs_of t o) → DirectedCircle right (member_signs t p.member)
  circle_down usual c = circle_moved (open_graph o) right (signs_of t o) (member_signs t p.member) agent_of OfAgent (record { wire = down; sign = down_sign; apart = down_apart }) c (circle_agents t p o numbered whole net over built opens usual c)

  pub rule_decides : AreUsual t → IsDerivable o ↔ (DirectedCircle (open_graph o) (signs_of t o) → ⊥) → IsDerivable o ↔ HasNoDirectedCircle t p.member
  rule_decides usual decided = ((λ d c. decided.0 d (circle_up c)), λ no_circle. decided.1 (λ c. no_circle (circle_down usual c)))
