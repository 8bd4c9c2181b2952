-- The open net of a typed rule in usual braces.
use Rattle.std.proofs.Common.{◌≡◌, ◌≢◌, ◌⊎◌, ◌<◌, ◌≤◌, ◌+◌, ◌-◌, ℕ, suc, Bool, true, false, not, cond, nat_lt, List, [], ◌∷◌, Option, Some, None, IsSomeAnd, length, slice_get, get_or, refl, sym, subst, ap, inl, inr, ◌∙◌, arith, lt-ltb, le-ltb}
use Rattle.std.specs.Prelude.{option_map}
use Rattle.std.specs.List.{AllByRecursion}
use Rattle.std.proofs.lemmas.List.Sums.{count_by-le-length}
use Rattle.std.proofs.lemmas.Option.{slice_get-map, slice_get_within}
use Rattle.in_syntax.specs.declared.places.Place.{Place}
use Rattle.in_syntax.specs.declared.symbol_no.SymbolNo.{SymbolNo}
use Rattle.in_symbols.specs.declared.symbols.PortType.{PortType}
use Rattle.in_symbols.specs.Tables.{Tables, arity_of, class_at, port_at}
use Rattle.in_base.specs.Graphs.{Passage, entered, left, LeadsThrough}
use Rattle.in_net.specs.Built.{IsOver}
use Rattle.in_net.specs.declared.nets.Cell.{Cell}
use Rattle.in_net.specs.declared.nets.FreeEnd.{FreeEnd}
use Rattle.in_net.specs.declared.nets.Point as points
use Rattle.in_net.specs.declared.nets.Point.TheVariants as point
use Rattle.in_net.specs.Parts.{IsWhole, IsPointOf, cell_in, wire_in}
use Rattle.in_net.specs.Rules.{RuleParts, HasTypesOfHeads}
use Rattle.in_net.proofs.Public.{cell_over, declared_at, has_partner}
use Rattle.in_typing.specs.Typed.{IsTyped, opposite, type_at}
use Rattle.in_open_nets.specs.declared.open_nets.Node.{Node}
use Rattle.in_open_nets.specs.declared.open_nets.Node.TheVariants.{AgentNode, ClassNode}
use Rattle.in_open_nets.specs.declared.open_nets.OpenNode.{OpenNode}
use Rattle.in_open_nets.specs.declared.open_nets.OpenPoint.{OpenPoint}
use Rattle.in_open_nets.specs.declared.open_nets.OpenPoint.TheVariants.{Port}
use Rattle.in_open_nets.specs.OpenNets as nets
use Rattle.in_open_nets.specs.OpenNets.{OpenNet, IsAgent, IsAgentNode, IsOpenNet, IsOpenPoint, class_in, open_graph}
use Rattle.in_open_nets.proofs.Public.{not_both, port_place, some_of}
use Rattle.in_open_nets_of_programs.specs.Opening.{AreNumbered, IsNodeOf}
use Rattle.in_open_nets_of_programs.specs.OpeningRules.{places_in, agents_before, agent_node, second_node, boundary_port, is_turned, rule_point, rule_wire, IsClassNodeOf, IsRuleWhole, OpensRule}
use Rattle.in_open_nets_of_programs.proofs.Public.OpenedRules.{is_open_net, is_end, IsEnd, in_first, in_second, first_port, second_port, class_low, first_end, second_end}
use Rattle.in_open_nets_of_programs.proofs.Public.{agent_within, kind_of, NodeKind, of_first, of_second, of_agent, place_there}
use Rattle.in_base.proofs.Each.{all_map, at_index}
use Rattle.in_base.proofs.Places.{some_same}
use Rattle.in_usual_braces.specs.Directions.{IsAlong, DirectedCircle}
use Rattle.in_usual_braces.proofs.Public.{begins, ends}
use Rattle.in_usual_braces_of_programs.specs.Signs.{AreUsual, AreWide, is_output, place_of_class, sign_at, signs_of}
use Rattle.in_usual_braces_of_programs.proofs.OfNets.{agent_class, agent_sign}
use Rattle.in_usual_braces_of_programs.proofs.Places.{negated, place_found, signs_differ}
use Rattle.in_usual_braces_of_programs.proofs.Signed.{AreListedSigned, FollowsSymbols, StayByThemselves, StayTogether}

-- the sign of a class node's port: the opposite of that of its place
class_sign : (t : Tables) (o : OpenNet) (n k : ℕ) (m : OpenNode) (s : SymbolNo) (c : ℕ) → slice_get o.nodes n ≡ Some m → m.node ≡ ClassNode s c → signs_of t o n k ≡ not (is_output t s.0 (place_of_class t s.0 c k (arity_of t s.0)))
class_sign t o n k m s c e is =
    ap (λ z. sign_at t z k) e ∙ ap (λ (z : Node). elim z [ AgentNode y ↦ is_output t y.0 k | ClassNode y c ↦ not (is_output t y.0 (place_of_class t y.0 c k (arity_of t y.0))) ]) is

-- each port of a class node is a class by itself
class_class : (o : OpenNet) (n k : ℕ) (m : OpenNode) (s : SymbolNo) (c : ℕ) → slice_get o.nodes n ≡ Some m → m.node ≡ ClassNode s c → class_in o n k ≡ k
class_class o n k m s c e is = ap (λ z. nets.class_at z k) e ∙ ap (λ (z : Node). elim z [ AgentNode y ↦ get_or m.class_of k 0 | ClassNode y c ↦ k ]) is

agent_node_is : (m : OpenNode) {s : SymbolNo} → m.node ≡ AgentNode s → IsAgentNode m
agent_node_is m {s} e = go m.node e
  where
    go : (z : Node) → z ≡ AgentNode s → elim z as (λ y. Type 0) [ AgentNode y ↦ Unit {0} | ClassNode y c ↦ ⊥ ]
    go (AgentNode y) e = tt
    go (ClassNode y c) e = cc

-- ---- the types of boundary ends

module _ (t : Tables) (p : RuleParts) where
  abbrev Heads : Bool → Type 0
  Heads turned = p.heads ≡ cond turned (p.written.1, p.written.0) p.written

  abbrev end_type : ℕ → PortType
  end_type e = port_at t (cond (nat_lt e (arity_of t p.heads.0.0)) p.heads.0.0 p.heads.1.0) (cond (nat_lt e (arity_of t p.heads.0.0)) (suc e) (suc (e - arity_of t p.heads.0.0)))

  of_first_head : (e : ℕ) → nat_lt e (arity_of t p.heads.0.0) ≡ true → end_type e ≡ port_at t p.heads.0.0 (suc e)
  of_first_head e h = ap (λ z. port_at t (cond z p.heads.0.0 p.heads.1.0) (cond z (suc e) (suc (e - arity_of t p.heads.0.0)))) h

  of_second_head : (e : ℕ) → nat_lt e (arity_of t p.heads.0.0) ≡ false → end_type e ≡ port_at t p.heads.1.0 (suc (e - arity_of t p.heads.0.0))
  of_second_head e h = ap (λ z. port_at t (cond z p.heads.0.0 p.heads.1.0) (cond z (suc e) (suc (e - arity_of t p.heads.0.0)))) h

  first_type : (turned : Bool) → Heads turned → (j : ℕ) → suc j ≤ arity_of t p.written.0.0 → end_type (first_end t p turned j) ≡ port_at t p.written.0.0 (suc j)
  first_type true e j h =
      let a : arity_of t p.heads.0.0 ≡ arity_of t p.written.1.0 = ap (λ (z : SymbolNo × SymbolNo). arity_of t z.0.0) e in
      let k : suc (arity_of t p.written.1.0 + j - arity_of t p.heads.0.0) ≡ suc j = omega arith in
      of_second_head (arity_of t p.written.1.0 + j) (le-ltb (arity_of t p.written.1.0 + j) (arity_of t p.heads.0.0) (omega arith))
      ∙ ap (port_at t p.heads.1.0) k ∙ ap (λ (z : SymbolNo × SymbolNo). port_at t z.1.0 (suc j)) e
  first_type false e j h =
      let a : arity_of t p.heads.0.0 ≡ arity_of t p.written.0.0 = ap (λ (z : SymbolNo × SymbolNo). arity_of t z.0.0) e in
      of_first_head j (lt-ltb j (arity_of t p.heads.0.0) (omega arith)) ∙ ap (λ (z : SymbolNo × SymbolNo). port_at t z.0.0 (suc j)) e

  second_type : (turned : Bool) → Heads turned → (j : ℕ) → suc j ≤ arity_of t p.written.1.0 → end_type (second_end t p turned j) ≡ port_at t p.written.1.0 (suc j)
  second_type true e j h =
      let a : arity_of t p.heads.0.0 ≡ arity_of t p.written.1.0 = ap (λ (z : SymbolNo × SymbolNo). arity_of t z.0.0) e in
      of_first_head j (lt-ltb j (arity_of t p.heads.0.0) (omega arith)) ∙ ap (λ (z : SymbolNo × SymbolNo). port_at t z.0.0 (suc j)) e
  second_type false e j h =
      let a : arity_of t p.heads.0.0 ≡ arity_of t p.written.0.0 = ap (λ (z : SymbolNo × SymbolNo). arity_of t z.0.0) e in
      let k : suc (arity_of t p.written.0.0 + j - arity_of t p.heads.0.0) ≡ suc j = omega arith in
      of_second_head (arity_of t p.written.0.0 + j) (le-ltb (arity_of t p.written.0.0 + j) (arity_of t p.heads.0.0) (omega arith))
      ∙ ap (port_at t p.heads.1.0) k ∙ ap (λ (z : SymbolNo × SymbolNo). port_at t z.1.0 (suc j)) e

-- ---- class nodes

module _ (t : Tables) (o : OpenNet) (s : SymbolNo) (place : Place) (c n : ℕ) (m : OpenNode) (here : slice_get o.nodes n ≡ Some m) (is : IsClassNodeOf t s place c m) where
  -- the symbol's place for a port of the class node
  record Stands (i : ℕ) : Type 0 where
    at : ℕ
    within : suc at ≤ arity_of t s.0
    class : class_at t s.0 (suc at) ≡ c
    number : places_in t s.0 c at ≡ i
    sign : signs_of t o n i ≡ not (is_output t s.0 (suc at))

  stands : (i : ℕ) → i < length m.class_of → Stands i
  stands i h =
      let ports = is.ports in
      let r = place_there t s.0 c (arity_of t s.0) i (omega arith) in
      record {
        at = r.0;
        within = r.1;
        class = r.2;
        number = r.3;
        sign = class_sign t o n i m s c here is.node ∙ ap (λ k. not (is_output t s.0 (place_of_class t s.0 c k (arity_of t s.0)))) (sym r.3) ∙ ap (λ k. not (is_output t s.0 k)) (place_found t s.0 c r.0 (arity_of t s.0) r.1 r.2);
      }

  class_at_node : (i : ℕ) → class_in o n i ≡ i
  class_at_node i = class_class o n i m s c here is.node

  class_together : AreWide t → (i j : ℕ) → i < length m.class_of → j < length m.class_of → signs_of t o n i ≡ true → signs_of t o n j ≡ true → class_in o n i ≡ class_in o n j
  class_together wide i j h k e f =
      let u = stands i h in
      let v = stands j k in
      let same = (wide s.0).inputs (suc u.at) (suc v.at) u.within v.within (negated (is_output t s.0 (suc u.at)) true (sym u.sign ∙ e)) (negated (is_output t s.0 (suc v.at)) true (sym v.sign ∙ f)) (u.class ∙ sym v.class) in
      let one : u.at ≡ v.at = omega arith in
      class_at_node i ∙ sym u.number ∙ ap (places_in t s.0 c) one ∙ v.number ∙ sym (class_at_node j)

  class_alone : (i j : ℕ) → signs_of t o n i ≡ false → signs_of t o n j ≡ true → class_in o n i ≢ class_in o n j
  class_alone i j e f same =
      let one : i ≡ j = sym (class_at_node i) ∙ same ∙ class_at_node j in
      not_both (signs_of t o n j) f (ap (signs_of t o n) (sym one) ∙ e)

  -- it has only outputs, or only inputs
  one_way : AreUsual t → (i j : ℕ) → i < length m.class_of → j < length m.class_of → signs_of t o n i ≡ false → signs_of t o n j ≡ true → ⊥
  one_way usual i j h k e f =
      let u = stands i h in
      let v = stands j k in
      (usual s.0).apart (suc v.at) (suc u.at) v.within u.within (negated (is_output t s.0 (suc v.at)) true (sym v.sign ∙ f)) (negated (is_output t s.0 (suc u.at)) false (sym u.sign ∙ e)) (v.class ∙ sym u.class)

-- ---- the rule

module _ (t : Tables) (p : RuleParts) (o : OpenNet) (numbered : AreNumbered t) (whole : IsRuleWhole t p) (net : IsWhole p.member) (over : IsOver t p.member) (built : p.member.built ≡ true) (opens : OpensRule t p o) where
  open_net : IsOpenNet o
  open_net = is_open_net t p o numbered whole net over built opens

  before_within : agents_before p ≤ length p.member.cells
  before_within = let a = net.placed built in let b = count_by-le-length (λ (q : Place). nat_lt q.from p.head_places.1.from) p.member.places in omega arith

  -- the node is a class node, or that of an agent
  abbrev pub IsClassNode : ℕ → OpenNode → Type 0
  IsClassNode n m = (s : SymbolNo) × (place : Place) × (c : ℕ) × IsClassNodeOf t s place c m

  abbrev pub IsAgentNo : ℕ → OpenNode → Type 0
  IsAgentNo n m = (x : ℕ) × IsNodeOf t p.member x m × (n ≡ agent_node t p x)

  pub kind : (n : ℕ) (m : OpenNode) → slice_get o.nodes n ≡ Some m → IsClassNode n m ⊎ IsAgentNo n m
  kind n m e = go (kind_of t p n before_within (omega (arith, slice_get_within o.nodes n m e, opens.nodes.0)))
    where
      go : NodeKind t p n → IsClassNode n m ⊎ IsAgentNo n m
      go (of_first l) = inl (p.written.0, p.head_places.0, n + 1, (opens.nodes.1 n m e).first l)
      go (of_second c l g) = inl (p.written.1, p.head_places.1, c + 1, (opens.nodes.1 n m e).second c l g)
      go (of_agent x l g) = inr (x, (opens.nodes.1 n m e).agent x l g, g)

  node : (n i : ℕ) → IsOpenPoint o (Port n i) → (m : OpenNode) × (slice_get o.nodes n ≡ Some m) × (i < length m.class_of)
  node n i h = some_of (λ (m : OpenNode). i < length m.class_of) (slice_get o.nodes n) h

  within : (n i : ℕ) (m : OpenNode) → slice_get o.nodes n ≡ Some m → IsOpenPoint o (Port n i) → i < length m.class_of
  within n i m e h =
      let k = node n i h in
      let s : length k.0.class_of ≡ length m.class_of = ap (λ (z : OpenNode). length z.class_of) (some_same (slice_get o.nodes n) k.0 m k.1 e) in
      let l = k.2 in
      omega arith

  together : StayTogether t o
  together wide n i j h k e f =
      let m = node n i h in
      elim (kind n m.0 m.1) [
        | inl c ↦ class_together t o c.0 c.1 c.2 n m.0 m.1 c.3 wide i j m.2 (within n j m.0 m.1 k) e f
        | inr a ↦
            let s = a.1.symbol in
            let c = agent_class t p.member o n i a.0 m.0 m.1 a.1 h in
            let d = agent_class t p.member o n j a.0 m.0 m.1 a.1 k in
            c.1 ∙ (wide s.0).outputs i j c.0 d.0 (sym (agent_sign t o n i m.0 s m.1 a.1.node) ∙ e) (sym (agent_sign t o n j m.0 s m.1 a.1.node) ∙ f) ∙ sym d.1
      ]

  alone : StayByThemselves t o
  alone usual n i j h k e f same =
      let m = node n i h in
      elim (kind n m.0 m.1) [
        | inl c ↦ class_alone t o c.0 c.1 c.2 n m.0 m.1 c.3 i j e f same
        | inr a ↦
            let s = a.1.symbol in
            let c = agent_class t p.member o n i a.0 m.0 m.1 a.1 h in
            let d = agent_class t p.member o n j a.0 m.0 m.1 a.1 k in
            (usual s.0).apart i j c.0 d.0 (sym (agent_sign t o n i m.0 s m.1 a.1.node) ∙ e) (sym (agent_sign t o n j m.0 s m.1 a.1.node) ∙ f) (sym c.1 ∙ same ∙ d.1)
      ]

  -- ---- circles are of agents

  abbrev pub IsOfAgent : ℕ → Type 0
  IsOfAgent n = (m : OpenNode) × (x : ℕ) × (slice_get o.nodes n ≡ Some m) × IsNodeOf t p.member x m × (n ≡ agent_node t p x)

  of_an_agent : AreUsual t → (n i j : ℕ) → IsOpenPoint o (Port n i) → IsOpenPoint o (Port n j) → signs_of t o n i ≡ false → signs_of t o n j ≡ true → IsOfAgent n
  of_an_agent usual n i j h k e f =
      let m = node n i h in
      elim (kind n m.0 m.1) [
        | inl c ↦ absurd (one_way t o c.0 c.1 c.2 n m.0 m.1 c.3 usual i j m.2 (within n j m.0 m.1 k) e f)
        | inr a ↦ (m.0, a.0, m.1, a.1, a.2)
      ]

  walk_of_agents : AreUsual t → (from to : ℕ × ℕ) (ps : List (Passage ℕ)) → LeadsThrough (open_graph o) from ps to → AllByRecursion (IsAlong (signs_of t o)) ps → AllByRecursion (λ q. IsOfAgent q.node) ps
  walk_of_agents usual from to [] w h = tt
  walk_of_agents usual from to (q ∷ qs) w h = (
    of_an_agent usual q.node q.enter q.leave (ends o open_net from (entered q) [] w.0) (begins o open_net (left q) to qs w.1) h.0.0 h.0.1,
    walk_of_agents usual (left q) to qs w.1 h.1,
  )

  pub circle_agents : AreUsual t → (c : DirectedCircle (open_graph o) (signs_of t o)) → AllByRecursion (λ q. IsOfAgent q.node) (c.first ∷ c.rest)
  circle_agents usual c = (
    of_an_agent usual c.first.node c.first.enter c.first.leave (ends o open_net (left c.first) (entered c.first) c.rest c.closed) (begins o open_net (left c.first) (entered c.first) c.rest c.closed) c.along.0.0 c.along.0.1,
    walk_of_agents usual (left c.first) (entered c.first) c.rest c.closed c.along.1,
  )

  pub circle_of_agents : AreUsual t → (c : DirectedCircle (open_graph o) (signs_of t o)) → AllByRecursion (λ q. IsAgent o q.node) (c.first ∷ c.rest)
  circle_of_agents usual c = all_map (λ q. IsOfAgent q.node) (λ q. IsAgent o q.node) (λ q a. subst (λ z. IsSomeAnd z IsAgentNode) (sym a.2) (agent_node_is a.0 a.3.node)) (c.first ∷ c.rest) (circle_agents usual c)

  -- ---- wires

  module _ (heads : HasTypesOfHeads t p) (typed : IsTyped t p.member) where
    same_sign : (a b i j : ℕ) → ◌≡◌ {A = OpenPoint} (Port a i) (Port b j) → signs_of t o b j ≡ signs_of t o a i
    same_sign a b i j e = let q = port_place a b i j e in ap (λ z. signs_of t o z j) (sym q.0) ∙ ap (signs_of t o a) (sym q.1)

    -- a point has a type, and its port the sign of that
    abbrev HasSign : points.Point → ℕ → ℕ → Type 0
    HasSign r n i = (y : PortType) × (type_at t p.member r ≡ Some y) × (signs_of t o n i ≡ y.output)

    class_has_sign : (s : SymbolNo) (place : Place) (c d n j : ℕ) (m : OpenNode) → slice_get o.nodes n ≡ Some m → IsClassNodeOf t s place d m → d ≡ c → suc j ≤ arity_of t s.0 → class_at t s.0 (suc j) ≡ c → signs_of t o n (places_in t s.0 c j) ≡ not (is_output t s.0 (suc j))
    class_has_sign s place c d n j m here is same l e =
        class_sign t o n (places_in t s.0 c j) m s d here is.node
        ∙ ap (λ z. not (is_output t s.0 (place_of_class t s.0 z (places_in t s.0 c j) (arity_of t s.0)))) same
        ∙ ap (λ k. not (is_output t s.0 k)) (place_found t s.0 c j (arity_of t s.0) l e)

    end_kind : (k : ℕ) (x : FreeEnd) → slice_get p.member.free k ≡ Some x → x.kind ≡ end_type t p k
    end_kind k x e = declared_at t p 0 1 heads k x.kind (slice_get-map (λ (f : FreeEnd). f.kind) p.member.free k ∙ ap (option_map (λ (f : FreeEnd). f.kind)) e)

    point_sign : (r : points.Point) (n i : ℕ) → IsPointOf p.member r → rule_point t p (is_turned p) r ≡ Port n i → HasSign r n i
    point_sign (point.Port x a) n i h e =
        let c = some_of (λ (c : Cell). a < length c.ends) (cell_in p.member x.0) h in
        let l = (cell_over t p.member.cells x.0 c.0 over.cells c.1).0 in
        let w = agent_within t p x.0 l in
        let q = opens.nodes.0 in
        let m = at_index o.nodes (agent_node t p x.0) (omega arith) in
        let is = (opens.nodes.1 (agent_node t p x.0) m.0 m.1).agent x.0 l refl in
        (port_at t is.symbol.0 a, ap (option_map (λ (s : SymbolNo). port_at t s.0 a)) is.here, same_sign (agent_node t p x.0) n a i e ∙ agent_sign t o (agent_node t p x.0) a m.0 is.symbol m.1 is.node)
    point_sign (point.Free k) n i h e = go (is_end t p (is_turned p) whole.heads k (omega (arith, whole.ends, h)))
      where
        x : (x : FreeEnd) × (slice_get p.member.free k ≡ Some x)
        x = at_index p.member.free k h

        type_is : (y : PortType) → end_type t p k ≡ y → type_at t p.member (point.Free k) ≡ Some (opposite y)
        type_is y f = ap (option_map opposite) (ap (option_map (λ (z : FreeEnd). z.kind)) x.1) ∙ ap (λ z. Some (opposite z)) (end_kind k x.0 x.1 ∙ f)

        go : IsEnd t p (is_turned p) k → HasSign (point.Free k) n i
        go (in_first j l g) =
            let c = class_low t numbered p.written.0.0 j l in
            let a = c.0 in
            let b = c.1 in
            let q = opens.nodes.0 in
            let d : class_at t p.written.0.0 (suc j) - 1 + 1 ≡ class_at t p.written.0.0 (suc j) = omega arith in
            let m = at_index o.nodes (class_at t p.written.0.0 (suc j) - 1) (omega arith) in (
              opposite (port_at t p.written.0.0 (suc j)),
              type_is (port_at t p.written.0.0 (suc j)) (ap (end_type t p) g ∙ first_type t p (is_turned p) whole.heads j l),
              same_sign _ n _ i (sym (ap (boundary_port t p (is_turned p)) g ∙ first_port t p (is_turned p) whole.heads j l) ∙ e)
                  ∙ class_has_sign p.written.0 p.head_places.0 (class_at t p.written.0.0 (suc j)) (class_at t p.written.0.0 (suc j) - 1 + 1) (class_at t p.written.0.0 (suc j) - 1) j m.0 m.1 ((opens.nodes.1 (class_at t p.written.0.0 (suc j) - 1) m.0 m.1).first (omega arith)) d l refl,
            )
        go (in_second j l g) =
            let c = class_low t numbered p.written.1.0 j l in
            let a = c.0 in
            let b = c.1 in
            let q = opens.nodes.0 in
            let y = before_within in
            let d : class_at t p.written.1.0 (suc j) - 1 + 1 ≡ class_at t p.written.1.0 (suc j) = omega arith in
            let m = at_index o.nodes (second_node t p + (class_at t p.written.1.0 (suc j) - 1)) (omega arith) in (
              opposite (port_at t p.written.1.0 (suc j)),
              type_is (port_at t p.written.1.0 (suc j)) (ap (end_type t p) g ∙ second_type t p (is_turned p) whole.heads j l),
              same_sign _ n _ i (sym (ap (boundary_port t p (is_turned p)) g ∙ second_port t p (is_turned p) whole.heads j l) ∙ e)
                  ∙ class_has_sign p.written.1 p.head_places.1 (class_at t p.written.1.0 (suc j)) (class_at t p.written.1.0 (suc j) - 1 + 1) (second_node t p + (class_at t p.written.1.0 (suc j) - 1)) j m.0 m.1 ((opens.nodes.1 (second_node t p + (class_at t p.written.1.0 (suc j) - 1)) m.0 m.1).second (class_at t p.written.1.0 (suc j) - 1) (omega arith) refl) d l refl,
            )

    listed : AreListedSigned t o
    listed w n i m j e = go (wire_in p.member w) refl (opens.wires.1 w (Port n i, Port m j) e)
      where
        go : (v : Option (points.Point × points.Point)) → wire_in p.member w ≡ v → option_map (rule_wire t p (is_turned p)) v ≡ Some (Port n i, Port m j) → signs_of t o n i ≢ signs_of t o m j
        go None h k = cc
        go (Some r) h k =
            let f : rule_wire t p (is_turned p) r ≡ (Port n i, Port m j) = some_same (Some (rule_wire t p (is_turned p) r)) (rule_wire t p (is_turned p) r) (Port n i, Port m j) refl k in
            let there = net.partners w r.0 r.1 h in
            let a = point_sign r.0 n i (has_partner p.member r.0 r.1 there) (ap (λ z. z.0) f) in
            let b = point_sign r.1 m j (has_partner p.member r.1 r.0 (net.back r.0 r.1 there)) (ap (λ z. z.1) f) in
            signs_differ (signs_of t o n i) (signs_of t o m j) (type_at t p.member r.0) (type_at t p.member r.1) a.0 b.0 (typed w r.0 r.1 h) a.1 b.1 a.2 b.2

    pub rule_follows : FollowsSymbols t o
    rule_follows = record { net = open_net; listed = listed; together = together; alone = alone }
