-- The open net of a typed net in usual braces.
use Rattle.std.proofs.Common.{◌≡◌, ◌≢◌, ◌<◌, ◌≤◌, ℕ, not, Option, Some, None, length, slice_get, get_or, refl, sym, ap, inl, inr, ◌∙◌, arith}
use Rattle.std.specs.Prelude.{option_map}
use Rattle.std.proofs.lemmas.Option.{get_or_from_slice_get}
use Rattle.in_syntax.specs.declared.symbol_no.SymbolNo.{SymbolNo}
use Rattle.in_symbols.specs.Tables.{Tables, arity_of, class_at, port_at}
use Rattle.in_net.specs.Built.{IsOver}
use Rattle.in_net.specs.declared.nets.Point as points
use Rattle.in_net.specs.declared.nets.Point.TheVariants as point
use Rattle.in_net.specs.Parts.{Parts, IsWhole, symbol_in, wire_in}
use Rattle.in_typing.specs.Typed.{IsTyped, type_at}
use Rattle.in_open_nets.specs.declared.open_nets.Node.{Node}
use Rattle.in_open_nets.specs.declared.open_nets.Node.TheVariants.{AgentNode, ClassNode}
use Rattle.in_open_nets.specs.declared.open_nets.OpenNode.{OpenNode}
use Rattle.in_open_nets.specs.declared.open_nets.OpenPoint.TheVariants.{Port}
use Rattle.in_open_nets.specs.OpenNets as nets
use Rattle.in_open_nets.specs.OpenNets.{OpenNet, IsOpenNet, IsOpenPoint, class_in}
use Rattle.in_open_nets.proofs.Public.{port_place, some_of}
use Rattle.in_open_nets_of_programs.specs.Opening.{AreNumbered, IsNodeOf, Opens, open_point, open_wire}
use Rattle.in_open_nets_of_programs.proofs.Public.{is_open_net}
use Rattle.in_base.proofs.Each.{at_index}
use Rattle.in_base.proofs.Places.{some_same}
use Rattle.in_usual_braces_of_programs.specs.Signs.{is_output, place_of_class, sign_at, signs_of}
use Rattle.in_usual_braces_of_programs.proofs.Places.{signs_differ}
use Rattle.in_usual_braces_of_programs.proofs.Signed.{AreListedSigned, FollowsSymbols, StayByThemselves, StayTogether}

-- the sign of a node that is an agent
pub agent_sign : (t : Tables) (o : OpenNet) (n i : ℕ) (m : OpenNode) (s : SymbolNo) → slice_get o.nodes n ≡ Some m → m.node ≡ AgentNode s → signs_of t o n i ≡ is_output t s.0 i
agent_sign t o n i m s e is =
    ap (λ z. sign_at t z i) e ∙ ap (λ (z : Node). elim z [ AgentNode y ↦ is_output t y.0 i | ClassNode y c ↦ not (is_output t y.0 (place_of_class t y.0 c i (arity_of t y.0))) ]) is

-- .. and the class of its port
pub agent_class : (t : Tables) (parts : Parts) (o : OpenNet) (n i x : ℕ) (m : OpenNode) → slice_get o.nodes n ≡ Some m → (is : IsNodeOf t parts x m) → IsOpenPoint o (Port n i) → (i ≤ arity_of t is.symbol.0) × (class_in o n i ≡ class_at t is.symbol.0 i)
agent_class t parts o n i x m e is h =
    let k = some_of (λ (m : OpenNode). i < length m.class_of) (slice_get o.nodes n) h in
    let s : length k.0.class_of ≡ length m.class_of = ap (λ (z : OpenNode). length z.class_of) (some_same (slice_get o.nodes n) k.0 m k.1 e) in
    let l = k.2 in
    let a = is.ports.0 in
    let c = at_index m.class_of i (omega arith) in
    let by_node : nets.class_at (Some m) i ≡ get_or m.class_of i 0 = ap (λ (z : Node). elim z [ AgentNode y ↦ get_or m.class_of i 0 | ClassNode y c ↦ i ]) is.node in
    (omega arith, ap (λ z. nets.class_at z i) e ∙ by_node ∙ get_or_from_slice_get m.class_of i c.0 0 c.1 ∙ is.ports.1 i c.0 c.1)

-- the type of an agent's port
pub agent_type : (t : Tables) (parts : Parts) (x i : ℕ) (s : SymbolNo) → symbol_in parts x ≡ Some s → type_at t parts (point.Port (record { 0 = x }) i) ≡ Some (port_at t s.0 i)
agent_type t parts x i s e = ap (option_map (λ (s : SymbolNo). port_at t s.0 i)) e

-- the point that has this port
pub same_code : (p : points.Point) (x i : ℕ) → open_point p ≡ Port x i → p ≡ point.Port (record { 0 = x }) i
same_code (point.Port z k) x i e = let r = port_place z.0 x k i e in ap (λ (z : ℕ). point.Port (record { 0 = z }) k) r.0 ∙ ap (λ (k : ℕ). point.Port (record { 0 = x }) k) r.1
same_code (point.Free k) x i e = cc

module _ (t : Tables) (n : Parts) (o : OpenNet) (numbered : AreNumbered t) (whole : IsWhole n) (over : IsOver t n) (typed : IsTyped t n) (opens : Opens t n o) where
  net : IsOpenNet o
  net = is_open_net t n o numbered whole over opens

  agent : (x i : ℕ) → IsOpenPoint o (Port x i) → (m : OpenNode) × (slice_get o.nodes x ≡ Some m) × IsNodeOf t n x m
  agent x i h =
      let m = some_of (λ (m : OpenNode). i < length m.class_of) (slice_get o.nodes x) h in
      (m.0, m.1, opens.nodes.1 x m.0 m.1)

  together : StayTogether t o
  together wide x i j h k e f =
      let a = agent x i h in
      let s = a.2.symbol in
      let c = agent_class t n o x i x a.0 a.1 a.2 h in
      let d = agent_class t n o x j x a.0 a.1 a.2 k in
      c.1 ∙ (wide s.0).outputs i j c.0 d.0 (sym (agent_sign t o x i a.0 s a.1 a.2.node) ∙ e) (sym (agent_sign t o x j a.0 s a.1 a.2.node) ∙ f) ∙ sym d.1

  alone : StayByThemselves t o
  alone usual x i j h k e f same =
      let a = agent x i h in
      let s = a.2.symbol in
      let c = agent_class t n o x i x a.0 a.1 a.2 h in
      let d = agent_class t n o x j x a.0 a.1 a.2 k in
      (usual s.0).apart i j c.0 d.0 (sym (agent_sign t o x i a.0 s a.1 a.2.node) ∙ e) (sym (agent_sign t o x j a.0 s a.1 a.2.node) ∙ f) (sym c.1 ∙ same ∙ d.1)

  listed : AreListedSigned t o
  listed w x i y j e = go (wire_in n w) refl (opens.wires.1 w (Port x i, Port y j) e)
    where
      here : IsOpenPoint o (Port x i)
      here = net.points w (Port x i) (Port y j) (inl e)

      there : IsOpenPoint o (Port y j)
      there = net.points w (Port y j) (Port x i) (inr e)

      go : (v : Option (points.Point × points.Point)) → wire_in n w ≡ v → option_map open_wire v ≡ Some (Port x i, Port y j) → signs_of t o x i ≢ signs_of t o y j
      go None h k = cc
      go (Some r) h k =
          let f : open_wire r ≡ (Port x i, Port y j) = some_same (Some (open_wire r)) (open_wire r) (Port x i, Port y j) refl k in
          let p = same_code r.0 x i (ap (λ z. z.0) f) in
          let q = same_code r.1 y j (ap (λ z. z.1) f) in
          let a = agent x i here in
          let b = agent y j there in
          signs_differ (signs_of t o x i) (signs_of t o y j) (type_at t n r.0) (type_at t n r.1) (port_at t a.2.symbol.0 i) (port_at t b.2.symbol.0 j)
          (typed w r.0 r.1 h)
          (ap (type_at t n) p ∙ agent_type t n x i a.2.symbol a.2.here)
          (ap (type_at t n) q ∙ agent_type t n y j b.2.symbol b.2.here)
          (agent_sign t o x i a.0 a.2.symbol a.1 a.2.node)
          (agent_sign t o y j b.0 b.2.symbol b.1 b.2.node)

  pub net_follows : FollowsSymbols t o
  net_follows = record { net = net; listed = listed; together = together; alone = alone }
