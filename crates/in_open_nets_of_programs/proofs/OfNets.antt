-- A crossing circle of a net is one of its open net.
use Rattle.std.proofs.Common.{◌≡◌, ◌≤◌, ℕ, Option, Some, None, IsSomeAnd, slice_get, get_or, refl, sym, ap, ◌∙◌, arith}
use Rattle.std.specs.Prelude.{option_map}
use Rattle.std.proofs.lemmas.Option.{get_or_from_slice_get}
use native.Mathlib.Decide.{ℕ_discrete}
use Rattle.in_syntax.specs.declared.symbol_no.SymbolNo.{SymbolNo}
use Rattle.in_symbols.specs.Tables.{Tables, arity_of, class_at}
use Rattle.in_net.specs.Built.{IsOver}
use Rattle.in_base.specs.Graphs.{CrossingCircle}
use Rattle.in_net.specs.Graphs.{class_of_symbol, graph_of}
use Rattle.in_net.specs.Nets.{Port, IsPoint, net_of, signature_of, coded_point}
use Rattle.in_net.specs.Parts.{Parts, IsWhole, partner_in, symbol_in}
use Rattle.in_net.proofs.Public.{map_is, is_net, symbol_within}
use Rattle.in_open_nets.specs.declared.open_nets.Node.{Node}
use Rattle.in_open_nets.specs.declared.open_nets.Node.TheVariants.{AgentNode, ClassNode}
use Rattle.in_open_nets.specs.declared.open_nets.OpenNode.{OpenNode}
use Rattle.in_open_nets.specs.OpenNets as nets
use Rattle.in_open_nets.specs.OpenNets.{OpenNet, class_in, open_graph}
use Rattle.in_open_nets_of_programs.specs.Opening.{IsNodeOf, AreNumbered, Opens}
use Rattle.in_open_nets_of_programs.proofs.Opened.{listed}
use Rattle.in_base.proofs.Places.{some_same}
use Rattle.in_open_nets_of_programs.proofs.Mapped.{circle_mapped}
use Rattle.in_base.proofs.Each.{at_index}

-- an agent's symbol, at a point of the net
pub symbol_at : (t : Tables) (n : Parts) (x i : ℕ) → IsPoint (signature_of t) (net_of n) (Port x i) → (s : SymbolNo) × (symbol_in n x ≡ Some s) × (i ≤ arity_of t s.0)
symbol_at t n x i h = go (symbol_in n x) refl h
  where
    go : (o : Option SymbolNo) → symbol_in n x ≡ o → IsSomeAnd (option_map (λ (s : SymbolNo). s.0) o) (λ s. i ≤ arity_of t s) → (s : SymbolNo) × (symbol_in n x ≡ Some s) × (i ≤ arity_of t s.0)
    go None e h = absurd h
    go (Some s) e h = (s, e, h)

-- the class of an agent's port in an open net, for any number of its node
pub class_of_node : (t : Tables) (n : Parts) (o : OpenNet) (y x i : ℕ) (m : OpenNode) (s : SymbolNo) → slice_get o.nodes y ≡ Some m → IsNodeOf t n x m → symbol_in n x ≡ Some s → i ≤ arity_of t s.0 → class_in o y i ≡ class_of_symbol (signature_of t) ((net_of n).symbol x) i
class_of_node t n o y x i m s e is here h =
    let same : is.symbol ≡ s = some_same (symbol_in n x) is.symbol s is.here here in
    let arity : arity_of t is.symbol.0 ≡ arity_of t s.0 = ap (λ (z : SymbolNo). arity_of t z.0) same in
    let c = at_index m.class_of i (omega (arith, h, arity, is.ports.0)) in
    let by_node : nets.class_at (Some m) i ≡ get_or m.class_of i 0 = ap (λ (z : Node). elim z [ AgentNode y ↦ get_or m.class_of i 0 | ClassNode y c ↦ i ]) is.node in
    let class : class_at t s.0 i ≡ class_of_symbol (signature_of t) ((net_of n).symbol x) i = ap (λ (z : Option SymbolNo). class_of_symbol (signature_of t) (option_map (λ (s : SymbolNo). s.0) z) i) (sym here) in
    ap (λ z. nets.class_at z i) e ∙ by_node ∙ get_or_from_slice_get m.class_of i c.0 0 c.1 ∙ is.ports.1 i c.0 c.1 ∙ ap (λ (z : SymbolNo). class_at t z.0 i) same ∙ class

module _ (t : Tables) (n : Parts) (o : OpenNet) (numbered : AreNumbered t) (whole : IsWhole n) (over : IsOver t n) (opens : Opens t n o) where
  abbrev AtNet : ℕ × ℕ → Type 0
  AtNet u = IsPoint (signature_of t) (net_of n) (Port u.0 u.1)

  class_there : (u : ℕ × ℕ) → AtNet u → class_in o u.0 u.1 ≡ class_of_symbol (signature_of t) ((net_of n).symbol u.0) u.1
  class_there u h =
      let s = symbol_at t n u.0 u.1 h in
      let l = symbol_within n u.0 s.0 s.1 in
      let m = at_index o.nodes u.0 (omega (arith, l, opens.nodes.0)) in
      class_of_node t n o u.0 u.0 u.1 m.0 s.0 m.1 (opens.nodes.1 u.0 m.0 m.1) s.1 s.2

  -- a crossing circle of the net is one of its open net
  pub net_circle : CrossingCircle (graph_of (signature_of t) (net_of n)) → CrossingCircle (open_graph o)
  net_circle c =
      let net = is_net t n whole over in
      circle_mapped (graph_of (signature_of t) (net_of n)) (open_graph o) (λ u. u) AtNet (record {
        wire = λ u v e. (
            let w = whole.listed (coded_point (Port u.0 u.1)) (coded_point (Port v.0 v.1)) (map_is (partner_in n (coded_point (Port u.0 u.1))) (Port v.0 v.1) e) in
            (w.0, listed t n o numbered whole over opens w.0 (coded_point (Port u.0 u.1)) (coded_point (Port v.0 v.1)) w.1)
            );
        ends = λ u v e. (net.points (Port u.0 u.1) (Port v.0 v.1) e, net.points (Port v.0 v.1) (Port u.0 u.1) (net.back (Port u.0 u.1) (Port v.0 v.1) e));
        onto = λ u v a b e. e;
        apart = λ u v a b e. e;
        classes = λ u v a b e same. sym (class_there u a) ∙ same ∙ class_there v b;
      }) ℕ_discrete c
