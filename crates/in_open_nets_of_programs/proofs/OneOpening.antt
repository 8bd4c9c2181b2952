-- A net has one open net, and so has a rule.
use Rattle.std.proofs.Common.{◌≡◌, ℕ, suc, ◌+◌, ◌≤◌, List, [], ◌∷◌, length, Some, slice_get, refl, sym, ◌∙◌, ap, arith}
use Rattle.in_syntax.specs.declared.places.Place.{Place}
use Rattle.in_syntax.specs.declared.symbol_no.SymbolNo.{SymbolNo}
use Rattle.in_symbols.specs.Tables.{Tables, arity_of, class_at, classes_of}
use Rattle.in_net.specs.Parts.{Parts}
use Rattle.in_net.specs.Rules.{RuleParts}
use Rattle.in_open_nets.specs.declared.open_nets.Node.TheVariants.{AgentNode}
use Rattle.in_open_nets.specs.declared.open_nets.OpenNode.{OpenNode}
use Rattle.in_open_nets.specs.OpenNets.{OpenNet}
use Rattle.in_open_nets_of_programs.specs.Opening.{IsNodeOf, Opens}
use Rattle.in_open_nets_of_programs.specs.OpeningRules.{IsClassNodeOf, IsRuleNode, OpensRule, agents_before}
use Rattle.in_open_nets_of_programs.proofs.RulePoints.{NodeKind, of_first, of_second, of_agent, kind_of}
use Rattle.std.proofs.lemmas.Option.{same_Some, slice_get_within}

pub by_elements : {X : Type 0} (xs ys : List X) → length xs ≡ length ys → ((i : ℕ) (x y : X) → slice_get xs i ≡ Some x → slice_get ys i ≡ Some y → x ≡ y) → xs ≡ ys
by_elements [] [] e h = refl
by_elements [] (y ∷ ys) e h = absurd (omega (arith, e))
by_elements (x ∷ xs) [] e h = absurd (omega (arith, e))
by_elements (x ∷ xs) (y ∷ ys) e h =
    let one : x ≡ y = h 0 x y refl refl in
    let rest : xs ≡ ys = by_elements xs ys (omega (arith, e)) (λ i a b is at. h (suc i) a b is at) in
    cc

node_is : (m k : OpenNode) → m.node ≡ k.node → m.place ≡ k.place → m.classes ≡ k.classes → m.class_of ≡ k.class_of → m ≡ k
node_is m k a b c d =
    ap (λ z. let r : OpenNode = record { node = z; place = m.place; classes = m.classes; class_of = m.class_of } in r) a
    ∙ ap (λ z. let r : OpenNode = record { node = k.node; place = z; classes = m.classes; class_of = m.class_of } in r) b
    ∙ ap (λ z. let r : OpenNode = record { node = k.node; place = k.place; classes = z; class_of = m.class_of } in r) c
    ∙ ap (λ z. let r : OpenNode = record { node = k.node; place = k.place; classes = k.classes; class_of = z } in r) d

one_node : (t : Tables) (n : Parts) (x : ℕ) (m k : OpenNode) → IsNodeOf t n x m → IsNodeOf t n x k → m ≡ k
one_node t n x m k g h =
    let symbol : g.symbol ≡ h.symbol = same_Some g.symbol h.symbol (sym g.here ∙ h.here) in
    node_is m k (g.node ∙ ap AgentNode symbol ∙ sym h.node) (same_Some m.place k.place (sym g.place ∙ h.place)) (g.classes ∙ ap (λ (s : SymbolNo). classes_of t s.0) symbol ∙ sym h.classes)
    (by_elements m.class_of k.class_of (g.ports.0 ∙ ap (λ (s : SymbolNo). arity_of t s.0 + 1) symbol ∙ sym h.ports.0)
    (λ i c d is at. g.ports.1 i c is ∙ ap (λ (s : SymbolNo). class_at t s.0 i) symbol ∙ sym (h.ports.1 i d at)))

one_class : (t : Tables) (s : SymbolNo) (p : Place) (c : ℕ) (m k : OpenNode) → IsClassNodeOf t s p c m → IsClassNodeOf t s p c k → m ≡ k
one_class t s p c m k g h =
    node_is m k (g.node ∙ sym h.node) (g.place_is ∙ sym h.place_is) (g.classes ∙ sym h.classes) (by_elements m.class_of k.class_of (g.ports ∙ sym h.ports) (λ i c d is at. g.numbers i c is ∙ sym (h.numbers i d at)))

open_is : (o u : OpenNet) → o.nodes ≡ u.nodes → o.wires ≡ u.wires → o.free ≡ u.free → o ≡ u
open_is o u a b c =
    ap (λ z. let r : OpenNet = record { nodes = z; wires = o.wires; free = o.free } in r) a ∙ ap (λ z. let r : OpenNet = record { nodes = u.nodes; wires = z; free = o.free } in r) b
    ∙ ap (λ z. let r : OpenNet = record { nodes = u.nodes; wires = u.wires; free = z } in r) c

pub one_open_net : (t : Tables) (n : Parts) (o u : OpenNet) → Opens t n o → Opens t n u → o ≡ u
one_open_net t n o u g h =
    open_is o u (by_elements o.nodes u.nodes (g.nodes.0 ∙ sym h.nodes.0) (λ i m k is at. one_node t n i m k (g.nodes.1 i m is) (h.nodes.1 i k at)))
    (by_elements o.wires u.wires (g.wires.0 ∙ sym h.wires.0) (λ i v w is at. same_Some v w (sym (g.wires.1 i v is) ∙ h.wires.1 i w at))) (g.free ∙ sym h.free)

one_rule_node : (t : Tables) (p : RuleParts) (n : ℕ) (m k : OpenNode) → NodeKind t p n → IsRuleNode t p n m → IsRuleNode t p n k → m ≡ k
one_rule_node t p n m k (of_first lt) g h = one_class t p.written.0 p.head_places.0 (n + 1) m k (g.first lt) (h.first lt)
one_rule_node t p n m k (of_second c lt is) g h = one_class t p.written.1 p.head_places.1 (c + 1) m k (g.second c lt is) (h.second c lt is)
one_rule_node t p n m k (of_agent x lt is) g h = one_node t p.member x m k (g.agent x lt is) (h.agent x lt is)

pub one_open_rule : (t : Tables) (p : RuleParts) (o u : OpenNet) → agents_before p ≤ length p.member.cells → OpensRule t p o → OpensRule t p u → o ≡ u
one_open_rule t p o u few g h =
    open_is o u
    (by_elements o.nodes u.nodes (g.nodes.0 ∙ sym h.nodes.0)
    (λ i m k is at. let lt = slice_get_within o.nodes i m is in let e = g.nodes.0 in one_rule_node t p i m k (kind_of t p i few (omega (arith, lt, e))) (g.nodes.1 i m is) (h.nodes.1 i k at)))
    (by_elements o.wires u.wires (g.wires.0 ∙ sym h.wires.0) (λ i v w is at. same_Some v w (sym (g.wires.1 i v is) ∙ h.wires.1 i w at))) (g.free ∙ sym h.free)
