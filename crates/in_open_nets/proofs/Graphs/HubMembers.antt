-- The numbers and the edges of a class graph, member by member.
use Rattle.std.proofs.Common.{◌≡◌, ◌<◌, ◌≤◌, ◌+◌, ◌∙◌, ℕ, zero, suc, Bool, List, length, get_or, add-one, sym, subst, inl, inr, arith}
use Rattle.std.proofs.lemmas.Bool.{cases_eq}
use Rattle.in_open_nets.specs.declared.class_graphs.HubNumbers.{HubNumbers}
use Rattle.in_open_nets.specs.declared.open_nets.OpenPoint.TheVariants.{Port}
use Rattle.in_open_nets.specs.ClassEdges.{AreEdges, AreHubEdges, HaveNumbers}
use Rattle.in_open_nets.specs.Constructions.{IsIn}
use Rattle.in_open_nets.specs.OpenNets.{OpenNet, IsOpenNet, IsWire}
use Rattle.in_open_nets.specs.Members.{nodes_in}
use Rattle.in_open_nets.specs.Stuck.{IsListed, ports_of}
use Rattle.in_open_nets.proofs.Graphs.ClassEdges.{edges_up, numbers_up, wires_up}
use Rattle.in_open_nets.proofs.PartsOf.Members.{next_in, none_after, none_between, past, past_below, past_next}
use Rattle.in_open_nets.proofs.Reached.Reaching.{in_length}
use Rattle.in_open_nets.proofs.Splits.Search.{in_ports}

module _ (o : OpenNet) (part : List Bool) (size : length part ≡ length o.nodes) (ns : List ℕ) (l : IsListed (nodes_in part) ns) (hubs : List HubNumbers) where
  past_most : (i : ℕ) → i ≤ length ns → past ns i ≤ length o.nodes
  past_most zero b = omega arith
  past_most (suc i) b = let a = in_length part (get_or ns i 0) (next_in (nodes_in part) ns l i (omega arith)) in omega arith

  module _ (i : ℕ) (b : i < length ns) where
    abbrev next : ℕ
    next = get_or ns i 0

    between : (m : ℕ) → m < next → IsIn m (nodes_in part) → m < past ns i
    between m k h = none_between (nodes_in part) ns l i m b h k

    after : next + 1 ≡ past ns (i + 1)
    after = add-one next ∙ sym (past_next ns i)

    pub numbers_next : (count : ℕ) → HaveNumbers o part (past ns i) hubs count → HaveNumbers o part next hubs count
    numbers_next count n = numbers_up o part (past ns i) next (past_below 0 ns i l.rises b) between hubs count n

    pub numbers_past : (count : ℕ) → HaveNumbers o part (next + 1) hubs count → HaveNumbers o part (past ns (i + 1)) hubs count
    numbers_past count n = subst (λ z. HaveNumbers o part z hubs count) after n

    pub edges_next : (edges : List (ℕ × ℕ)) → AreHubEdges o part (past ns i) hubs edges → AreHubEdges o part next hubs edges
    edges_next edges a = edges_up o part (past ns i) next (past_below 0 ns i l.rises b) between hubs edges a

    pub edges_past : (edges : List (ℕ × ℕ)) → AreHubEdges o part (next + 1) hubs edges → AreHubEdges o part (past ns (i + 1)) hubs edges
    edges_past edges a = subst (λ z. AreHubEdges o part z hubs edges) after a

    pub wires_next : (edges : List (ℕ × ℕ)) → AreEdges o part (past ns i) 0 hubs edges → AreEdges o part next 0 hubs edges
    wires_next edges a = wires_up o part hubs (past ns i) 0 next 0 edges a (λ n k w m j g here x. elim g [ inl u ↦ inl (between n u here) | inr u ↦ let v = u.1 in absurd (omega arith) ])

    pub wires_past : (edges : List (ℕ × ℕ)) → AreEdges o part (next + 1) 0 hubs edges → AreEdges o part (past ns (i + 1)) 0 hubs edges
    wires_past edges a = subst (λ z. AreEdges o part z 0 hubs edges) after a

  module _ (i : ℕ) (b : i ≡ length ns) where
    none_more : (m : ℕ) → m < length o.nodes → IsIn m (nodes_in part) → m < past ns i
    none_more m k h = subst (λ z. m < past ns z) (sym b) (none_after (nodes_in part) ns l m h)

    pub numbers_all : (count : ℕ) → HaveNumbers o part (past ns i) hubs count → HaveNumbers o part (length o.nodes) hubs count
    numbers_all count n = numbers_up o part (past ns i) (length o.nodes) (past_most i (omega arith)) none_more hubs count n

    pub edges_all : (edges : List (ℕ × ℕ)) → AreHubEdges o part (past ns i) hubs edges → AreHubEdges o part (length o.nodes) hubs edges
    edges_all edges a = edges_up o part (past ns i) (length o.nodes) (past_most i (omega arith)) none_more hubs edges a

    pub wires_all : (edges : List (ℕ × ℕ)) → AreEdges o part (past ns i) 0 hubs edges → AreEdges o part (length o.nodes) 0 hubs edges
    wires_all edges a = wires_up o part hubs (past ns i) 0 (length o.nodes) 0 edges a (λ n k w m j g here x. elim g [ inl u ↦ inl (none_more n u here) | inr u ↦ let v = u.1 in absurd (omega arith) ])

-- all ports of a node are past
pub wires_node : (o : OpenNet) → IsOpenNet o → (part : List Bool) (hubs : List HubNumbers) (b k : ℕ) → k ≡ ports_of o b → (edges : List (ℕ × ℕ)) → AreEdges o part b k hubs edges → AreEdges o part (b + 1) 0 hubs edges
wires_node o net part hubs b k e edges a = wires_up o part hubs b k (b + 1) 0 edges a (λ n i w m j g here x. elim (cases_eq n b) [
  | inl same ↦ let p = in_ports o net w b i (Port m j) (subst (λ z. IsWire o w (Port z i) (Port m j)) same x) in inr (same, omega arith)
  | inr d ↦ elim g [ inl u ↦ inl (omega arith) | inr u ↦ let v = u.1 in absurd (omega arith) ]
])
