-- The graph of a net.
use Rattle.std.specs.Prelude.{◌≡◌, ℕ, Option, Some, None}
use Rattle.in_base.specs.Graphs.{Graph}
use Rattle.in_net.specs.Nets.{Port, Signature, Net}

abbrev pub class_of_symbol : Signature → Option ℕ → ℕ → ℕ
class_of_symbol sig None i = 0
class_of_symbol sig (Some s) i = sig.class_of s i

-- the agents, the classes of their ports, and the wires between them
abbrev pub graph_of : {A : Type 0} → Signature → Net A → Graph
graph_of {A} sig n = record {
  Node = A;
  class = λ x i. class_of_symbol sig (n.symbol x) i;
  Wire = λ u v. n.partner (Port u.0 u.1) ≡ Some (Port v.0 v.1);
}
