-- The active wires of a net are the queue in which its reduction begins.
use Rattle.std.specs.Prelude.{ℕ, List, [], ◌∷◌}
use Rattle.in_symbols.specs.Tables.{Tables}
use Rattle.in_net.specs.Parts.{Parts, IsWhole}
use Rattle.in_interaction.specs.Queues.{IsFirstQueue, JoinsPair}
use Rattle.in_export.specs.Parts.{active_wires}

-- the pair at each place of the list is on the wire at this place
abbrev pub AreOnWires : Parts → List ℕ → List (ℕ × ℕ) → Type 0
AreOnWires n [] [] = Unit {0}
AreOnWires n [] (q ∷ qs) = ⊥
AreOnWires n (w ∷ ws) [] = ⊥
AreOnWires n (w ∷ ws) (q ∷ qs) = JoinsPair n w q × AreOnWires n ws qs

-- the active pairs of a net, in the order of the queue at the start of a run, are those of the active wires: no more and no
-- fewer, and in this order. The same holds for the pairs of a right member itself
abbrev pub ActiveWiresAreTheQueue : Type 0
ActiveWiresAreTheQueue = (t : Tables) (n : Parts) (queue : List (ℕ × ℕ)) → IsWhole n → IsFirstQueue t n queue → AreOnWires n (active_wires n) queue
