-- The parts of a net after `interact`. Lafont 1990: the right member of the rule takes the place of the active pair. The numbers of the new
-- agents and of the wires are this project's own choice.
use Rattle.std.specs.Prelude.{◌≡◌, ◌≤◌, ◌<◌, ℕ, zero, suc, max, false, List, [], ◌∷◌, ◌++◌, length, map, Option, Some, None, count_by, is_some}
use Rattle.in_symbols.specs.Tables.{Tables}
use Rattle.in_net.specs.declared.nets.AgentNo.{AgentNo}
use Rattle.in_net.specs.declared.nets.Cell.{Cell}
use Rattle.in_net.specs.declared.nets.Point.{Point}
use Rattle.in_net.specs.declared.nets.Point.TheVariants.{Port}
use Rattle.in_net.specs.Built.{IsOver}
use Rattle.in_net.specs.Interactions.{IsStep, redex_at}
use Rattle.in_net.specs.Nets.{net_of, signature_of}
use Rattle.in_net.specs.Parts.{Parts, symbol_in, partner_in, wire_in}
use Rattle.in_net.specs.Rules.{RuleParts, IsRuleOver, auxiliary_types}
use Rattle.in_net.specs.TextNet.{ComesBefore, EndsInOrder}

-- the numbers without an agent, in their order: those of empty cells, and then all past the last cell
abbrev pub unused : List (Option Cell) → ℕ → ℕ
unused [] k = k
unused (Some c ∷ cs) k = suc (unused cs k)
unused (None ∷ cs) zero = zero
unused (None ∷ cs) (suc k) = suc (unused cs k)

-- how many numbers there are after: as many as before, or as many as the last of a given number of new agents needs
abbrev pub numbers_after : List (Option Cell) → ℕ → ℕ
numbers_after cs zero = length cs
numbers_after cs (suc k) = max (length cs) (suc (unused cs k))

-- net and rule are over these tables, the right member's free ends are the auxiliary places of the rule's two symbols, and the two agents
-- are an active pair of these symbols
pub record CanInteract (t : Tables) (n : Parts) (r : RuleParts) (a b : AgentNo) : Type 0 where
  pub net : IsOver t n
  pub rule : IsRuleOver t r
  pub declared : map (λ f. f.kind) r.member.free ≡ auxiliary_types t r.heads.0.0 ++ auxiliary_types t r.heads.1.0
  pub one : symbol_in n a.0 ≡ Some r.heads.0
  pub two : symbol_in n b.0 ≡ Some r.heads.1
  pub active : partner_in n (Port a 0) ≡ Some (Port b 0)

-- the most agents that a net may have in which two are to interact, so that numbers of agents and wires fit
abbrev pub most_agents : ℕ
most_agents = 400000000

-- .. over some tables, and the net isn't too large
abbrev pub MayInteract : Parts → RuleParts → AgentNo → AgentNo → Type 0
MayInteract n r a b = ((t : Tables) × CanInteract t n r a b) × (count_by is_some n.cells ≤ most_agents)

-- the wires are numbered by their first points
pub record AreNumberedByPoints (m : Parts) : Type 0 where
  pub turned : EndsInOrder m
  pub rising : (v w : ℕ) (p q x y : Point) → v < w → wire_in m v ≡ Some (p, q) → wire_in m w ≡ Some (x, y) → ComesBefore p x
  pub nowhere : map (λ w. w.place) m.wires ≡ map (λ w. record { from = 0; to = 0; line = 0; col = 0 }) m.wires

-- the net after the interaction, the new agents under any names that the old net doesn't have. It has the same free ends
pub record InteractsAs (t : Tables) (n : Parts) (r : RuleParts) (a b : AgentNo) (name : ℕ → ℕ) (m : Parts) : Type 0 where
  pub step : IsStep (signature_of t) (net_of n) (redex_at r a.0 b.0) name (net_of m)
  pub over : IsOver t m
  pub names : map (λ f. f.name) m.free ≡ map (λ f. f.name) n.free

-- the net after the interaction, for any tables that the two are over: the new agents have the least numbers that the old net doesn't have,
-- in the order of the right member. It has the same free ends, is no longer as built, and its wires are numbered anew
pub record Interacts (n : Parts) (r : RuleParts) (a b : AgentNo) (m : Parts) : Type 0 where
  pub step : (t : Tables) → CanInteract t n r a b → IsStep (signature_of t) (net_of n) (redex_at r a.0 b.0) (unused n.cells) (net_of m)
  pub over : (t : Tables) → CanInteract t n r a b → IsOver t m
  pub numbers : length m.cells ≡ numbers_after n.cells (length r.member.cells)
  pub names : map (λ f. f.name) m.free ≡ map (λ f. f.name) n.free
  pub wires : AreNumberedByPoints m
  pub places : m.places ≡ []
  pub built : m.built ≡ false
