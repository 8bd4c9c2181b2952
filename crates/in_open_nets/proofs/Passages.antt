-- Passages of one graph as those of another.
use Rattle.std.specs.Prelude.{ℕ}
use Rattle.in_base.specs.Graphs.{Passage, entered, left}

-- the passage from the target of its first port to that of its second one, at the node of the first
abbrev pub passage_to : {N M : Type 0} → (N × ℕ → M × ℕ) → Passage N → Passage M
passage_to f p = record { node = (f (entered p)).0; enter = (f (entered p)).1; leave = (f (left p)).1 }
