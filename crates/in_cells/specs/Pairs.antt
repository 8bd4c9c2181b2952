-- The pair of two principal ports that will be joined.
use Rattle.std.specs.Prelude.{◌≡◌, ◌⊎◌, ◌++◌, ◌∷◌, [], ℕ, List, Some}
use Rattle.in_arena.specs.Arenas.{ArenaView, state_at}
use Rattle.in_arena.specs.States.{IsLive, word_of}
use Rattle.in_arena.specs.declared.content.End.{End}
use Rattle.in_arena.specs.declared.content.End.TheVariants.{Cell, Free}
use Rattle.in_interaction.specs.Queues.{numbers_of}
use Rattle.in_net.specs.declared.nets.AgentNo.{AgentNo}
use Rattle.in_net.specs.ActivePairs.{IsOrdered}
use Rattle.in_symbols.specs.Tables.{Tables}
use Rattle.in_syntax.specs.declared.symbol_no.SymbolNo.{SymbolNo}

-- if the end is at a cell, the cell is live
abbrev pub IsAtLive : ArenaView → End → Type 0
IsAtLive a (Cell c i) = IsLive (state_at a c.0)
IsAtLive a (Free k) = Unit {0}

-- the end is the principal port of the cell of this number
abbrev pub IsPrincipal : ℕ → End → Type 0
IsPrincipal y x = x ≡ Cell (record { 0 = y }) 0

-- the two are principal ports of agents, which are these in their order
pub record IsPairOf (t : Tables) (a : ArenaView) (x y : End) (q : AgentNo × AgentNo) : Type 0 where
  pub one : AgentNo × SymbolNo
  pub two : AgentNo × SymbolNo
  pub at_one : IsPrincipal one.0.0 x
  pub at_two : IsPrincipal two.0.0 y
  pub symbol_one : word_of (state_at a one.0.0) ≡ Some one.1.0
  pub symbol_two : word_of (state_at a two.0.0) ≡ Some two.1.0
  pub order : IsOrdered t one two q

-- one of the two ends is no principal port
abbrev pub IsNoPair : End → End → Type 0
IsNoPair x y = (c d : ℕ) → IsPrincipal c x → IsPrincipal d y → ⊥

-- the pair of the two was added, if there is one
abbrev pub AddsPair : Tables → ArenaView → End → End → List (ℕ × ℕ) → List (ℕ × ℕ) → Type 0
AddsPair t a x y old new = (IsNoPair x y × (new ≡ old)) ⊎ ((q : AgentNo × AgentNo) × IsPairOf t a x y q × (new ≡ old ++ numbers_of q ∷ []))
