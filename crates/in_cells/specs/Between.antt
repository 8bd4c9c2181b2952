-- An interaction in cells: boundary ends are joined from the highest to the lowest. That order, and the places of the sides, are this
-- project's own choice.
use Rattle.std.specs.Prelude.{◌≡◌, ◌++◌, ℕ, List, length, map, reverse, take}
use Rattle.in_arena.specs.Arenas.{ArenaView}
use Rattle.in_arena.specs.declared.content.End.{End}
use Rattle.in_interaction.specs.Made.{AreMadeOverEnds}
use Rattle.in_interaction.specs.Queues.{numbers_of}
use Rattle.in_net.specs.declared.nets.AgentNo.{AgentNo}
use Rattle.in_net.specs.Interactions.{Redex, IsStep, redex_at}
use Rattle.in_net.specs.Nets.{Net, net_of, signature_of}
use Rattle.in_net.specs.Parts.{Parts}
use Rattle.in_net.specs.Rules.{RuleParts}
use Rattle.in_symbols.specs.Tables.{Tables}
use Rattle.in_gluing.specs.AsGluing.{ends_from}
use Rattle.in_gluing.specs.EndByEnd.{HasJoined, IsTakenApart}
use Rattle.in_gluing.specs.MadeByJoining.{CanStepAt, AreMadeSoFar}
use Rattle.in_cells.specs.Shown.{IsShown, IsShownUpTo}

-- a net, two agents of it that interact, their rule, and the names of the new agents
pub record Interaction : Type 0 where
  pub net : Parts
  pub rule : RuleParts
  pub one : AgentNo
  pub two : AgentNo
  pub name : ℕ → ℕ

abbrev pub before : Interaction → Net ℕ
before x = net_of x.net

abbrev pub redex_of : Interaction → Redex ℕ ℕ
redex_of x = redex_at x.rule x.one.0 x.two.0

-- the interaction is possible; its net has `own` free ends, and its pair `many` boundary ends
pub record IsWith (t : Tables) (x : Interaction) (own many : ℕ) : Type 0 where
  pub can : CanStepAt t x.net x.rule x.one x.two x.name
  pub own_ends : own ≡ length (before x).free
  pub boundary : many ≡ length (redex_of x).member.free

-- the cells and the list of ends show its net taken apart, without a joined boundary end
pub record IsReadyToJoin (t : Tables) (x : Interaction) (own many : ℕ) (a : ArenaView) (ends : List End) : Type 0 where
  pub given : IsWith t x own many
  pub net : Net ℕ
  pub apart : IsTakenApart (signature_of t) (before x) (redex_of x) x.name net
  pub free : net.free ≡ (before x).free
  pub shown : IsShownUpTo own many many a ends net

-- the boundary ends from this one on are joined
pub record IsBetween (t : Tables) (x : Interaction) (own many e : ℕ) (a : ArenaView) (ends : List End) : Type 0 where
  pub given : IsWith t x own many
  pub net : Net ℕ
  pub joined : HasJoined (signature_of t) (before x) (redex_of x) x.name (ends_from (redex_of x) e) net
  pub free : net.free ≡ (before x).free
  pub shown : IsShownUpTo own many e a ends net

-- the cells show the net after the interaction; the first ends of the list are for the net's free ends
pub record IsDone (t : Tables) (x : Interaction) (own : ℕ) (a : ArenaView) (ends : List End) : Type 0 where
  pub after : Net ℕ
  pub step : IsStep (signature_of t) (before x) (redex_of x) x.name after
  pub shown : IsShown a (take own ends) after

-- the pairs that were made at boundary ends from this one on were added, in the order in which they were made
abbrev pub HasMade : Tables → Interaction → ℕ → List (ℕ × ℕ) → List (ℕ × ℕ) → Type 0
HasMade t x e old new = (qs : List (AgentNo × AgentNo)) × (new ≡ old ++ map numbers_of qs) × AreMadeSoFar t x.net x.rule x.one x.two x.name e qs

-- the pairs that it makes over boundary ends were added, the last one first
abbrev pub AddsMade : Tables → Interaction → List (ℕ × ℕ) → List (ℕ × ℕ) → Type 0
AddsMade t x old new = (qs : List (AgentNo × AgentNo)) × (new ≡ old ++ map numbers_of (reverse qs)) × AreMadeOverEnds t x.net x.rule x.one x.two x.name qs

-- the added pairs are determined
abbrev pub PairsAreAddedOnce : Type 0
PairsAreAddedOnce = (t : Tables) (x : Interaction) (old new other : List (ℕ × ℕ)) → AddsMade t x old new → AddsMade t x old other → new ≡ other
