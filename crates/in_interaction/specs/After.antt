-- The agents and wires after an interaction, number by number. Words of the inner contracts of `interact`.
use Rattle.std.specs.Prelude.{◌≡◌, ◌≢◌, ◌⊎◌, ◌<◌, ◌≤◌, ◌+◌, ◌-◌, ℕ, List, length, Option, Some, option_and_then, slice_get}
use Rattle.in_interaction.specs.declared.interacting.After.{After}
use Rattle.in_net.specs.declared.nets.AgentNo.{AgentNo}
use Rattle.in_net.specs.declared.nets.Cell.{Cell}
use Rattle.in_net.specs.declared.nets.FreeEnd.{FreeEnd}
use Rattle.in_net.specs.declared.nets.Point.{Point}
use Rattle.in_interaction.specs.Following.{SiteParts, IsSite, IsPartnerAfter}
use Rattle.in_interaction.specs.Interacting.{unused, numbers_after}
use Rattle.in_interaction.specs.Listing.{AreEndsOf, AreListed, unlisted}
use Rattle.in_net.specs.Nets as nets
use Rattle.in_net.specs.Parts.{Parts, cell_in}
use Rattle.in_net.specs.Rules.{RuleParts}

-- the ends of this agent lead to the ends of the paths from its ports
abbrev pub AreEndsAfter : SiteParts → ℕ → List Point → Type 0
AreEndsAfter s y ends = (i : ℕ) (q : Point) → slice_get ends i ≡ Some q → IsPartnerAfter s (nets.Port y i) q

-- an agent under this number, with the symbol and the number of places of the other cell
pub record IsAgentAfter (s : SiteParts) (y : ℕ) (c d : Cell) : Type 0 where
  pub symbol : d.symbol ≡ c.symbol
  pub many : length d.ends ≡ length c.ends
  pub ends : AreEndsAfter s y d.ends

-- an agent that stays has this number
pub record StaysAt (s : SiteParts) (y : ℕ) (c : Cell) : Type 0 where
  pub there : cell_in s.net y ≡ Some c
  pub one : y ≢ s.one.0
  pub two : y ≢ s.two.0

-- a new agent has this number
pub record IsNewAt (s : SiteParts) (y : ℕ) (c : Cell) : Type 0 where
  pub agent : ℕ
  pub within : agent < length s.names
  pub name : unused s.net.cells agent ≡ y
  pub there : cell_in s.rule.member agent ≡ Some c

-- the cell of that number after the interaction: that of an agent that stays, or of a new one, and of no other
pub record IsCellAfter (s : SiteParts) (y : ℕ) (o : Option Cell) : Type 0 where
  pub stays : (c : Cell) → StaysAt s y c → (d : Cell) × (o ≡ Some d) × IsAgentAfter s y c d
  pub fresh : (c : Cell) → IsNewAt s y c → (d : Cell) × (o ≡ Some d) × IsAgentAfter s y c d
  pub only : (d : Cell) → o ≡ Some d → (c : Cell) × (StaysAt s y c ⊎ IsNewAt s y c) × IsAgentAfter s y c d

abbrev pub cell_at : List (Option Cell) → ℕ → Option Cell
cell_at cs y = option_and_then (λ c. c) (slice_get cs y)

abbrev pub AreCellsAfter : SiteParts → List (Option Cell) → Type 0
AreCellsAfter s cs = (y : ℕ) → IsCellAfter s y (cell_at cs y)

-- ---- free ends

-- these are the partners of the free ends after
pub record AreOuterEnds (s : SiteParts) (ends : List Point) : Type 0 where
  pub many : length ends ≡ length s.net.free
  pub each : (k : ℕ) (q : Point) → slice_get ends k ≡ Some q → IsPartnerAfter s (nets.Free k) q

-- the agents, the partners of the free ends, and the wires between them, listed by their first points
pub record IsAfter (s : SiteParts) (a : After) : Type 0 where
  pub count : length a.cells ≡ numbers_after s.net.cells (length s.rule.member.cells)
  pub cells : AreCellsAfter s a.cells
  pub ends : AreOuterEnds s a.ends
  pub listed : (free : List FreeEnd) → AreEndsOf a.ends free → AreListed (unlisted a.cells free) (λ p. Unit {0}) a.wires

-- .. after these two interact: their site has `first` auxiliary places of the first one, and these numbers for the new agents
pub record IsAfterPair (n : Parts) (r : RuleParts) (a b : AgentNo) (x : After) : Type 0 where
  pub first : ℕ
  pub names : List AgentNo
  pub site : IsSite (record { net = n; rule = r; one = a; two = b; first = first; names = names })
  pub after : IsAfter (record { net = n; rule = r; one = a; two = b; first = first; names = names }) x

-- a free end keeps its name and type, and leads to the end of its path
pub record IsFreeAfter (s : SiteParts) (k : ℕ) (f g : FreeEnd) : Type 0 where
  pub name : g.name ≡ f.name
  pub kind : g.kind ≡ f.kind
  pub end : IsPartnerAfter s (nets.Free k) g.end

-- .. one by one
pub record AreFreeAfter (s : SiteParts) (free : List FreeEnd) : Type 0 where
  pub many : length free ≡ length s.net.free
  pub each : (k : ℕ) (f g : FreeEnd) → slice_get s.net.free k ≡ Some f → slice_get free k ≡ Some g → IsFreeAfter s k f g

-- ---- unused numbers

-- the first `count` numbers without an agent are these
abbrev pub AreUnused : List (Option Cell) → ℕ → List AgentNo → Type 0
AreUnused cs count names = (length names ≡ count) × ((k : ℕ) → k < count → slice_get names k ≡ Some (record { 0 = unused cs k }))

-- they are the first numbers without an agent
abbrev pub AreFirstUnused : List (Option Cell) → List AgentNo → Type 0
AreFirstUnused cs found = (k : ℕ) → k < length found → slice_get found k ≡ Some (record { 0 = unused cs k })

-- they are no more than `count`, and the rest of `count` numbers is past the last cell
pub record AreEmptyNumbers (cs : List (Option Cell)) (count : ℕ) (found : List AgentNo) : Type 0 where
  pub few : length found ≤ count
  pub names : AreFirstUnused cs found
  pub rest : (k : ℕ) → length found ≤ k → k < count → unused cs k ≡ length cs + (k - length found)
