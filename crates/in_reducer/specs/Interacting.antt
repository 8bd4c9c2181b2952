-- One interaction over cells: its conditions and its result.
use Rattle.std.specs.Prelude.{◌≡◌, ◌+◌, ◌≤◌, ℕ, List, length, take, slice_index_or}
use Rattle.in_arena.specs.Arenas.{ArenaView}
use Rattle.in_arena.specs.declared.content.CellNo.{CellNo}
use Rattle.in_arena.specs.declared.content.End.{End}
use Rattle.in_symbols.specs.Tables.{Tables}
use Rattle.in_net.specs.declared.nets.AgentNo.{AgentNo}
use Rattle.in_net.specs.Built.{IsOver}
use Rattle.in_net.specs.Interactions.{IsRedex, redex_at}
use Rattle.in_net.specs.Nets.{IsNet, net_of, signature_of}
use Rattle.in_net.specs.Parts.{Parts}
use Rattle.in_net.specs.Rules.{RuleParts}
use Rattle.in_cells.specs.Between.{Interaction, IsDone, AddsMade}
use Rattle.in_cells.specs.Shown.{IsShown}
use Rattle.in_compile.specs.Templates.{AreUnmarked, TemplateParts, IsTemplateOf}
use Rattle.in_overwriting.specs.Overwriting.{NoneLeadsBack}
use Rattle.in_typing.specs.TypedNets.{IsTypedNet}
use Rattle.in_reducer.specs.declared.sides.Pair.{Pair}
use Rattle.in_compile.specs.Putting.{IsPut}

-- a net, and two agents of it that interact by a rule
pub record PairSetting : Type 0 where
  pub net : Parts
  pub rule : RuleParts
  pub one : AgentNo
  pub two : AgentNo

-- the agents of a right member have the numbers of these cells
abbrev pub named : List CellNo → ℕ → ℕ
named ns k = (slice_index_or ns k (record { 0 = 0 })).0

abbrev pub interaction_of : PairSetting → List CellNo → Interaction
interaction_of s ns = record { net = s.net; rule = s.rule; one = s.one; two = s.two; name = named ns }

-- the cells show the net, of which the pair is one, and the template is that of its rule
pub record IsAbout (t : Tables) (s : PairSetting) (p : TemplateParts) (pair : Pair) (own : ℕ) (a : ArenaView) (ends : List End) : Type 0 where
  pub net : IsNet (signature_of t) (net_of s.net)
  pub over : IsOver t s.net
  pub typed : IsTypedNet (signature_of t) (net_of s.net)
  pub inside : IsNet (signature_of t) (net_of s.rule.member)
  pub typed_inside : IsTypedNet (signature_of t) (net_of s.rule.member)
  pub member_over : IsOver t s.rule.member
  pub redex : IsRedex (signature_of t) (net_of s.net) (redex_at s.rule s.one.0 s.two.0)
  pub template : IsTemplateOf t s.rule p
  pub apart : AreUnmarked t s.rule.heads → NoneLeadsBack (net_of s.net) (redex_at s.rule s.one.0 s.two.0)
  pub one : pair.one.0 ≡ s.one.0
  pub two : pair.other.0 ≡ s.two.0
  pub first_ends : pair.first_ends ≡ p.first_ends
  pub own_ends : own ≡ length s.net.free
  pub shown : IsShown a (take own ends) (net_of s.net)
  pub room : own + length p.member.joints + length p.member.joints ≤ length ends

-- the cells show the net after the interaction, and the pairs that it makes over boundary ends were added
abbrev pub IsInteracted : Tables → PairSetting → ℕ → List CellNo → ArenaView → List End → List (ℕ × ℕ) → List (ℕ × ℕ) → Type 0
IsInteracted t s own ns a ends old new = IsDone t (interaction_of s ns) own a ends × AddsMade t (interaction_of s ns) old new

-- .. and beside it is the right member, in these cells, which had no agents
abbrev pub HasBeside : Tables → PairSetting → TemplateParts → Pair → ℕ → List CellNo → ArenaView → List End → Type 0
HasBeside t s p pair own ns b ends = (a : ArenaView) × IsAbout t s p pair own a ends × IsPut p.member ns a b
