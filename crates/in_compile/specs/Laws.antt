-- Laws over templates.
use Rattle.std.specs.Prelude.{◌≡◌, ◌⊎◌, ℕ, List, MatchOption, map, Option, Some, slice_get}
use Rattle.in_base.specs.Lists.{Pairwise}
use Rattle.in_arena.specs.declared.content.CellClass.{CellClass}
use Rattle.in_symbols.specs.Tables.{Tables}
use Rattle.in_net.specs.declared.nets.Cell.{Cell}
use Rattle.in_net.specs.Nets.{IsNet, Point, Signature, net_of}
use Rattle.in_net.specs.Parts.{Parts}
use Rattle.in_net.specs.Rules.{RuleParts}
use Rattle.in_overwriting.specs.InTurn.{AreWiresWithin, in_two_parts}
use Rattle.in_overwriting.specs.MadeByWires.{AreOverEnds}
use Rattle.in_cover.specs.Cover.{IsPair, IsRuleFor}
use Rattle.in_check.specs.Checking.{IsAccepted}
use Rattle.in_check.specs.Programs.{Program}
use Rattle.in_compile.specs.declared.cells.Need.{Need}
use Rattle.in_compile.specs.Cells.{IsEnough, IsFirstShort, IsNeedOf}
use Rattle.in_compile.specs.Members.{MemberParts, IsMemberOf}
use Rattle.in_compile.specs.Templates.{TemplateParts, HasHeads, IsTemplateOf, TemplatesParts, template_at, IsLargestNeed, AreMostAgents, AreTemplatesOf}
use Rattle.in_compile.specs.Wires.{both_points, over_of, over_point, within_of}
use Rattle.in_syntax.specs.declared.text_limits.TextLimits.{TextLimits}

-- the two symbols have a rule, and its template is found for them; no other template has these heads
pub record HasOneTemplate (p : Program) (ts : TemplatesParts) (c d : ℕ) : Type 0 where
  pub number : ℕ
  pub is_rule : IsRuleFor p.rules number c d
  pub template : TemplateParts
  pub stands : slice_get ts.templates number ≡ Some template
  pub found : template_at ts c d ≡ Some template
  pub of_rule : IsTemplateOf p.tables is_rule.rule template
  pub alone : (k : ℕ) (other : TemplateParts) → slice_get ts.templates k ≡ Some other → HasHeads other c d → k ≡ number

abbrev pub EachPairHasOneTemplate : Type 0
EachPairHasOneTemplate = (limits : TextLimits) (text : List ℕ) (p : Program) (ts : TemplatesParts) (c d : ℕ) → IsAccepted limits text p → AreTemplatesOf p ts → IsPair p.tables c d → HasOneTemplate p ts c d

-- a template is determined by its rule
abbrev pub TemplatesAreOne : Type 0
TemplatesAreOne = (t : Tables) (r : RuleParts) (p q : TemplateParts) → IsTemplateOf t r p → IsTemplateOf t r q → p ≡ q

-- the same templates, by number and for each two symbols, and the same net. Their tables of numbers may differ in size
pub record AreAlike (ts us : TemplatesParts) : Type 0 where
  pub templates : ts.templates ≡ us.templates
  pub start : ts.start ≡ us.start
  pub found : (c d : ℕ) → template_at ts c d ≡ template_at us c d

-- the templates of a program are determined by it
abbrev pub TemplatesOfAreOne : Type 0
TemplatesOfAreOne = (p : Program) (ts us : TemplatesParts) → AreTemplatesOf p ts → AreTemplatesOf p us → AreAlike ts us

-- .. and the largest need by the templates
abbrev pub LargestNeedsAreOne : Type 0
LargestNeedsAreOne = (ts : List TemplateParts) (n m : Need) → IsLargestNeed ts n → IsLargestNeed ts m → n ≡ m

-- .. and the most agents of one
abbrev pub MostAgentsAreOne : Type 0
MostAgentsAreOne = (ts : List TemplateParts) (n m : ℕ) → AreMostAgents ts n → AreMostAgents ts m → n ≡ m

-- agents need one number of cells of each class
abbrev pub AgentNeedsAreOne : Type 0
AgentNeedsAreOne = (t : Tables) (agents : List (Option Cell)) (n m : Need) → IsNeedOf t agents n → IsNeedOf t agents m → n ≡ m

-- one class is the first that is short, or none is
abbrev pub FirstShortsAreOne : Type 0
FirstShortsAreOne = (need free : CellClass → ℕ) (x y : Option CellClass) → MatchOption x (IsEnough need free) (IsFirstShort need free) → MatchOption y (IsEnough need free) (IsFirstShort need free) → x ≡ y

-- ---- the wires that a member lists

-- the wires with boundary ends are the net's, each once, by its lowest end
abbrev pub WiresOverAreListed : Type 0
WiresOverAreListed = (t : Tables) (n : Parts) (m : MemberParts) → IsMemberOf t n m → AreOverEnds (net_of n) (map over_point (over_of m))

-- .. and the others are those between its agents
abbrev pub WiresWithinAreListed : Type 0
WiresWithinAreListed = (t : Tables) (n : Parts) (m : MemberParts) (sig : Signature) → IsMemberOf t n m → IsNet sig (net_of n) → AreWiresWithin (net_of n) (map both_points (within_of m))

abbrev pub IsOneOf : Point ℕ → Point ℕ × Point ℕ → Type 0
IsOneOf p w = (p ≡ w.0) ⊎ (p ≡ w.1)

abbrev pub ShareNone : Point ℕ × Point ℕ → Point ℕ × Point ℕ → Type 0
ShareNone v w = (p : Point ℕ) → IsOneOf p v → IsOneOf p w → ⊥

-- .. and no point is in two of them
abbrev pub WiresAreListedOnce : Type 0
WiresAreListedOnce = (t : Tables) (n : Parts) (m : MemberParts) (sig : Signature) → IsMemberOf t n m → IsNet sig (net_of n) → Pairwise ShareNone (in_two_parts (map over_point (over_of m)) (map both_points (within_of m)))
