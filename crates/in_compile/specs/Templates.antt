-- Templates: a rule's right member, with the data that join it in the place of an active pair.
use Rattle.std.specs.Prelude.{◌≡◌, ◌⊎◌, ◌↔◌, ◌≤◌, ℕ, Bool, true, IsTrue, List, length, map, Option, Some, option_and_then, slice_get}
use Rattle.in_arena.specs.declared.content.CellClass.{CellClass}
use Rattle.in_syntax.specs.declared.symbol_no.SymbolNo.{SymbolNo}
use Rattle.in_symbols.specs.Tables.{Tables, arity_of}
use Rattle.in_net.specs.Nets.{signature_of}
use Rattle.in_net.specs.Rules.{RuleParts}
use Rattle.in_overwriting.specs.Flag.{IsMarkedSymbol}
use Rattle.in_cover.specs.Cover.{IsTableOf}
use Rattle.in_cover.specs.Table as table
use Rattle.in_check.specs.Programs.{Program}
use Rattle.in_compile.specs.declared.cells.Need.{Need}
use Rattle.in_compile.specs.Cells.{count_of, is_of}
use Rattle.in_compile.specs.Members.{MemberParts, IsMemberOf}

-- ---- a template

-- the rule's two symbols; the classes of their agents' cells; the number of boundary ends that are places of the first one, which come first; whether neither symbol is marked; for each
-- boundary end, whether it is an output of the pair; and the right member
pub record TemplateParts : Type 0 where
  pub heads : SymbolNo × SymbolNo
  pub classes : CellClass × CellClass
  pub first_ends : ℕ
  pub unmarked : Bool
  pub outputs : List Bool
  pub member : MemberParts

-- neither of the two symbols is marked
abbrev pub AreUnmarked : Tables → SymbolNo × SymbolNo → Type 0
AreUnmarked t heads = (IsMarkedSymbol (signature_of t) heads.0.0 → ⊥) × (IsMarkedSymbol (signature_of t) heads.1.0 → ⊥)

-- the template is the rule's, with its right member
pub record IsTemplateOf (t : Tables) (r : RuleParts) (p : TemplateParts) : Type 0 where
  pub heads : p.heads ≡ r.heads
  pub classes : (is_of t p.classes.0 r.heads.0.0 ≡ true) × (is_of t p.classes.1 r.heads.1.0 ≡ true)
  pub first_ends : p.first_ends ≡ arity_of t r.heads.0.0
  pub unmarked : IsTrue p.unmarked ↔ AreUnmarked t r.heads
  pub outputs : p.outputs ≡ map (λ f. f.kind.output) r.member.free
  pub member : IsMemberOf t r.member p.member

-- ---- the templates of a program

-- the templates of the rules by number, the number of the rule for each two symbols, and the initial net
pub record TemplatesParts : Type 0 where
  pub templates : List TemplateParts
  pub numbers : table.Cells
  pub start : MemberParts

-- the template for two symbols, in either order
abbrev pub template_at : TemplatesParts → ℕ → ℕ → Option TemplateParts
template_at ts c d = option_and_then (λ k. slice_get ts.templates k.0) (table.rule_at ts.numbers c d)

-- the template's two symbols are these, in either order
abbrev pub HasHeads : TemplateParts → ℕ → ℕ → Type 0
HasHeads p c d = ((p.heads.0.0 ≡ c) × (p.heads.1.0 ≡ d)) ⊎ ((p.heads.0.0 ≡ d) × (p.heads.1.0 ≡ c))

-- each of the first `count` rules has its template
pub record HaveFirst (t : Tables) (rules : List RuleParts) (count : ℕ) (templates : List TemplateParts) : Type 0 where
  pub count_is : length templates ≡ count
  pub each : (k : ℕ) (r : RuleParts) (p : TemplateParts) → slice_get rules k ≡ Some r → slice_get templates k ≡ Some p → IsTemplateOf t r p

-- each rule has its template
abbrev pub HaveTemplates : Tables → List RuleParts → List TemplateParts → Type 0
HaveTemplates t rules templates = HaveFirst t rules (length rules) templates

-- some template has `most`, counted in this way, and none has more; without templates it is 0
abbrev pub IsMost : List TemplateParts → (TemplateParts → ℕ) → ℕ → Type 0
IsMost templates count most = ((k : ℕ) (p : TemplateParts) → slice_get templates k ≡ Some p → count p ≤ most)
    × (((length templates ≡ 0) × (most ≡ 0)) ⊎ ((k : ℕ) × (p : TemplateParts) × (slice_get templates k ≡ Some p) × (count p ≡ most)))

-- the cells of this class that a template needs
abbrev pub cells_needed : CellClass → TemplateParts → ℕ
cells_needed c p = count_of p.member.need c

abbrev pub IsLargestNeed : List TemplateParts → Need → Type 0
IsLargestNeed templates need = (c : CellClass) → IsMost templates (cells_needed c) (count_of need c)

-- the agents of a template
abbrev pub agents_of : TemplateParts → ℕ
agents_of p = length p.member.agents

-- the most agents that a template has
abbrev pub AreMostAgents : List TemplateParts → ℕ → Type 0
AreMostAgents templates most = IsMost templates agents_of most

-- the templates of the program's rules, for two symbols exactly when it has a rule for them, and its net
pub record AreTemplatesOf (p : Program) (ts : TemplatesParts) : Type 0 where
  pub templates : HaveTemplates p.tables p.rules ts.templates
  pub numbers : IsTableOf p.tables p.rules ts.numbers
  pub start : IsMemberOf p.tables p.net ts.start
