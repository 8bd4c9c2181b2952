-- How templates are found by their symbols: in a table with a place for each two. No contract of a public call speaks of it. This project's own
-- choice.
use Rattle.std.specs.Prelude.{◌≡◌, ℕ, ◌+◌, ◌*◌, ◌<◌, List, length, map, Option, Some, slice_get, slice_set}
use Rattle.std.specs.Arc.{arc_value}
use Rattle.std.specs.declared.sync.Arc.{Arc}
use Rattle.in_cover.specs.Table.{Cells, rule_at}
use Rattle.in_cover.specs.declared.table.RuleNo.{RuleNo}
use Rattle.in_compile.specs.Templates.{HasHeads, TemplateParts}

-- the templates that are shared
abbrev pub listed : {Z : Type 0} → List (Arc TemplateParts Z) → List TemplateParts
listed = map arc_value

-- one place has this template from now on
abbrev pub PutsAt : {Z : Type 0} → List (Option (Arc TemplateParts Z)) → ℕ → Arc TemplateParts Z → List (Option (Arc TemplateParts Z)) → Type 0
PutsAt {Z} old place template new = (a : Arc TemplateParts Z) × (arc_value a ≡ arc_value template) × (new ≡ slice_set old place (Some a))

-- the place of two symbols, in this order, has this template
abbrev pub HasAt : {Z : Type 0} → List (Option (Arc TemplateParts Z)) → ℕ → ℕ → ℕ → TemplateParts → Type 0
HasAt {Z} found size c d p = (a : Arc TemplateParts Z) × (slice_get found (c * size + d) ≡ Some (Some a)) × (arc_value a ≡ p)

-- the table of numbers has that of each template for its two symbols, in either order, and for no others; and the symbols' numbers are below `size`
pub record AreNumberedBySymbols (ts : List TemplateParts) (numbers : Cells) (size : ℕ) : Type 0 where
  pub one : (k : ℕ) (p : TemplateParts) → slice_get ts k ≡ Some p → rule_at numbers p.heads.0.0 p.heads.1.0 ≡ Some (record { 0 = k })
  pub other : (k : ℕ) (p : TemplateParts) → slice_get ts k ≡ Some p → rule_at numbers p.heads.1.0 p.heads.0.0 ≡ Some (record { 0 = k })
  pub small : (k : ℕ) (p : TemplateParts) → slice_get ts k ≡ Some p → (p.heads.0.0 < size) × (p.heads.1.0 < size)
  pub alone : (c d : ℕ) (k : RuleNo) (p : TemplateParts) → rule_at numbers c d ≡ Some k → slice_get ts k.0 ≡ Some p → HasHeads p c d

-- each of the first `count` templates is at the places of its two symbols
pub record AreFoundBySymbols {Z : Type 0} (ts : List TemplateParts) (size count : ℕ) (found : List (Option (Arc TemplateParts Z))) : Type 0 where
  pub long : length found ≡ size * size
  pub one : (k : ℕ) (p : TemplateParts) → k < count → slice_get ts k ≡ Some p → HasAt found size p.heads.0.0 p.heads.1.0 p
  pub other : (k : ℕ) (p : TemplateParts) → k < count → slice_get ts k ≡ Some p → HasAt found size p.heads.1.0 p.heads.0.0 p
