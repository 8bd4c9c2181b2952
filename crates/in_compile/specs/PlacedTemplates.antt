-- Placed templates: the right member of a rule in leased cells, with its template.
use Rattle.in_compile.specs.Placing.{PlacedParts, IsPlacedMember}
use Rattle.in_compile.specs.Templates.{TemplateParts}

pub record PlacedTemplateParts : Type 0 where
  pub template : TemplateParts
  pub placed : PlacedParts

-- the placed member is the template's right member
abbrev pub IsOfTemplate : PlacedTemplateParts → Type 0
IsOfTemplate p = IsPlacedMember p.template.member p.placed
