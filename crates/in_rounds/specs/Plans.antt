-- The jobs of a round. This project's own choice.
use Rattle.std.specs.Prelude.{◌≡◌, ℕ, List, Some, IsSome, slice_get}
use Rattle.in_syntax.specs.declared.symbol_no.SymbolNo.{SymbolNo}
use Rattle.in_compile.specs.Templates.{TemplatesParts, template_at}

-- the templates, and the symbols of each job's pair
pub record PlanParts : Type 0 where
  pub templates : TemplatesParts
  pub jobs : List (SymbolNo × SymbolNo)

-- each job has a template
abbrev pub IsPlan : PlanParts → Type 0
IsPlan p = (k : ℕ) (h : SymbolNo × SymbolNo) → slice_get p.jobs k ≡ Some h → IsSome (template_at p.templates h.0.0 h.1.0)
