-- The result of a job: the placed template for its pair's symbols.
use Rattle.std.specs.Prelude.{◌≡◌, ℕ, Some}
use Rattle.in_syntax.specs.declared.symbol_no.SymbolNo.{SymbolNo}
use Rattle.in_compile.specs.PlacedTemplates.{PlacedTemplateParts, IsOfTemplate}
use Rattle.in_compile.specs.Templates.{TemplatesParts, template_at}

-- the number of the job, the symbols of its pair, the templates that have one for it, and the placed member
pub record DoneParts : Type 0 where
  pub job : ℕ
  pub heads : SymbolNo × SymbolNo
  pub templates : TemplatesParts
  pub placed : PlacedTemplateParts

-- the placed member is all of the template for these symbols, and nothing else
pub record IsItsTemplate (d : DoneParts) : Type 0 where
  pub template : template_at d.templates d.heads.0.0 d.heads.1.0 ≡ Some d.placed.template
  pub placed : IsOfTemplate d.placed
