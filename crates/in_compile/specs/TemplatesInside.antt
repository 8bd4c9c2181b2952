-- The invariant of the fields of a program's templates: the largest need and the most agents are kept, and each template is found by its symbols.
use Rattle.std.specs.Prelude.{length}
use Rattle.in_compile.specs.Finding.{AreFoundBySymbols, AreNumberedBySymbols, listed}
use Rattle.in_compile.specs.Templates.{AreMostAgents, IsLargestNeed}
use Rattle.in_compile.specs.declared.templates.Templates.TheInside.{Inside}

pub record AreTemplates (t : Inside) : Type 0 where
  pub largest : IsLargestNeed (listed t.listed) t.largest
  pub most_agents : AreMostAgents (listed t.listed) t.most_agents
  pub numbered : AreNumberedBySymbols (listed t.listed) t.numbers t.size
  pub found : AreFoundBySymbols (listed t.listed) t.size (length t.listed) t.found
