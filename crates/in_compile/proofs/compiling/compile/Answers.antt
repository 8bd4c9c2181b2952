use Rattle.std.proofs.Common.{List, length, ap, sym, subst, ◌∙◌, Global}
use Rattle.std.specs.declared.sync.Arc.{Arc}
use Rattle.in_symbols.specs.Tables.{Tables}
use Rattle.in_compile.specs.Finding.{AreFoundBySymbols, AreNumberedBySymbols, listed}
use Rattle.in_compile.specs.Templates.{AreMostAgents, IsLargestNeed, TemplateParts}
use Rattle.in_compile.proofs.Compiled.Accepted.{complete}
use Rattle.in_compile.proofs.Compiled.Found.{numbered}
use Rattle.in_compile.proofs.compiling.compile.Goals as goal

pub by_symbols-requires : goal.by_symbols-requires
by_symbols-requires c =
    let p = c.args.checked.now.program in
    subst (λ (z : List (Arc TemplateParts Global)). AreNumberedBySymbols (listed z) c.in_ok-numbers.numbers c.symbols-size.result) (sym c.as_slice-3.ensures)
    (numbered p.tables p.rules (listed c.in_ok-templates.templates) c.in_ok-numbers.numbers c.symbols-size.result c.in_ok-templates.ensures c.in_ok-numbers.ensures
    (complete c.is_accepted.ensures.accepted.0 c.is_accepted.ensures.accepted.1 p c.is_accepted.ensures.accepted.2) (c.symbols-size.ensures ∙ ap (λ (t : Tables). length t.names) c.symbols.ensures))

pub invariant_of-result : goal.invariant_of-result
invariant_of-result c =
    let p = c.args.checked.now.program in
    record {
      largest = subst (λ (z : List (Arc TemplateParts Global)). IsLargestNeed (listed z) c.largest_need-largest.result) c.as_slice.ensures c.largest_need-largest.ensures;
      most_agents = subst (λ (z : List (Arc TemplateParts Global)). AreMostAgents (listed z) c.most_agents-most_agents.result) c.as_slice-2.ensures c.most_agents-most_agents.ensures;
      numbered = numbered p.tables p.rules (listed c.in_ok-templates.templates) c.in_ok-numbers.numbers c.symbols-size.result c.in_ok-templates.ensures c.in_ok-numbers.ensures
          (complete c.is_accepted.ensures.accepted.0 c.is_accepted.ensures.accepted.1 p c.is_accepted.ensures.accepted.2) (c.symbols-size.ensures ∙ ap (λ (t : Tables). length t.names) c.symbols.ensures);
      found = subst (λ (z : List (Arc TemplateParts Global)). AreFoundBySymbols (listed z) c.symbols-size.result (length z) c.in_ok-found.found) c.as_slice-3.ensures c.in_ok-found.ensures;
    }
