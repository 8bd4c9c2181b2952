use Rattle.std.proofs.Common.{ap, ◌∙◌}
use Rattle.in_syntax.specs.Refusals.{earlier}
use Rattle.in_symbols.specs.Searching.{untyped}
use Rattle.in_syntax.specs.declared.tree.SourceFree.{SourceFree}
use Rattle.in_symbols.proofs.Searches.{one_more, all_done}
use Rattle.in_symbols.proofs.searching.untyped_in_free.Goals as goal

pub loop-free-preserved : goal.loop-free-preserved
loop-free-preserved c =
    one_more (λ (f : SourceFree). untyped c.args.types.now f.port) c.args.frees.now c.loop-free.free-index c.free-item.result c.loop-free.found c.earlier-found.result _ c.loop-free-test.true c.free-item.is (c.earlier-found.ensures ∙ ap (earlier c.loop-free.found) c.untyped.ensures) c.loop-free.invariant

pub returns : goal.returns
returns c = all_done (λ (f : SourceFree). untyped c.args.types.now f.port) c.args.frees.now c.loop-free.free-index c.loop-free.found _ c.loop-free-test.false c.loop-free.invariant
