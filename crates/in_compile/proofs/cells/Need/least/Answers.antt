use Rattle.std.proofs.Common.{inl, inr, ◌≤◌, sym, ◌∙◌, arith}
use Rattle.std.proofs.lemmas.Bool.{cases_lt}
use Rattle.in_compile.specs.Cells.{count_of}
use Rattle.in_compile.proofs.Needs.Classes.{one_class_further}
use Rattle.in_compile.proofs.cells.Need.least.Goals as goal

pub loop-class-preserved : goal.loop-class-preserved
loop-class-preserved c =
    let i = c.loop-class.invariant in
    let min = c.min-least.ensures in
    let here = c.of.ensures in
    record {
      items = i.items;
      least = one_class_further (λ d. c.min-least.result ≤ count_of c.args.self d) c.loop-class.class-index (λ d l. (let before = i.least d l in omega (arith, before, min))) (omega (arith, here, min));
      one = elim (cases_lt c.of.result c.loop-class.least) [
        | inl less ↦ (_, sym here ∙ omega (arith, less, min))
        | inr le ↦ (i.one.0, i.one.1 ∙ omega (arith, le, min))
      ];
    }
