use Rattle.std.proofs.Common.{ap, sym, ◌∙◌}
use Rattle.in_compile.specs.Placing.{PlacedParts}
use Rattle.in_rounds.proofs.Public.{placed_count, stays_of_one}
use Rattle.in_harness.proofs.gathers.made.Goals as goal

pub returns : goal.returns
returns c =
    let made = c.make.ensures in
    let need = c.make.result.placed.template.member.need in
    let placed = c.make.result.placed.placed in
    let cells = made.template.placed.written.cells in (
      λ n. sym (placed_count need c.args.stock.now c.make.new.stock placed made.takes cells n),
      stays_of_one need c.args.stock.now c.make.new.stock placed made.takes cells,
      (
        made.same.0 ∙ ap (λ (p : PlacedParts). p.bag.memory) c.in-Ok.ensures ∙ sym c.requires.of_one.0,
        made.same.1 ∙ ap (λ (p : PlacedParts). p.bag.cells) c.in-Ok.ensures ∙ sym c.requires.of_one.1,
      ),
    )
