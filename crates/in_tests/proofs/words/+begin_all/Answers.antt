use Rattle.std.proofs.Common.{ap, ◌∙◌}
use Rattle.in_arena.specs.Arenas.{changed}
use Rattle.in_arena.specs.States.{Vacant}
use Rattle.in_arena.specs.declared.content.CellNo.{CellNo}
use Rattle.in_tests.proofs.Changes.{begun_back}
use Rattle.in_tests.proofs.words.+begin_all.Goals as goal

pub returns-in-Some : goal.returns-in-Some
returns-in-Some g t c =
    let n = c.in-Some.cell.0 in
    begun_back c.args.class c.of.result.word c.of.result.count c.args.arena.now c.begin.new.self c.retire.new.self n c.in-Some.ensures (c.retire.ensures ∙ ap (λ (m : CellNo). changed c.begin_all.new.arena m.0 Vacant) c.no.ensures ∙ ap (λ a. changed a n Vacant) c.begin_all.ensures)
