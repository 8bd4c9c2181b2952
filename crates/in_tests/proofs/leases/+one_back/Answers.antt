use Rattle.std.proofs.Common.{◌∙◌, ap}
use Rattle.in_arena.specs.Arenas.{changed}
use Rattle.in_arena.specs.States.{Vacant}
use Rattle.in_tests.proofs.Changes.{given_back}
use Rattle.in_tests.proofs.leases.+one_back.Goals as goal

pub returns-then-count-eq1 : goal.returns-then-count-eq1
returns-then-count-eq1 g t c =
    let l = c.in-Some.lease in
    c.next_cell.ensures
    ∙ given_back c.args.arena.now c.lease.new.self c.give_back.new.self c.args.class c.lease.result l c.lease.ensures c.in-Some.is (c.give_back.ensures ∙ ap (λ a. changed a l.number Vacant) c.lease_all.ensures)

pub returns-else-count-eq1 : goal.returns-else-count-eq1
returns-else-count-eq1 g t c =
    let l = c.in-Some.lease in
    given_back c.args.arena.now c.lease.new.self c.give_back-else-count-eq1.new.self c.args.class c.lease.result l c.lease.ensures c.in-Some.is (c.give_back-else-count-eq1.ensures ∙ ap (λ a. changed a l.number Vacant) c.one_back.ensures)
