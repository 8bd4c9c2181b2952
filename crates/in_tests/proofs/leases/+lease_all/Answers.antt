use Rattle.std.proofs.Common.{ap, ◌∙◌}
use Rattle.in_arena.specs.Arenas.{changed}
use Rattle.in_arena.specs.States.{Vacant}
use Rattle.in_tests.proofs.Changes.{given_back}
use Rattle.in_tests.proofs.leases.+lease_all.Goals as goal

pub returns-in-Some : goal.returns-in-Some
returns-in-Some g t c =
    let l = c.in-Some.lease in
    given_back c.args.arena.now c.lease.new.self c.give_back.new.self c.args.class c.lease.result l c.lease.ensures c.in-Some.is (c.give_back.ensures ∙ ap (λ a. changed a l.number Vacant) c.lease_all.ensures)
