use Rattle.std.proofs.Common.{◌∙◌, ap, slice_set}
use Rattle.in_arena.specs.Arenas.{written}
use Rattle.in_arena.specs.States.{with_end}
use Rattle.in_tests.proofs.Changes.{settled}
use Rattle.in_tests.proofs.leases.make_with.Goals as goal

pub returns : goal.returns
returns g c =
    settled c.args.arena.now c.lease.new.self c.settle.new.self c.args.class c.lease.result c.expect-lease.result c.set.new.self c.args.symbol c.cell-cell.result.0 (slice_set c.args.ends.now c.args.place c.args.end) c.requires.0 c.lease.ensures c.expect-lease.ensures
    (c.set.ensures ∙ ap (λ v. written v (with_end v.state c.args.place c.args.end)) c.write.ensures) c.settle.ensures c.cell-cell.ensures
