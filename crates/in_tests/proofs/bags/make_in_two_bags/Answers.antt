use Rattle.std.proofs.Common.{◌∙◌, ap, slice_set}
use Rattle.in_arena.specs.Arenas.{state_at}
use Rattle.in_arena.specs.States.{with_end}
use Rattle.in_tests.proofs.Changes.{live_now, written_there, set_there, same_room, same_room_after}
use Rattle.in_tests.proofs.bags.make_in_two_bags.Goals as goal

pub returns : goal.returns
returns g c =
    let n = c.lease_into-cell.result.0 in let a = c.args.arena.now in let p = c.args.place in let e = c.args.end in
    let made = c.lease_into-cell.ensures in
    let first = written_there c.lease_into-cell.new.bag c.write.new.self n _ made.5 c.write.ensures in
    let moved = set_there c.bag-other.result c.move_to.new.other n _ (same_room a c.bag-other.result c.args.class n c.bag-other.ensures made.0) c.move_to.ensures.0 ∙ first in
    let again = set_there c.move_to.new.other c.set.new.self n _ (same_room_after a c.bag-other.result c.move_to.new.other c.args.class n _ c.bag-other.ensures c.move_to.ensures.0 made.0) c.set.ensures ∙ ap (λ z. with_end (state_at c.move_to.new.other n) p z) c.of.ensures ∙ ap (λ x. with_end x p e) moved in
    live_now a c.lease_into-cell.new.arena c.settle_from.new.self n _ c.args.symbol (slice_set c.args.ends.now p e) c.requires.0 made.1 made.2 c.settle_from.ensures.0 again
