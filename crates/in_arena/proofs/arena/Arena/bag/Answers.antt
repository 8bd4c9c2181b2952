use Rattle.in_arena.proofs.Kept.{new_bag}
use Rattle.in_arena.proofs.arena.Arena.bag.Goals as goal

pub invariant_of-result : goal.invariant_of-result
invariant_of-result c = (new_bag c.self.inside c.self.invariant c.args.self.now c.none.result c.self.view_is c.none.ensures).0

pub returns : goal.returns
returns c = (new_bag c.self.inside c.self.invariant c.args.self.now c.none.result c.self.view_is c.none.ensures).1
