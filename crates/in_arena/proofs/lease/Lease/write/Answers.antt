use Rattle.std.proofs.Common.{◌≤◌, sym, subst, ap, length}
use Rattle.in_arena.specs.Arenas.{LeaseView}
use Rattle.in_arena.specs.Classes.{Holds, width}
use Rattle.in_arena.proofs.Inside.{lease_rewrites}
use Rattle.in_arena.proofs.lease.Lease.write.Goals as goal

pub invariant_of-self : goal.invariant_of-self
invariant_of-self c =
    let l = c.self.inside in let k = c.self.invariant in let held = subst (λ d. Holds d (length c.args.ends.now)) (sym (ap (λ (m : LeaseView). m.class) c.self.view_is)) c.requires.many in let x = c.write_cell.ensures in
    lease_rewrites l k c.write_cell.new.words x.0 x.2 (subst (λ n. n ≤ width l.spot.class) (sym x.1.count) held.1)
