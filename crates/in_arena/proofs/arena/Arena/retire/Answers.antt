use Rattle.std.proofs.Common.{ap, subst}
use Rattle.in_arena.specs.Arenas.{ArenaView}
use Rattle.in_arena.specs.Classes.{IsNumberOf}
use Rattle.in_arena.proofs.Arenas.{live_inside}
use Rattle.in_arena.proofs.Inside.{inside_all}
use Rattle.in_arena.proofs.Seen.{number_of_place}
use Rattle.in_arena.proofs.arena.Arena.retire.Goals as goal

pub spot_of-spot-requires : goal.spot_of-spot-requires
spot_of-spot-requires c = (c.self.invariant.few, inside_all c.self.inside c.self.invariant c.args.self.now c.self.view_is c.args.cell.0 (live_inside c.args.self.now c.args.cell.0 c.requires))

pub retire_as-requires-clause-class : goal.retire_as-requires-clause-class
retire_as-requires-clause-class c =
    let a = c.self.inside in let n = c.args.cell.0 in let s = c.spot_of-spot.result in
    subst (λ cells. IsNumberOf cells s.class n) (ap (λ (v : ArenaView). v.cells) c.self.view_is) (number_of_place a.cells n s.class s.index c.spot_of-spot.ensures.1)
