use Rattle.std.proofs.Common.{◌≤◌, arith}
use Rattle.in_arena.specs.Arenas.{state_at}
use Rattle.in_arena.specs.Classes.{width}
use Rattle.in_arena.specs.declared.content.CellClass.{CellClass}
use Rattle.in_arena.specs.declared.content.CellClass.TheVariants.{Small, Large, Wide}
use Rattle.in_arena.proofs.Arenas.{live_inside}
use Rattle.in_arena.proofs.Classes.{class_few}
use Rattle.in_arena.proofs.FreeLists.{places_live}
use Rattle.in_arena.proofs.Inside.{inside_all, live_of, width_of}
use Rattle.in_arena.proofs.arena.Arena.place.Goals as goal

few_places : (c : CellClass) → width c ≤ 17
few_places Small = omega arith
few_places Large = omega arith
few_places Wide = omega arith

pub port-requires : goal.port-requires
port-requires c =
    let a = c.self.inside in let h = c.self.invariant in let n = c.args.cell.0 in let p = c.args.place in let v = c.args.self.now in let few = class_few a.cells h.few Small in
    let live = places_live (state_at v n) p c.requires in let l = live_of a h v c.self.view_is n live in
    (omega (arith, few.1, inside_all a h v c.self.view_is n (live_inside v n live)), omega (arith, width_of a h v c.self.view_is n l p c.requires, few_places l.class))
