use Rattle.std.proofs.Common.{◌≡◌, refl, sym, ap, subst, true, false}
use Rattle.std.specs.Prelude.{Bool}
use Rattle.in_arena.specs.declared.content.CellClass.{CellClass}
use Rattle.in_reducer.specs.declared.sides.Pair.{Pair}
use Rattle.in_reducer.specs.Wiring.{AreOwnCells, turned}
use Rattle.in_reducer.proofs.wiring.own_cells.Goals as goal

exchanged : (order : Bool) (p : Pair) (classes own : CellClass × CellClass) → order ≡ true → own ≡ classes → AreOwnCells order p classes (turned p) (own.1, own.0)
exchanged order p classes own is same = subst (λ (b : Bool). AreOwnCells b p classes (turned p) (own.1, own.0)) (sym is) (refl, ap (λ (ks : CellClass × CellClass). (ks.1, ks.0)) same)

as_they_are : (order : Bool) (p : Pair) (classes own : CellClass × CellClass) → order ≡ false → own ≡ classes → AreOwnCells order p classes p own
as_they_are order p classes own is same = subst (λ (b : Bool). AreOwnCells b p classes p own) (sym is) (refl, same)

pub returns-then-turned : goal.returns-then-turned
returns-then-turned c = exchanged c.args.turned c.args.pair c.args.template.now.classes c.classes-classes.result c.if-turned.true c.classes-classes.ensures

pub returns : goal.returns
returns c = as_they_are c.args.turned c.args.pair c.args.template.now.classes c.classes-classes.result c.if-turned.false c.classes-classes.ensures
