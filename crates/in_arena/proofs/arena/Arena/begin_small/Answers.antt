use Rattle.std.proofs.Common.{◌≡◌, ◌∙◌, sym, subst, refl, length, slice_get, Some}
use Rattle.std.proofs.lemmas.Option.{slice_get_read}
use Rattle.in_arena.specs.Arenas.{BeginsCell}
use Rattle.in_arena.specs.Classes.{Holds}
use Rattle.in_arena.specs.declared.content.CellClass.{CellClass}
use Rattle.in_arena.specs.declared.content.CellClass.TheVariants.{Small}
use Rattle.in_arena.proofs.Beginning.{begins_one_more, one_more_small}
use Rattle.in_arena.proofs.Classes.{same_class}
use Rattle.in_arena.proofs.arena.Arena.begin_small.Goals as goal

pub begin-requires : goal.begin-requires
begin-requires c =
    let number = c.loop-number.number in let x = c.index-cells-number.result in
    let stands : slice_get c.args.cells.now number ≡ Some x = slice_get_read c.args.cells.now (length c.args.cells.now) number x refl c.loop-number-test.true c.index-cells-number.is in
    let small : x.class ≡ Small = same_class x.class Small (sym c.number.ensures ∙ c.if-number.false ∙ c.number-in-loop-number.ensures) in
    subst (λ (d : CellClass). Holds d x.head.count) small (c.requires.fits number x stands)

pub loop-number-preserved : goal.loop-number-preserved
loop-number-preserved c =
    let number = c.loop-number.number in let x = c.index-cells-number.result in let i = c.loop-number.invariant in let cells = c.args.cells.now in
    let stands : slice_get cells number ≡ Some x = slice_get_read cells (length cells) number x refl c.loop-number-test.true c.index-cells-number.is in
    let small : x.class ≡ Small = same_class x.class Small (sym c.number.ensures ∙ c.if-number.false ∙ c.number-in-loop-number.ensures) in
    record {
      begun = begins_one_more cells c.args.from number c.args.first c.args.self.now c.loop-number.self c.begin.new.self c.args.points.now c.loop-number.points c.requires.room i.begun x stands c.in-Some.place.0
          (subst (λ (d : CellClass). BeginsCell d x.head.word x.head.count c.loop-number.self c.in-Some.place.0 c.begin.new.self) (sym small) c.in-Some.ensures) c.place_of.result c.place_of.ensures;
      small = one_more_small cells c.args.from number x i.small stands small;
    }
