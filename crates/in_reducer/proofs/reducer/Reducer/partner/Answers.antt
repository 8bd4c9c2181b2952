use Rattle.std.proofs.Common.{◌≡◌, ◌<◌, Some, length, sym, ap, subst, ◌∙◌, arith, refl}
use Rattle.std.specs.Prelude.{option_map}
use Rattle.in_arena.specs.declared.content.End.{End}
use Rattle.in_net.specs.Parts.{IsPointOf, partner_in}
use Rattle.in_reducer.specs.Inside.{own_free, reducer_view}
use Rattle.in_reducer.specs.Machines.{MachineParts, parts_of, point_at}
use Rattle.in_reducer.specs.Standing.{leading_to}
use Rattle.in_reducer.proofs.Cells.Looked.{partner_is, free_below, free_leads}
use Rattle.in_reducer.proofs.reducer.Reducer.partner.Goals as goal
use Rattle.std.proofs.lemmas.Option.{slice_get_read}

pub index-requires : goal.index-requires
index-requires c =
    let free = own_free c.self.inside.body in
    let es = c.self.inside.body.ends in
    let there = subst (λ (m : MachineParts). IsPointOf (parts_of m) (point_at c.args.end)) (sym c.self.view_is) c.requires in
    let low : c.in-Free.number < length (leading_to free es.items) = subst (λ (e : End). IsPointOf (parts_of (reducer_view c.self.inside.body)) (point_at e)) c.in-Free.is there in
    let below = free_below free es.items c.in-Free.number low in
    omega (arith, below, es.ok.0)

pub returns-in-Cell : goal.returns-in-Cell
returns-in-Cell c =
    subst (λ (m : MachineParts). partner_in (parts_of m) (point_at c.args.end) ≡ Some (point_at c.port.result)) c.self.view_is
    (ap (λ (e : End). partner_in (parts_of (reducer_view c.self.inside.body)) (point_at e)) c.in-Cell.is
    ∙ partner_is c.self.inside.body.arena (reducer_view c.self.inside.body).free (record { 0 = c.in-Cell.cell.0 }) c.in-Cell.place ∙ ap (option_map point_at) c.port.ensures)

pub returns-in-Free : goal.returns-in-Free
returns-in-Free c =
    let free = own_free c.self.inside.body in
    let es = c.self.inside.body.ends.items in
    let there = subst (λ (m : MachineParts). IsPointOf (parts_of m) (point_at c.args.end)) (sym c.self.view_is) c.requires in
    let low : c.in-Free.number < length (leading_to free es) = subst (λ (e : End). IsPointOf (parts_of (reducer_view c.self.inside.body)) (point_at e)) c.in-Free.is there in
    let at = slice_get_read es (length es) c.in-Free.number c.index.result.now refl (free_below free es c.in-Free.number low) c.index.ensures in
    subst (λ (m : MachineParts). partner_in (parts_of m) (point_at c.args.end) ≡ Some (point_at c.end.result)) c.self.view_is
    (ap (λ (e : End). partner_in (parts_of (reducer_view c.self.inside.body)) (point_at e)) c.in-Free.is ∙ free_leads free es c.in-Free.number c.index.result.now low at ∙ ap (λ (e : End). Some (point_at e)) (sym c.end.ensures))
