use Rattle.std.proofs.Common.{◌≡◌, ◌<◌, Some, length, slice_get, sym, ap, subst, ◌∙◌, arith, refl}
use Rattle.std.specs.Prelude.{option_map}
use Rattle.std.proofs.lemmas.List.{length-map}
use Rattle.std.proofs.lemmas.Option.{slice_get-get_or, slice_get-map, slice_get_read}
use Rattle.in_net.specs.declared.nets.FreeEnd.{FreeEnd}
use Rattle.in_net.specs.Parts.{Parts, free_name_in}
use Rattle.in_reducer.specs.declared.body.OwnEnd.{OwnEnd}
use Rattle.in_reducer.specs.declared.body.OwnEnd.TheVariants.{Named}
use Rattle.in_reducer.specs.Inside.{IsOwnEnd, declared_as, own_free}
use Rattle.in_reducer.specs.Machines.{MachineParts, parts_of}
use Rattle.in_reducer.specs.Standing.{leading_to}
use Rattle.in_reducer.proofs.Cells.Looked.{free_named}
use Rattle.in_reducer.proofs.reducer.Reducer.free_name.Goals as goal
use Rattle.in_reducer.proofs.Cells.Shown.{same_many}

pub index-requires : goal.index-requires
index-requires c =
    let r = c.self.inside.body in
    let es = r.ends.items in
    let room = c.self.invariant.all.net.ends in
    let many = length-map r.free.items (declared_as r.checked.now.program) in
    let same = same_many (own_free r) es (omega (arith, room, many)) in
    let low = subst (λ (m : MachineParts). c.args.number < length m.free) (sym c.self.view_is) c.requires in
    omega (arith, many, same, low, r.free.ok.0)

pub free_name-requires : goal.free_name-requires
free_name-requires c =
    let r = c.self.inside.body in
    let es = r.ends.items in
    let room = c.self.invariant.all.net.ends in
    let many = length-map r.free.items (declared_as r.checked.now.program) in
    let same = same_many (own_free r) es (omega (arith, room, many)) in
    let low = subst (λ (m : MachineParts). c.args.number < length m.free) (sym c.self.view_is) c.requires in
    let at = slice_get_read r.free.items (length r.free.items) c.args.number c.index.result.now refl (omega (arith, many, same, low)) c.index.ensures in
    let own = c.self.invariant.all.net.free c.args.number c.index.result.now at in
    subst (λ (n : Parts). c.in-Named.of_program < length n.free) (sym c.net.ensures) (subst (IsOwnEnd r.checked.now.program) c.in-Named.is own)

pub returns-in-Named : goal.returns-in-Named
returns-in-Named c =
    let r = c.self.inside.body in
    let p = r.checked.now.program in
    let es = r.ends.items in
    let k = c.args.number in
    let j = c.in-Named.of_program in
    let room = c.self.invariant.all.net.ends in
    let many = length-map r.free.items (declared_as p) in
    let same = same_many (own_free r) es (omega (arith, room, many)) in
    let low : k < length (leading_to (own_free r) es) = subst (λ (m : MachineParts). k < length m.free) (sym c.self.view_is) c.requires in
    let at : slice_get r.free.items k ≡ Some (Named j) = slice_get_read r.free.items (length r.free.items) k c.index.result.now refl (omega (arith, many, same, low)) c.index.ensures ∙ ap (λ (e : OwnEnd). Some e) c.in-Named.is in
    let own : j < length p.net.free = c.self.invariant.all.net.free k (Named j) at in
    let named : Some c.free_name.result.now ≡ option_map (λ (f : FreeEnd). f.name) (slice_get p.net.free j) = c.free_name.ensures ∙ ap (λ (n : Parts). free_name_in n j) c.net.ensures in
    let there : slice_get p.net.free j ≡ Some (declared_as p (Named j)) = slice_get-get_or p.net.free j _ own in
    let here : slice_get (own_free r) k ≡ Some (declared_as p (Named j)) = slice_get-map (declared_as p) r.free.items k ∙ ap (option_map (declared_as p)) at in
    named ∙ ap (option_map (λ (f : FreeEnd). f.name)) (there ∙ sym here) ∙ sym (free_named (own_free r) es k low) ∙ ap (λ (m : MachineParts). free_name_in (parts_of m) k) c.self.view_is

pub returns-in-Cut : goal.returns-in-Cut
returns-in-Cut c =
    let r = c.self.inside.body in
    let p = r.checked.now.program in
    let es = r.ends.items in
    let k = c.args.number in
    let room = c.self.invariant.all.net.ends in
    let many = length-map r.free.items (declared_as p) in
    let same = same_many (own_free r) es (omega (arith, room, many)) in
    let low : k < length (leading_to (own_free r) es) = subst (λ (m : MachineParts). k < length m.free) (sym c.self.view_is) c.requires in
    let at = slice_get_read r.free.items (length r.free.items) k c.index.result.now refl (omega (arith, many, same, low)) c.index.ensures ∙ ap (λ (e : OwnEnd). Some e) c.in-Cut.is in
    let here = slice_get-map (declared_as p) r.free.items k ∙ ap (option_map (declared_as p)) at in
    sym (ap (option_map (λ (f : FreeEnd). f.name)) here) ∙ sym (free_named (own_free r) es k low) ∙ ap (λ (m : MachineParts). free_name_in (parts_of m) k) c.self.view_is
