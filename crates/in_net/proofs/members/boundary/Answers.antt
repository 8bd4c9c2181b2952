use Rattle.std.proofs.Common.{◌≡◌, ◌∙◌, ◌+◌, ◌<◌, ◌++◌, length, ap, subst, arith}
use Rattle.in_net.specs.Building.{nth_spot, IsPointSpot, boundary_of}
use Rattle.in_symbols.specs.Tables.{arity_of}
use Rattle.in_net.proofs.WholeNets.Frees.{length-boundary}
use Rattle.in_net.proofs.members.boundary.Goals as goal

pub add_boundary-requires-2-clause-points : goal.add_boundary-requires-2-clause-points
add_boundary-requires-2-clause-points c =
    let t = c.args.symbols.now in
    let spots = c.args.spots.now in
    let one = c.args.heads.0.0 in
    let begun = c.in_ok-add_boundary.ensures ∙ ap (λ z. z ++ boundary_of t spots c.args.links.now c.args.heads.0.0 (length z)) c.new-ends.ensures.items in
    let count : length c.add_boundary.new.ends.items ≡ arity_of t c.args.heads.0.0 = ap length begun ∙ length-boundary t spots c.args.links.now c.args.heads.0.0 0 in
    λ j lt.
    let at : 0 + (arity_of t c.args.heads.0.0 + j) ≡ length c.add_boundary.new.ends.items + j = omega (arith, count) in
    subst (λ k. (k < length spots) × IsPointSpot (nth_spot spots k)) at (c.requires.points (arity_of t c.args.heads.0.0 + j) (omega (arith, lt)))

pub returns : goal.returns
returns c =
    let t = c.args.symbols.now in
    let spots = c.args.spots.now in
    let links = c.args.links.now in
    let begun = c.in_ok-add_boundary.ensures ∙ ap (λ z. z ++ boundary_of t spots c.args.links.now c.args.heads.0.0 (length z)) c.new-ends.ensures.items in
    let count : length c.add_boundary.new.ends.items ≡ arity_of t c.args.heads.0.0 = ap length begun ∙ length-boundary t spots c.args.links.now c.args.heads.0.0 0 in
    c.in_ok-add_boundary-2.ensures ∙ ap (λ k. c.add_boundary.new.ends.items ++ boundary_of t spots links c.args.heads.1.0 k) count ∙ ap (λ z. z ++ boundary_of t spots links c.args.heads.1.0 (arity_of t c.args.heads.0.0)) begun
