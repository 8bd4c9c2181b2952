use Rattle.std.proofs.Common.{◌≡◌, ◌∙◌, ◌-◌, ◌++◌, rules, sym, ap, arith, subst, append-nil, length, zero, IsPermutation}
use Rattle.std.proofs.lemmas.List.Sorted.{IsNonDecreasingBy-from_sort_by_key}
use Rattle.in_net.specs.declared.nets.Wire.{Wire}
use Rattle.in_net.specs.Building.{wires_from}
use Rattle.in_net.specs.Built.{AreListedOf}
use Rattle.in_net.proofs.WholeNets.Steps.{one_wire}
use Rattle.in_net.proofs.building.wires.Goals as goal

pub loop-at-preserved : goal.loop-at-preserved
loop-at-preserved c = one_wire c.args.spots.now c.args.links.now c.loop-at.at _ c.wire_from.result c.loop-at.wires.items c.add_wire.new.wires.items _ c.loop-at-test.true c.wire_from.ensures c.in_ok-add_wire.ensures c.loop-at.invariant

pub returns : goal.returns
returns c =
    let spots = c.args.spots.now in
    let links = c.args.links.now in
    let none : length spots - c.loop-at.at ≡ zero = omega (arith, c.loop-at-test.false) in
    let done : c.loop-at.wires.items ≡ wires_from spots links 0 (length spots) =
    sym (append-nil c.loop-at.wires.items) ∙ sym (ap (λ k. c.loop-at.wires.items ++ wires_from spots links c.loop-at.at k) none) ∙ c.loop-at.invariant in
    subst (AreListedOf (wires_from spots links 0 (length spots))) (sym c.from_vec.ensures)
    (record {
      same = subst (λ ws. IsPermutation ws c.sort_by_key.new.self.items) done c.in_ok-sort_by_key.ensures.permutation;
      by_place = IsNonDecreasingBy-from_sort_by_key (λ (w : Wire). w.place.from) _ c.in_ok-sort_by_key.ensures.sorted (λ a r q k. search rules);
    })
