use Rattle.std.proofs.Common.{◌≡◌, ◌<◌, ◌∙◌, length, length-set, get_or, refl, sym, subst, ap, arith}
use Rattle.in_simple_bridges.specs.Spans.{at}
use Rattle.in_growing_graphs.specs.Blobs.{GoesUp, there}
use Rattle.in_node_orders.specs.Heads.{AreFalling, AreSkips}
use Rattle.in_node_orders.proofs.Climbs.{set_falls}
use Rattle.in_growing_graphs.proofs.Public.{goes_on}
use Rattle.in_node_orders.proofs.Ways.{Is, is_bare, is_covered, jumps}
use Rattle.in_node_orders.proofs.heads.head.Goals as goal

pub loop-number-init : goal.loop-number-init
loop-number-init c = record {
  size = refl;
  falling = c.requires.falling;
  lower = omega arith;
  small = c.requires.small;
  goes = λ up covered s. (s, there c.args.from);
}

pub loop-number-preserved : goal.loop-number-preserved
loop-number-preserved c =
    let i = c.loop-number.invariant in
    let skips = c.loop-number.skips in
    let x = c.loop-number.number in
    let above = get_or c.as_slice-in-loop-number.result.now x 0 in
    let far = get_or c.as_slice-in-loop-number-2.result.now above 0 in
    let a : above ≡ at skips x = ap (λ z. at z x) c.as_slice-in-loop-number.ensures in
    let f : far ≡ at skips above = ap (λ z. at z above) c.as_slice-in-loop-number-2.ensures in
    let t : at c.as_slice.result.now x ≡ at skips x = ap (λ z. at z x) c.as_slice.ensures in
    let less = c.loop-number-test.true in
    let less_above : at skips x < x = omega (arith, t, less) in
    let lower = i.falling above in
    let less_far : far < x = omega (arith, a, f, lower, less_above) in
    let small = i.small in
    let size = length-set skips x far in
    let new = c.set.ensures in
    let most = i.lower in
    record {
      size = ap length new ∙ size ∙ i.size;
      falling = subst AreFalling (sym new) (set_falls skips x far small (omega (arith, less_far)) i.falling);
      lower = omega (arith, less_far, most);
      small = subst (λ z. far < length z) (sym new) (omega (arith, less_far, small, size));
      goes = λ up covered s.
          let r = i.goes up covered s in
          let one : GoesUp up (Is covered) x above = subst (GoesUp up (Is covered) x) (sym a) (r.0.goes x small) in
          let two : GoesUp up (Is covered) above far = subst (GoesUp up (Is covered) above) (sym f) (r.0.goes above (omega (arith, a, less_above, small))) in
          let way = goes_on up (Is covered) x above far one two in
          (subst (AreSkips up covered) (sym new) (jumps up covered skips r.0 x far small (is_covered up covered skips r.0 x small less_above) less_far way), goes_on up (Is covered) c.args.from x far r.1 way);
    }

pub returns-clause-leads : goal.returns-clause-leads
returns-clause-leads c =
    let i = c.loop-number.invariant in
    let skips = c.loop-number.skips in
    let x = c.loop-number.number in
    let t : at c.as_slice.result.now x ≡ at skips x = ap (λ z. at z x) c.as_slice.ensures in
    let most = c.loop-number-test.false in
    λ up covered s. let r = i.goes up covered s in (r.0, (r.1, is_bare up covered skips r.0 x i.small (omega (arith, t, most))))
