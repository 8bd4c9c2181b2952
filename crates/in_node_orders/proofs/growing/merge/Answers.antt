use Rattle.std.proofs.Common.{◌∙◌, arith}
use Rattle.in_node_orders.proofs.Climbs.{merge_further, merge_other}
use Rattle.in_node_orders.proofs.growing.merge.Goals as goal

pub loop-one-preserved-then-one-other : goal.loop-one-preserved-then-one-other
loop-one-preserved-then-one-other c =
    let i = c.loop-one.invariant in
    let e = c.in-Some.ensures in
    let lower = e.lower in
    let size = e.size in
    let one = i.one in
    let other = i.other in
    record {
      size = e.size ∙ i.size;
      climbable = e.climbable;
      one = omega (arith, lower, size, one);
      other = omega (arith, size, other);
      merges = merge_further c.args.ups.now c.requires.climbable.ups_fall c.args.skips.now c.loop-one.skips c.climb.new.skips c.args.from c.args.to c.loop-one.one c.loop-one.other c.in-Some.above i.merges e.climbs c.if-one-other.true;
    }

pub loop-one-preserved : goal.loop-one-preserved
loop-one-preserved c =
    let i = c.loop-one.invariant in
    let e = c.in-Some-climb.ensures in
    let lower = e.lower in
    let size = e.size in
    let one = i.one in
    let other = i.other in
    let d = c.loop-one-test.true in
    let most = c.if-one-other.false in
    record {
      size = e.size ∙ i.size;
      climbable = e.climbable;
      one = omega (arith, size, one);
      other = omega (arith, lower, size, other);
      merges = merge_other c.args.ups.now c.requires.climbable.ups_fall c.args.skips.now c.loop-one.skips c.climb-else-one-other.new.skips c.args.from c.args.to c.loop-one.one c.loop-one.other c.in-Some-climb.above i.merges e.climbs (omega (arith, d, most));
    }
