use Rattle.std.proofs.Common.{◌≡◌, ◌≢◌, ◌<◌, length, slice_index_or, sym, subst, ap, ◌∙◌, arith}
use Rattle.in_simple_deriving.specs.Heads.{LeadsEarlier, IsShorter, stays, up_from}
use Rattle.in_simple_deriving.proofs.Climbing.{next_earlier, next_small, shorter_start, step_climbs, step_goes, step_shorter, step_size}
use Rattle.in_simple_deriving.proofs.heads.climb.Goals as goal

pub loop-above-init : goal.loop-above-init
loop-above-init c = record {
  small = c.requires.from;
  above = ap (λ z. slice_index_or z c.args.from 0) c.as_slice.ensures;
  goes = c.requires.up;
  shorter = shorter_start c.args.up.now;
  climbs = stays c.args.from;
}

pub loop-above-preserved : goal.loop-above-preserved
loop-above-preserved c =
    let t = c.args.order.now.turns in
    let old = c.args.up.now in
    let up = c.loop-above.up in
    let at = c.loop-above.at in
    let above = c.loop-above.above in
    let i = c.loop-above.invariant in
    let next = slice_index_or c.as_slice-in-loop-above.result.now above 0 in
    let then : next ≡ up_from up above = ap (λ z. slice_index_or z above 0) c.as_slice-in-loop-above.ensures in
    let moves : above ≢ at = c.loop-above-test.true in
    let e = sym c.set.ensures in
    record {
      small = subst (λ z. next < length z) e (let s = next_small t old up at above next i.goes i.small i.above moves then in let z = step_size t old up at above next i.goes i.small i.above moves then in omega arith);
      above = ap (λ z. slice_index_or z next 0) c.as_slice-in-loop-above-2.ensures;
      goes = subst (LeadsEarlier t) e (step_goes t old up at above next i.goes i.small i.above moves then);
      shorter = subst (IsShorter old) e (step_shorter t old up at above next i.goes i.small i.above moves then i.shorter);
      climbs = step_climbs t old up at above next i.goes i.small i.above moves then c.args.from i.shorter i.climbs;
    }

pub loop-above-smaller : goal.loop-above-smaller
loop-above-smaller c =
    let t = c.args.order.now.turns in
    let up = c.loop-above.up in
    let above = c.loop-above.above in
    let i = c.loop-above.invariant in
    let next = slice_index_or c.as_slice-in-loop-above.result.now above 0 in
    let then : next ≡ up_from up above = ap (λ z. slice_index_or z above 0) c.as_slice-in-loop-above.ensures in
    next_earlier t c.args.up.now up c.loop-above.at above next i.goes i.small i.above c.loop-above-test.true then

pub returns : goal.returns
returns c =
    let i = c.loop-above.invariant in
    let top = sym i.above ∙ c.loop-above-test.false in
    record {
      up = i.goes;
      shorter = i.shorter;
      climbs = i.climbs;
      top = i.shorter.tops c.loop-above.at top;
      small = let s = i.small in let size = i.shorter.size in omega arith;
    }
