use Rattle.std.proofs.Common.{◌∙◌, ◌+◌, sym, ap, length, drop, None}
use Rattle.in_net.specs.Counting.{IsNameInside, counts_from}
use Rattle.in_net.specs.Building.{no_spot, nth_spot}
use Rattle.in_net.proofs.Wiring.Links.{from_place, all_rest}
use Rattle.in_net.proofs.Wiring.Joins.{length-none_seen, length-counts_spot}
use Rattle.in_net.proofs.counting.counts.Goals as goal

pub loop-at-init : goal.loop-at-init
loop-at-init c = record {
  counted = ap (λ seen. counts_from 0 c.args.spots.now (record { seen = seen; third = None })) c.in_ok-unseen.ensures;
  count = ap length c.in_ok-unseen.ensures ∙ length-none_seen c.args.names;
  names = c.requires;
}

pub loop-at-preserved : goal.loop-at-preserved
loop-at-preserved c =
    let spots = c.args.spots.now in
    let i = c.loop-at.at in
    record {
      counted = ap (counts_from (i + 1) (drop (i + 1) spots)) c.count.ensures ∙ sym (ap (λ z. counts_from i z c.loop-at.counting) (from_place spots i no_spot c.loop-at-test.true)) ∙ c.loop-at.invariant.counted;
      count = ap (λ z. length z.seen) c.count.ensures ∙ length-counts_spot c.loop-at.counting i (nth_spot spots i) ∙ c.loop-at.invariant.count;
      names = all_rest (IsNameInside c.args.names) spots i no_spot c.loop-at-test.true c.loop-at.invariant.names;
    }
