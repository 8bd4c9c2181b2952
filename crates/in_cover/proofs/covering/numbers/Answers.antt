use Rattle.std.proofs.Common.{◌≡◌, ◌∙◌, length, refl, subst, arith}
use Rattle.std.proofs.lemmas.Option.{slice_get_read}
use Rattle.in_cover.specs.Covering.{HoldsBelow}
use Rattle.in_cover.proofs.Numbered.{one_more, is_second, not_second, no_second_more, none_second}
use Rattle.in_cover.proofs.covering.numbers.Goals as goal

pub returns-then-not-add : goal.returns-then-not-add
returns-then-not-add c =
    let stands = slice_get_read c.args.rules.now (length c.args.rules.now) c.loop-number.number c.index-rules-number.result refl c.loop-number-test.true c.index-rules-number.is in
    record {
      number = c.loop-number.number;
      rule = c.index-rules-number.result;
      stands = stands;
      second = is_second c.args.rules.now c.loop-number.number c.index-rules-number.result c.loop-number.table stands c.loop-number.invariant.holds c.if-not-add.ensures.0;
      first = c.loop-number.invariant.once;
      refused = c.second.ensures;
    }

pub loop-number-preserved : goal.loop-number-preserved
loop-number-preserved c =
    let stands = slice_get_read c.args.rules.now (length c.args.rules.now) c.loop-number.number c.index-rules-number.result refl c.loop-number-test.true c.index-rules-number.is in
    let added = c.if-not-add.ensures in
    record {
      size = added.1.size ∙ c.loop-number.invariant.size;
      holds = one_more c.args.rules.now c.loop-number.number c.index-rules-number.result c.loop-number.table c.add.new.table stands c.loop-number.invariant.holds added.0 added.1;
      once = no_second_more c.args.rules.now c.loop-number.number c.loop-number.invariant.once
          (not_second c.args.rules.now c.loop-number.number c.index-rules-number.result c.loop-number.table stands c.loop-number.invariant.holds added.0);
    }

pub returns : goal.returns
returns c =
    let same : c.loop-number.number ≡ length c.args.rules.now = omega (arith, c.loop-number-test.false, c.loop-number.auto.number-end) in (
      c.loop-number.invariant.size,
      subst (λ n. HoldsBelow c.args.rules.now n c.loop-number.table) same c.loop-number.invariant.holds,
      none_second c.args.rules.now (λ k lt. c.loop-number.invariant.once k (omega (arith, same, lt))),
    )
