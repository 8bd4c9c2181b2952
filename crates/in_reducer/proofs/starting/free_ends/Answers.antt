use Rattle.std.proofs.Common.{◌≡◌, ◌<◌, Some, length, slice_get, ap, subst, ◌∙◌, arith}
use Rattle.std.proofs.lemmas.List.{take_all}
use Rattle.in_net.specs.Parts.{Parts}
use Rattle.in_check.specs.Programs.{Program}
use Rattle.in_reducer.specs.declared.body.OwnEnd.TheVariants.{Named}
use Rattle.in_reducer.specs.Inside.{IsOwnEnd}
use Rattle.in_reducer.proofs.Starts.Begun.{each_push, one_more_free}
use Rattle.in_reducer.proofs.starting.free_ends.Goals as goal

pub loop-number-preserved : goal.loop-number-preserved
loop-number-preserved c =
    let k = c.loop-number.number in
    let es = c.loop-number.free.items in
    let more = c.push_reserved.new.self.items in
    let low : (p : Program) → p.net ≡ c.args.net.now → k < length p.net.free =
    λ p e. (let f = ap (λ (n : Parts). length n.free) e in let t = c.loop-number-test.true in let o = c.free_ends-own.ensures in omega (arith, f, t, o)) in
    record {
      room = (let r = c.loop-number.invariant.room in let e = c.push_reserved.ensures.capacity in omega (arith, r, e));
      count = (let n = c.loop-number.invariant.count in let e = c.push_reserved.ensures.len in let ok = c.push_reserved.new.self.ok.0 in let before = c.loop-number.free.ok.0 in omega (arith, n, e, ok, before));
      program = λ p e. one_more_free p k es more (low p e) (c.loop-number.invariant.program p e) c.push_reserved.ensures.items;
      each = λ p e j x at. each_push (IsOwnEnd p) es (Named k) (c.loop-number.invariant.each p e) (low p e) j x (subst (λ zs. slice_get zs j ≡ Some x) c.push_reserved.ensures.items at);
    }

pub returns-clause-program : goal.returns-clause-program
returns-clause-program c p e =
    let f = ap (λ (n : Parts). length n.free) e in
    let t = c.loop-number-test.false in
    let o = c.free_ends-own.ensures in
    c.loop-number.invariant.program p e ∙ take_all c.loop-number.number p.net.free (omega (arith, f, t, o))
