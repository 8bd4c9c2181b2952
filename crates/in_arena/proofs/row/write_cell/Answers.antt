use Rattle.std.proofs.Common.{◌≡◌, ◌≤◌, ◌<◌, ℕ, length, take, subst, arith, ◌∙◌}
use Rattle.std.proofs.Math.Seq.{take-length}
use Rattle.in_arena.specs.Classes.{width}
use Rattle.in_arena.specs.Words.{Content}
use Rattle.in_arena.proofs.Filling.{rewrites_twice, written_more}
use Rattle.in_arena.proofs.row.write_cell.Goals as goal

below : (n m k : ℕ) → n < m → m ≤ k → n < k
below n m k lt le = omega (arith, lt, le)

pub loop-place-preserved : goal.loop-place-preserved
loop-place-preserved c =
    let w = c.loop-place.invariant in let p = c.loop-place.place in
    written_more c.args.words.now c.args.spot c.args.ends.now p c.loop-place.words c.set_end.new.words c.of.result _ w c.loop-place-test.true
    (below p (length c.args.ends.now) (width c.args.spot.class) c.loop-place-test.true c.requires.few) c.of.ensures (c.set_end.ensures w.content w.rewrites.cell)

pub returns : goal.returns
returns c =
    let w = c.loop-place.invariant in let es = c.args.ends.now in
    let all : c.loop-place.place ≡ length es = omega (arith, c.loop-place-test.false, c.loop-place.auto.place-end) in
    let x : Content = record { word = c.of-2.result.word; count = c.of-2.result.count; ends = w.content.ends } in (
      x,
      record { word = c.of-2.ensures.0; count = c.of-2.ensures.1; ends = subst (λ n. take n w.content.ends ≡ take n es) all w.so_far ∙ take-length es },
      rewrites_twice c.args.words.now c.loop-place.words c.begin_cell.new.words c.args.spot w.content x w.rewrites (c.begin_cell.ensures w.content w.rewrites.cell),
    )
