use Rattle.std.proofs.Common.{◌≤◌, ◌-◌, take, drop, ap, ◌∙◌, arith, length, length-take, length-drop}
use Rattle.std.specs.Io.KnownBytes.{append_known}
use Rattle.in_print.proofs.Fronts.{append_known-twice, written, takes_some}
use Rattle.in_print.proofs.writing.write_all.Goals as goal

pub loop-done-preserved : goal.loop-done-preserved
loop-done-preserved g c =
    let rest = take (length c.args.bytes.now - c.loop-done.done) (drop c.loop-done.done c.args.bytes.now) in
    let fits : c.in-Ok.n ≤ length (take (length c.args.bytes.now - c.loop-done.done) (drop c.loop-done.done c.args.bytes.now)) = c.in-Ok.ensures.within in
    let none = takes_some c.in-Ok.n rest c.if-n-gt0.true in
    record {
      moves = record {
        moved = c.in-Ok.ensures.taken ∙ ap (λ z. append_known z (take c.in-Ok.n rest)) c.loop-done.invariant.moves.moved
            ∙ append_known-twice _ (take c.loop-done.done c.args.bytes.now) (take c.in-Ok.n rest)
            ∙ ap (append_known (g.W.TextOut.device c.args.writer.now).bytes) (written c.loop-done.done c.in-Ok.n c.args.bytes.now);
        sound = omega (arith, c.in-Ok.ensures.failures, none, c.loop-done.invariant.moves.sound);
      };
      within = omega (arith, simp (length-take, length-drop) at fits);
    }
