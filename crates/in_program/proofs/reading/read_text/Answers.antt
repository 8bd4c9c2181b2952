use Rattle.std.proofs.Common.{◌≤◌, ◌++◌, take, length-append, sym, ap, subst, ◌∙◌, arith}
use Rattle.std.specs.Io.KnownBytes.{append_known}
use Rattle.in_syntax.specs.Streams.{one_more}
use Rattle.in_print.proofs.Public.{append_known-twice}
use Rattle.in_program.proofs.Known.{counted}
use Rattle.in_program.proofs.reading.read_text.Goals as goal

pub returns-then-is_err : goal.returns-then-is_err
returns-then-is_err g c =
    let more = length-append c.loop-turn.text.items (take c.in-Ok.n c.read.new.into) in
    let one = counted _ _ c.in-Ok.ensures.reads in (
      c.loop-turn.text.items ++ take c.in-Ok.n c.read.new.into,
      record {
        moves = record {
          moved = c.in-Ok.ensures.given ∙ ap (λ z. append_known z (take c.in-Ok.n c.read.new.into)) c.loop-turn.invariant.moves.moved
              ∙ append_known-twice _ c.loop-turn.text.items (take c.in-Ok.n c.read.new.into);
          sound = omega (arith, c.in-Ok.ensures.failures, c.loop-turn.invariant.moves.sound);
        };
        few = record {
          some = subst (λ z. one_more (g.R.TextIn.reader c.args.reader.now).reads ≤ z) (sym c.in-Ok.ensures.reads) c.loop-turn.invariant.some;
          each = omega (arith, more, one, c.loop-turn.invariant.reads, c.loop-turn.invariant.grows);
          most = omega (arith, one, c.loop-turn.invariant.reads);
        };
      },
    )
