use Rattle.std.proofs.Common.{◌-◌, ◌/◌, arith}
use Rattle.std.proofs.lemmas.Bool.{ltb-true}
use Rattle.in_phases.proofs.closing.is_first_end.Goals as goal

pub returns-then-after-cut : goal.returns-then-after-cut
returns-then-after-cut c = λ low.
    (
    let from = c.if-number-own.false in
    let twice = c.if-after-cut.true in
    ((c.args.number - c.args.own) / 2, ltb-true ((c.args.number - c.args.own) / 2) c.args.cuts low, omega (arith, from, twice))
    )
