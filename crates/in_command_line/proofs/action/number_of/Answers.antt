use Rattle.std.proofs.Common.{arith}
use Rattle.clap.specs.Words.{found_of, rows_of}
use Rattle.in_command_line.proofs.Numbers.{number_once, number_read, number_refused}
use Rattle.in_command_line.proofs.action.number_of.Goals as goal

pub returns-in_err-number : goal.returns-in_err-number
returns-in_err-number c = rw c.from_residual.ensures
    (λ n fits h. number_refused (found_of c.args.options.now) c.args.name.now (λ t e. (c.in_err-number.ensures.value t e).1.0) n (omega (arith, fits)) h)

pub returns-in-Ok : goal.returns-in-Ok
returns-in-Ok c =
    rw c.in-Ok.ensures.1
    (number_read (found_of c.args.options.now) c.args.name.now c.in_ok-number.number c.in_ok-number.ensures.none (λ t e. let h = c.in_ok-number.ensures.value t e in (h.0.0.0, h.0.1)))

pub returns-in-Err : goal.returns-in-Err
returns-in-Err c = λ n fits h.
    let read = number_read (found_of c.args.options.now) c.args.name.now c.in_ok-number.number c.in_ok-number.ensures.none (λ t e. let h = c.in_ok-number.ensures.value t e in (h.0.0.0, h.0.1)) in
    let same = number_once c.args.name.now (rows_of (found_of c.args.options.now)) n c.in_ok-number.number h read in
    c.in-Err.ensures (omega (arith, same, fits))
