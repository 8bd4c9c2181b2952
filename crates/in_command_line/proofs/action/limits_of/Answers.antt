use Rattle.std.proofs.Common.{arith}
use Rattle.std.specs.Prelude.{codes}
use Rattle.clap.specs.Words.{found_of, rows_of}
use Rattle.in_command_line.proofs.Numbers.{limits_given, number_read, number_refused}
use Rattle.in_command_line.proofs.action.limits_of.Goals as goal

pub returns-in_err-workers : goal.returns-in_err-workers
returns-in_err-workers c = rw c.from_residual.ensures
    (λ l h. c.in_err-workers.ensures l.workers (omega (arith, l.few_workers)) h.0)

pub returns-in_err-limit : goal.returns-in_err-limit
returns-in_err-limit c = rw c.from_residual-in_err-limit.ensures
    (λ l h. number_refused (found_of c.args.options.now) (codes "limit") (λ t e. (c.in_err-limit.ensures.value t e).1.0) l.limit (omega (arith, l.limit_in_range)) h.1)

pub returns-in_err-cells : goal.returns-in_err-cells
returns-in_err-cells c = rw c.from_residual-in_err-cells.ensures
    (λ l h. c.in_err-cells.ensures l.cells l.most h.2)

pub returns : goal.returns
returns c =
    let found = found_of c.args.options.now in
    let limit = number_read found (codes "limit") c.in_ok-limit.limit c.in_ok-limit.ensures.none
    (λ t e. let h = c.in_ok-limit.ensures.value t e in (h.0.0.0, h.0.1)) in
    limits_given (rows_of found) _ _ _ c.with_counts.result c.with_counts.ensures c.in_ok-workers.ensures limit c.in_ok-cells.ensures
