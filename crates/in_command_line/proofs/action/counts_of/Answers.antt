use Rattle.std.proofs.Common.{arith}
use Rattle.in_command_line.proofs.action.counts_of.Goals as goal

pub returns-in_err-small_cells : goal.returns-in_err-small_cells
returns-in_err-small_cells c = rw c.from_residual.ensures
    (λ cells most h. c.in_err-small_cells.ensures cells.small_cells (omega (arith, most.small)) h.0)

pub returns-in_err-large_cells : goal.returns-in_err-large_cells
returns-in_err-large_cells c = rw c.from_residual-in_err-large_cells.ensures
    (λ cells most h. c.in_err-large_cells.ensures cells.large_cells (omega (arith, most.large)) h.1)

pub returns-in_err-wide_cells : goal.returns-in_err-wide_cells
returns-in_err-wide_cells c = rw c.from_residual-in_err-wide_cells.ensures
    (λ cells most h. c.in_err-wide_cells.ensures cells.wide_cells (omega (arith, most.wide)) h.2)
