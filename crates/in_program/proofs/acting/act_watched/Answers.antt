use Rattle.in_program.proofs.acting.act_watched.Goals as goal

pub returns-in-Check : goal.returns-in-Check
returns-in-Check g c = rw c.in-Check.is c.report_read.ensures

pub returns-in-Derive : goal.returns-in-Derive
returns-in-Derive g c = rw c.in-Derive.is c.report_read-in-Derive.ensures

pub returns-in-Run : goal.returns-in-Run
returns-in-Run g c = rw c.in-Run.is c.report_run.ensures

pub returns-in-Count : goal.returns-in-Count
returns-in-Count g c = rw c.in-Count.is c.report_run-in-Count.ensures
