use Rattle.std.proofs.Common.{◌≡◌, ◌≤◌, ◌+◌, length}
use Rattle.in_compile.specs.Templates.{AreTemplatesOf}
use Rattle.in_rounds.specs.Gathers.{bags_of}
use Rattle.in_rounds.specs.Holding.{HaveAllLeased}
use Rattle.in_reducer.specs.Inside.{KeepsAll, reducer_view}
use Rattle.in_reducer.specs.Runs.{Runs}
use Rattle.in_rounds.specs.Bringing.{AreMadeWith}
use Rattle.in_rounds.proofs.stitching.stitch_all.Given as goal

abbrev pub invariant-loop-job : goal.invariant-loop-job
invariant-loop-job l = record {
  all : KeepsAll l.body;
  templates : AreTemplatesOf l.body.checked.now.program l.templates;
  made : AreMadeWith l.templates l.gather.slots;
  lent : HaveAllLeased (bags_of l.gather.slots) l.body.arena;
  runs : Runs (reducer_view l.fn.body) l.job (reducer_view l.body);
  left : l.jobs ≤ l.job + length l.body.queue.items;
  program : l.body.checked ≡ l.fn.body.checked;
}
