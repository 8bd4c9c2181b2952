use Rattle.in_chosen_runs.proofs.Choices.{at_most, fewer_than, none_at_most}
use Rattle.in_chosen_runs.proofs.running.run_chosen.Goals as goal

pub returns : goal.returns
returns c = record {
  start = c.in_ok-machine.machine;
  is_start = c.in_ok-machine.ensures;
  middle = c.choose-chosen.new.machine;
  most = c.choose-chosen.ensures.most;
  by_choice = c.choose-chosen.ensures.steps;
  left = λ i at. (c.choose-chosen.ensures.fewer i at, none_at_most _ _ c.take_first-further.ensures.most (c.allowed.ensures.left i at));
  in_turn = c.take_first-further.ensures.runs;
  few = at_most _ _ _ c.take_first-further.ensures.most c.allowed.ensures.most;
  fewer = λ all lt. c.take_first-further.ensures.fewer (fewer_than _ _ _ (c.allowed.ensures.all all) lt);
}
