use Rattle.in_c.proofs.AnsweredOnce.{export_answers_are_one, reports_are_one, run_answers_are_one}
use Rattle.in_c.proofs.laws.calls_answer_once.Goals as goal

pub returns : goal.returns
returns c = record {
  reports = reports_are_one c.texts_are_answered_once.ensures;
  runs = run_answers_are_one c.texts_are_answered_once.ensures;
  exports = export_answers_are_one c.texts_are_exported_once.ensures;
}
