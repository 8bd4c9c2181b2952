use Rattle.in_harness_texts.proofs.Alone.{answered_alone}
use Rattle.in_harness_texts.proofs.only.only_answer.Goals as goal

pub returns : goal.returns
returns c = answered_alone c.texts_are_checked_once.ensures c.args.text.now c.check.result c.check.ensures.checked
