use Rattle.in_syntax.proofs.Public.{texts_begin_apart}
use Rattle.in_symbols.proofs.OneTables.{one_tables}
use Rattle.in_symbols.proofs.laws.tables_are_once.Goals as goal

pub returns : goal.returns
returns c = λ s of_text. one_tables s (texts_begin_apart s.limits of_text.text s of_text.tree)
