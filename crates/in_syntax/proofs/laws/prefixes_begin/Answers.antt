use Rattle.in_syntax.proofs.Grammar.Prefixes as laws
use Rattle.in_syntax.proofs.laws.prefixes_begin.Goals as goal

pub returns : goal.returns
returns c = laws.prefixes_begin
