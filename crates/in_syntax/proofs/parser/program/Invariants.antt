use Rattle.std.proofs.Common.{◌≡◌, take, drop}
use Rattle.in_syntax.specs.Programs.{HasTexts, signs_of}
use Rattle.in_syntax.specs.Steps.{run, start, SignsLead, expected_in}
use Rattle.in_syntax.proofs.parser.program.Given as goal

abbrev pub invariant-loop-token : goal.invariant-loop-token
invariant-loop-token l = record {
  texts : HasTexts l.text (drop l.token-index l.tokens);
  answer : run l.reader (signs_of l.text (drop l.token-index l.tokens)) ≡ run (start l.fn.limits) (signs_of l.text l.tokens);
  leads : SignsLead (start l.fn.limits) (signs_of l.text (take l.token-index l.tokens)) l.reader;
  expected : l.expected ≡ expected_in l.reader.state;
}
