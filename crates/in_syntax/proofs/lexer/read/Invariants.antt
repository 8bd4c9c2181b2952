use Rattle.std.proofs.Common.{◌≡◌, List, ◌++◌, length}
use Rattle.std.specs.Str.{chars, IsUtf8}
use Rattle.in_syntax.specs.declared.words.Token.{Token}
use Rattle.in_syntax.specs.declared.characters.Spot.{Spot}
use Rattle.in_syntax.specs.declared.faults.Code.{Code}
use Rattle.in_syntax.specs.Places.{start, past_all}
use Rattle.in_syntax.specs.Tokens.{Reads, Stops}
use Rattle.in_syntax.specs.Cursors.{IsWithin}
use Rattle.in_syntax.proofs.lexer.read.Given as goal

-- if the rest reads as tokens, or stops at a fault, so does the whole, after the tokens so far
abbrev pub invariant-loop-tokens : goal.invariant-loop-tokens
invariant-loop-tokens l = record {
  within : IsWithin l.spot l.rest;
  utf8 : IsUtf8 l.rest;
  reads : (more : List Token) → Reads l.spot (chars l.rest) more → Reads start (chars l.text) (l.tokens.items ++ more);
  stops : (code : Code) (at : Spot) → Stops l.spot (chars l.rest) code at → Stops start (chars l.text) code at;
  end : past_all l.spot (chars l.rest) ≡ past_all start (chars l.text);
}

abbrev pub decreases-loop-tokens : goal.decreases-loop-tokens
decreases-loop-tokens l = length l.rest
