use Rattle.std.proofs.Common.{◌≡◌, ◌-◌, take, length, arith, ◌∙◌, ap}
use Rattle.std.specs.Str.{chars}
use Rattle.in_syntax.specs.Tokens.{word_kind}
use Rattle.in_syntax.proofs.Lexing.Moves.{word_goes, word_wrong, boundary, chars_front}
use Rattle.in_syntax.proofs.lexer.word.Goals as goal

pub returns-then-count-gt-MAX_NAME_CHARACTERS : goal.returns-then-count-gt-MAX_NAME_CHARACTERS
returns-then-count-gt-MAX_NAME_CHARACTERS c =
    let r = c.run-count.ensures in
    word_wrong c.args.spot c.run-count.result.1 c.args.text.now r.0 c.run-count.result.2.now c.requires.first r.1.runs r.1.longest (omega (arith, r.1.count))

pub range-requires-clause-end_boundary : goal.range-requires-clause-end_boundary
range-requires-clause-end_boundary c =
    let r = c.run-count.ensures in
    boundary c.args.text.now r.0 c.run-count.result.2.now c.utf8.text r.1.runs.utf8 r.1.runs.split

pub returns : goal.returns
returns c =
    let r = c.run-count.ensures in
    let text = c.args.text.now in
    let rest = c.run-count.result.2.now in
    let front : c.range.result.now ≡ take (length text - length rest) text = grind arith in
    let kind = c.kind_of_word-kind.ensures ∙ ap word_kind (ap chars front ∙ chars_front text r.0 rest c.utf8.text r.1.runs.utf8 r.1.runs.split) in
    word_goes c.args.spot c.run-count.result.1 text r.0 rest c.kind_of_word-kind.result c.place_to-place.result c.requires.first r.1.runs r.1.longest (omega (arith, r.1.count)) kind c.place_to-place.ensures
