use Rattle.std.proofs.Common.{◌≡◌, ℕ, List, ap, sym, ◌∙◌}
use Rattle.std.specs.Str.{chars, encode_utf8_all}
use Rattle.std.specs.Char.{encode_utf8}
use Rattle.std.proofs.lemmas.Str.{encodes-chars}
use Rattle.in_syntax.proofs.Lexing.Lexemes.{word_kind-name}
use Rattle.in_syntax.specs.Tokens.{word_kind}
use Rattle.in_syntax.proofs.lexer.kind_of_word.Goals as goal

pub returns-in-type : goal.returns-in-type
unfolding chars
returns-in-type c = ap (λ w. word_kind (chars w)) (sym c.in-type.is)

pub returns-in-symbol : goal.returns-in-symbol
unfolding chars
returns-in-symbol c = ap (λ w. word_kind (chars w)) (sym c.in-symbol.is)

pub returns-in-rule : goal.returns-in-rule
unfolding chars
returns-in-rule c = ap (λ w. word_kind (chars w)) (sym c.in-rule.is)

pub returns-in-net : goal.returns-in-net
unfolding chars
returns-in-net c = ap (λ w. word_kind (chars w)) (sym c.in-net.is)

pub returns-in_default : goal.returns-in_default
unfolding encode_utf8
returns-in_default c =
    let word = c.args.word.now in
    let back = λ (v : List ℕ) (e : chars word ≡ v). sym (encodes-chars word c.utf8.word) ∙ ap encode_utf8_all e in
    sym (word_kind-name (chars word) (λ e. c.in_default.not-type (back _ e)) (λ e. c.in_default.not-symbol (back _ e)) (λ e. c.in_default.not-rule (back _ e)) (λ e. c.in_default.not-net (back _ e)))
