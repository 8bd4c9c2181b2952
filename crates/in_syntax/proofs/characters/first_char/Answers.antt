use Rattle.std.proofs.Common.{sym, ◌∙◌, ap, ◌++◌}
use Rattle.std.specs.Char.{encode_utf8}
use Rattle.in_syntax.proofs.Lexing.Cursors.{begins_with}
use Rattle.in_syntax.proofs.characters.first_char.Goals as goal

pub returns : goal.returns
returns c =
    begins_with c.args.text.now c.as_str.result.now c.in_ok-c.c c.utf8.text
    (sym c.chars-chars.ensures.rest ∙ c.in_ok-c.ensures.steps.0 ∙ ap (λ z. encode_utf8 c.in_ok-c.c ++ z) (sym c.as_str.ensures))
