use Rattle.std.proofs.Common.{sym, ◌∙◌, ap, take}
use Rattle.std.proofs.Math.Seq.{take-length}
use Rattle.std.proofs.lemmas.Str.{utf8_valid_len-IsUtf8}
use Rattle.in_syntax.proofs.lexer.front.Goals as goal

pub returns-in-Ok : goal.returns-in-Ok
returns-in-Ok c =
    let text = c.args.text.now in
    c.in-Ok.ensures.cases.0 ∙ sym (take-length text) ∙ ap (λ n. take n text) (sym (utf8_valid_len-IsUtf8 text c.in-Ok.ensures.cases.1))
