use Rattle.std.proofs.Common.{◌≡◌, ◌++◌, ◌∷◌, [], ◌∙◌, unwrap_or, ap, append_assoc}
use Rattle.in_net.specs.Nets.{Free}
use Rattle.in_print.specs.Terms.{term_in}
use Rattle.in_print.specs.Texts.{setting_of}
use Rattle.in_print.specs.Writings.{with_bytes, with_parts}
use Rattle.in_print.proofs.LineByLine.{one_line}
use Rattle.in_print.proofs.lines.free_line.Goals as goal

pub returns : goal.returns
returns c = λ d le.
    let s = setting_of c.args.machine.now in let w = c.args.sheet.now in
    let name = c.as_bytes.ensures.value ∙ ap (λ o. unwrap_or o []) c.free_name.ensures in
    let front : c.add-2.new.self ≡ with_bytes w (s.words.free c.args.number ++ 32 ∷ 61 ∷ 32 ∷ []) =
    c.in_ok-add-2.ensures ∙ ap (λ w. with_bytes w (32 ∷ 61 ∷ 32 ∷ [])) (c.in_ok-add.ensures ∙ ap (with_bytes w) name)
    ∙ (λ i. record { bytes = append_assoc w.bytes (s.words.free c.args.number) (32 ∷ 61 ∷ 32 ∷ []) i; met = w.met }) in
    c.in_ok-add-3.ensures ∙ ap (λ w. with_bytes w (10 ∷ [])) (c.in_ok-term.ensures d le ∙ ap (λ w. with_parts s w (term_in s d (Free c.args.number))) front)
    ∙ one_line s w (s.words.free c.args.number ++ 32 ∷ 61 ∷ 32 ∷ []) (term_in s d (Free c.args.number))
