use Rattle.std.proofs.Common.{◌∙◌, ap, true}
use Rattle.std.proofs.lemmas.Result.{on_ok_weaker}
use Rattle.in_syntax.specs.Walks.{walks_terms}
use Rattle.in_net.specs.declared.reading.ReadTerm.{ReadTerm}
use Rattle.in_net.specs.Reading.{reading_names}
use Rattle.in_net.proofs.Texts.Walked.{terms_walked}
use Rattle.in_net.proofs.reading.read_head.Goals as goal

pub returns : goal.returns
returns c =
    let head = c.args.head.now in
    let of : ReadTerm = record { spot = c.args.first; place = head.name.place; is_head = true } in
    on_ok_weaker c.walk_terms.result
    (λ e. e ∙ ap (λ ts. walks_terms reading_names of ts c.args.reader.now) c.as_slice.ensures ∙ terms_walked head.terms c.args.reader.now of)
    c.walk_terms.ensures
