use Rattle.std.proofs.Common.{◌∙◌, ap}
use Rattle.std.proofs.lemmas.Result.{on_ok_weaker}
use Rattle.in_syntax.specs.Walks.{walks_terms}
use Rattle.in_symbols.specs.Searching.{unknown_name, looking}
use Rattle.in_symbols.proofs.Looking.{terms_looked}
use Rattle.in_symbols.proofs.searching.look_in_head.Goals as goal

pub returns : goal.returns
returns c =
    let l = c.args.lookup.now in
    let h = c.args.head.now in
    let own = unknown_name l.symbols.now h.name in
    on_ok_weaker c.walk_terms.result
    (λ e. e
    ∙ ap (λ ts. walks_terms looking tt ts c.look_up.new.self) c.as_slice.ensures
    ∙ ap (walks_terms looking tt h.terms) c.look_up.ensures
    ∙ terms_looked h.terms l own)
    c.walk_terms.ensures
