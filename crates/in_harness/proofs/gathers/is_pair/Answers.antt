use Rattle.std.proofs.Common.{length, sym, ap, ◌∙◌, arith}
use Rattle.in_symbols.specs.Tables.{Tables, matching}
use Rattle.in_compile.proofs.Public.{has_template}
use Rattle.in_harness.proofs.gathers.is_pair.Goals as goal

pub returns : goal.returns
returns c = λ is.
    let p = c.args.checked.now.program in
    let same = ap (λ (t : Tables). length t.names) c.symbols-symbols.ensures in
    has_template p c.args.templates.now c.requires c.args.c.0 c.args.d.0 (record {
      first = (let e = c.symbols.ensures in omega (arith, e, same, c.if-c-symbols.false));
      second = (let e = c.symbols-else-c-symbols.ensures in omega (arith, e, same, c.if-d-symbols.false));
      matched = ap (λ (t : Tables). matching t c.args.c.0 c.args.d.0) (sym c.symbols-symbols.ensures) ∙ sym c.matching.ensures ∙ is;
    })
