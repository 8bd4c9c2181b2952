use Rattle.std.proofs.Common.{◌∙◌, sym, ap, subst, length, arith}
use Rattle.std.proofs.lemmas.List.{length-map}
use Rattle.in_syntax.specs.declared.tree.Source.{Source}
use Rattle.in_syntax.specs.Parsing.{IsOfText}
use Rattle.in_syntax.specs.Sizes.{IsSized}
use Rattle.in_syntax.proofs.Public.{symbols_few, tree_sized}
use Rattle.in_symbols.specs.Tables.{AreShapes, shape_of}
use Rattle.in_symbols.proofs.Shapes.{are_shapes}
use Rattle.in_symbols.proofs.Tabled.{is_clear, types_kept, symbols_kept, ports_known, is_tabled}
use Rattle.in_symbols.proofs.symbols.Symbols.of_names.Goals as goal

sized : (s : Source) → IsOfText s → IsSized s
sized s h = tree_sized s.limits h.text s h.tree

pub shapes-requires-clause-types : goal.shapes-requires-clause-types
shapes-requires-clause-types c =
    let clear = is_clear c.args.source.now c.args.types c.args.symbols c.requires.clear in
    omega (arith, ap length (types_kept c.args.source.now c.args.types c.args.symbols c.requires.types clear), length-map c.args.source.now.types (λ n. n.text), (sized c.args.source.now c.requires.text).types)

pub shapes-requires-clause-known : goal.shapes-requires-clause-known
shapes-requires-clause-known c =
    ports_known c.args.source.now c.args.types c.args.symbols (is_clear c.args.source.now c.args.types c.args.symbols c.requires.clear)

pub invariant_of-result : goal.invariant_of-result
invariant_of-result c =
    let clear = is_clear c.args.source.now c.args.types c.args.symbols c.requires.clear in
    let types = ap length (types_kept c.args.source.now c.args.types c.args.symbols c.requires.types clear) ∙ length-map c.args.source.now.types (λ n. n.text) in
    let symbols = ap length (symbols_kept c.args.source.now c.args.types c.args.symbols c.requires.symbols clear) ∙ length-map c.args.source.now.symbols (λ d. d.name.text) in (
      let most = (sized c.args.source.now c.requires.text).types in omega (arith, types, most),
      let most = (sized c.args.source.now c.requires.text).symbols in omega (arith, symbols, most, symbols_few c.args.source.now.limits),
      symbols ∙ sym (length-map c.args.source.now.symbols (shape_of c.args.types.names)) ∙ sym (ap length c.in_ok-shapes.ensures),
      subst AreShapes (sym c.in_ok-shapes.ensures) (are_shapes c.args.types.names c.args.source.now.symbols (sized c.args.source.now c.requires.text).ports),
    )

pub returns : goal.returns
returns c =
    is_tabled c.args.source.now c.args.types c.args.symbols c.in_ok-shapes.shapes c.requires.types c.requires.symbols c.requires.clear c.in_ok-shapes.ensures

pub shapes-requires-clause-sized : goal.shapes-requires-clause-sized
shapes-requires-clause-sized c = sized c.args.source.now c.requires.text
