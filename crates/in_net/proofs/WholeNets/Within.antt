-- An agent that has a symbol has one of the net's numbers.
use Rattle.std.proofs.Common.{◌≡◌, ◌<◌, ℕ, Option, Some, None, length, slice_get, refl}
use Rattle.std.specs.Prelude.{option_map, option_and_then}
use Rattle.std.proofs.lemmas.Option.{slice_get_within}
use Rattle.in_syntax.specs.declared.symbol_no.SymbolNo.{SymbolNo}
use Rattle.in_net.specs.declared.nets.Cell.{Cell}
use Rattle.in_net.specs.Parts.{Parts, symbol_in}

pub symbol_within : (n : Parts) (x : ℕ) (s : SymbolNo) → symbol_in n x ≡ Some s → x < length n.cells
symbol_within n x s e = go (slice_get n.cells x) refl e
  where
    go : (y : Option (Option Cell)) → slice_get n.cells x ≡ y → option_map (λ (c : Cell). c.symbol) (option_and_then (λ (c : Option Cell). c) y) ≡ Some s → x < length n.cells
    go None f h = cc
    go (Some y) f h = slice_get_within n.cells x y f
