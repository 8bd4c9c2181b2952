-- A text while it is written: its bytes so far, and the wires that were met, each by the point where it was met. Words of the inner
-- contracts. The whole text is defined by `in_check`, as a net's text.
use Rattle.std.specs.Prelude.{ℕ, suc, List, [], ◌∷◌, ◌++◌, length, Some, None, unwrap_or, nat_eq}
use Rattle.in_net.specs.Nets.{Point, Signature, Net}
use Rattle.in_check.specs.NetText.{Words, TextPart, Bytes, Head, Variable, number_of, symbol_name, variable_name}

-- the symbols, their names and those of the free ends, and the net
pub record Setting : Type 0 where
  pub symbols : Signature
  pub words : Words
  pub net : Net ℕ

-- the bytes, and the points at which a wire was met for the first time, the last one first
pub record TextSoFar : Type 0 where
  pub bytes : List ℕ
  pub met : List (Point ℕ)

abbrev pub nothing_written : TextSoFar
nothing_written = record { bytes = []; met = [] }

-- the number of a wire between these points, and the wires that are met afterwards
abbrev pub number_at : List (Point ℕ) → Point ℕ → Point ℕ → ℕ
number_at met p q = unwrap_or (number_of nat_eq met p q) (suc (length met))

abbrev pub met_after : List (Point ℕ) → Point ℕ → Point ℕ → List (Point ℕ)
met_after met p q = elim (number_of nat_eq met p q) [ None ↦ p ∷ met | Some k ↦ met ]

abbrev pub with_bytes : TextSoFar → List ℕ → TextSoFar
with_bytes w bs = record { bytes = w.bytes ++ bs; met = w.met }

abbrev pub with_variable : TextSoFar → Point ℕ → Point ℕ → TextSoFar
with_variable w p q = record { bytes = w.bytes ++ variable_name (number_at w.met p q); met = met_after w.met p q }

-- the text after one part more
abbrev pub with_part : Setting → TextSoFar → TextPart ℕ → TextSoFar
with_part s w (Bytes bs) = with_bytes w bs
with_part s w (Head y) = with_bytes w (symbol_name s.words (s.net.symbol y))
with_part s w (Variable p q) = with_variable w p q

-- .. and after these parts
abbrev pub with_parts : Setting → TextSoFar → List (TextPart ℕ) → TextSoFar
with_parts s w [] = w
with_parts s w (x ∷ xs) = with_parts s (with_part s w x) xs
