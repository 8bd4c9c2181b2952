-- The number of agents that take a cell of a class, counted one by one.
use Rattle.std.proofs.Common.{◌≡◌, ◌<◌, ◌+◌, ℕ, zero, suc, Bool, true, false, cond, Option, Some, None, List, [], ◌∷◌, length, take, get_or, count_by, is_some, refl, ap, ◌∙◌, arith}
use Rattle.std.specs.Prelude.{option_map, option_and_then, slice_get}
use Rattle.std.specs.List.{AllByRecursion}
use Rattle.std.proofs.lemmas.List.Sums.{count_by_more_yes, count_by_more_no, sum_by-cons}
use Rattle.in_arena.specs.declared.content.CellClass.{CellClass}
use Rattle.in_symbols.specs.Tables.{Tables}
use Rattle.in_syntax.specs.declared.symbol_no.SymbolNo.{SymbolNo}
use Rattle.in_net.specs.declared.nets.Cell.{Cell}
use Rattle.in_net.specs.Parts.{Parts, symbol_in}
use Rattle.in_compile.specs.Cells.{is_of, takes}

pub all_there : (cs : List (Option Cell)) → AllByRecursion (λ c. is_some c ≡ true) cs → count_by is_some cs ≡ length cs
all_there [] h = refl
all_there (None ∷ cs) h = absurd (let e : false ≡ true = h.0 in cc)
all_there (Some c ∷ cs) h = sum_by-cons (λ c. cond (is_some c) 1 0) (Some c) cs ∙ (let e = all_there cs h.1 in omega arith)

module _ (t : Tables) (c : CellClass) where
  pub takes_symbol : Option SymbolNo → Bool
  takes_symbol None = false
  takes_symbol (Some s) = is_of t c s.0

  by_symbol : (cs : List (Option Cell)) (x : ℕ) → takes t c (get_or cs x None) ≡ takes_symbol (option_map (λ c. c.symbol) (option_and_then (λ c. c) (slice_get cs x)))
  unfolding takes_symbol
  by_symbol [] x = refl
  by_symbol (None ∷ cs) zero = refl
  by_symbol (Some d ∷ cs) zero = refl
  by_symbol (d ∷ cs) (suc x) = by_symbol cs x

  module _ (n : Parts) (x : ℕ) (within : x < length n.cells) where
    pub one_more : (s : SymbolNo) → symbol_in n x ≡ Some s → is_of t c s.0 ≡ true → count_by (takes t c) (take (x + 1) n.cells) ≡ count_by (takes t c) (take x n.cells) + 1
    unfolding takes_symbol
    one_more s e h = count_by_more_yes (takes t c) n.cells x None within (by_symbol n.cells x ∙ ap takes_symbol e ∙ h)

    pub no_more : (s : SymbolNo) → symbol_in n x ≡ Some s → is_of t c s.0 ≡ false → count_by (takes t c) (take (x + 1) n.cells) ≡ count_by (takes t c) (take x n.cells)
    unfolding takes_symbol
    no_more s e h = count_by_more_no (takes t c) n.cells x None within (by_symbol n.cells x ∙ ap takes_symbol e ∙ h)

    pub none_here : symbol_in n x ≡ None → count_by (takes t c) (take (x + 1) n.cells) ≡ count_by (takes t c) (take x n.cells)
    unfolding takes_symbol
    none_here e = count_by_more_no (takes t c) n.cells x None within (by_symbol n.cells x ∙ ap takes_symbol e)
