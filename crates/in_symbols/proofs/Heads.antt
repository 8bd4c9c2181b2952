-- A fold over terms, at one term.
use Rattle.std.proofs.Common.{◌≡◌, ℕ, Bool, ◌||◌, ◌&&◌, List, map, Option, is_some}
use Rattle.in_syntax.specs.declared.places.Place.{Place}
use Rattle.in_syntax.specs.declared.tree.Term.{Term, out-Term}
use Rattle.in_syntax.specs.declared.tree.Term.TheFolds.{fold_out-Term}
use Rattle.in_symbols.specs.Names.{number_in}
use Rattle.in_syntax.specs.Refusals.{earliest}
use Rattle.in_symbols.specs.Searching.{is_empty, unknown_here, unknown_in_term}
use Rattle.in_symbols.specs.Tables.{is_none, all_true, heads_known}

pub heads_out : (names : List (List ℕ)) (t : Term) →
    heads_known names t ≡ ((is_none (map (heads_known names) (out-Term t).args) || is_some (number_in (out-Term t).name.text names)) && all_true (map (heads_known names) (out-Term t).args))
heads_out names = fold_out-Term Bool (λ f. (is_none f.args || is_some (number_in f.name.text names)) && all_true f.args)

pub unknown_out : (names : List (List ℕ)) (t : Term) →
    unknown_in_term names t ≡ earliest (unknown_here names (is_empty (map (unknown_in_term names) (out-Term t).args)) (out-Term t).name) (map (unknown_in_term names) (out-Term t).args)
unknown_out names = fold_out-Term (Option Place) (λ f. earliest (unknown_here names (is_empty f.args) f.name) f.args)
