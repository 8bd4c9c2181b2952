-- The number of agents of a net in which each number has one.
use Rattle.std.proofs.Common.{◌≡◌, suc, true, Some, None, Option, List, [], ◌∷◌, length, filter, refl, sym, ap, ◌∙◌}
use Rattle.std.specs.Prelude.{count_by, is_some}
use Rattle.std.specs.List.{AllByRecursion}
use Rattle.std.proofs.lemmas.List.Sums.{length-filter}
use Rattle.in_symbols.specs.Tables.{Tables}
use Rattle.in_syntax.specs.declared.tree.SourceNet.{SourceNet}
use Rattle.in_net.specs.declared.nets.Cell.{Cell}
use Rattle.in_net.specs.Parts.{Parts}
use Rattle.in_net.specs.TextNet.{Written, AreCellsFor, IsNetOf}
use Rattle.in_open_nets_of_programs.specs.Opening.{AreAllThere}

filter_all : {X : Type 0} (xs : List (Option X)) → AllByRecursion (λ x. is_some x ≡ true) xs → length (filter is_some xs) ≡ length xs
filter_all [] all = refl
filter_all (Some x ∷ xs) all = ap suc (filter_all xs all.1)
filter_all {X} (None ∷ xs) all = let f : is_some {T = X} None ≡ true = all.0 in cc

pub count_all : {X : Type 0} (xs : List (Option X)) → AllByRecursion (λ x. is_some x ≡ true) xs → count_by is_some xs ≡ length xs
count_all xs all = sym (length-filter is_some xs) ∙ filter_all xs all

pub cells_there : (t : Tables) (ws : List Written) (cells : List (Option Cell)) → AreCellsFor t ws cells → AllByRecursion (λ c. is_some c ≡ true) cells
cells_there t [] [] h = tt
cells_there t [] (c ∷ cs) h = absurd h
cells_there t (w ∷ ws) [] h = absurd h
cells_there t (w ∷ ws) (None ∷ cs) h = absurd h
cells_there t (w ∷ ws) (Some c ∷ cs) h = (refl, cells_there t ws cs h.1)

pub text_net_there : (t : Tables) (n : SourceNet) (m : Parts) → IsNetOf t n m → AreAllThere m
text_net_there t n m h = cells_there t _ m.cells h.agents.agents
