-- A walk over a term, by its name and its arguments.
use Rattle.std.proofs.Common.{◌≡◌, List, length, ap, ◌∙◌}
use Rattle.std.proofs.lemmas.List.{length-map}
use Rattle.in_syntax.specs.declared.tree.Term.{Term, out-Term}
use Rattle.in_syntax.specs.declared.tree.Term.TheFolds.{fold_out-Term}
use Rattle.in_syntax.specs.Walks.{Visits, walks_name, walks_term, walks_terms}

module _ {S K : Type 0} (v : Visits S K) where
  -- after the name was visited
  abbrev pub goes_on : List Term → S × K → S × K
  goes_on ts there = (walks_terms v there.1 ts there.0, there.1)

  pub walk_out : (u : Term) (s : S) → walks_term v u s ≡ goes_on (out-Term u).args (v.name s (out-Term u).name (length (out-Term u).args))
  walk_out u s =
      let args = (out-Term u).args in
      ap (λ (w : S → S × K). w s) (fold_out-Term (S → S × K) (walks_name v) u)
      ∙ ap (λ n. goes_on args (v.name s (out-Term u).name n)) (length-map args (walks_term v))
