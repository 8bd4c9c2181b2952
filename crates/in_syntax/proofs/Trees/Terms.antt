-- A term by its name and its arguments: how many names it has, how it is spelled, and a property that follows from that of its arguments.
use Rattle.std.proofs.Common.{◌≡◌, ◌≤◌, ◌+◌, ℕ, zero, suc, List, [], ◌∷◌, map, arith}
use Rattle.std.specs.List.{AllByRecursion}
use Rattle.in_syntax.specs.declared.tree.Term.{Term, out-Term}
use Rattle.in_syntax.specs.declared.tree.Term.TheFolds.{fold_out-Term}
use Rattle.in_syntax.specs.Grammar.{Spelling, spell_level, spell_term}
use Rattle.in_syntax.specs.Sizes.{total, names_in}

pub names_out : (u : Term) → names_in u ≡ total (map names_in (out-Term u).args) + 1
names_out = fold_out-Term ℕ (λ f. total f.args + 1)

pub spell_out : (u : Term) → spell_term u ≡ spell_level (record { name = (out-Term u).name; args = map spell_term (out-Term u).args })
spell_out = fold_out-Term (ℕ → Spelling) spell_level

module _ (P : Term → Type 0) (of_arguments : (u : Term) → AllByRecursion P (out-Term u).args → P u) where
  all_within : (h : ℕ) → ((u : Term) → names_in u ≤ h → P u) → (us : List Term) → total (map names_in us) ≤ h → AllByRecursion P us
  all_within h each [] short = tt
  all_within h each (u ∷ us) short = (each u (omega (arith, short)), all_within h each us (omega (arith, short)))

  within : (h : ℕ) (u : Term) → names_in u ≤ h → P u
  within zero u short = absurd (omega (arith, names_out u, short))
  within (suc h) u short = of_arguments u (all_within h (within h) (out-Term u).args (omega (arith, names_out u, short)))

  -- a property that holds of a term if it holds of its arguments holds of each term
  pub term_by_arguments : (u : Term) → P u
  term_by_arguments u = within (names_in u) u (omega arith)

  pub terms_by_arguments : (us : List Term) → AllByRecursion P us
  terms_by_arguments [] = tt
  terms_by_arguments (u ∷ us) = (term_by_arguments u, terms_by_arguments us)
