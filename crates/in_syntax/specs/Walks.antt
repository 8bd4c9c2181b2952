-- How terms are walked: each name is visited before its arguments, and each argument after it was walked.
use Rattle.std.specs.Prelude.{ℕ, ◌+◌, List, [], ◌∷◌, length, map}
use Rattle.in_syntax.specs.declared.places.Place.{Place}
use Rattle.in_syntax.specs.declared.tree.Name.{Name}
use Rattle.in_syntax.specs.declared.tree.Term.{Term}
use Rattle.in_syntax.specs.declared.tree.Term.TheOpen.{Term-F}
use Rattle.in_syntax.specs.declared.tree.Term.TheFolds.{fold-Term}
use Rattle.in_syntax.specs.declared.tree.Equation.{Equation}

-- the visitor S after each part that it visits, and its result on each term
pub record Visits (S K : Type 0) : Type 0 where
  pub name : S → Name → ℕ → S × K
  pub argument : S → K → ℕ → K → S
  pub equation : S → K → K → Place → S

-- the arguments in turn, numbered from this number on
abbrev pub walks_from : {S K : Type 0} → Visits S K → K → ℕ → List (S → S × K) → S → S
walks_from v of number [] s = s
walks_from v of number (walks ∷ more) s =
    let there = walks s in
    walks_from v of (number + 1) more (v.argument there.0 of number there.1)

-- a name, and then its arguments
abbrev pub walks_name : {S K : Type 0} → Visits S K → Term-F (S → S × K) → S → S × K
walks_name v f s =
    let there = v.name s f.name (length f.args) in
    (walks_from v there.1 0 f.args there.0, there.1)

abbrev pub walks_term : {S K : Type 0} → Visits S K → Term → S → S × K
walks_term v = fold-Term _ (walks_name v)

abbrev pub walks_terms : {S K : Type 0} → Visits S K → K → List Term → S → S
walks_terms v of ts s = walks_from v of 0 (map (walks_term v) ts) s

abbrev pub walks_equation : {S K : Type 0} → Visits S K → Equation → S → S
walks_equation v e s =
    let left = walks_term v e.left s in
    let right = walks_term v e.right left.0 in
    v.equation right.0 left.1 right.1 e.tilde

abbrev pub walks_equations : {S K : Type 0} → Visits S K → List Equation → S → S
walks_equations v [] s = s
walks_equations v (e ∷ es) s = walks_equations v es (walks_equation v e s)
