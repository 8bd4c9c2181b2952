-- If each name before ( is a symbol's, a variable has no arguments, and the same holds of an agent's arguments.
use Rattle.std.proofs.Common.{◌≡◌, ℕ, Bool, true, false, ◌||◌, List, [], ◌∷◌, map, Option, None, refl, sym, ◌∙◌, ap, is_some}
use Rattle.in_syntax.specs.declared.tree.Term.{Term, out-Term}
use Rattle.in_symbols.specs.Names.{number_in}
use Rattle.in_symbols.specs.Tables.{is_none, all_true, heads_known}
use Rattle.in_symbols.proofs.Public.{heads_out}
use Rattle.std.proofs.lemmas.Bool.{and_parts}

or_false : (b : Bool) → (b || false) ≡ b
or_false true = refl
or_false false = refl

none_there : (names : List (List ℕ)) (us : List Term) → is_none (map (heads_known names) us) ≡ true → us ≡ []
none_there names [] e = refl
none_there names (u ∷ us) e = cc

parts : (names : List (List ℕ)) (u : Term) → heads_known names u ≡ true →
    ((is_none (map (heads_known names) (out-Term u).args) || is_some (number_in (out-Term u).name.text names)) ≡ true) × (all_true (map (heads_known names) (out-Term u).args) ≡ true)
parts names u heads = and_parts (is_none (map (heads_known names) (out-Term u).args) || is_some (number_in (out-Term u).name.text names)) (all_true (map (heads_known names) (out-Term u).args)) (sym (heads_out names u) ∙ heads)

pub arguments_known : (names : List (List ℕ)) (u : Term) → heads_known names u ≡ true → all_true (map (heads_known names) (out-Term u).args) ≡ true
arguments_known names u heads = (parts names u heads).1

pub no_arguments : (names : List (List ℕ)) (u : Term) → heads_known names u ≡ true → number_in (out-Term u).name.text names ≡ None → (out-Term u).args ≡ []
no_arguments names u heads is =
    none_there names (out-Term u).args
    (sym (or_false (is_none (map (heads_known names) (out-Term u).args))) ∙ ap (λ (o : Option ℕ). is_none (map (heads_known names) (out-Term u).args) || is_some o) (sym is) ∙ (parts names u heads).0)
