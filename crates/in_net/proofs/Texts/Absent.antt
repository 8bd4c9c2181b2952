-- A name without a number is not there.
use Rattle.std.proofs.Common.{◌≡◌, ℕ, Bool, true, false, cond, List, [], ◌∷◌, ◌++◌, Option, None, Ok, sym, ◌∙◌, ap, is_some}
use Rattle.in_symbols.specs.Names.{number_in, has_name, Declares}
use Rattle.in_symbols.proofs.Public.{absent}
use Rattle.in_net.specs.Reading.{with_name}

-- a name that has no number is added by `declare`
pub added : (old new : List (List ℕ)) (name : List ℕ) (b : Bool) → number_in name old ≡ None → Declares old name new (Ok b) → new ≡ with_name old name
added old new name true none d = d.0 ∙ ap (λ (o : Option ℕ). cond (is_some o) old (old ++ name ∷ [])) (sym none)
added old new name false none d = absurd (let gone : has_name name old ≡ false = absent _ old none in let there = d.1 in cc)
