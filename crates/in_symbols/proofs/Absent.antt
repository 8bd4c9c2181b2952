-- A name without a number is not declared.
use Rattle.std.proofs.Common.{◌≡◌, ◌+◌, ◌≤◌, Bool, true, false, not, cond, ◌||◌, nat_lt, List, [], ◌∷◌, length, Some, None, refl, ◌∙◌, ap, subst, arith, ltb-false}
use Rattle.std.specs.List.{list_any, position, position_or_len}

past_end : {X : Type 0} (p : X → Bool) → (xs : List X) → length xs ≤ position_or_len p xs → list_any p xs ≡ false
past_end p [] le = refl
past_end p (x ∷ xs) le = go (p x) refl (λ h. past_end p xs h)
  where
    go : (b : Bool) → p x ≡ b → (length xs ≤ position_or_len p xs → list_any p xs ≡ false) → (p x || list_any p xs) ≡ false
    go true is more = absurd (omega (arith, subst (λ b. length (x ∷ xs) ≤ cond (not b) (1 + position_or_len p xs) 0) is le))
    go false is more =
        let there : length xs ≤ position_or_len p xs = omega (arith, subst (λ b. length (x ∷ xs) ≤ cond (not b) (1 + position_or_len p xs) 0) is le) in
        ap (λ b. b || list_any p xs) is ∙ more there

no_number : {X : Type 0} (p : X → Bool) → (xs : List X) (b : Bool) → nat_lt (position_or_len p xs) (length xs) ≡ b → cond b (Some (position_or_len p xs)) None ≡ None → length xs ≤ position_or_len p xs
no_number p xs true is e = cc
no_number p xs false is e = ltb-false (position_or_len p xs) (length xs) is

pub absent : {X : Type 0} (p : X → Bool) → (xs : List X) → position p xs ≡ None → list_any p xs ≡ false
absent p xs e = past_end p xs (no_number p xs (nat_lt (position_or_len p xs) (length xs)) refl e)
