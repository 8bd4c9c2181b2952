-- Spots past characters.
use Rattle.std.proofs.Common.{◌≡◌, ℕ, ◌+◌, List, [], ◌∷◌, ◌++◌, length, refl, arith, length-append}
use Rattle.std.specs.Str.{encode_utf8_all}
use Rattle.std.specs.Char.{encode_utf8}
use Rattle.in_syntax.specs.declared.characters.Spot.{Spot}
use Rattle.in_syntax.specs.Places.{past, past_all}

pub past_all-append : (s : Spot) (v w : List ℕ) → past_all s (v ++ w) ≡ past_all (past_all s v) w
past_all-append s [] w = refl
past_all-append s (c ∷ v) w = past_all-append (past s c) v w

-- the bytes before a spot grow by those of the characters
pub past_all-at : (s : Spot) (w : List ℕ) → (past_all s w).at ≡ s.at + length (encode_utf8_all w)
past_all-at s [] = omega arith
past_all-at s (c ∷ w) = omega (arith, past_all-at (past s c) w, length-append (encode_utf8 c) (encode_utf8_all w))
