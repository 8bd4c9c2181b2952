-- Lists, one after another.
use Rattle.std.proofs.Common.{◌≡◌, ℕ, zero, suc, ◌+◌, ◌-◌, ◌<◌, List, [], ◌∷◌, ◌++◌, flat_map, map, take, drop, length, set, get_or, ap, ◌∙◌, arith}
use Rattle.std.proofs.Math.Seq.{take-append_seam, drop-append-add}
use Rattle.std.proofs.lemmas.List.{set-append_left, set-append_right, get_or_append_left, get_or-append-add}
use Rattle.std.proofs.lemmas.List.Folds.{flat_map-map}

module _ {X : Type 0} where
  abbrev pub joined : List (List X) → List X
  joined = flat_map (λ xs. xs)

  -- the number of items of the first k lists
  abbrev pub before : ℕ → List (List X) → ℕ
  before k [] = 0
  before zero (xs ∷ xss) = 0
  before (suc k) (xs ∷ xss) = length xs + before k xss

  pub get_in : (k i : ℕ) (d : X) (xss : List (List X)) → k < length xss → i < length (get_or xss k []) → get_or (joined xss) (before k xss + i) d ≡ get_or (get_or xss k []) i d
  get_in k i d [] lt inside = absurd (omega arith)
  get_in zero i d (xs ∷ xss) lt inside =
      let at : 0 + i ≡ i = omega arith in
      ap (λ m. get_or (xs ++ joined xss) m d) at ∙ get_or_append_left xs (joined xss) d i inside
  get_in (suc k) i d (xs ∷ xss) lt inside =
      let at : length xs + before k xss + i ≡ length xs + (before k xss + i) = omega arith in
      ap (λ m. get_or (xs ++ joined xss) m d) at ∙ get_or-append-add xs (joined xss) (before k xss + i) d ∙ get_in k i d xss (omega arith) inside

  pub set_in : (k i : ℕ) (x : X) (xss : List (List X)) → k < length xss → i < length (get_or xss k []) → set (joined xss) (before k xss + i) x ≡ joined (set xss k (set (get_or xss k []) i x))
  set_in k i x [] lt inside = absurd (omega arith)
  set_in zero i x (xs ∷ xss) lt inside =
      let at : 0 + i ≡ i = omega arith in
      ap (λ m. set (xs ++ joined xss) m x) at ∙ set-append_left xs (joined xss) i x inside
  set_in (suc k) i x (xs ∷ xss) lt inside =
      let back : length xs + before k xss + i - length xs ≡ before k xss + i = omega arith in
      set-append_right xs (joined xss) (length xs) (length xs + before k xss + i) x (λ z. length xs) (omega arith) ∙ ap (λ m. xs ++ set (joined xss) m x) back ∙ ap (λ l. xs ++ l) (set_in k i x xss (omega arith) inside)

  pub part_in : (k : ℕ) (xss : List (List X)) → k < length xss → take (length (get_or xss k [])) (drop (before k xss) (joined xss)) ≡ get_or xss k []
  part_in k [] lt = absurd (omega arith)
  part_in zero (xs ∷ xss) lt = take-append_seam xs (joined xss)
  part_in (suc k) (xs ∷ xss) lt = ap (take (length (get_or xss k []))) (drop-append-add xs (joined xss) (before k xss)) ∙ part_in k xss (omega arith)

pub joined_map : {X A : Type 0} (f : X → List A) (xs : List X) → joined (map f xs) ≡ flat_map f xs
joined_map f xs = flat_map-map (λ l. l) f xs
