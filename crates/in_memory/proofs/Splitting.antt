-- Laws of parting: the cells of each of the two owners, and that together they have all.
use Rattle.std.proofs.Common.{◌≡◌, refl, ℕ, zero, suc, ◌<◌, List, [], ◌∷◌, length, set, get_or, replicate, ap, ◌∙◌, arith}
use Rattle.std.specs.Prelude.{Bool, true, false, not, Option, Some, None}
use Rattle.in_memory.specs.Places.{IsFilled, IsHere, either_of, together}
use Rattle.in_memory.specs.Splitting.{held, those_of, but, is_no}

module _ {X : Type 0} where
  pub length-those_of : (p : ℕ → Bool) (cs : List (Option (Option X))) → length (those_of p cs) ≡ length cs
  length-those_of p [] = refl
  length-those_of p (c ∷ cs) = ap suc (length-those_of (λ k. p (suc k)) cs)

  abbrev nothing : Option (Option X)
  nothing = None

  none-held : (b : Bool) → nothing ≡ held b nothing
  none-held true = refl
  none-held false = refl

  pub get_or-those_of : (p : ℕ → Bool) (cs : List (Option (Option X))) (i : ℕ) → get_or (those_of p cs) i None ≡ held (p i) (get_or cs i None)
  get_or-those_of p [] i = none-held (p i)
  get_or-those_of p (c ∷ cs) zero = refl
  get_or-those_of p (c ∷ cs) (suc i) = get_or-those_of (λ k. p (suc k)) cs i

  -- ---- together they have all

  pub either_none : (c : Option (Option X)) → either_of c None ≡ c
  either_none None = refl
  either_none (Some c) = refl

  each_parted : (b : Bool) (c : Option (Option X)) {ds es : List (Option (Option X))} → ds ≡ es → either_of (held b c) (held (not b) c) ∷ ds ≡ c ∷ es
  each_parted true None e = ap (λ l. None ∷ l) e
  each_parted true (Some x) e = ap (λ l. Some x ∷ l) e
  each_parted false c e = ap (λ l. c ∷ l) e

  each_back : (b : Bool) (c : Option (Option X)) {ds es : List (Option (Option X))} → ds ≡ es → either_of (held (not b) c) (held b c) ∷ ds ≡ c ∷ es
  each_back true c e = ap (λ l. c ∷ l) e
  each_back false None e = ap (λ l. None ∷ l) e
  each_back false (Some x) e = ap (λ l. Some x ∷ l) e

  pub part_and_rest : (p : ℕ → Bool) (cs : List (Option (Option X))) → together (those_of p cs) (those_of (but p) cs) ≡ cs
  part_and_rest p [] = refl
  part_and_rest p (c ∷ cs) = each_parted (p 0) c (part_and_rest (λ k. p (suc k)) cs)

  pub rest_and_part : (p : ℕ → Bool) (cs : List (Option (Option X))) → together (those_of (but p) cs) (those_of p cs) ≡ cs
  rest_and_part p [] = refl
  rest_and_part p (c ∷ cs) = each_back (p 0) c (rest_and_part (λ k. p (suc k)) cs)

  pub written_in_part : (p : ℕ → Bool) (cs : List (Option (Option X))) (i : ℕ) (x : X) → p i ≡ true → i < length cs
      → together (those_of (but p) cs) (set (those_of p cs) i (Some (Some x))) ≡ set cs i (Some (Some x))
  written_in_part p [] i x h lt = absurd (omega arith)
  written_in_part p (c ∷ cs) zero x h lt =
      ap (λ b. either_of (held (not b) c) (Some (Some x)) ∷ together (those_of (but (λ k. p (suc k))) cs) (those_of (λ k. p (suc k)) cs)) h ∙ ap (λ l. Some (Some x) ∷ l) (rest_and_part (λ k. p (suc k)) cs)
  written_in_part p (c ∷ cs) (suc i) x h lt = each_back (p 0) c (written_in_part (λ k. p (suc k)) cs i x h (omega (arith, lt)))

  pub get_or-together : (cs ds : List (Option (Option X))) (k : ℕ) → length cs ≡ length ds → get_or (together cs ds) k None ≡ either_of (get_or cs k None) (get_or ds k None)
  get_or-together [] [] k long = refl
  get_or-together [] (d ∷ ds) k long = absurd (omega (arith, long))
  get_or-together (c ∷ cs) [] k long = absurd (omega (arith, long))
  get_or-together (c ∷ cs) (d ∷ ds) zero long = refl
  get_or-together (c ∷ cs) (d ∷ ds) (suc k) long = get_or-together cs ds k (omega (arith, long))

  -- ---- one cell alone

  none_of : (cs : List (Option (Option X))) → those_of (λ k. false) cs ≡ replicate (length cs) None
  none_of [] = refl
  none_of (c ∷ cs) = ap (λ l. None ∷ l) (none_of cs)

  all_of : (cs : List (Option (Option X))) → those_of (λ k. true) cs ≡ cs
  all_of [] = refl
  all_of (c ∷ cs) = ap (λ l. c ∷ l) (all_of cs)

  pub one_alone : (cs : List (Option (Option X))) (i : ℕ) → those_of (is_no i) cs ≡ set (replicate (length cs) None) i (get_or cs i None)
  one_alone [] i = refl
  one_alone (c ∷ cs) zero = ap (λ l. c ∷ l) (none_of cs)
  one_alone (c ∷ cs) (suc i) = ap (λ l. None ∷ l) (one_alone cs i)

  pub all_but_one : (cs : List (Option (Option X))) (i : ℕ) → those_of (but (is_no i)) cs ≡ set cs i None
  all_but_one [] i = refl
  all_but_one (c ∷ cs) zero = ap (λ l. None ∷ l) (all_of cs)
  all_but_one (c ∷ cs) (suc i) = ap (λ l. c ∷ l) (all_but_one cs i)

  -- ---- chosen cells are in the part

  pub here_in_part : (p : ℕ → Bool) (cs : List (Option (Option X))) (i : ℕ) → p i ≡ true → IsHere cs i → IsHere (those_of p cs) i
  here_in_part p cs i chosen h = (h.0, get_or-those_of p cs i ∙ ap (λ b. held b (get_or cs i None)) chosen ∙ h.1)

  pub filled_in_part : (p : ℕ → Bool) (cs : List (Option (Option X))) (i : ℕ) → p i ≡ true → IsFilled cs i → IsFilled (those_of p cs) i
  filled_in_part p cs i chosen h = (h.0, get_or-those_of p cs i ∙ ap (λ b. held b (get_or cs i None)) chosen ∙ h.1)
