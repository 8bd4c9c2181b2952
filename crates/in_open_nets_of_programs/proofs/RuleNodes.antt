-- Lists of a rule's open net, one element more at a time.
use Rattle.std.proofs.Common.{◌≡◌, ◌+◌, ℕ, zero, suc, Bool, true, false, cond, Option, Some, None, List, [], ◌∷◌, ◌++◌, length, length-append, take, slice_get, refl, sym, subst, ap, ◌∙◌, arith}
use Rattle.std.specs.Prelude.{count_by, option_map}
use Rattle.std.proofs.lemmas.List.Sums.{count_by_more_yes, count_by_more_no}
use Rattle.std.proofs.lemmas.Option.{slice_get_within, get_or_from_slice_get}
use Rattle.in_open_nets_of_programs.specs.Opening.{Each}
use Rattle.in_base.proofs.Places.{some_same}

each_one_more : {X : Type 0} (P : ℕ → X → Type 0) (xs : List X) (x : X) → Each P xs → P (length xs) x → Each P (xs ++ x ∷ [])
each_one_more P [] x all h zero y e = subst (P 0) (some_same (Some x) x y refl e) h
each_one_more P [] x all h (suc i) y e = cc
each_one_more P (z ∷ zs) x all h zero y e = all zero y e
each_one_more P (z ∷ zs) x all h (suc i) y e = each_one_more (λ i. P (suc i)) zs x (λ i. all (suc i)) h i y e

pub each_more : {X : Type 0} (P : ℕ → X → Type 0) (xs ys : List X) (x : X) (n : ℕ) → ys ≡ xs ++ x ∷ [] → length xs ≡ n → Each P xs → P n x → Each P ys
each_more P xs ys x n e l all h = subst (Each P) (sym e) (each_one_more P xs x all (subst (λ k. P k x) (sym l) h))

pub length_more : {X : Type 0} (xs ys : List X) (x : X) (n : ℕ) → ys ≡ xs ++ x ∷ [] → length xs ≡ n → length ys ≡ n + 1
length_more xs ys x n e l = let a = ap length e in let b = length-append xs (x ∷ []) in omega arith

pub count_more : {X : Type 0} (f : X → Bool) (xs : List X) (i r : ℕ) → option_map (λ q. cond (f q) 1 0) (slice_get xs i) ≡ Some r → count_by f (take (i + 1) xs) ≡ count_by f (take i xs) + r
count_more {X} f xs i r e = go (slice_get xs i) refl e
  where
    by : (q : X) → slice_get xs i ≡ Some q → (b : Bool) → f q ≡ b → cond b 1 0 ≡ r → count_by f (take (i + 1) xs) ≡ count_by f (take i xs) + r
    by q h true g k = let c = count_by_more_yes f xs i q (slice_get_within xs i q h) (ap f (get_or_from_slice_get xs i q q h) ∙ g) in omega arith
    by q h false g k = let c = count_by_more_no f xs i q (slice_get_within xs i q h) (ap f (get_or_from_slice_get xs i q q h) ∙ g) in omega arith

    go : (y : Option X) → slice_get xs i ≡ y → option_map (λ q. cond (f q) 1 0) y ≡ Some r → count_by f (take (i + 1) xs) ≡ count_by f (take i xs) + r
    go None h e = cc
    go (Some q) h e = by q h (f q) refl (some_same (Some (cond (f q) 1 0)) (cond (f q) 1 0) r refl e)

pub take_whole : {X : Type 0} (xs : List X) (n : ℕ) → length xs ≡ n → take n xs ≡ xs
take_whole [] zero e = refl
take_whole [] (suc n) e = absurd (omega arith)
take_whole (x ∷ xs) zero e = absurd (omega arith)
take_whole (x ∷ xs) (suc n) e = ap (λ z. x ∷ z) (take_whole xs n (omega arith))
