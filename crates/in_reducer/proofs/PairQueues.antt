-- Rows whose first places are no longer read.
use Rattle.std.proofs.Common.{◌≡◌, ◌<◌, ◌≤◌, ◌+◌, ℕ, suc, List, ◌∷◌, ◌++◌, length, take, drop, get_or, remove, sym, ap, ◌∙◌, length-drop, arith}
use Rattle.std.proofs.lemmas.List.{append-nil, drop-append-le, drop-drop, drop-take, drop_all, drop_more, length-take}

module _ {X : Type 0} (xs : List X) (i : ℕ) where
  pub first_gone : (x : X) → i < length xs → x ≡ get_or xs i x → drop i xs ≡ x ∷ drop (i + 1) xs
  first_gone x low read = drop_more xs i x low ∙ ap (λ (z : X). z ∷ drop (i + 1) xs) (sym read)

  module _ (k : ℕ) (low : i + k < length xs) where
    pub removed : drop i (remove xs (i + k)) ≡ remove (drop i xs) k
    removed =
        drop-append-le i (take (i + k) xs) (drop (suc (i + k)) xs) (let l = length-take (i + k) xs in omega (arith, l, low))
        ∙ ap (λ (zs : List X). zs ++ drop (suc (i + k)) xs) (drop-take i k xs)
        ∙ ap (λ (zs : List X). take k (drop i xs) ++ zs) (ap (λ (n : ℕ). drop n xs) (let z : suc (i + k) ≡ i + suc k = omega arith in z) ∙ sym (drop-drop (suc k) i xs))

    -- .. of the last one
    pub last_removed : (n : ℕ) → i + k ≡ n → length xs ≤ i + suc k → drop i (take n xs) ≡ remove (drop i xs) k
    last_removed n last all =
        ap (λ (z : ℕ). drop i (take z xs)) (sym last) ∙ drop-take i k xs ∙ sym (append-nil (take k (drop i xs)))
        ∙ ap (λ (zs : List X). take k (drop i xs) ++ zs) (sym (drop_all (suc k) (drop i xs) (let l = length-drop i xs in omega (arith, l, all))))
