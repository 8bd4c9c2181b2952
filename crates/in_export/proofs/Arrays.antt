-- An array that is written element by element.
use Rattle.std.proofs.Common.{◌≡◌, ◌<◌, ◌+◌, ◌-◌, ℕ, suc, List, ◌++◌, append_assoc, append-nil, codes, sym, ap, ◌∙◌, arith}
use Rattle.in_export.specs.Json.{comma, elements, array}

-- one element more
pub element_written : (text : ℕ → List ℕ) (n k : ℕ) (bytes middle more : List ℕ) → k < n → middle ≡ bytes ++ comma k → more ≡ middle ++ text k →
    more ++ elements text (k + 1) (n - (k + 1)) ≡ bytes ++ elements text k (n - k)
element_written text n k bytes middle more lt first second =
    let rest = elements text (k + 1) (n - (k + 1)) in
    let one : n - k ≡ suc (n - (k + 1)) = omega (arith, lt) in
    ap (λ z. z ++ rest) (second ∙ ap (λ z. z ++ text k) first ∙ append_assoc bytes (comma k) (text k))
    ∙ append_assoc bytes (comma k ++ text k) rest
    ∙ ap (λ z. bytes ++ elements text k z) (sym one)

-- the invariant of a loop that writes the elements after the bracket
abbrev pub is_written : (ℕ → List ℕ) → ℕ → ℕ → List ℕ → List ℕ → Type 0
is_written text n k old bytes = bytes ++ elements text k (n - k) ≡ (old ++ codes "[") ++ elements text 0 n

-- at the start
pub begins : (text : ℕ → List ℕ) (n : ℕ) (old bytes : List ℕ) → bytes ≡ old ++ codes "[" → is_written text n 0 old bytes
begins text n old bytes first = let all : n - 0 ≡ n = omega arith in ap (λ z. z ++ elements text 0 (n - 0)) first ∙ ap (λ m. (old ++ codes "[") ++ elements text 0 m) all

-- after one element more
pub goes_on : (text : ℕ → List ℕ) (n k : ℕ) (old bytes middle more : List ℕ) → is_written text n k old bytes → k < n → middle ≡ bytes ++ comma k → more ≡ middle ++ text k → is_written text n (k + 1) old more
goes_on text n k old bytes middle more before lt first second = element_written text n k bytes middle more lt first second ∙ before

-- after the last one, and the bracket
pub array_written : (text : ℕ → List ℕ) (n k : ℕ) (old bytes more : List ℕ) → is_written text n k old bytes → k ≡ n → more ≡ bytes ++ codes "]" → more ≡ old ++ array text n
array_written text n k old bytes more before is last =
    let none : n - k ≡ 0 = omega (arith, is) in
    last
    ∙ ap (λ z. z ++ codes "]") (sym (append-nil bytes) ∙ ap (λ z. bytes ++ elements text k z) (sym none) ∙ before)
    ∙ append_assoc (old ++ codes "[") (elements text 0 n) (codes "]")
    ∙ append_assoc old (codes "[") (elements text 0 n ++ codes "]")

-- one text and then more
pub then_more : (old middle new one more : List ℕ) → middle ≡ old ++ one → new ≡ middle ++ more → new ≡ old ++ (one ++ more)
then_more old middle new one more first second = second ∙ ap (λ z. z ++ more) first ∙ append_assoc old one more
