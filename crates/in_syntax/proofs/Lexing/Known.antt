-- A part of a text that is copied.
use Rattle.std.proofs.Common.{◌≡◌, ℕ, ◌+◌, ◌-◌, ◌≤◌, List, ◌++◌, take, drop, length, sym, ◌∙◌, ap, arith, length-take, length-drop, take_at, take-add}

-- a copy of j bytes from i on, as the front of its target
pub copied : (i j : ℕ) (text new rest : List ℕ) → i + j ≤ length text → new ≡ take ((i + j) - i) (drop i text) → take (i + j) text ≡ take i text ++ take j (new ++ rest)
copied i j text new rest fits e =
    let size : length new ≡ j = ap length e ∙ simp (length-take, length-drop) (omega arith) in
    let same : (i + j) - i ≡ j = omega arith in
    take-add i j text ∙ ap (λ z. take i text ++ z) (sym (ap (λ k. take k (drop i text)) same) ∙ sym e ∙ sym (take_at new rest j size))
