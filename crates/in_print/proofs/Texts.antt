-- The text written part by part is that of the definitions.
use Rattle.std.proofs.Common.{◌≡◌, ℕ, suc, nat_eq, List, [], ◌∷◌, ◌++◌, length, Option, Some, None, unwrap_or, refl, sym, ◌∙◌, append_assoc, append-nil}
use Rattle.in_check.specs.NetText.{TextPart, Bytes, Head, Variable, number_of, symbol_name, variable_name, numbers, bytes_of}
use Rattle.in_print.specs.Writings.{Setting, TextSoFar, with_bytes, with_part, with_parts}

-- two lists of parts, one after the other
pub with_parts_join : (s : Setting) (w : TextSoFar) (xs ys : List (TextPart ℕ)) → with_parts s w (xs ++ ys) ≡ with_parts s (with_parts s w xs) ys
with_parts_join s w [] ys = refl
with_parts_join s w (x ∷ xs) ys = with_parts_join s (with_part s w x) xs ys

-- the bytes of the parts follow, the variables under their numbers
pub bytes_follow : (s : Setting) (w : TextSoFar) (xs : List (TextPart ℕ)) → (with_parts s w xs).bytes ≡ w.bytes ++ bytes_of s.words s.net (numbers nat_eq w.met xs) xs
bytes_follow s w [] = sym (append-nil w.bytes)
bytes_follow s w (Bytes bs ∷ xs) = bytes_follow s (with_bytes w bs) xs ∙ append_assoc w.bytes bs (bytes_of s.words s.net (numbers nat_eq w.met xs) xs)
bytes_follow s w (Head y ∷ xs) =
    let name = symbol_name s.words (s.net.symbol y) in
    bytes_follow s (with_bytes w name) xs ∙ append_assoc w.bytes name (bytes_of s.words s.net (numbers nat_eq w.met xs) xs)
bytes_follow s w (Variable p q ∷ xs) = of (λ v. bytes_follow s v xs) (number_of nat_eq w.met p q)
  where
    written : Option ℕ → TextSoFar
    written o = record { bytes = w.bytes ++ variable_name (unwrap_or o (suc (length w.met))); met = elim o [ None ↦ p ∷ w.met | Some k ↦ w.met ] }

    turns : Option ℕ → List ℕ
    turns o = elim o [ None ↦ suc (length w.met) ∷ numbers nat_eq (p ∷ w.met) xs | Some k ↦ k ∷ numbers nat_eq w.met xs ]

    of : ((v : TextSoFar) → (with_parts s v xs).bytes ≡ v.bytes ++ bytes_of s.words s.net (numbers nat_eq v.met xs) xs) → (o : Option ℕ) →
        (with_parts s (written o) xs).bytes ≡ w.bytes ++ bytes_of s.words s.net (turns o) (Variable p q ∷ xs)
    of more None = more (written None) ∙ append_assoc w.bytes (variable_name (suc (length w.met))) (bytes_of s.words s.net (numbers nat_eq (p ∷ w.met) xs) xs)
    of more (Some k) = more (written (Some k)) ∙ append_assoc w.bytes (variable_name k) (bytes_of s.words s.net (numbers nat_eq w.met xs) xs)
