-- Searches through a map.
use Rattle.std.proofs.Common.{◌≡◌, ℕ, ◌+◌, Bool, true, false, not, cond, ◌||◌, nat_lt, List, [], ◌∷◌, ◌++◌, length, map, Some, None, Ok, refl, ◌∙◌, ap, position, String, if◌then◌else◌}
use Rattle.std.specs.List.{list_any, position_or_len}
use Rattle.std.specs.Str.{bytes_eq}
use Rattle.std.specs.String.{string_bytes}
use Rattle.std.specs.declared.alloc.Global.{Global}
use Rattle.std.proofs.lemmas.List.{map-append, length-map}
use Rattle.in_symbols.specs.Names.{number_in, has_name, Declares}

place-map : (q : List ℕ) (ks : List (String Global)) → position_or_len (bytes_eq q) (map string_bytes ks) ≡ position_or_len (λ k. bytes_eq q (string_bytes k)) ks
place-map q [] = refl
place-map q (k ∷ ks) = ap (λ n. cond (not (bytes_eq q (string_bytes k))) (1 + n) 0) (place-map q ks)

pub number-map : (q : List ℕ) (ks : List (String Global)) → number_in q (map string_bytes ks) ≡ position (λ k. bytes_eq q (string_bytes k)) ks
number-map q ks =
    ap (λ n. cond (nat_lt n (length (map string_bytes ks))) (Some n) None) (place-map q ks)
    ∙ ap (λ l. cond (nat_lt (position_or_len (λ k. bytes_eq q (string_bytes k)) ks) l) (Some (position_or_len (λ k. bytes_eq q (string_bytes k)) ks)) None) (length-map ks string_bytes)

pub has-map : (q : List ℕ) (ks : List (String Global)) → has_name q (map string_bytes ks) ≡ list_any (λ k. bytes_eq q (string_bytes k)) ks
has-map q [] = refl
has-map q (k ∷ ks) = ap (λ b. bytes_eq q (string_bytes k) || b) (has-map q ks)

declared_by : (ks new : List (String Global)) (k : String Global) (found added : Bool) → has_name (string_bytes k) (map string_bytes ks) ≡ found → added ≡ not found →
    new ≡ (if found then ks else ks ++ k ∷ []) → Declares (map string_bytes ks) (string_bytes k) (map string_bytes new) (Ok added)
declared_by ks new k true true h a e = cc
declared_by ks new k true false h a e = (ap (map string_bytes) e, h)
declared_by ks new k false true h a e = (ap (map string_bytes) e ∙ map-append string_bytes ks (k ∷ []), h)
declared_by ks new k false false h a e = cc

pub declares : (ks new : List (String Global)) (k : String Global) (added : Bool) → added ≡ not (list_any (λ x. bytes_eq (string_bytes k) (string_bytes x)) ks) →
    new ≡ (if list_any (λ x. bytes_eq (string_bytes k) (string_bytes x)) ks then ks else ks ++ k ∷ []) → Declares (map string_bytes ks) (string_bytes k) (map string_bytes new) (Ok added)
declares ks new k added a e = declared_by ks new k (list_any (λ x. bytes_eq (string_bytes k) (string_bytes x)) ks) added (has-map (string_bytes k) ks) a e
