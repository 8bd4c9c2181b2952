-- The declared names, and names of lists.
use Rattle.std.proofs.Common.{◌≡◌, ℕ, ◌+◌, ◌<◌, Bool, true, false, not, cond, ◌||◌, nat_lt, List, [], ◌∷◌, length, Option, Some, None, is_some, if◌then◌else◌, refl, sym, ◌∙◌, ap, inl, inr, arith, ltb-true}
use Rattle.std.specs.List.{list_any, position_or_len}
use Rattle.std.specs.Str.{bytes_eq}
use Rattle.std.proofs.lemmas.Bool.Decides.{same_from_decides, Decides-ltb}
use Rattle.std.proofs.lemmas.Slice.Eq.{bytes_eq-Decides}
use Rattle.in_syntax.specs.declared.places.Place.{Place}
use Rattle.in_base.specs.Lists.{AnyByRecursion}
use Rattle.in_symbols.specs.Names.{number_in, has_name}

-- the name is one of these
abbrev pub IsIn : List (List ℕ) → List ℕ → Type 0
IsIn names name = AnyByRecursion (λ n. n ≡ name) names

-- they are the names of which this holds
abbrev pub AreNamesOf : (List ℕ → Type 0) → List (List ℕ) → Type 0
AreNamesOf P names = (m : List ℕ) → (IsIn names m → P m) × (P m → IsIn names m)

-- ---- the tests of names

or_true : (b : Bool) → (b || true) ≡ true
or_true true = refl
or_true false = refl

there_by : (n name : List ℕ) (ns : List (List ℕ)) → (has_name name ns ≡ true → IsIn ns name) → (b : Bool) → bytes_eq name n ≡ b → has_name name (n ∷ ns) ≡ true → IsIn (n ∷ ns) name
there_by n name ns more true is e = inl (sym ((bytes_eq-Decides name n).0 is))
there_by n name ns more false is e = inr (more (sym (ap (λ b. b || has_name name ns) is) ∙ e))

pub there : (names : List (List ℕ)) (name : List ℕ) → has_name name names ≡ true → IsIn names name
there [] name e = cc
there (n ∷ ns) name e = there_by n name ns (λ h. there ns name h) (bytes_eq name n) refl e

pub is_there : (names : List (List ℕ)) (name : List ℕ) → IsIn names name → has_name name names ≡ true
is_there [] name h = absurd h
is_there (n ∷ ns) name (inl e) = ap (λ b. b || has_name name ns) ((bytes_eq-Decides name n).1 (sym e))
is_there (n ∷ ns) name (inr h) = ap (λ b. bytes_eq name n || b) (is_there ns name h) ∙ or_true (bytes_eq name n)

passes_by : {X : Type 0} (p : X → Bool) (x : X) (xs : List X) (b : Bool) → p x ≡ b → nat_lt (position_or_len p xs) (length xs) ≡ list_any p xs →
    nat_lt (position_or_len p (x ∷ xs)) (length (x ∷ xs)) ≡ (p x || list_any p xs)
passes_by p x xs true is more =
    ap (λ b. nat_lt (cond (not b) (1 + position_or_len p xs) 0) (length (x ∷ xs))) is
    ∙ (Decides-ltb 0 (length (x ∷ xs))).1 (omega arith)
    ∙ sym (ap (λ b. b || list_any p xs) is)
passes_by p x xs false is more =
    let n = position_or_len p xs in
    let up : nat_lt (1 + n) (length (x ∷ xs)) ≡ nat_lt n (length xs) =
    same_from_decides {P = n < length xs} (nat_lt (1 + n) (length (x ∷ xs))) (nat_lt n (length xs))
    ((λ e. omega (arith, ltb-true (1 + n) (length (x ∷ xs)) e)), (λ h. (Decides-ltb (1 + n) (length (x ∷ xs))).1 (omega arith)))
    (Decides-ltb n (length xs)) in
    ap (λ b. nat_lt (cond (not b) (1 + position_or_len p xs) 0) (length (x ∷ xs))) is ∙ up ∙ more ∙ sym (ap (λ b. b || list_any p xs) is)

passes : {X : Type 0} (p : X → Bool) → (xs : List X) → nat_lt (position_or_len p xs) (length xs) ≡ list_any p xs
passes p [] = refl
passes p (x ∷ xs) = passes_by p x xs (p x) refl (passes p xs)

some_where : (b : Bool) (n : ℕ) → is_some (cond b (Some n) None) ≡ b
some_where true n = refl
some_where false n = refl

-- a declared name has a number
pub numbered : (names : List (List ℕ)) (name : List ℕ) → is_some (number_in name names) ≡ has_name name names
numbered names name = some_where (nat_lt (position_or_len (bytes_eq name) names) (length names)) (position_or_len (bytes_eq name) names) ∙ passes (bytes_eq name) names

pub has_number : (names : List (List ℕ)) (name : List ℕ) → is_some (number_in name names) ≡ true → IsIn names name
has_number names name e = there names name (sym (numbered names name) ∙ e)

pub number_there : (names : List (List ℕ)) (name : List ℕ) → IsIn names name → is_some (number_in name names) ≡ true
number_there names name h = numbered names name ∙ is_there names name h

false_true : {A : Type 0} → (b : Bool) → b ≡ false → b ≡ true → A
false_true b e f = cc

pub no_number : (names : List (List ℕ)) (name : List ℕ) → is_some (number_in name names) ≡ false → IsIn names name → ⊥
no_number names name e h = false_true (is_some (number_in name names)) e (number_there names name h)

pub not_there : (names : List (List ℕ)) (name : List ℕ) → has_name name names ≡ false → IsIn names name → ⊥
not_there names name e h = false_true (has_name name names) e (is_there names name h)

-- if there is no place of an unknown name, the name is known
pub known_by : (b : Bool) (p : Place) → let o : Option Place = None in (if b then None else Some p) ≡ o → b ≡ true
known_by true p e = refl
known_by false p e = cc
