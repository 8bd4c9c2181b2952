-- Which characters are a token by themselves.
use Rattle.std.proofs.Common.{◌≡◌, ◌≢◌, ℕ, ◌<◌, ◌⊎◌, inl, inr, Bool, true, false, if◌then◌else◌, List, [], ◌∷◌, ◌++◌, length, arith, Some, None, refl, sym, ◌∙◌, ap, subst, ◌&&◌, ◌||◌, ◌==◌, lit<}
use Rattle.std.specs.Prelude.{codes}
use Rattle.std.specs.List.{list_all}
use Rattle.std.specs.Str.{bytes_eq}
use Rattle.std.specs.Char.{is_ascii_alphabetic}
use Rattle.std.proofs.Math.Bool.{and-false}
use Rattle.std.proofs.lemmas.Bool.{and_parts, and_from, and_left, and_right, eqb-true, false_from_ne_true, false≢true, true≢false}
use Rattle.std.proofs.lemmas.List.Folds.{list_all-append}
use Rattle.std.proofs.lemmas.Slice.Eq.{bytes_eq-Decides}
use Rattle.unicode_ident.specs.Ident.{is_xid_start, is_xid_continue}
use Rattle.unicode_ident.proofs.IdentLemmas.{is_xid_start-ascii, is_xid_continue-ascii, is_xid_start-is_xid_continue}
use Rattle.in_syntax.specs.declared.words.TokenKind.{TokenKind}
use Rattle.in_syntax.specs.declared.words.TokenKind.TheVariants as kind
use Rattle.in_syntax.specs.Characters.{is_blank, begins_name, continues_name}
use Rattle.in_syntax.specs.Tokens.{signs, beside, is_word, word_kind, kind_of, IsLongest, BeginsNoToken}
use Rattle.in_syntax.specs.Cursors.{FirstIs, FirstFails}

-- an ASCII character begins a name if it is a letter or `_`
pub begins_name-ascii : (c : ℕ) → c < 128 → begins_name c ≡ (is_ascii_alphabetic c || c == 95)
begins_name-ascii c h = ap (λ b. b || c == 95) (is_xid_start-ascii c h)

-- a character that begins a name may continue one
pub continues-begins : (c : ℕ) → begins_name c ≡ true → continues_name c ≡ true
continues-begins c h =
    go (is_xid_start c) (c == 95) refl refl h
  where
    underscore : is_xid_continue 95 ≡ true
    underscore = is_xid_continue-ascii 95 (lit< tt)

    go : (a b : Bool) → is_xid_start c ≡ a → (c == 95) ≡ b → (a || b) ≡ true → is_xid_continue c ≡ true
    go true b e f h = is_xid_start-is_xid_continue c e
    go false true e f h = ap is_xid_continue (eqb-true c 95 f) ∙ underscore
    go false false e f h = absurd (false≢true h)

-- a test that fails at n and holds of c tells them apart
other : (p : ℕ → Bool) (c n : ℕ) → p c ≡ true → p n ≡ false → (c == n) ≡ false
other p c n h g = false_from_ne_true (c == n) (λ e. true≢false (sym h ∙ ap p (eqb-true c n e) ∙ g))

-- no sign begins with a character that begins a name
pub beside-signs_name : (c : ℕ) (cs : List ℕ) → begins_name c ≡ true → beside (c ∷ cs) signs ≡ None
beside-signs_name c cs h =
    let not : (n : ℕ) → begins_name n ≡ false → (c == n) ≡ false = λ n g. other begins_name c n h g in
    let plain : (n : ℕ) (l : n < 128) → (is_ascii_alphabetic n || n == 95) ≡ false → begins_name n ≡ false = λ n l e. begins_name-ascii n l ∙ e in
    let comma = not 44 (plain 44 (lit< tt) refl) in
    let semicolon = not 59 (plain 59 (lit< tt) refl) in
    let colon = not 58 (plain 58 (lit< tt) refl) in
    let plus = not 43 (plain 43 (lit< tt) refl) in
    let minus = not 45 (plain 45 (lit< tt) refl) in
    let open_brace = not 123 (plain 123 (lit< tt) refl) in
    let close_brace = not 125 (plain 125 (lit< tt) refl) in
    let open_parenthesis = not 40 (plain 40 (lit< tt) refl) in
    let close_parenthesis = not 41 (plain 41 (lit< tt) refl) in
    let open_bracket = not 91 (plain 91 (lit< tt) refl) in
    let close_bracket = not 93 (plain 93 (lit< tt) refl) in
    let tilde = not 126 (plain 126 (lit< tt) refl) in
    let greater = not 62 (plain 62 (lit< tt) refl) in
    simp (comma, semicolon, colon, plus, minus, open_brace, close_brace, open_parenthesis, close_parenthesis, open_bracket, close_bracket, tilde, greater)

-- the only sign of two and more characters is `><`
pub beside-signs_two : (c d : ℕ) (more : List ℕ) → (c == 62 && (d == 60 && bytes_eq more [])) ≡ false → beside (c ∷ d ∷ more) signs ≡ None
beside-signs_two c d more h = simp (and-false, h)

-- a word is no sign
pub kind_of-word : (w : List ℕ) → is_word w ≡ true → kind_of w ≡ Some (word_kind w)
kind_of-word w h = ap (λ b. if b then Some (word_kind w) else beside w signs) h

pub kind_of-other : (w : List ℕ) → is_word w ≡ false → kind_of w ≡ beside w signs
kind_of-other w h = ap (λ b. if b then Some (word_kind w) else beside w signs) h

-- the longest word
pub longest_word : (w rest : List ℕ) → is_word w ≡ true → FirstFails continues_name rest → IsLongest w rest (word_kind w)
longest_word w rest h stops = record { token = kind_of-word w h; longest = longest w rest h stops }
  where
    longest : (w rest : List ℕ) → is_word w ≡ true → FirstFails continues_name rest → (c : ℕ) (more after : List ℕ) → rest ≡ c ∷ (more ++ after) → kind_of (w ++ (c ∷ more)) ≡ None
    longest [] rest h stops c more after e = absurd (false≢true h)
    longest (b ∷ bs) rest h stops c more after e =
        let fails : continues_name c ≡ false = subst (FirstFails continues_name) e stops in
        let no_word : is_word (b ∷ (bs ++ (c ∷ more))) ≡ false =
        and_right (begins_name b) (list_all continues_name (bs ++ (c ∷ more)))
        (list_all-append continues_name bs (c ∷ more) ∙ and_right (list_all continues_name bs) (list_all continues_name (c ∷ more)) (and_left (continues_name c) (list_all continues_name more) fails)) in
        kind_of-other (b ∷ (bs ++ (c ∷ more))) no_word ∙ beside-signs_name b (bs ++ (c ∷ more)) (and_parts (begins_name b) (list_all continues_name bs) h).0

-- a word is not empty
pub is_word-some : (w : List ℕ) → is_word w ≡ true → 0 < length w
is_word-some [] h = absurd (false≢true h)
is_word-some (c ∷ cs) h = omega arith

-- characters of which the first begins no name are no word
no_word : (c : ℕ) (cs : List ℕ) → begins_name c ≡ false → kind_of (c ∷ cs) ≡ beside (c ∷ cs) signs
no_word c cs h = kind_of-other (c ∷ cs) (and_left (begins_name c) (list_all continues_name cs) h)

-- a sign of one character
pub longest_mark : (c : ℕ) (rest : List ℕ) (k : TokenKind) → begins_name c ≡ false → beside (c ∷ []) signs ≡ Some k → IsLongest (c ∷ []) rest k
longest_mark c rest k h e = record {
  token = no_word c [] h ∙ e;
  longest = λ d more after f. no_word c (d ∷ more) h ∙ beside-signs_two c d more (and_left (c == 62) (d == 60 && bytes_eq more []) not_greater);
}
  where
    not_greater : (c == 62) ≡ false
    not_greater = false_from_ne_true (c == 62) (λ g. let both : beside (62 ∷ []) signs ≡ Some k = ap (λ x. beside (x ∷ []) signs) (sym (eqb-true c 62 g)) ∙ e in absurd (cc))

-- `><`
pub longest_meets : (rest : List ℕ) → IsLongest (62 ∷ 60 ∷ []) rest kind.Meets
longest_meets rest = record {
  token = no_word 62 (60 ∷ []) no_name;
  longest = λ d more after f. no_word 62 (60 ∷ d ∷ more) no_name;
}
  where
    no_name : begins_name 62 ≡ false
    no_name = begins_name-ascii 62 (lit< tt)

-- no token begins here
pub begins_no_token : (c : ℕ) (cs : List ℕ) → begins_name c ≡ false → beside (c ∷ []) signs ≡ None → (c == 62) ≡ false ⊎ FirstFails (λ d. d == 60) cs → BeginsNoToken (c ∷ cs)
begins_no_token c cs h e g [] after f = refl
begins_no_token c cs h e g (x ∷ []) after f =
    let same : x ≡ c = cc in
    subst (λ z. kind_of (z ∷ []) ≡ None) (sym same) (no_word c [] h ∙ e)
begins_no_token c cs h e g (x ∷ d ∷ more) after f =
    let same : x ≡ c = cc in
    let left : cs ≡ d ∷ (more ++ after) = cc in
    subst (λ z. kind_of (z ∷ d ∷ more) ≡ None) (sym same) (no_word c (d ∷ more) h ∙ beside-signs_two c d more (fails g left))
  where
    fails : (c == 62) ≡ false ⊎ FirstFails (λ d. d == 60) cs → cs ≡ d ∷ (more ++ after) → (c == 62 && (d == 60 && bytes_eq more [])) ≡ false
    fails (inl n) left = and_left (c == 62) (d == 60 && bytes_eq more []) n
    fails (inr n) left = and_right (c == 62) (d == 60 && bytes_eq more []) (and_left (d == 60) (bytes_eq more []) (subst (FirstFails (λ d. d == 60)) left n))

differs : (w v : List ℕ) → w ≢ v → bytes_eq w v ≡ false
differs w v n = false_from_ne_true (bytes_eq w v) (λ e. n ((bytes_eq-Decides w v).0 e))

-- a word that isn't reserved is a name
pub word_kind-name : (w : List ℕ) → w ≢ codes "type" → w ≢ codes "symbol" → w ≢ codes "rule" → w ≢ codes "net" → word_kind w ≡ kind.Name
word_kind-name w t s r n =
    let type = differs w (codes "type") t in
    let symbol = differs w (codes "symbol") s in
    let rule = differs w (codes "rule") r in
    let net = differs w (codes "net") n in
    simp (type, symbol, rule, net)

-- a run of characters that continue a name, whose first one begins a name, is a word
pub is_word-run : (w rest : List ℕ) → FirstIs (λ c. begins_name c ≡ true) (w ++ rest) → list_all continues_name w ≡ true → FirstFails continues_name rest → is_word w ≡ true
is_word-run [] [] f a stops = absurd f
is_word-run [] (d ∷ ds) f a stops = absurd (false≢true (sym stops ∙ continues-begins d f))
is_word-run (b ∷ bs) rest f a stops = and_from (begins_name b) (list_all continues_name bs) f (and_parts (continues_name b) (list_all continues_name bs) a).1

-- an ASCII character that is no letter and no `_` begins no name
plain_other : (c : ℕ) (cs : List ℕ) → c < 128 → (is_ascii_alphabetic c || c == 95) ≡ false → kind_of (c ∷ cs) ≡ beside (c ∷ cs) signs
plain_other c cs l e = no_word c cs (begins_name-ascii c l ∙ e)

-- no token begins with a blank
pub kind_of-blank : (c : ℕ) (cs : List ℕ) → is_blank c ≡ true → kind_of (c ∷ cs) ≡ None
kind_of-blank c cs h = go (c == 32) (c == 9) (c == 13) (c == 10) refl refl refl refl h
  where
    at : (n : ℕ) → (c == n) ≡ true → kind_of (n ∷ cs) ≡ None → kind_of (c ∷ cs) ≡ None
    at n e g = subst (λ x. kind_of (x ∷ cs) ≡ None) (sym (eqb-true c n e)) g

    go : (x y z w : Bool) → (c == 32) ≡ x → (c == 9) ≡ y → (c == 13) ≡ z → (c == 10) ≡ w → (x || y || z || w) ≡ true → kind_of (c ∷ cs) ≡ None
    go true y z w e1 e2 e3 e4 h = at 32 e1 (plain_other 32 cs (lit< tt) refl)
    go false true z w e1 e2 e3 e4 h = at 9 e2 (plain_other 9 cs (lit< tt) refl)
    go false false true w e1 e2 e3 e4 h = at 13 e3 (plain_other 13 cs (lit< tt) refl)
    go false false false true e1 e2 e3 e4 h = at 10 e4 (plain_other 10 cs (lit< tt) refl)
    go false false false false e1 e2 e3 e4 h = absurd (false≢true h)

-- nor with `#`
pub kind_of-hash : (cs : List ℕ) → kind_of (35 ∷ cs) ≡ None
kind_of-hash cs = plain_other 35 cs (lit< tt) refl
