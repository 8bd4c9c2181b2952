-- The tokens of a program's text, and the first fault in it. Lafont 1990 writes programs without a rule for tokens:
-- the rules of this file are this project's own choice.
use Rattle.std.specs.Prelude.{◌≡◌, ℕ, ◌<◌, ◌≤◌, Bool, false, ◌&&◌, ◌==◌, List, [], ◌∷◌, ◌++◌, length, take, Option, Some, None, unwrap_or, if◌then◌else◌, codes, IsTrue, IsFalse, slice_range}
use Rattle.std.specs.List.{list_all}
use Rattle.std.specs.Str.{chars, IsUtf8, bytes_eq}
use Rattle.std.specs.Str.Lossy.{utf8_valid_len}
use Rattle.in_syntax.specs.Refusals.{refusal_of}
use Rattle.in_syntax.specs.declared.characters.Spot.{Spot}
use Rattle.in_syntax.specs.declared.words.Token.{Token}
use Rattle.in_syntax.specs.declared.words.TokenKind.{TokenKind}
use Rattle.in_syntax.specs.declared.words.TokenKind.TheVariants as kind
use Rattle.in_syntax.specs.declared.faults.Code.{Code}
use Rattle.in_syntax.specs.declared.faults.Code.TheVariants.{E01, E03}
use Rattle.in_syntax.specs.declared.faults.Refusal.{Refusal}
use Rattle.in_syntax.specs.Characters.{line_feed, hash, is_blank, begins_name, continues_name, stays_in_comment}
use Rattle.in_syntax.specs.Places.{start, past, past_all, place_between, place_at}
use Rattle.in_syntax.specs.declared.text_limits.TextLimits.{TextLimits}
use Rattle.in_syntax.specs.TextLimits.{text_limit}

-- the reserved words
abbrev pub reserved_words : List (List ℕ × TokenKind)
reserved_words = (codes "type", kind.Type) ∷ (codes "symbol", kind.Symbol) ∷ (codes "rule", kind.Rule) ∷ (codes "net", kind.Net) ∷ []

-- the signs
abbrev pub signs : List (List ℕ × TokenKind)
signs =
    (codes ",", kind.Comma) ∷ (codes ";", kind.Semicolon) ∷ (codes ":", kind.Colon) ∷ (codes "+", kind.Plus) ∷ (codes "-", kind.Minus)
    ∷ (codes "{", kind.OpenBrace) ∷ (codes "}", kind.CloseBrace) ∷ (codes "(", kind.OpenParenthesis) ∷ (codes ")", kind.CloseParenthesis)
    ∷ (codes "[", kind.OpenBracket) ∷ (codes "]", kind.CloseBracket) ∷ (codes "~", kind.Tilde) ∷ (codes "><", kind.Meets) ∷ []

-- the kind that a table gives a text
abbrev pub beside : List ℕ → List (List ℕ × TokenKind) → Option TokenKind
beside w [] = None
beside w (e ∷ es) = if bytes_eq w e.0 then Some e.1 else beside w es

-- a word is a character that begins a name, and any number of characters that continue one
abbrev pub is_word : List ℕ → Bool
is_word [] = false
is_word (c ∷ cs) = begins_name c && list_all continues_name cs

-- a word is a reserved one or a name
abbrev pub word_kind : List ℕ → TokenKind
word_kind w = unwrap_or (beside w reserved_words) kind.Name

-- the kind of token that these characters are by themselves: a word or a sign
abbrev pub kind_of : List ℕ → Option TokenKind
kind_of w = if is_word w then Some (word_kind w) else beside w signs

-- the characters are a token, and no longer front of the text is one
pub record IsLongest (w rest : List ℕ) (k : TokenKind) : Type 0 where
  pub token : kind_of w ≡ Some k
  pub longest : (c : ℕ) (more after : List ℕ) → rest ≡ c ∷ (more ++ after) → kind_of (w ++ (c ∷ more)) ≡ None

-- no token begins the text
abbrev pub BeginsNoToken : List ℕ → Type 0
BeginsNoToken cs = (w after : List ℕ) → cs ≡ w ++ after → kind_of w ≡ None

-- a line ends here: at a line feed, or at the end of the text
abbrev pub EndsLine : List ℕ → Type 0
EndsLine [] = Unit {0}
EndsLine (c ∷ cs) = c ≡ line_feed

-- the greatest number of characters in a name
abbrev pub name_limit : ℕ
name_limit = 64

-- the text at a spot is passed, and gives these tokens: a blank or a comment none, a token itself; then come another spot and the rest of the text
pub data Passes : Spot → List ℕ → List Token → Spot → List ℕ → Type 0 where
  blank : {s : Spot} {c : ℕ} {cs : List ℕ} → IsTrue (is_blank c) → Passes s (c ∷ cs) [] (past s c) cs
  comment : {s : Spot} (body rest : List ℕ) → IsTrue (list_all stays_in_comment body) → EndsLine rest →
      Passes s (hash ∷ (body ++ rest)) [] (past_all s (hash ∷ body)) rest
  token : {s : Spot} {k : TokenKind} (w rest : List ℕ) → IsLongest w rest k → length w ≤ name_limit →
      Passes s (w ++ rest) (record { kind = k; place = place_between s (past_all s w) } ∷ []) (past_all s w) rest

-- from a spot on, the text reads as these tokens
pub data Reads : Spot → List ℕ → List Token → Type 0 where
  ends : {s : Spot} → Reads s [] []
  goes_on : {s t : Spot} {cs rest : List ℕ} (ts us : List Token) → Passes s cs ts t rest → Reads t rest us → Reads s cs (ts ++ us)

-- the text at a spot has a fault, with a code and a spot of its own
pub data Faults : Spot → List ℕ → Code → Spot → Type 0 where
  stray : {s : Spot} {c : ℕ} {cs : List ℕ} → IsFalse (is_blank c) → IsFalse (c == hash) → BeginsNoToken (c ∷ cs) → Faults s (c ∷ cs) E01 s
  too_long : {s : Spot} {k : TokenKind} (w rest : List ℕ) → IsLongest w rest k → name_limit < length w → Faults s (w ++ rest) E03 s

-- from a spot on, the first fault of the text has this code and this spot
pub data Stops : Spot → List ℕ → Code → Spot → Type 0 where
  here : {s t : Spot} {cs : List ℕ} {code : Code} → Faults s cs code t → Stops s cs code t
  later : {s t at : Spot} {cs rest : List ℕ} {ts : List Token} {code : Code} → Passes s cs ts t rest → Stops t rest code at → Stops s cs code at

-- a text's tokens
pub record IsTokensOf (limits : TextLimits) (text : List ℕ) (ts : List Token) : Type 0 where
  pub short : length text ≤ text_limit limits
  pub utf8 : IsUtf8 text
  pub reads : Reads start (chars text) ts

-- the longest front of a text that is well-formed UTF-8
abbrev pub well_formed : List ℕ → List ℕ
well_formed text = take (utf8_valid_len text) text

-- a refusal with the empty place at a spot
abbrev pub refusal_at : Code → Spot → Refusal
refusal_at code at = refusal_of code (place_at at)

-- the first fault of a text's tokens
pub data IsTokenFault (limits : TextLimits) : List ℕ → Refusal → Type 0 where
  long_text : {text : List ℕ} → text_limit limits < length text → IsTokenFault limits text (refusal_at E03 start)
  first_fault : {text : List ℕ} (code : Code) (at : Spot) → length text ≤ text_limit limits → Stops start (chars (well_formed text)) code at →
      IsTokenFault limits text (refusal_at code at)
  ill_formed : {text : List ℕ} {ts : List Token} → length text ≤ text_limit limits → Reads start (chars (well_formed text)) ts → utf8_valid_len text < length text →
      IsTokenFault limits text (refusal_at E01 (past_all start (chars (well_formed text))))

-- a token's place is a part of the text that isn't empty, and is by itself a token of this kind
pub record StandsIn (text : List ℕ) (t : Token) : Type 0 where
  pub some : t.place.from < t.place.to
  pub within : t.place.to ≤ length text
  pub utf8 : IsUtf8 (slice_range text t.place.from t.place.to)
  pub kind : kind_of (chars (slice_range text t.place.from t.place.to)) ≡ Some t.kind

-- after the first n bytes the tokens follow one another
abbrev pub StandInOrder : ℕ → List Token → Type 0
StandInOrder n [] = Unit {0}
StandInOrder n (t ∷ ts) = (n ≤ t.place.from) × StandInOrder t.place.to ts
