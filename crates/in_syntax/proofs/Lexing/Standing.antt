-- The places of tokens in their text.
use Rattle.std.proofs.Common.{◌≡◌, ℕ, ◌+◌, ◌-◌, ◌<◌, ◌≤◌, true, List, [], ◌∷◌, ◌++◌, length, take, drop, Some, refl, sym, ◌∙◌, ap, subst, arith, length-append, append_assoc, take_at}
use Rattle.std.specs.Prelude.{slice_range}
use Rattle.std.specs.List.{AllByRecursion}
use Rattle.std.specs.Str.{chars, IsUtf8, encode_utf8_all, all_scalars}
use Rattle.std.proofs.lemmas.List.{drop_at}
use Rattle.std.specs.Char.{encode_utf8}
use Rattle.std.proofs.lemmas.Str.{length-encode, len_utf8_bounds, encodes-append, encodes-chars, scalars-chars, chars-encodes}
use Rattle.in_syntax.specs.declared.characters.Spot.{Spot}
use Rattle.in_syntax.specs.declared.words.Token.{Token}
use Rattle.in_syntax.specs.declared.words.TokenKind.{TokenKind}
use Rattle.in_syntax.specs.Places.{past_all, place_between}
use Rattle.in_syntax.specs.Tokens.{kind_of, Passes, blank, comment, token, Reads, ends, goes_on, IsTokensOf, StandsIn, StandInOrder}
use Rattle.in_syntax.proofs.Lexing.PastCharacters.{past_all-at}
use Rattle.in_syntax.proofs.Lexing.Moves.{scalars-front, scalars-rest}
use Rattle.in_base.proofs.Each.{all_append}
use Rattle.in_syntax.specs.declared.text_limits.TextLimits.{TextLimits}

-- a spot of a text: `s.at` bytes are before it
record IsSpotOf (text front cs : List ℕ) (s : Spot) : Type 0 where
  bytes : text ≡ encode_utf8_all front ++ encode_utf8_all cs
  at : s.at ≡ length (encode_utf8_all front)
  scalars : all_scalars cs ≡ true

spot_on : (text front w rest : List ℕ) (s : Spot) → IsSpotOf text front (w ++ rest) s → IsSpotOf text (front ++ w) rest (past_all s w)
spot_on text front w rest s h = record {
  bytes = h.bytes ∙ ap (λ z. encode_utf8_all front ++ z) (encodes-append w rest) ∙ sym (append_assoc (encode_utf8_all front) (encode_utf8_all w) (encode_utf8_all rest))
      ∙ ap (λ z. z ++ encode_utf8_all rest) (sym (encodes-append front w));
  at = omega (arith, past_all-at s w, h.at, ap length (encodes-append front w), length-append (encode_utf8_all front) (encode_utf8_all w));
  scalars = scalars-rest w rest h.scalars;
}

-- a token has bytes
some_bytes : (w : List ℕ) (k : TokenKind) → kind_of w ≡ Some k → 0 < length (encode_utf8_all w)
some_bytes [] k h = absurd (cc)
some_bytes (c ∷ cs) k h = omega (arith, length-append (encode_utf8 c) (encode_utf8_all cs), length-encode c, len_utf8_bounds c)

token_stands : (text front w rest : List ℕ) (s : Spot) (k : TokenKind) → IsSpotOf text front (w ++ rest) s → kind_of w ≡ Some k → StandsIn text (record { kind = k; place = place_between s (past_all s w) })
token_stands text front w rest s k h is =
    let before = encode_utf8_all front in
    let here = encode_utf8_all w in
    let after = encode_utf8_all rest in
    let bytes : text ≡ before ++ (here ++ after) = h.bytes ∙ ap (λ z. before ++ z) (encodes-append w rest) in
    let to : (past_all s w).at ≡ s.at + length here = past_all-at s w in
    let scalars : all_scalars w ≡ true = scalars-front w rest h.scalars in
    let part : slice_range text s.at (past_all s w).at ≡ here =
    ap (λ z. take ((past_all s w).at - s.at) (drop s.at z)) bytes
    ∙ ap (take ((past_all s w).at - s.at)) (drop_at before (here ++ after) s.at (sym h.at))
    ∙ take_at here after ((past_all s w).at - s.at) (omega (arith, to)) in
    record {
      some = omega (arith, to, some_bytes w k is);
      within = omega (arith, to, h.at, ap length bytes, length-append before (here ++ after), length-append here after);
      utf8 = subst IsUtf8 (sym part) (w, (scalars, refl));
      kind = ap (λ z. kind_of (chars z)) part ∙ ap kind_of (chars-encodes w scalars) ∙ is;
    }

-- the passed part is a front of the characters, and its token is there
record IsPassed (text cs : List ℕ) (ts : List Token) (s t : Spot) (rest : List ℕ) : Type 0 where
  front : List ℕ
  split : cs ≡ front ++ rest
  end : t ≡ past_all s front
  stand : AllByRecursion (StandsIn text) ts

passed : (text front cs : List ℕ) (s t : Spot) (rest : List ℕ) (ts : List Token) → IsSpotOf text front cs s → Passes s cs ts t rest → IsPassed text cs ts s t rest
passed text front cs s t rest ts h (blank {c = c} p) = record { front = c ∷ []; split = refl; end = refl; stand = tt }
passed text front cs s t rest ts h (comment body after p q) = record { front = 35 ∷ body; split = refl; end = refl; stand = tt }
passed text front cs s t rest ts h (token {k = k} w after p q) = record { front = w; split = refl; end = refl; stand = (token_stands text front w after s k h p.token, tt) }

reads_stand : {s : Spot} {cs : List ℕ} {ts : List Token} (text front : List ℕ) → Reads s cs ts → IsSpotOf text front cs s → AllByRecursion (StandsIn text) ts
reads_stand text front ends h = tt
reads_stand text front (goes_on {s = s} {t = t} {cs = cs} {rest = rest} vs ws p r) h =
    let one = passed text front cs s t rest vs h p in
    let next = spot_on text front one.front rest s (subst (λ z. IsSpotOf text front z s) one.split h) in
    all_append (StandsIn text) vs ws one.stand (reads_stand text (front ++ one.front) r (subst (IsSpotOf text (front ++ one.front) rest) (sym one.end) next))

in_order-weaker : (m n : ℕ) (ts : List Token) → m ≤ n → StandInOrder n ts → StandInOrder m ts
in_order-weaker m n [] l h = tt
in_order-weaker m n (t ∷ ts) l h = (omega (arith, l, h.0), h.1)

passed_in_order : (s t : Spot) (cs rest : List ℕ) (ts us : List Token) → Passes s cs ts t rest → StandInOrder t.at us → StandInOrder s.at (ts ++ us)
passed_in_order s t cs rest ts us (blank {c = c} p) h = in_order-weaker s.at (past_all s (c ∷ [])).at us (omega arith) h
passed_in_order s t cs rest ts us (comment body after p q) h = in_order-weaker s.at (past_all s (35 ∷ body)).at us (omega (arith, past_all-at s (35 ∷ body))) h
passed_in_order s t cs rest ts us (token w after p q) h = (omega arith, h)

reads_in_order : {s : Spot} {cs : List ℕ} {ts : List Token} → Reads s cs ts → StandInOrder s.at ts
reads_in_order ends = tt
reads_in_order (goes_on {s = s} {t = t} {cs = cs} {rest = rest} vs ws p r) = passed_in_order s t cs rest vs ws p (reads_in_order r)

module _ (limits : TextLimits) where
  pub tokens_stand : (text : List ℕ) (ts : List Token) → IsTokensOf limits text ts → AllByRecursion (StandsIn text) ts
  tokens_stand text ts h = reads_stand text [] h.reads (record { bytes = sym (encodes-chars text h.utf8); at = refl; scalars = scalars-chars text h.utf8 })

  pub tokens_in_order : (text : List ℕ) (ts : List Token) → IsTokensOf limits text ts → StandInOrder 0 ts
  tokens_in_order text ts h = reads_in_order h.reads
