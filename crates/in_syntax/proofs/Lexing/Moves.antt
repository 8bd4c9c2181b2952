-- The token at a spot, from the characters that were read there.
use Rattle.std.proofs.Common.{◌≡◌, ℕ, ◌<◌, ◌≤◌, ◌⊎◌, Bool, true, false, List, [], ◌∷◌, ◌++◌, length, take, ◌-◌, Some, None, refl, sym, ◌∙◌, ap, subst, arith, ◌==◌, length-append, take_at, lit≤}
use Rattle.std.specs.List.{list_all}
use Rattle.std.specs.Str.{chars, IsUtf8, IsCharBoundary, encode_utf8_all, all_scalars}
use lib.Utf8.{scalar}
use Rattle.std.proofs.lemmas.Bool.{and_parts, and_from}
use Rattle.std.proofs.lemmas.Str.{encodes-chars, encodes-append, scalars-chars, chars-encodes, IsCharBoundary-at_seam}
use Rattle.in_syntax.specs.declared.characters.Spot.{Spot}
use Rattle.in_syntax.specs.declared.words.Token.{Token}
use Rattle.in_syntax.specs.declared.words.TokenKind.{TokenKind}
use Rattle.in_syntax.specs.declared.faults.Code.TheVariants.{E01, E03}
use Rattle.in_syntax.specs.Characters.{is_blank, begins_name, continues_name, stays_in_comment}
use Rattle.in_syntax.specs.Places.{past, past_all, place_between}
use Rattle.in_syntax.specs.declared.places.Place.{Place}
use Rattle.in_syntax.specs.declared.words.TokenKind.TheVariants as kind
use Rattle.in_syntax.specs.Tokens.{signs, beside, is_word, word_kind, EndsLine, name_limit, Passes, blank, comment, token, Faults, stray, too_long}
use Rattle.in_syntax.specs.Cursors.{FirstIs, FirstFails, BeginsSigns, BeginsWith, IsWithin, RunsThrough, Goes}
use Rattle.in_syntax.proofs.Lexing.Cursors.{within_past}
use Rattle.in_syntax.proofs.Lexing.Lexemes.{longest_word, longest_mark, longest_meets, begins_no_token, is_word-run, is_word-some}

-- from a run of some characters
goes : (p : ℕ → Bool) (s t : Spot) (text w rest : List ℕ) (ts : List Token) → RunsThrough p s text w t rest → Passes s (w ++ chars rest) ts (past_all s w) (chars rest) → 0 < length w → Goes s text ts t rest
goes p s t text w rest ts r passes some = record {
  passes = subst (λ cs. Passes s cs ts t (chars rest)) (sym r.split) (subst (λ u. Passes s (w ++ chars rest) ts u (chars rest)) (sym r.end) passes);
  within = r.within;
  utf8 = r.utf8;
  shorter = omega (arith, r.shorter, some);
}

pub comment_goes : (s t : Spot) (text w rest : List ℕ) → FirstIs (λ c. c ≡ 35) (chars text) → RunsThrough stays_in_comment s text w t rest → EndsLine (chars rest) → Goes s text [] t rest
comment_goes s t text w rest first r ends =
    let h = go w (chars rest) (subst (FirstIs (λ c. c ≡ 35)) r.split first) r.all ends in
    goes stays_in_comment s t text w rest [] r h.0 h.1
  where
    go : (w after : List ℕ) → FirstIs (λ c. c ≡ 35) (w ++ after) → list_all stays_in_comment w ≡ true → EndsLine after → Passes s (w ++ after) [] (past_all s w) after × (0 < length w)
    go [] [] f a e = absurd f
    go [] (d ∷ ds) f a e = absurd (omega (arith, f, e))
    go (b ∷ w) after f a e = (
      subst (λ x. Passes s (x ∷ (w ++ after)) [] (past_all s (x ∷ w)) after) (sym f) (comment w after (and_parts (stays_in_comment b) (list_all stays_in_comment w) a).1 e),
      omega arith,
    )

-- the bytes of the characters that were read
pub bytes_split : (text w rest : List ℕ) → IsUtf8 text → IsUtf8 rest → chars text ≡ w ++ chars rest → text ≡ encode_utf8_all w ++ rest
bytes_split text w rest u v e = sym (encodes-chars text u) ∙ ap encode_utf8_all e ∙ encodes-append w (chars rest) ∙ ap (λ z. encode_utf8_all w ++ z) (encodes-chars rest v)

pub scalars-front : (v w : List ℕ) → all_scalars (v ++ w) ≡ true → all_scalars v ≡ true
scalars-front [] w h = refl
scalars-front (c ∷ v) w h = let parts = and_parts (scalar c) (all_scalars (v ++ w)) h in and_from (scalar c) (all_scalars v) parts.0 (scalars-front v w parts.1)

pub scalars-rest : (v w : List ℕ) → all_scalars (v ++ w) ≡ true → all_scalars w ≡ true
scalars-rest [] w h = h
scalars-rest (c ∷ v) w h = scalars-rest v w (and_parts (scalar c) (all_scalars (v ++ w)) h).1

-- the characters of those bytes
pub chars_front : (text w rest : List ℕ) → IsUtf8 text → IsUtf8 rest → chars text ≡ w ++ chars rest → chars (take (length text - length rest) text) ≡ w
chars_front text w rest u v e =
    let bytes = bytes_split text w rest u v e in
    let size : length (encode_utf8_all w) ≡ length text - length rest = omega (arith, ap length bytes, length-append (encode_utf8_all w) rest) in
    let scalars : all_scalars w ≡ true = scalars-front w (chars rest) (ap all_scalars (sym e) ∙ scalars-chars text u) in
    ap (λ z. chars (take (length text - length rest) z)) bytes ∙ ap chars (take_at (encode_utf8_all w) rest (length text - length rest) size) ∙ chars-encodes w scalars

-- they end where a character begins
pub boundary : (text w rest : List ℕ) → IsUtf8 text → IsUtf8 rest → chars text ≡ w ++ chars rest → IsCharBoundary text (length text - length rest)
boundary text w rest u v e =
    let bytes = bytes_split text w rest u v e in
    let size : length (encode_utf8_all w) ≡ length text - length rest = omega (arith, ap length bytes, length-append (encode_utf8_all w) rest) in
    subst (IsCharBoundary text) size (IsCharBoundary-at_seam text (encode_utf8_all w) rest bytes v)

run_is_word : (s t : Spot) (text w rest : List ℕ) → FirstIs (λ c. begins_name c ≡ true) (chars text) → RunsThrough continues_name s text w t rest → FirstFails continues_name (chars rest) → is_word w ≡ true
run_is_word s t text w rest first r stops = is_word-run w (chars rest) (subst (FirstIs (λ c. begins_name c ≡ true)) r.split first) r.all stops

pub word_wrong : (s t : Spot) (text w rest : List ℕ) → FirstIs (λ c. begins_name c ≡ true) (chars text) → RunsThrough continues_name s text w t rest → FirstFails continues_name (chars rest) → name_limit < length w → Faults s (chars text) E03 s
word_wrong s t text w rest first r stops long =
    subst (λ cs. Faults s cs E03 s) (sym r.split) (too_long w (chars rest) (longest_word w (chars rest) (run_is_word s t text w rest first r stops) stops) long)

-- a token at its place
at_place : (s t : Spot) (text rest : List ℕ) (k l : TokenKind) (place : Place) → k ≡ l → place ≡ place_between s t → Goes s text (record { kind = l; place = place_between s t } ∷ []) t rest → Goes s text (record { kind = k; place = place } ∷ []) t rest
at_place s t text rest k l place e f h =
    subst (λ p. Goes s text (record { kind = k; place = p } ∷ []) t rest) (sym f) (subst (λ j. Goes s text (record { kind = j; place = place_between s t } ∷ []) t rest) (sym e) h)

pub word_goes : (s t : Spot) (text w rest : List ℕ) (k : TokenKind) (place : Place) → FirstIs (λ c. begins_name c ≡ true) (chars text) → RunsThrough continues_name s text w t rest → FirstFails continues_name (chars rest) → length w ≤ name_limit
    → k ≡ word_kind w → place ≡ place_between s t → Goes s text (record { kind = k; place = place } ∷ []) t rest
word_goes s t text w rest k place first r stops short e f =
    let is = run_is_word s t text w rest first r stops in
    let passes = token w (chars rest) (longest_word w (chars rest) is stops) short in
    let h = goes continues_name s t text w rest _ r passes (is_word-some w is) in
    at_place s t text rest k (word_kind w) place e f (subst (λ u. Goes s text (record { kind = word_kind w; place = place_between s u } ∷ []) t rest) (sym r.end) h)

-- from one character
pub step_goes : (s t : Spot) (text rest : List ℕ) (c : ℕ) (ts : List Token) → IsWithin s text → BeginsWith text c rest → t ≡ past s c → Passes s (c ∷ chars rest) ts (past s c) (chars rest) → Goes s text ts t rest
step_goes s t text rest c ts h b e passes = record {
  passes = subst (λ cs. Passes s cs ts t (chars rest)) (sym b.chars) (subst (λ u. Passes s (c ∷ chars rest) ts u (chars rest)) (sym e) passes);
  within = subst (λ u. IsWithin u rest) (sym e) (within_past s text c rest h b);
  utf8 = b.utf8;
  shorter = omega (arith, b.bytes, b.some);
}

pub blank_goes : (s t : Spot) (text rest : List ℕ) (c : ℕ) → IsWithin s text → BeginsWith text c rest → t ≡ past s c → is_blank c ≡ true → Goes s text [] t rest
blank_goes s t text rest c h b e is = step_goes s t text rest c [] h b e (blank is)

-- a property of the first character
first_of_text : (P : ℕ → Type 0) (text rest : List ℕ) (c : ℕ) → FirstIs P (chars text) → BeginsWith text c rest → P c
first_of_text P text rest c first b = subst (FirstIs P) b.chars first

pub mark_goes : (s t : Spot) (text rest : List ℕ) (c : ℕ) (k : TokenKind) (place : Place) → IsWithin s text → FirstIs BeginsSigns (chars text) → BeginsWith text c rest → t ≡ past s c
    → beside (c ∷ []) signs ≡ Some k → place ≡ place_between s t → Goes s text (record { kind = k; place = place } ∷ []) t rest
mark_goes s t text rest c k place h first b e is f =
    let name = (first_of_text BeginsSigns text rest c first b).name in
    let passes = token (c ∷ []) (chars rest) (longest_mark c (chars rest) k name is) (lit≤ tt) in
    let moves = step_goes s t text rest c _ h b e passes in
    at_place s t text rest k k place refl f (subst (λ u. Goes s text (record { kind = k; place = place_between s u } ∷ []) t rest) (sym e) moves)

pub meets_goes : (s t u : Spot) (text rest more : List ℕ) (c d : ℕ) (place : Place) → IsWithin s text → BeginsWith text c rest → c ≡ 62 → t ≡ past s c → BeginsWith rest d more → d ≡ 60 → u ≡ past t d
    → place ≡ place_between s u → Goes s text (record { kind = kind.Meets; place = place } ∷ []) u more
meets_goes s t u text rest more c d place h b is_c e b2 is_d f g =
    let split : chars text ≡ 62 ∷ 60 ∷ chars more = b.chars ∙ ap (λ z. z ∷ chars rest) is_c ∙ ap (λ z. 62 ∷ z) (b2.chars ∙ ap (λ z. z ∷ chars more) is_d) in
    let end : u ≡ past_all s (62 ∷ 60 ∷ []) = f ∙ ap (past t) is_d ∙ ap (λ z. past z 60) (e ∙ ap (past s) is_c) in
    let passes = token {s = s} (62 ∷ 60 ∷ []) (chars more) (longest_meets (chars more)) (lit≤ tt) in
    let within = within_past t rest d more (subst (λ z. IsWithin z rest) (sym e) (within_past s text c rest h b)) b2 in
    at_place s u text more kind.Meets kind.Meets place refl g (record {
      passes = subst (λ v. Passes s (chars text) (record { kind = kind.Meets; place = place_between s v } ∷ []) v (chars more)) (sym end)
          (subst (λ cs. Passes s cs (record { kind = kind.Meets; place = place_between s (past_all s (62 ∷ 60 ∷ [])) } ∷ []) (past_all s (62 ∷ 60 ∷ [])) (chars more)) (sym split) passes);
      within = subst (λ z. IsWithin z more) (sym f) within;
      utf8 = b2.utf8;
      shorter = omega (arith, b.bytes, b.some, b2.bytes, b2.some);
    })

pub sign_wrong : (s : Spot) (text rest : List ℕ) (c : ℕ) → FirstIs BeginsSigns (chars text) → BeginsWith text c rest → beside (c ∷ []) signs ≡ None → (c == 62) ≡ false ⊎ FirstFails (λ d. d == 60) (chars rest) → Faults s (chars text) E01 s
sign_wrong s text rest c first b none alone =
    let is = first_of_text BeginsSigns text rest c first b in
    subst (λ cs. Faults s cs E01 s) (sym b.chars) (stray is.blank is.comment (begins_no_token c (chars rest) is.name none alone))
