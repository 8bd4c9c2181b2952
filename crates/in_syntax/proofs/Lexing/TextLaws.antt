-- Laws of the tokens of whole texts.
use Rattle.std.proofs.Common.{◌≡◌, ℕ, zero, suc, ◌<◌, ◌≤◌, ◌⊎◌, inl, inr, Bool, true, false, if◌then◌else◌, List, [], ◌∷◌, ◌++◌, length, take, Option, Some, None, refl, sym, ◌∙◌, ap, subst, arith, ◌&&◌, ◌==◌, length-append, lit≤}
use Rattle.std.specs.List.{list_all}
use Rattle.std.specs.Str.{chars, IsUtf8, is_utf8}
use Rattle.std.specs.Str.Lossy.{utf8_valid_len, valid_len_up_to}
use Rattle.std.proofs.lemmas.Bool.{cases_lt, eqb-true, not-false}
use Rattle.std.proofs.lemmas.List.{take_all}
use Rattle.std.proofs.lemmas.Str.{IsUtf8-nil, IsUtf8-from_is_utf8, utf8_valid_len-IsUtf8}
use Rattle.in_syntax.specs.declared.characters.Spot.{Spot}
use Rattle.in_syntax.specs.declared.words.Token.{Token}
use Rattle.in_syntax.specs.declared.words.TokenKind.{TokenKind}
use Rattle.in_syntax.specs.declared.faults.Code.{Code}
use Rattle.in_syntax.specs.declared.faults.Code.TheVariants.{E01, E03}
use Rattle.in_syntax.specs.declared.faults.Refusal.{Refusal}
use Rattle.in_syntax.specs.Characters.{is_blank, begins_name, continues_name, stays_in_comment}
use Rattle.in_syntax.specs.Places.{start, past_all}
use Rattle.in_syntax.specs.Tokens.{signs, beside, is_word, EndsLine, name_limit, Passes, blank, comment, token, Reads, ends, goes_on, Faults, stray, too_long, Stops, here, later, IsTokensOf, well_formed, refusal_at, IsTokenFault, long_text, first_fault, ill_formed}
use Rattle.in_syntax.specs.Cursors.{FirstIs, FirstFails}
use Rattle.in_syntax.proofs.Lexing.Lexemes.{longest_word, longest_mark, longest_meets, begins_no_token, is_word-run, is_word-some}
use Rattle.in_syntax.proofs.Lexing.TokenLaws.{reads_unique, reads_not_stops, stops_unique}
use Rattle.in_syntax.specs.declared.text_limits.TextLimits.{TextLimits}
use Rattle.in_syntax.specs.TextLimits.{text_limit}

-- a spot and a text have nothing, a part that is passed, or a fault
data Stand (s : Spot) (cs : List ℕ) : Type 0 where
  nothing : cs ≡ [] → Stand s cs
  something : (ts : List Token) (t : Spot) (rest : List ℕ) → Passes s cs ts t rest → length rest < length cs → Stand s cs
  a_fault : (code : Code) (at : Spot) → Faults s cs code at → Stand s cs

-- the longest front whose characters pass a test
record Split (p : ℕ → Bool) (cs : List ℕ) : Type 0 where
  front : List ℕ
  rest : List ℕ
  split : cs ≡ front ++ rest
  all : list_all p front ≡ true
  fails : FirstFails p rest

split_of : (p : ℕ → Bool) (cs : List ℕ) → Split p cs
split_of p [] = record { front = []; rest = []; split = refl; all = refl; fails = tt }
split_of p (c ∷ cs) = go (split_of p cs) (p c) refl
  where
    go : Split p cs → (b : Bool) → p c ≡ b → Split p (c ∷ cs)
    go h true e = record { front = c ∷ h.front; rest = h.rest; split = ap (λ z. c ∷ z) h.split; all = ap (λ b. b && list_all p h.front) e ∙ h.all; fails = h.fails }
    go h false e = record { front = []; rest = c ∷ cs; split = refl; all = refl; fails = e }

shorter : (v w : List ℕ) → 0 < length v → length w < length (v ++ w)
shorter v w h = omega (arith, length-append v w)

at_comment : (s : Spot) (cs : List ℕ) → Stand s (35 ∷ cs)
at_comment s cs = let h = split_of stays_in_comment cs in subst (λ z. Stand s (35 ∷ z)) (sym h.split) (go h.front h.rest h.all h.fails)
  where
    passed : (body rest : List ℕ) → list_all stays_in_comment body ≡ true → EndsLine rest → Stand s (35 ∷ (body ++ rest))
    passed body rest all e = something [] (past_all s (35 ∷ body)) rest (comment body rest all e) (omega (arith, length-append body rest))

    go : (body rest : List ℕ) → list_all stays_in_comment body ≡ true → FirstFails stays_in_comment rest → Stand s (35 ∷ (body ++ rest))
    go body [] all fails = passed body [] all tt
    go body (d ∷ ds) all fails = passed body (d ∷ ds) all (eqb-true d 10 (not-false (d == 10) fails))

at_word : (s : Spot) (c : ℕ) (cs : List ℕ) → begins_name c ≡ true → Stand s (c ∷ cs)
at_word s c cs h =
    let r = split_of continues_name (c ∷ cs) in
    let is = is_word-run r.front r.rest (subst (FirstIs (λ d. begins_name d ≡ true)) r.split h) r.all r.fails in
    subst (Stand s) (sym r.split) (go r.front r.rest is r.fails (cases_lt name_limit (length r.front)))
  where
    go : (w rest : List ℕ) → is_word w ≡ true → FirstFails continues_name rest → (name_limit < length w) ⊎ (length w ≤ name_limit) → Stand s (w ++ rest)
    go w rest is fails (inl long) = a_fault E03 s (too_long w rest (longest_word w rest is fails) long)
    go w rest is fails (inr short) = something _ (past_all s w) rest (token w rest (longest_word w rest is fails) short) (shorter w rest (is_word-some w is))

at_sign : (s : Spot) (c : ℕ) (cs : List ℕ) → is_blank c ≡ false → (c == 35) ≡ false → begins_name c ≡ false → Stand s (c ∷ cs)
at_sign s c cs b h n = mark (beside (c ∷ []) signs) refl
  where
    wrong : beside (c ∷ []) signs ≡ None → (c == 62) ≡ false ⊎ FirstFails (λ d. d == 60) cs → Stand s (c ∷ cs)
    wrong e alone = a_fault E01 s (stray b h (begins_no_token c cs n e alone))

    second : (ds : List ℕ) (d : ℕ) (x : Bool) → cs ≡ d ∷ ds → beside (c ∷ []) signs ≡ None → (c == 62) ≡ true → (d == 60) ≡ x → Stand s (c ∷ cs)
    second ds d true e f g i =
        let text : c ∷ cs ≡ 62 ∷ 60 ∷ ds = ap (λ z. z ∷ cs) (eqb-true c 62 g) ∙ ap (λ z. 62 ∷ z) (e ∙ ap (λ z. z ∷ ds) (eqb-true d 60 i)) in
        subst (Stand s) (sym text) (something _ (past_all s (62 ∷ 60 ∷ [])) ds (token (62 ∷ 60 ∷ []) ds (longest_meets ds) (lit≤ tt)) (omega arith))
    second ds d false e f g i = wrong f (inr (subst (FirstFails (λ d. d == 60)) (sym e) i))

    after : (ds : List ℕ) → cs ≡ ds → beside (c ∷ []) signs ≡ None → (c == 62) ≡ true → Stand s (c ∷ cs)
    after [] e f g = wrong f (inr (subst (FirstFails (λ d. d == 60)) (sym e) tt))
    after (d ∷ ds) e f g = second ds d (d == 60) e f g refl

    greater : (x : Bool) → beside (c ∷ []) signs ≡ None → (c == 62) ≡ x → Stand s (c ∷ cs)
    greater true f g = after cs refl f g
    greater false f g = wrong f (inl g)

    mark : (o : Option TokenKind) → beside (c ∷ []) signs ≡ o → Stand s (c ∷ cs)
    mark (Some k) e = something _ (past_all s (c ∷ [])) cs (token (c ∷ []) cs (longest_mark c cs k n e) (lit≤ tt)) (omega arith)
    mark None e = greater (c == 62) e refl

stands : (s : Spot) (cs : List ℕ) → Stand s cs
stands s [] = nothing refl
stands s (c ∷ cs) = first (is_blank c) refl
  where
    third : (b : Bool) → begins_name c ≡ b → is_blank c ≡ false → (c == 35) ≡ false → Stand s (c ∷ cs)
    third true e f g = at_word s c cs e
    third false e f g = at_sign s c cs f g e

    next : (b : Bool) → (c == 35) ≡ b → is_blank c ≡ false → Stand s (c ∷ cs)
    next true e f = subst (λ z. Stand s (z ∷ cs)) (sym (eqb-true c 35 e)) (at_comment s cs)
    next false e f = third (begins_name c) refl f e

    first : (b : Bool) → is_blank c ≡ b → Stand s (c ∷ cs)
    first true e = something [] (past_all s (c ∷ [])) cs (blank e) (omega arith)
    first false e = next (c == 35) refl e

-- a text reads to its end, or stops
abbrev Outcome : Spot → List ℕ → Type 0
Outcome s cs = ((ts : List Token) × Reads s cs ts) ⊎ ((code : Code) × (at : Spot) × Stops s cs code at)

on : (s t : Spot) (cs rest : List ℕ) (ts : List Token) → Passes s cs ts t rest → Outcome t rest → Outcome s cs
on s t cs rest ts p (inl h) = inl (ts ++ h.0, goes_on ts h.0 p h.1)
on s t cs rest ts p (inr h) = inr (h.0, h.1, later p h.2)

outcome_from : (s : Spot) (cs : List ℕ) → Stand s cs → ((t : Spot) (rest : List ℕ) → length rest < length cs → Outcome t rest) → Outcome s cs
outcome_from s cs (nothing e) more = inl ([], subst (λ z. Reads s z []) (sym e) ends)
outcome_from s cs (something ts t rest p l) more = on s t cs rest ts p (more t rest l)
outcome_from s cs (a_fault code at f) more = inr (code, at, here f)

outcome : (n : ℕ) (s : Spot) (cs : List ℕ) → length cs ≤ n → Outcome s cs
outcome zero s cs h = outcome_from s cs (stands s cs) (λ t rest l. absurd (omega arith))
outcome (suc n) s cs h = outcome_from s cs (stands s cs) (λ t rest l. outcome n t rest (omega arith))

-- a longest front is well-formed
front_utf8 : (bs : List ℕ) (n : ℕ) → IsUtf8 (take (valid_len_up_to bs n) bs)
front_utf8 bs zero = IsUtf8-nil
front_utf8 bs (suc n) = go (is_utf8 (take (suc n) bs)) refl (front_utf8 bs n)
  where
    go : (b : Bool) → is_utf8 (take (suc n) bs) ≡ b → IsUtf8 (take (valid_len_up_to bs n) bs) → IsUtf8 (take (if b then suc n else valid_len_up_to bs n) bs)
    go true e h = IsUtf8-from_is_utf8 (take (suc n) bs) e
    go false e h = h

well_formed-IsUtf8 : (text : List ℕ) → IsUtf8 (well_formed text)
unfolding utf8_valid_len
well_formed-IsUtf8 text = front_utf8 text (length text)

module _ (limits : TextLimits) where
  pub tokens_unique : (text : List ℕ) (ts us : List Token) → IsTokensOf limits text ts → IsTokensOf limits text us → ts ≡ us
  tokens_unique text ts us p q = reads_unique (chars text) us p.reads q.reads refl

  pub fault_unique : (text : List ℕ) (q r : Refusal) → IsTokenFault limits text q → IsTokenFault limits text r → q ≡ r
  fault_unique text q r (long_text a) (long_text b) = refl
  fault_unique text q r (long_text a) (first_fault code at b s) = absurd (omega arith)
  fault_unique text q r (long_text a) (ill_formed b s l) = absurd (omega arith)
  fault_unique text q r (first_fault code at b s) (long_text a) = absurd (omega arith)
  fault_unique text q r (first_fault code at a s) (first_fault dode bt b z) =
      let same = stops_unique (chars (well_formed text)) dode bt s z refl in
      ap (λ x. refusal_at x at) same.0 ∙ ap (refusal_at dode) same.1
  fault_unique text q r (first_fault code at a s) (ill_formed b z l) = absurd (reads_not_stops (chars (well_formed text)) code at z s refl)
  fault_unique text q r (ill_formed b s l) (long_text a) = absurd (omega arith)
  fault_unique text q r (ill_formed b z l) (first_fault code at a s) = absurd (reads_not_stops (chars (well_formed text)) code at z s refl)
  fault_unique text q r (ill_formed a s l) (ill_formed b z m) = refl

  pub not_both : (text : List ℕ) (ts : List Token) (r : Refusal) → IsTokensOf limits text ts → IsTokenFault limits text r → ⊥
  not_both text ts r p (long_text a) = omega (arith, p.short)
  not_both text ts r p (first_fault code at a s) =
      let whole : well_formed text ≡ text = take_all (utf8_valid_len text) text (omega (arith, utf8_valid_len-IsUtf8 text p.utf8)) in
      reads_not_stops (chars (well_formed text)) code at p.reads s (ap chars (sym whole))
  not_both text ts r p (ill_formed a s l) = omega (arith, utf8_valid_len-IsUtf8 text p.utf8)

  pub tokens_or_fault : (text : List ℕ) → ((ts : List Token) × IsTokensOf limits text ts) ⊎ ((r : Refusal) × IsTokenFault limits text r)
  tokens_or_fault text = go (cases_lt (text_limit limits) (length text))
    where
      read : (ts : List Token) → length text ≤ text_limit limits → Reads start (chars (well_formed text)) ts → (utf8_valid_len text < length text) ⊎ (length text ≤ utf8_valid_len text) → ((us : List Token) × IsTokensOf limits text us) ⊎ ((r : Refusal) × IsTokenFault limits text r)
      read ts short h (inl less) = inr (refusal_at E01 (past_all start (chars (well_formed text))), ill_formed short h less)
      read ts short h (inr whole) =
          let same : well_formed text ≡ text = take_all (utf8_valid_len text) text whole in
          inl (ts, record { short = short; utf8 = subst IsUtf8 same (well_formed-IsUtf8 text); reads = subst (λ z. Reads start (chars z) ts) same h })

      decide : length text ≤ text_limit limits → Outcome start (chars (well_formed text)) → ((ts : List Token) × IsTokensOf limits text ts) ⊎ ((r : Refusal) × IsTokenFault limits text r)
      decide short (inl h) = read h.0 short h.1 (cases_lt (utf8_valid_len text) (length text))
      decide short (inr h) = inr (refusal_at h.0 h.1, first_fault h.0 h.1 short h.2)

      go : (text_limit limits < length text) ⊎ (length text ≤ text_limit limits) → ((ts : List Token) × IsTokensOf limits text ts) ⊎ ((r : Refusal) × IsTokenFault limits text r)
      go (inl long) = inr (refusal_at E03 start, long_text long)
      go (inr short) = decide short (outcome (length (chars (well_formed text))) start (chars (well_formed text)) (omega arith))
