-- Laws of the definitions of tokens.
use Rattle.std.proofs.Common.{◌≡◌, ℕ, true, false, List, [], ◌∷◌, ◌++◌, length, Some, None, refl, sym, ◌∙◌, ap, subst, arith, ◌==◌}
use Rattle.std.specs.List.{list_all}
use Rattle.std.proofs.lemmas.Bool.{and_parts, true≢false, false≢true}
use Rattle.std.proofs.lemmas.List.Folds.{list_all-append}
use Rattle.in_syntax.specs.declared.characters.Spot.{Spot}
use Rattle.in_syntax.specs.declared.words.Token.{Token}
use Rattle.in_syntax.specs.declared.words.TokenKind.{TokenKind}
use Rattle.in_syntax.specs.declared.faults.Code.{Code}
use Rattle.in_syntax.specs.Characters.{is_blank, stays_in_comment}
use Rattle.in_syntax.specs.Places.{past, past_all, place_between}
use Rattle.in_syntax.specs.Tokens.{kind_of, IsLongest, BeginsNoToken, EndsLine, Passes, blank, comment, token, Reads, ends, goes_on, Faults, stray, too_long, Stops, here, later}
use Rattle.in_syntax.proofs.Lexing.Lexemes.{kind_of-blank, kind_of-hash}

-- two ways to part one list: alike, or the second front continues with c, or the first does
data Parts : List ℕ → List ℕ → List ℕ → List ℕ → Type 0 where
  alike : {v w a b : List ℕ} → v ≡ w → a ≡ b → Parts v a w b
  second_more : {v w a b : List ℕ} (c : ℕ) (more : List ℕ) → w ≡ v ++ (c ∷ more) → a ≡ c ∷ (more ++ b) → Parts v a w b
  first_more : {v w a b : List ℕ} (c : ℕ) (more : List ℕ) → v ≡ w ++ (c ∷ more) → b ≡ c ∷ (more ++ a) → Parts v a w b

parts_more : (x : ℕ) (v a w b : List ℕ) → Parts v a w b → Parts (x ∷ v) a (x ∷ w) b
parts_more x v a w b (alike e f) = alike (ap (λ z. x ∷ z) e) f
parts_more x v a w b (second_more c more e f) = second_more c more (ap (λ z. x ∷ z) e) f
parts_more x v a w b (first_more c more e f) = first_more c more (ap (λ z. x ∷ z) e) f

parts : (v a w b : List ℕ) → v ++ a ≡ w ++ b → Parts v a w b
parts [] a [] b e = alike refl e
parts [] a (c ∷ w) b e = second_more c w refl e
parts (c ∷ v) a [] b e = first_more c v refl (sym e)
parts (x ∷ v) a (y ∷ w) b e =
    let same : x ≡ y = cc in
    let rest : v ++ a ≡ w ++ b = cc in
    subst (λ z. Parts (x ∷ v) a (z ∷ w) b) same (parts_more x v a w b (parts v a w b rest))

-- a token is no front of a longer one
no_longer : (v a w b : List ℕ) (k l : TokenKind) (c : ℕ) (more : List ℕ) → IsLongest v a k → IsLongest w b l → w ≡ v ++ (c ∷ more) → a ≡ c ∷ (more ++ b) → ⊥
no_longer v a w b k l c more p q e f =
    let none : kind_of w ≡ None = ap kind_of e ∙ p.longest c more b f in
    let some : kind_of w ≡ Some l = q.token in
    absurd (cc)

pub same_token : (v a w b : List ℕ) (k l : TokenKind) → v ++ a ≡ w ++ b → IsLongest v a k → IsLongest w b l → (v ≡ w) × (a ≡ b) × (k ≡ l)
same_token v a w b k l e p q = go (parts v a w b e)
  where
    go : Parts v a w b → (v ≡ w) × (a ≡ b) × (k ≡ l)
    go (alike f g) =
        let one : kind_of w ≡ Some k = ap kind_of (sym f) ∙ p.token in
        let other : kind_of w ≡ Some l = q.token in
        (f, g, cc)
    go (second_more c more f g) = absurd (no_longer v a w b k l c more p q f g)
    go (first_more c more f g) = absurd (no_longer w b v a l k c more q p f g)

-- the first character after a comment's front isn't one that stays in it
stays_on : (v w : List ℕ) (c : ℕ) (more : List ℕ) → list_all stays_in_comment w ≡ true → w ≡ v ++ (c ∷ more) → stays_in_comment c ≡ true
stays_on v w c more h e =
    let all = sym (ap (list_all stays_in_comment) e ∙ list_all-append stays_in_comment v (c ∷ more)) ∙ h in
    (and_parts (stays_in_comment c) (list_all stays_in_comment more) (and_parts (list_all stays_in_comment v) (list_all stays_in_comment (c ∷ more)) all).1).0

-- a line feed doesn't stay
leaves : (c : ℕ) → c ≡ 10 → stays_in_comment c ≡ true → ⊥
leaves c e h = false≢true (ap stays_in_comment (sym e) ∙ h)

same_body : (v a w b : List ℕ) → v ++ a ≡ w ++ b → list_all stays_in_comment v ≡ true → EndsLine a → list_all stays_in_comment w ≡ true → EndsLine b → (v ≡ w) × (a ≡ b)
same_body v a w b e hv ha hw hb = go (parts v a w b e)
  where
    go : Parts v a w b → (v ≡ w) × (a ≡ b)
    go (alike f g) = (f, g)
    go (second_more c more f g) = absurd (leaves c (subst EndsLine g ha) (stays_on v w c more hw f))
    go (first_more c more f g) = absurd (leaves c (subst EndsLine g hb) (stays_on w v c more hv f))

-- a token begins with the first character of its text
token_first : (c : ℕ) (cs w rest : List ℕ) (k : TokenKind) → c ∷ cs ≡ w ++ rest → kind_of w ≡ Some k → (more : List ℕ) × (kind_of (c ∷ more) ≡ Some k)
token_first c cs [] rest k e h = absurd (cc)
token_first c cs (x ∷ more) rest k e h =
    let same : x ≡ c = cc in
    (more, subst (λ z. kind_of (z ∷ more) ≡ Some k) same h)

no_blank_token : (c : ℕ) (cs w rest : List ℕ) (k : TokenKind) → is_blank c ≡ true → c ∷ cs ≡ w ++ rest → kind_of w ≡ Some k → ⊥
no_blank_token c cs w rest k b e h =
    let t = token_first c cs w rest k e h in
    let none : kind_of (c ∷ t.0) ≡ None = kind_of-blank c t.0 b in
    let some : kind_of (c ∷ t.0) ≡ Some k = t.1 in
    absurd (cc)

no_hash_token : (cs w rest : List ℕ) (k : TokenKind) → 35 ∷ cs ≡ w ++ rest → kind_of w ≡ Some k → ⊥
no_hash_token cs w rest k e h =
    let t = token_first 35 cs w rest k e h in
    let none : kind_of (35 ∷ t.0) ≡ None = kind_of-hash t.0 in
    let some : kind_of (35 ∷ t.0) ≡ Some k = t.1 in
    absurd (cc)

no_blank_hash : (c : ℕ) (cs ds : List ℕ) → is_blank c ≡ true → c ∷ cs ≡ 35 ∷ ds → ⊥
no_blank_hash c cs ds b e =
    let same : c ≡ 35 = cc in
    false≢true (ap is_blank (sym same) ∙ b)

-- the passed part at a spot of a text is determined
pub passes_unique : (s : Spot) (cs ds : List ℕ) (ts us : List Token) (t u : Spot) (a b : List ℕ) → Passes s cs ts t a → Passes s ds us u b → cs ≡ ds → (ts ≡ us) × (t ≡ u) × (a ≡ b)
passes_unique s cs ds ts us t u a b (blank {c = c} p) (blank {c = d} q) e = let same : c ≡ d = cc in (refl, ap (past s) same, cc)
passes_unique s cs ds ts us t u a b (blank {c = c} {cs = x} p) (comment body rest q r) e = absurd (no_blank_hash c x (body ++ rest) p e)
passes_unique s cs ds ts us t u a b (blank {c = c} {cs = x} p) (token {k = k} w rest q r) e = absurd (no_blank_token c x w rest k p e q.token)
passes_unique s cs ds ts us t u a b (comment body rest q r) (blank {c = c} {cs = x} p) e = absurd (no_blank_hash c x (body ++ rest) p (sym e))
passes_unique s cs ds ts us t u a b (comment v a' p q) (comment w b' p' q') e =
    let inner : v ++ a' ≡ w ++ b' = cc in
    let same = same_body v a' w b' inner p q p' q' in
    (refl, ap (λ z. past_all s (35 ∷ z)) same.0, same.1)
passes_unique s cs ds ts us t u a b (comment v rest' p q) (token {k = k} w rest r h) e = absurd (no_hash_token (v ++ rest') w rest k e r.token)
passes_unique s cs ds ts us t u a b (token {k = k} w rest q r) (blank {c = c} {cs = x} p) e = absurd (no_blank_token c x w rest k p (sym e) q.token)
passes_unique s cs ds ts us t u a b (token {k = k} w rest r h) (comment v rest' p q) e = absurd (no_hash_token (v ++ rest') w rest k (sym e) r.token)
passes_unique s cs ds ts us t u a b (token {k = k} v a' p q) (token {k = l} w b' p' q') e =
    let same = same_token v a' w b' k l e p p' in
    (ap (λ z. record { kind = z; place = place_between s (past_all s v) } ∷ []) same.2 ∙ ap (λ z. record { kind = l; place = place_between s (past_all s z) } ∷ []) same.0, ap (past_all s) same.0, same.1)

-- the passed part isn't empty
passes_some : (s t : Spot) (cs rest : List ℕ) (ts : List Token) → Passes s cs ts t rest → cs ≡ [] → ⊥
passes_some s t cs rest ts (blank p) e = absurd (cc)
passes_some s t cs rest ts (comment body after p q) e = absurd (cc)
passes_some s t cs rest ts (token {k = k} [] after p q) e = let none : None ≡ Some k = p.token in absurd (cc)
passes_some s t cs rest ts (token (c ∷ w) after p q) e = absurd (cc)

faults_some : (s t : Spot) (cs : List ℕ) (code : Code) → Faults s cs code t → cs ≡ [] → ⊥
faults_some s t cs code (stray p q r) e = absurd (cc)
faults_some s t cs code (too_long {k = k} [] rest p q) e = let none : None ≡ Some k = p.token in absurd (cc)
faults_some s t cs code (too_long (c ∷ w) rest p q) e = absurd (cc)

no_stray_hash : (c : ℕ) (cs ds : List ℕ) → (c == 35) ≡ false → c ∷ cs ≡ 35 ∷ ds → ⊥
no_stray_hash c cs ds h e =
    let same : c ≡ 35 = cc in
    true≢false (sym (ap (λ z. z == 35) same) ∙ h)

no_stray_token : (c : ℕ) (cs w rest : List ℕ) (k : TokenKind) → BeginsNoToken (c ∷ cs) → c ∷ cs ≡ w ++ rest → kind_of w ≡ Some k → ⊥
no_stray_token c cs w rest k h e f =
    let none : kind_of w ≡ None = h w rest e in
    absurd (cc)

-- a fault is not passed
no_pass : (s t u : Spot) (cs ds rest : List ℕ) (ts : List Token) (code : Code) → Passes s cs ts t rest → Faults s ds code u → cs ≡ ds → ⊥
no_pass s t u cs ds rest ts code (blank {c = c} p) (stray {c = d} q r n) e =
    let same : c ≡ d = cc in
    true≢false (sym p ∙ ap is_blank same ∙ q)
no_pass s t u cs ds rest ts code (blank {c = c} {cs = x} p) (too_long {k = k} w after q r) e = no_blank_token c x w after k p e q.token
no_pass s t u cs ds rest ts code (comment body after p q) (stray {c = c} {cs = x} b h n) e = no_stray_hash c x (body ++ after) h (sym e)
no_pass s t u cs ds rest ts code (comment body after p q) (too_long {k = k} w b r h) e = no_hash_token (body ++ after) w b k e r.token
no_pass s t u cs ds rest ts code (token {k = k} w after p q) (stray {c = c} {cs = x} b h n) e = no_stray_token c x w after k n (sym e) p.token
no_pass s t u cs ds rest ts code (token {k = k} v a p q) (too_long {k = l} w b r h) e =
    let same : v ≡ w = (same_token v a w b k l e p r).0 in
    omega (arith, ap length same)

-- a fault at once is determined
faults_unique : (s t u : Spot) (cs ds : List ℕ) (code dode : Code) → Faults s cs code t → Faults s ds dode u → cs ≡ ds → (code ≡ dode) × (t ≡ u)
faults_unique s t u cs ds code dode (stray p q r) (stray p' q' r') e = (refl, refl)
faults_unique s t u cs ds code dode (stray {c = c} {cs = x} p q r) (too_long {k = k} w b p' q') e = absurd (no_stray_token c x w b k r e p'.token)
faults_unique s t u cs ds code dode (too_long {k = k} w b p' q') (stray {c = c} {cs = x} p q r) e = absurd (no_stray_token c x w b k r (sym e) p'.token)
faults_unique s t u cs ds code dode (too_long v a p q) (too_long w b p' q') e = (refl, refl)

-- a text reads as one list of tokens
pub reads_unique : {s : Spot} {cs : List ℕ} {ts : List Token} (ds : List ℕ) (us : List Token) → Reads s cs ts → Reads s ds us → cs ≡ ds → ts ≡ us
reads_unique ds us ends ends e = refl
reads_unique ds us (ends {s = s}) (goes_on {t = t} {rest = rest} vs ws p r) e = absurd (passes_some s t ds rest vs p (sym e))
reads_unique ds us (goes_on {s = s} {t = t} {cs = cs} {rest = rest} vs ws p r) ends e = absurd (passes_some s t cs rest vs p e)
reads_unique ds us (goes_on {s = s} {t = t} {cs = cs} {rest = a} vs ws p r) (goes_on {t = u} {rest = b} xs ys q h) e =
    let same = passes_unique s cs ds vs xs t u a b p q e in
    let more = reads_unique b ys r (subst (λ z. Reads z b ys) (sym same.1) h) same.2 in
    ap (λ z. z ++ ws) same.0 ∙ ap (λ z. xs ++ z) more

-- a text that reads to its end has no fault at which it stops
pub reads_not_stops : {s : Spot} {cs : List ℕ} {ts : List Token} (ds : List ℕ) (code : Code) (at : Spot) → Reads s cs ts → Stops s ds code at → cs ≡ ds → ⊥
reads_not_stops ds code at (ends {s = s}) (here f) e = faults_some s at ds code f (sym e)
reads_not_stops ds code at (ends {s = s}) (later {t = t} {rest = rest} {ts = ts} p h) e = passes_some s t ds rest ts p (sym e)
reads_not_stops ds code at (goes_on {s = s} {t = t} {cs = cs} {rest = rest} vs ws p r) (here f) e = no_pass s t at cs ds rest vs code p f e
reads_not_stops ds code at (goes_on {s = s} {t = t} {cs = cs} {rest = a} vs ws p r) (later {t = u} {rest = b} {ts = xs} q h) e =
    let same = passes_unique s cs ds vs xs t u a b p q e in
    reads_not_stops b code at r (subst (λ z. Stops z b code at) (sym same.1) h) same.2

-- a text stops at one fault
pub stops_unique : {s : Spot} {cs : List ℕ} {code : Code} {at : Spot} (ds : List ℕ) (dode : Code) (bt : Spot) → Stops s cs code at → Stops s ds dode bt → cs ≡ ds → (code ≡ dode) × (at ≡ bt)
stops_unique ds dode bt (here {s = s} {t = t} {cs = cs} {code = code} f) (here g) e = faults_unique s t bt cs ds code dode f g e
stops_unique ds dode bt (here {s = s} {t = t} {cs = cs} {code = code} f) (later {t = u} {rest = b} {ts = xs} q h) e = absurd (no_pass s u t ds cs b xs code q f (sym e))
stops_unique ds dode bt (later {s = s} {t = t} {cs = cs} {rest = a} {ts = vs} p r) (here g) e = absurd (no_pass s t bt cs ds a vs dode p g e)
stops_unique ds dode bt (later {s = s} {t = t} {cs = cs} {rest = a} {ts = vs} p r) (later {t = u} {rest = b} {ts = xs} q h) e =
    let same = passes_unique s cs ds vs xs t u a b p q e in
    stops_unique b dode bt r (subst (λ z. Stops z b dode bt) (sym same.1) h) same.2
