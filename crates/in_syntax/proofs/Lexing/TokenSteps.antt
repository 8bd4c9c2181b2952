-- From one step over a text to the whole.
use Rattle.std.proofs.Common.{◌≡◌, ℕ, ◌<◌, ◌≤◌, List, ◌∷◌, length, refl, sym, ◌∙◌, ap, subst, arith}
use Rattle.std.specs.Str.{chars, IsUtf8}
use Rattle.std.specs.Str.Lossy.{utf8_valid_len}
use Rattle.std.proofs.lemmas.List.{length-take-le, take_all}
use Rattle.std.proofs.lemmas.Str.{utf8_valid_len_le}
use Rattle.in_syntax.specs.declared.characters.Spot.{Spot}
use Rattle.in_syntax.specs.declared.words.Token.{Token}
use Rattle.in_syntax.specs.declared.faults.Code.TheVariants.{E01}
use Rattle.in_syntax.specs.declared.faults.Fault.{Fault}
use Rattle.in_syntax.specs.declared.faults.Fault.TheVariants.{Refused, Memory}
use Rattle.in_syntax.specs.Places.{start, past_all}
use Rattle.in_syntax.specs.Tokens.{Passes, blank, comment, token, Reads, Stops, well_formed, refusal_at, IsTokensOf, IsTokenFault, first_fault, ill_formed}
use Rattle.in_syntax.specs.Cursors.{RefusedBy, IsStopOf}
use Rattle.in_syntax.proofs.Lexing.PastCharacters.{past_all-append}
use Rattle.in_syntax.specs.declared.text_limits.TextLimits.{TextLimits}
use Rattle.in_syntax.specs.TextLimits.{text_limit}

-- a step keeps the end of the text
pub passes_end : (s t : Spot) (cs rest : List ℕ) (ts : List Token) → Passes s cs ts t rest → past_all t rest ≡ past_all s cs
passes_end s t cs rest ts (blank is) = refl
passes_end s t cs rest ts (comment body after a e) = sym (past_all-append s (35 ∷ body) after)
passes_end s t cs rest ts (token w after is short) = sym (past_all-append s w after)

-- a fault of the characters is one of the text
pub stop_is_fault : (limits : TextLimits) (text front : List ℕ) (f : Fault) → length text ≤ text_limit limits → front ≡ well_formed text → RefusedBy (IsStopOf (chars front)) f → RefusedBy (IsTokenFault limits text) f
stop_is_fault limits text front (Refused r) short e h =
    subst (IsTokenFault limits text) (sym h.3) (first_fault h.0 h.1 short (subst (λ z. Stops start (chars z) h.0 h.1) e h.2))
stop_is_fault limits text front (Memory m) short e h = tt

-- bytes after the longest front are a fault at its end
pub end_is_fault : (limits : TextLimits) (text front : List ℕ) (ts : List Token) (end : Spot) → length text ≤ text_limit limits → front ≡ well_formed text → Reads start (chars front) ts → end ≡ past_all start (chars front) → length front < length text
    → IsTokenFault limits text (refusal_at E01 end)
end_is_fault limits text front ts end short e reads is less =
    let shorter : utf8_valid_len text < length text = omega (arith, less, ap length e ∙ length-take-le (utf8_valid_len text) text (utf8_valid_len_le text)) in
    subst (λ t. IsTokenFault limits text (refusal_at E01 t)) (sym (is ∙ ap (λ z. past_all start (chars z)) e))
    (ill_formed short (subst (λ z. Reads start (chars z) ts) e reads) shorter)

-- if there is nothing after the longest front, its tokens are the text's
pub end_is_whole : (limits : TextLimits) (text front : List ℕ) (ts : List Token) → length text ≤ text_limit limits → front ≡ well_formed text → IsUtf8 front → Reads start (chars front) ts → length text ≤ length front → IsTokensOf limits text ts
end_is_whole limits text front ts short e u reads whole =
    let size : length text ≤ utf8_valid_len text = omega (arith, whole, ap length e ∙ length-take-le (utf8_valid_len text) text (utf8_valid_len_le text)) in
    let same : front ≡ text = e ∙ take_all (utf8_valid_len text) text size in
    record { short = short; utf8 = subst IsUtf8 same u; reads = subst (λ z. Reads start (chars z) ts) same reads }
