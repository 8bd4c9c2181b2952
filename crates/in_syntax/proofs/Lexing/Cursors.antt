-- Steps over a text.
use Rattle.std.proofs.Common.{◌≡◌, ℕ, ◌+◌, ◌≤◌, Bool, true, false, if◌then◌else◌, List, [], ◌∷◌, ◌++◌, length, refl, sym, ◌∙◌, ap, arith, length-append, append_assoc, ◌&&◌, ◌==◌}
use Rattle.std.specs.List.{list_all}
use Rattle.std.specs.Str.{chars, IsUtf8}
use Rattle.std.specs.Char.{encode_utf8}
use Rattle.std.proofs.lemmas.Bool.{and_from}
use Rattle.std.proofs.lemmas.List.Folds.{list_all-append}
use Rattle.std.proofs.lemmas.Str.{chars_past_char, IsUtf8-past_char, length-encode, len_utf8_bounds}
use Rattle.in_syntax.specs.declared.characters.Spot.{Spot}
use Rattle.in_syntax.specs.Places.{past}
use Rattle.in_syntax.proofs.Lexing.PastCharacters.{past_all-append}
use Rattle.in_syntax.specs.Cursors.{BeginsWith, IsWithin, RunsThrough}

pub begins_with : (text rest : List ℕ) (c : ℕ) → IsUtf8 text → text ≡ encode_utf8 c ++ rest → BeginsWith text c rest
begins_with text rest c u e = record {
  chars = chars_past_char text rest c u e;
  bytes = ap length e ∙ length-append (encode_utf8 c) rest;
  some = omega (arith, length-encode c, len_utf8_bounds c);
  utf8 = IsUtf8-past_char text rest c u e;
}

-- a step keeps the spot's numbers small
pub within_past : (s : Spot) (text : List ℕ) (c : ℕ) (rest : List ℕ) → IsWithin s text → BeginsWith text c rest → IsWithin (past s c) rest
within_past s text c rest h b = record {
  total = omega (arith, h.total, b.bytes);
  line = small (c == 10) (s.line + 1) s.line (omega (arith, h.line, b.some)) (omega (arith, h.line));
  col = small (c == 10) 1 (s.col + 1) (omega arith) (omega (arith, h.col, b.some));
}
  where
    small : (b : Bool) (x y : ℕ) {n : ℕ} → x ≤ n → y ≤ n → (if b then x else y) ≤ n
    small true x y hx hy = hx
    small false x y hx hy = hy

pub runs_none : (p : ℕ → Bool) (s : Spot) (text : List ℕ) → IsWithin s text → IsUtf8 text → RunsThrough p s text [] s text
runs_none p s text h u = record { split = refl; all = refl; end = refl; within = h; utf8 = u; shorter = omega arith }

pub runs_more : (p : ℕ → Bool) (s t : Spot) (text w rest more : List ℕ) (c : ℕ) → RunsThrough p s text w t rest → BeginsWith rest c more → p c ≡ true → RunsThrough p s text (w ++ c ∷ []) (past t c) more
runs_more p s t text w rest more c r b h = record {
  split = r.split ∙ ap (λ z. w ++ z) b.chars ∙ sym (append_assoc w (c ∷ []) (chars more));
  all = list_all-append p w (c ∷ []) ∙ and_from (list_all p w) (list_all p (c ∷ [])) r.all (ap (λ z. z && true) h);
  end = ap (λ z. past z c) r.end ∙ sym (past_all-append s w (c ∷ []));
  within = within_past t rest c more r.within b;
  utf8 = b.utf8;
  shorter = omega (arith, r.shorter, b.bytes, b.some, length-append w (c ∷ []));
}
