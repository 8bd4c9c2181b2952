-- The number of an option, as the typed getter of `clap` reads it.
use Rattle.std.proofs.Common.{◌≡◌, ◌||◌, ℕ, ◌<◌, ◌^◌, Bool, true, false, cond, Option, Some, None, is_some, refl, sym, ◌∙◌, subst, ap, arith, List, [], ◌∷◌, map}
use Rattle.std.proofs.lemmas.Option.{same_Some}
use Rattle.std.specs.Prelude.{codes, find, option_map}
use Rattle.std.specs.Str.{bytes_eq}
use Rattle.std.specs.Str.Parse.{IsNumeral, without_leading_plus, digits_value}
use Rattle.clap.specs.Facts.{Entry}
use Rattle.clap.specs.Walk.{has_row, row_of}
use Rattle.clap.specs.Words.{Row, Text, matched_of, one_text, rows_of}
use Rattle.clap.specs.declared.parser.matches.Found.{Found}
use Rattle.clap.proofs.WalkLemmas.{one_text-rows}
use Rattle.in_arena.specs.declared.content.CellCounts.{CellCounts}
use Rattle.in_limits.specs.AllowedLimits.{AreLimitsOf}
use Rattle.in_limits.specs.Limiting.{AreAllowed, HasLeast}
use Rattle.in_limits.specs.declared.limits.Limits.{Limits}
use Rattle.in_command_line.specs.Asking.{AreGiven, HasCounts, IsNumber, Spells, option_for}

-- an option has one number
pub number_once : (name : Text) (options : List Row) (n m : ℕ) → IsNumber name options n → IsNumber name options m → n ≡ m
number_once name options n m (t, is, (digits, value)) (u, are, (more, other)) =
    value ∙ ap (λ (x : Text). digits_value 10 (without_leading_plus x)) (same_Some t u (sym is ∙ are)) ∙ sym other

-- a number that was read is that of the option
pub number_read : (f : Found) (name : Text) (n : ℕ) → (one_text f name ≡ None → ◌≡◌ {A = Option ℕ} (Some n) None)
    → ((t : Text) → one_text f name ≡ Some t → Spells t n)
    → IsNumber name (rows_of f) n
number_read f name n none value = go (one_text f name) refl
  where
    go : (o : Option Text) → one_text f name ≡ o → IsNumber name (rows_of f) n
    go None e = let bad : ◌≡◌ {A = Option ℕ} (Some n) None = none e in absurd cc
    go (Some t) e = let h = value t e in (t, sym (one_text-rows f name) ∙ e, h)

-- .. and if none was read, the option has none that fits
pub number_refused : (f : Found) (name : Text)
    → ((t : Text) → one_text f name ≡ Some t → IsNumeral 10 (without_leading_plus t) × (digits_value 10 (without_leading_plus t) < 2 ^ 64) → ⊥)
    → (n : ℕ) → n < 2 ^ 64 → IsNumber name (rows_of f) n → ⊥
number_refused f name refused n fits (t, is, (digits, value)) =
    refused t (one_text-rows f name ∙ is) (digits, subst (λ (k : ℕ). k < 2 ^ 64) value fits)

-- an option is among the rows of a match exactly if the match has it
pub row_if_matched : (f : Found) (name : Text) → has_row name (rows_of f) ≡ is_some (matched_of f name)
row_if_matched f name = go f.entries.items
  where
    step : (b : Bool) (x : Entry) (xs : List Entry) → has_row name (map row_of xs) ≡ is_some (option_map (λ e. e.1) (find (λ e. bytes_eq e.0.now name) xs))
        → (b || has_row name (map row_of xs)) ≡ is_some (option_map (λ e. e.1) (cond b (Some x) (find (λ e. bytes_eq e.0.now name) xs)))
    step true x xs later = refl
    step false x xs later = later

    go : (xs : List Entry) → has_row name (map row_of xs) ≡ is_some (option_map (λ e. e.1) (find (λ e. bytes_eq e.0.now name) xs))
    go [] = refl
    go (x ∷ xs) = step (bytes_eq x.0.now name) x xs (go xs)

-- the classes have one number of cells each
pub counts_once : (options : List Row) (c d : CellCounts) → HasCounts options c → HasCounts options d → c ≡ d
counts_once options c d h g =
    let small = number_once (option_for (codes "small-cells") options) options c.small_cells d.small_cells h.0 g.0 in
    let large = number_once (option_for (codes "large-cells") options) options c.large_cells d.large_cells h.1 g.1 in
    let wide = number_once (option_for (codes "wide-cells") options) options c.wide_cells d.wide_cells h.2 g.2 in
    λ i. (let z : CellCounts = record { small_cells = small i; large_cells = large i; wide_cells = wide i } in z)

-- the limits of these numbers are those of the options
pub limits_given : (options : List Row) (workers limit : ℕ) (cells : CellCounts) (r : Option Limits) → AreLimitsOf workers limit cells r
    → IsNumber (codes "workers") options workers → IsNumber (codes "limit") options limit → HasCounts options cells → AreGiven options r
limits_given options workers limit cells (Some l) made has is are =
    (subst (IsNumber (codes "workers") options) (sym made.1) has, subst (IsNumber (codes "limit") options) (sym made.2) is, subst (HasCounts options) (sym made.3) are)
limits_given options workers limit cells None made has is are = λ l h.
    let as_many : l.workers ≡ workers = number_once (codes "workers") options l.workers workers h.0 has in
    let same : l.limit ≡ limit = number_once (codes "limit") options l.limit limit h.1 is in
    let alike : l.cells ≡ cells = counts_once options l.cells cells h.2 are in
    made (omega (arith, as_many, l.some_worker), omega (arith, as_many, l.few_workers), omega (arith, same, l.limit_in_range), subst HasLeast alike l.least, subst AreAllowed alike l.most)
