-- The steps of a board keep its rule: a claim, one seat more, and two seats taken together; and the claims in the seat that has all hands.
use Rattle.std.proofs.Common.{◌≡◌, ℕ, ◌+◌, ◌-◌, ◌≤◌, ◌<◌, ◌%◌, ◌^◌, min, Bool, true, false, cond, nat_lt, List, [], ◌∷◌, ◌++◌, length, refl, sym, ap, subst, ◌∙◌, arith, inl, inr, set, get_or, get_or-set_same, length-set, length-append, ltb-true, ltb-false, eqb, All, count_by}
use Rattle.std.specs.List.{sum_by}
use Rattle.std.specs.List.Sorted.{IsStrictlyIncreasing}
use Rattle.std.proofs.Math.Seq.{get_or-append_seam}
use Rattle.std.proofs.lemmas.List.{get_or_append_left, get_or-set_other, set-get_or}
use Rattle.std.proofs.lemmas.List.Concat.{flat_map-append}
use Rattle.std.proofs.lemmas.List.Elements.{All-nil, All-cons, All-head, All-append}
use Rattle.std.proofs.lemmas.List.Sums.{sum_by-cons, sum_by-append, sum_by_push}
use Rattle.std.proofs.lemmas.Bool.Decides.{nat_tests}
use Rattle.std.proofs.lemmas.Bool.{cases_lt}
use mathlib.Core.Option.{some}
use lib.ListN.{get_elem?}
use Rattle.atomic_table.specs.Table.{State, keeps, Allows, Splits, Joins}
use Rattle.in_claims.specs.declared.hands.Hand.{Hand}
use Rattle.in_claims.specs.declared.hands.Size.{Size}
use Rattle.in_claims.specs.Rule.{hand, drew, times_claimed, done_count, all_hands, limit_of, AreClaims, IsHandOf, IsBoardRule}
use Rattle.in_claims.proofs.Sums.{at_get, at_most, if_below, sum_le, stands_counted, length_le_sum}
use Rattle.in_claims.proofs.Views.{change, all_changed, all_at, all_in_view, alone}

-- a number that is past all numbers of a rising list goes to its end
rises_more : (xs : List ℕ) (n : ℕ) → IsStrictlyIncreasing xs → ((i : ℕ) → i < length xs → get_or xs i 0 < n) → IsStrictlyIncreasing (xs ++ n ∷ [])
rises_more xs n rise below k inside =
    let long = length-append xs (n ∷ []) in
    let here : get_or (xs ++ n ∷ []) k 0 ≡ get_or xs k 0 = get_or_append_left xs (n ∷ []) 0 k (omega arith) in
    elim (cases_lt (k + 1) (length xs)) [
      | inl lt ↦ let next = get_or_append_left xs (n ∷ []) 0 (k + 1) lt in let up = rise k lt in omega arith
      | inr ge ↦
          let end : k + 1 ≡ length xs = omega arith in
          let last : get_or (xs ++ n ∷ []) (k + 1) 0 ≡ n = ap (λ j. get_or (xs ++ n ∷ []) j 0) end ∙ get_or-append_seam xs n [] 0 in
          let up = below k (omega arith) in
          omega arith
    ]

one_more : (k w : ℕ) → cond (nat_lt k w) 1 0 + cond (eqb w k) 1 0 ≡ cond (nat_lt k (w + 1)) 1 0
one_more k w = grind (arith, nat_tests)

not_counted : (h : Hand) → h.done ≡ false → Path ℕ (cond h.done 1 0) 0
not_counted h e = ap (λ b. cond b 1 0) e

single : (P : Hand → Type 0) (h : Hand) → P h → All P (h ∷ [])
single P h p = All-cons P h [] p (All-nil P)

none_rises : IsStrictlyIncreasing []
none_rises k inside = absurd (omega arith)

-- a seat claims, and finds the word of a state that keeps the rule
module _ (size : Size) (limit_fits : size.limit < 2 ^ 32) (seats_fit : size.seats < 2 ^ 32) (id : ℕ) (h : Hand) (not_done : h.done ≡ false)
    (s : State (Unit {0}) (List Hand)) (kept : IsBoardRule size s) (at : get_elem? s.views id ≡ some (h ∷ [])) where
  abbrev word : ℕ
  word = get_or s.words 0 0

  abbrev after : Hand → ℕ → State (Unit {0}) (List Hand)
  after u w = record { words = set s.words 0 w; homes = s.homes; views = set s.views id (u ∷ []) }

  is_of : IsHandOf size h
  is_of = All-head (IsHandOf size) h [] (all_in_view (IsHandOf size) s.views id (h ∷ []) at kept.hands)

  rise : IsStrictlyIncreasing h.numbers
  rise =
      All-head (λ (v : Hand). IsStrictlyIncreasing v.numbers) h [] (all_in_view (λ (v : Hand). IsStrictlyIncreasing v.numbers) s.views id (h ∷ []) at kept.claims.rise)

  -- a sum over the hands after this hand changes
  change_to : (f : Hand → ℕ) (u : Hand) → sum_by f (all_hands (set s.views id (u ∷ []))) + f h ≡ sum_by f (all_hands s.views) + f u
  change_to f u = omega (arith, change f s.views id (h ∷ []) (u ∷ []) at, sum_by-cons f h [], sum_by-cons f u [])

  few_done : done_count (all_hands s.views) ≤ size.seats
  few_done =
      omega (
        arith,
        sum_le (λ u. cond u.done 1 0) (λ u. u.shares) (all_hands s.views) (λ k d lt. let one = at_most (get_or (all_hands s.views) k d).done 1 in let share = (kept.hands k d lt).share in omega arith),
        kept.shares,
      )

  small : word < 2 ^ 33
  small = omega (arith, few_done, kept.claims.done, limit_fits, seats_fit)

  -- the numbers of the seat are below the word
  are_below : (i : ℕ) → i < length h.numbers → get_or h.numbers i 0 < min word size.limit
  are_below i inside =
      let k = get_or h.numbers i 0 in
      let here = change_to (λ (u : Hand). count_by (λ j. eqb j k) u.numbers) (hand 0 size [] false) in
      if_below k (min word size.limit) (omega (arith, here, stands_counted h.numbers i inside, kept.claims.once k))

  more_rises : IsStrictlyIncreasing (h.numbers ++ word ∷ [])
  more_rises = rises_more h.numbers word rise (λ i inside. let t = are_below i inside in omega arith)

  rises_by : (b : Bool) → IsStrictlyIncreasing (cond b (hand h.shares h.size (h.numbers ++ word ∷ []) h.done) (hand h.shares h.size h.numbers true)).numbers
  rises_by true = more_rises
  rises_by false = rise

  drawn : word < size.limit → AreClaims size.limit (word + 1) (all_hands (set s.views id (hand h.shares h.size (h.numbers ++ word ∷ []) h.done ∷ [])))
  drawn lt =
      let u = hand h.shares h.size (h.numbers ++ word ∷ []) h.done in
      record {
        once = λ k.
            let low : min word size.limit ≡ word = omega arith in
            let high : min (word + 1) size.limit ≡ word + 1 = omega arith in
            let was : times_claimed k (all_hands s.views) ≡ cond (nat_lt k word) 1 0 = kept.claims.once k ∙ ap (λ n. cond (nat_lt k n) 1 0) low in
            let longer = sum_by_push (λ j. cond (eqb j k) 1 0) h.numbers word in
            let changed = change_to (λ v. count_by (λ j. eqb j k) v.numbers) u in
            let now : times_claimed k (all_hands (set s.views id (u ∷ []))) ≡ cond (nat_lt k (word + 1)) 1 0 = omega (arith, changed, longer, was, one_more k word) in
            now ∙ ap (λ n. cond (nat_lt k n) 1 0) (sym high);
        rise = all_changed (λ v. IsStrictlyIncreasing v.numbers) s.views id (u ∷ []) (single (λ v. IsStrictlyIncreasing v.numbers) u more_rises) kept.claims.rise;
        done = omega (arith, change_to (λ v. cond v.done 1 0) u, kept.claims.done);
      }

  ended : size.limit ≤ word → AreClaims size.limit (word + 1) (all_hands (set s.views id (hand h.shares h.size h.numbers true ∷ [])))
  ended le =
      let u = hand h.shares h.size h.numbers true in
      let was = not_counted h not_done in
      record {
        once = λ k.
            let low : min word size.limit ≡ size.limit = omega arith in
            let high : min (word + 1) size.limit ≡ size.limit = omega arith in
            let changed = change_to (λ v. count_by (λ j. eqb j k) v.numbers) u in
            let same : times_claimed k (all_hands (set s.views id (u ∷ []))) ≡ times_claimed k (all_hands s.views) = omega (arith, changed) in
            same ∙ kept.claims.once k ∙ ap (λ n. cond (nat_lt k n) 1 0) (low ∙ sym high);
        rise = all_changed (λ v. IsStrictlyIncreasing v.numbers) s.views id (u ∷ []) (single (λ v. IsStrictlyIncreasing v.numbers) u rise) kept.claims.rise;
        done = omega (arith, change_to (λ v. cond v.done 1 0) u, kept.claims.done, was);
      }

  kept_by : (u : Hand) → u.shares ≡ h.shares → u.size ≡ h.size → AreClaims size.limit (word + 1) (all_hands (set s.views id (u ∷ []))) → IsBoardRule size (after u (word + 1))
  kept_by u same_shares same_size claims =
      let some_word : 0 < length s.words = omega (arith, kept.one_word) in
      let word_is : get_or (set s.words 0 (word + 1)) 0 0 ≡ word + 1 = get_or-set_same s.words 0 (word + 1) 0 some_word in
      let of : IsHandOf size u = record { size_is = same_size ∙ is_of.size_is; share = omega (arith, same_shares, is_of.share) } in
      record {
        one_word = length-set s.words 0 _ ∙ kept.one_word;
        claims = subst (λ w. AreClaims size.limit w (all_hands (set s.views id (u ∷ [])))) (sym word_is) claims;
        shares = omega (arith, change_to (λ v. v.shares) u, kept.shares);
        hands = all_changed (IsHandOf size) s.views id (u ∷ []) (single (IsHandOf size) u of) kept.hands;
      }

  goes_by : (b : Bool) → nat_lt word h.size.limit ≡ b → IsBoardRule size (after (cond b (hand h.shares h.size (h.numbers ++ word ∷ []) h.done) (hand h.shares h.size h.numbers true)) (word + 1))
  goes_by true e =
      kept_by (hand h.shares h.size (h.numbers ++ word ∷ []) h.done) refl refl (drawn (subst (λ (z : Size). word < z.limit) is_of.size_is (ltb-true _ _ e)))
  goes_by false e =
      kept_by (hand h.shares h.size h.numbers true) refl refl (ended (subst (λ (z : Size). z.limit ≤ word) is_of.size_is (ltb-false _ _ e)))

  keeps_rule : IsBoardRule size (after (drew h word) ((word + 1) % 18446744073709551616))
  keeps_rule =
      let whole : (word + 1) % 18446744073709551616 ≡ word + 1 = omega (arith, small) in
      subst (λ w. IsBoardRule size (after (drew h word) w)) (sym whole) (goes_by (nat_lt word h.size.limit) refl)

  list_rises : IsStrictlyIncreasing (drew h word).numbers
  list_rises = rises_by (nat_lt word h.size.limit)

pub claims : (size : Size) (slots id : ℕ) (h : Hand) → size.limit < 2 ^ 32 → size.seats < 2 ^ 32 → h.done ≡ false →
    Allows (IsBoardRule size) slots id (h ∷ [], []) 0 (λ w. (w + 1) % 18446744073709551616) (λ found after. (after ≡ (drew h found ∷ [], [])) × All (λ (v : Hand). IsStrictlyIncreasing v.numbers) after.0)
claims size slots id h limit_fits seats_fit not_done s kept homes at fits_word =
    let word = get_or s.words 0 0 in
    let rises = single (λ (v : Hand). IsStrictlyIncreasing v.numbers) (drew h word) (list_rises size limit_fits seats_fit id h not_done s kept at) in
    (drew h word ∷ [], keeps, tt, keeps_rule size limit_fits seats_fit id h not_done s kept at, (refl, rises))

-- a seat that is not done gives a share to a new one
pub splits : (size : Size) (id : ℕ) (h : Hand) → 1 < h.shares → h.done ≡ false →
    Splits (IsBoardRule size) id (h ∷ []) (hand (h.shares - 1) h.size h.numbers h.done ∷ []) (hand 1 h.size [] false ∷ [])
splits size id h shares not_done s kept at =
    let left = hand (h.shares - 1) h.size h.numbers h.done in
    let right = hand 1 h.size [] false in
    let after : List (List Hand) = set s.views id (left ∷ []) in
    let of : IsHandOf size h = All-head (IsHandOf size) h [] (all_in_view (IsHandOf size) s.views id (h ∷ []) at kept.hands) in
    let rise : IsStrictlyIncreasing h.numbers = All-head (λ (v : Hand). IsStrictlyIncreasing v.numbers) h [] (all_in_view (λ (v : Hand). IsStrictlyIncreasing v.numbers) s.views id (h ∷ []) at kept.claims.rise) in
    let was = not_counted h not_done in
    let all : all_hands (after ++ (right ∷ []) ∷ []) ≡ all_hands after ++ right ∷ [] = flat_map-append (λ (hands : List Hand). hands) after ((right ∷ []) ∷ []) in
    let changed : (f : Hand → ℕ) → sum_by f (all_hands after ++ right ∷ []) + f h ≡ (sum_by f (all_hands s.views) + f left) + f right =
    λ f. omega (arith, sum_by_push f (all_hands after) right, change f s.views id (h ∷ []) (left ∷ []) at, sum_by-cons f h [], sum_by-cons f left [])
    in
    let both : (P : Hand → Type 0) → P left → P right → All P (all_hands s.views) → All P (all_hands after ++ right ∷ []) =
    λ P p q each. All-append P (all_hands after) (right ∷ []) (all_changed P s.views id (left ∷ []) (single P left p) each) (single P right q)
    in
    let claims : AreClaims size.limit (get_or s.words 0 0) (all_hands after ++ right ∷ []) = record {
      once = λ k. let c = changed (λ v. count_by (λ j. eqb j k) v.numbers) in let o = kept.claims.once k in omega arith;
      rise = both (λ v. IsStrictlyIncreasing v.numbers) rise none_rises kept.claims.rise;
      done = let c = changed (λ v. cond v.done 1 0) in let o = kept.claims.done in omega arith;
    } in
    record {
      one_word = kept.one_word;
      claims = subst (λ l. AreClaims size.limit (get_or s.words 0 0) l) (sym all) claims;
      shares = subst (λ l. sum_by (λ (v : Hand). v.shares) l ≡ size.seats) (sym all) (let c = changed (λ v. v.shares) in let o = kept.shares in omega arith);
      hands = subst (λ l. All (IsHandOf size) l) (sym all) (both (IsHandOf size) (record { size_is = of.size_is; share = omega arith }) (record { size_is = of.size_is; share = omega arith }) kept.hands);
    }

-- a seat takes in another, which keeps no hand
pub joins : (size : Size) (id : ℕ) (ours : List Hand) (other : ℕ) (theirs : List Hand) → Joins (IsBoardRule size) id ours other theirs (theirs ++ ours) []
joins size id ours other theirs s kept at apart there =
    let middle : List (List Hand) = set s.views id (theirs ++ ours) in
    let after : List (List Hand) = set middle other [] in
    let same : (f : Hand → ℕ) → sum_by f (all_hands after) ≡ sum_by f (all_hands s.views) =
    λ f. omega (arith, change f s.views id ours (theirs ++ ours) at, change f middle other theirs [] there, sum_by-append f theirs ours)
    in
    let t = at_get middle other theirs there in
    let inside : other < length s.views = omega (arith, t.0, length-set s.views id (theirs ++ ours)) in
    let still : get_or s.views other theirs ≡ theirs = sym (get_or-set_other s.views id other (theirs ++ ours) theirs apart) ∙ t.1 in
    let each : (P : Hand → Type 0) → All P (all_hands s.views) → All P (all_hands after) =
    λ P all.
    let both = All-append P theirs ours (subst (All P) still (all_at P s.views other theirs inside all)) (all_in_view P s.views id ours at all) in
    all_changed P middle other [] (All-nil P) (all_changed P s.views id (theirs ++ ours) both all)
    in
    record {
      one_word = kept.one_word;
      claims = record {
        once = λ k. same (λ v. count_by (λ j. eqb j k) v.numbers) ∙ kept.claims.once k;
        rise = each (λ v. IsStrictlyIncreasing v.numbers) kept.claims.rise;
        done = omega (arith, same (λ v. cond v.done 1 0), kept.claims.done);
      };
      shares = same (λ v. v.shares) ∙ kept.shares;
      hands = each (IsHandOf size) kept.hands;
    }

limit_is : (size : Size) (hands : List Hand) → 0 < length hands → All (IsHandOf size) hands → limit_of hands ≡ size.limit
limit_is size [] one of = absurd (omega arith)
limit_is size (h ∷ hands) one of = ap (λ (z : Size). z.limit) (All-head (IsHandOf size) h hands of).size_is

-- a view with as many hands as the board has seats has all of them
pub tells : (size : Size) (slots id : ℕ) (hands : List Hand) → 0 < size.seats → length hands ≡ size.seats →
    Allows (IsBoardRule size) slots id (hands, []) 0 (λ w. w) (λ found after. AreClaims (limit_of hands) found hands)
tells size slots id hands some_seat all s kept homes at fits_word =
    let word = get_or s.words 0 0 in
    let t = at_get s.views id hands at in
    let same_views : set s.views id hands ≡ s.views = ap (λ l. set s.views id l) (sym t.1) ∙ set-get_or s.views id hands in
    let same_words : set s.words 0 word ≡ s.words = set-get_or s.words 0 0 in
    let still : IsBoardRule size (record { words = set s.words 0 word; homes = s.homes; views = set s.views id hands }) =
    subst (λ v. IsBoardRule size (record { words = set s.words 0 word; homes = s.homes; views = v })) (sym same_views) (subst (λ w. IsBoardRule size (record { words = w; homes = s.homes; views = s.views })) (sym same_words) kept)
    in
    let few = length_le_sum (λ (h : Hand). h.shares) (all_hands s.views) (λ k d lt. (kept.hands k d lt).share) in
    let whole : all_hands s.views ≡ hands = alone s.views id hands at (omega (arith, few, kept.shares, all)) in
    let limit : limit_of hands ≡ size.limit = limit_is size hands (omega arith) (all_in_view (IsHandOf size) s.views id hands at kept.hands) in
    (hands, keeps, tt, still, subst (λ l. AreClaims l word hands) (sym limit) (subst (λ l. AreClaims size.limit word l) whole kept.claims))
