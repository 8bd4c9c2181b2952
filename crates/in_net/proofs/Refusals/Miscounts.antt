-- The first spot of a name that occurs once, or its third spot.
use Rattle.std.proofs.Common.{◌≡◌, ◌≢◌, ◌⊎◌, inl, inr, ℕ, zero, suc, ◌+◌, ◌<◌, ◌≤◌, List, [], ◌∷◌, length, Option, Some, None, slice_get, refl, sym, ◌∙◌, ap, subst, arith, set}
use Rattle.std.proofs.lemmas.List.{length-set, get_or-set_same, get_or-set_other}
use Rattle.std.proofs.lemmas.Bool.{cases_eq, cases_lt}
use Rattle.in_syntax.specs.declared.places.Place.{Place}
use Rattle.in_syntax.specs.declared.tree.SourceFree.{SourceFree}
use Rattle.in_base.specs.Lists.{AnyByRecursion}
use Rattle.in_syntax.specs.Refusals.{earlier}
use Rattle.in_syntax.proofs.Public.{IsLeast, least_same, least_earlier, least_of_all}
use Rattle.in_net.specs.declared.reading.TextSpot.{TextSpot}
use Rattle.in_net.specs.declared.reading.TextSpot.TheVariants.{Port, Free, End, Occurrence}
use Rattle.in_net.specs.declared.counting.Seen.{Seen}
use Rattle.in_net.specs.declared.counting.Seen.TheVariants.{Never, Once, Twice, Often}
use Rattle.in_net.specs.declared.counting.Counting.{Counting}
use Rattle.in_net.specs.Counting.{name_of, seen_again, count_name, counted_from, third_time, nothing_counted, counts_named, counts_spot, counts_from, place_at, lonely_place, lonely, miscounted}
use Rattle.in_net.specs.Building.{nth_spot}
use Rattle.in_net.proofs.Wiring.Joins.{length-none_seen}
use Rattle.in_net.proofs.Refusals.Standing.{Has, IsStanding, standing_on, standing_more}
use Rattle.in_net.proofs.Wiring.Ways.{nth_seen}
use Rattle.in_net.proofs.Wiring.Joined.{nth_none}

-- the third spot of a name is an occurrence at the place
pub record IsThirdAt (spots : List TextSpot) (at : ℕ) (q : Place) : Type 0 where
  pub name : ℕ
  pub one : ℕ
  pub two : ℕ
  pub three : ℕ
  pub first : one < two
  pub next : two < three
  pub inside : three < at
  pub has_one : Has spots name one
  pub has_two : Has spots name two
  pub stands : nth_spot spots three ≡ Occurrence name q
  pub only : (i : ℕ) → i < three → Has spots name i → (i ≡ one) ⊎ (i ≡ two)

pub record IsCountedAt (spots : List TextSpot) (names at : ℕ) (c : Counting) : Type 0 where
  pub count : length c.seen ≡ names
  pub seen : (m : ℕ) → m < names → IsStanding spots at m (nth_seen c.seen m)
  pub third : IsLeast (IsThirdAt spots at) c.third

same_name : (spots : List TextSpot) (i m n : ℕ) → Has spots m i → Has spots n i → m ≡ n
same_name spots i m n e f = some_is (sym e ∙ f)
  where
    some_is : Some m ≡ Some n → m ≡ n
    some_is e = cc

third_weaker : (spots : List TextSpot) (at : ℕ) (q : Place) → IsThirdAt spots at q → IsThirdAt spots (at + 1) q
third_weaker spots at q h = record {
  name = h.name;
  one = h.one;
  two = h.two;
  three = h.three;
  first = h.first;
  next = h.next;
  inside = let l = h.inside in omega (arith, l);
  has_one = h.has_one;
  has_two = h.has_two;
  stands = h.stands;
  only = h.only;
}

-- a third one at the next spot is the third one of its name
third_here : (spots : List TextSpot) (at m : ℕ) (q : Place) (s : Seen) → IsStanding spots at m s → nth_spot spots at ≡ Occurrence m q → (h : IsThirdAt spots (at + 1) q) → h.three ≡ at → h.name ≡ m → s ≡ Twice
third_here spots at m q Never stand is h e n = absurd (let l = h.first in let k = h.next in stand h.one (omega (arith, l, k, e)) (subst (λ n. Has spots n h.one) n h.has_one))
third_here spots at m q (Once a) stand is h e n =
    let l = h.first in
    let k = h.next in
    let x = stand.2 h.one (omega (arith, l, k, e)) (subst (λ n. Has spots n h.one) n h.has_one) in
    let y = stand.2 h.two (omega (arith, k, e)) (subst (λ n. Has spots n h.two) n h.has_two) in
    absurd (omega (arith, x, y, l))
third_here spots at m q Twice stand is h e n = refl
third_here spots at m q Often (a, b, c, less, next, in_, f, g, i, all) is h e n = absurd (pigeon (h.only a (omega (arith, less, next, in_, e)) (back a f)) (h.only b (omega (arith, next, in_, e)) (back b g)) (h.only c (omega (arith, in_, e)) (back c i)))
  where
    back : (x : ℕ) → Has spots m x → Has spots h.name x
    back x y = subst (λ n. Has spots n x) (sym n) y

    pigeon : (a ≡ h.one) ⊎ (a ≡ h.two) → (b ≡ h.one) ⊎ (b ≡ h.two) → (c ≡ h.one) ⊎ (c ≡ h.two) → ⊥
    pigeon (inl x) (inl y) z = absurd (omega (arith, x, y, less))
    pigeon (inr x) (inr y) z = absurd (omega (arith, x, y, less))
    pigeon (inl x) (inr y) (inl z) = absurd (omega (arith, x, z, less, next))
    pigeon (inl x) (inr y) (inr z) = absurd (omega (arith, y, z, next))
    pigeon (inr x) (inl y) (inl z) = absurd (omega (arith, y, z, next))
    pigeon (inr x) (inl y) (inr z) = absurd (omega (arith, x, z, less, next))

occurrence_name : (spots : List TextSpot) (at m n : ℕ) (q : Place) → nth_spot spots at ≡ Occurrence n q → Has spots m at → m ≡ n
occurrence_name spots at m n q is e = some_is (sym e ∙ ap name_of is)
  where
    some_is : Some m ≡ Some n → m ≡ n
    some_is e = cc

-- a third occurrence at this very spot
abbrev IsHere : List TextSpot → ℕ → ℕ → Seen → Place → Type 0
IsHere spots at m s q = (s ≡ Twice) × (nth_spot spots at ≡ Occurrence m q)

third_least : (spots : List TextSpot) (at m : ℕ) (s : Seen) (u : TextSpot) → nth_spot spots at ≡ u → Has spots m at → IsLeast (IsHere spots at m s) (third_time s u)
third_least spots at m Never u is e = λ q h. absurd (let wrong : Never ≡ Twice = h.0 in cc)
third_least spots at m (Once a) u is e = λ q h. absurd (let wrong : Once a ≡ Twice = h.0 in cc)
third_least spots at m Twice (Port a i p) is e = λ q h. absurd (let wrong : Port a i p ≡ Occurrence m q = sym is ∙ h.1 in cc)
third_least spots at m Twice (End k) is e = λ q h. absurd (let wrong : End k ≡ Occurrence m q = sym is ∙ h.1 in cc)
third_least spots at m Twice (Free k n) is e = λ q h. absurd (let wrong : Free k n ≡ Occurrence m q = sym is ∙ h.1 in cc)
third_least spots at m Twice (Occurrence n p) is e =
    let same : m ≡ n = occurrence_name spots at m n p is e in (
      (refl, is ∙ ap (λ n. Occurrence n p) (sym same)),
      λ q h. let there : Occurrence n p ≡ Occurrence m q = sym is ∙ h.1 in let place : p ≡ q = cc in omega (arith, ap (λ (x : Place). x.from) place),
    )
third_least spots at m Often u is e = λ q h. absurd (let wrong : Often ≡ Twice = h.0 in cc)

third_step : (spots : List TextSpot) (at m : ℕ) (s : Seen) (found : Option Place) → Has spots m at → IsStanding spots at m s → IsLeast (IsThirdAt spots at) found → IsLeast (IsThirdAt spots (at + 1)) (earlier found (third_time s (nth_spot spots at)))
third_step spots at m s found here stand least =
    least_same (λ q. IsThirdAt spots at q ⊎ IsHere spots at m s q) (IsThirdAt spots (at + 1)) (earlier found (third_time s (nth_spot spots at))) to back
    (least_earlier (IsThirdAt spots at) (IsHere spots at m s) found (third_time s (nth_spot spots at)) least (third_least spots at m s (nth_spot spots at) refl here))
  where
    new : (q : Place) (s : Seen) → IsStanding spots at m s → (s ≡ Twice) → nth_spot spots at ≡ Occurrence m q → IsThirdAt spots (at + 1) q
    new q Never stand e is = absurd (let wrong : Never ≡ Twice = e in cc)
    new q (Once a) stand e is = absurd (let wrong : Once a ≡ Twice = e in cc)
    new q Twice (a, b, less, in_, f, g, only) e is = record { name = m; one = a; two = b; three = at; first = less; next = in_; inside = omega arith; has_one = f; has_two = g; stands = is; only = only }
    new q Often stand e is = absurd (let wrong : Often ≡ Twice = e in cc)

    to : (q : Place) → IsThirdAt spots at q ⊎ IsHere spots at m s q → IsThirdAt spots (at + 1) q
    to q (inl h) = third_weaker spots at q h
    to q (inr h) = new q s stand h.0 h.1

    back : (q : Place) → IsThirdAt spots (at + 1) q → IsThirdAt spots at q ⊎ IsHere spots at m s q
    back q h = part (cases_lt h.three at)
      where
        part : (h.three < at) ⊎ (at ≤ h.three) → IsThirdAt spots at q ⊎ IsHere spots at m s q
        part (inl lt) = inl (record { name = h.name; one = h.one; two = h.two; three = h.three; first = h.first; next = h.next; inside = lt; has_one = h.has_one; has_two = h.has_two; stands = h.stands; only = h.only })
        part (inr le) =
            let e : h.three ≡ at = let l = h.inside in omega (arith, le, l) in
            let is : nth_spot spots at ≡ Occurrence h.name q = sym (ap (nth_spot spots) e) ∙ h.stands in
            let name : m ≡ h.name = occurrence_name spots at m h.name q is here in
            let is_m : nth_spot spots at ≡ Occurrence m q = is ∙ ap (λ n. Occurrence n q) (sym name) in
            inr (third_here spots at m q s stand is_m h e (sym name), is_m)

-- a spot without a name is no third one
third_none : (spots : List TextSpot) (at : ℕ) (found : Option Place) → name_of (nth_spot spots at) ≡ None → IsLeast (IsThirdAt spots at) found → IsLeast (IsThirdAt spots (at + 1)) found
third_none spots at found none least = least_same (IsThirdAt spots at) (IsThirdAt spots (at + 1)) found (third_weaker spots at) back least
  where
    back : (q : Place) → IsThirdAt spots (at + 1) q → IsThirdAt spots at q
    back q h = part (cases_lt h.three at)
      where
        part : (h.three < at) ⊎ (at ≤ h.three) → IsThirdAt spots at q
        part (inl lt) = record { name = h.name; one = h.one; two = h.two; three = h.three; first = h.first; next = h.next; inside = lt; has_one = h.has_one; has_two = h.has_two; stands = h.stands; only = h.only }
        part (inr le) =
            let e : h.three ≡ at = let l = h.inside in omega (arith, le, l) in
            absurd (let wrong : None ≡ Some h.name = sym none ∙ ap (λ i. name_of (nth_spot spots i)) (sym e) ∙ ap name_of h.stands in cc)

module _ (spots : List TextSpot) (names : ℕ) (inside : (i m : ℕ) → i < length spots → Has spots m i → m < names) where
  step_by : (at : ℕ) (c : Counting) → at < length spots → IsCountedAt spots names at c → (o : Option ℕ) → name_of (nth_spot spots at) ≡ o → IsCountedAt spots names (at + 1) (counts_named c at (nth_spot spots at) o)
  step_by at c lt h None is = record {
    count = h.count;
    seen = λ m m_in. standing_on spots at m (nth_seen c.seen m) (λ e. let wrong : None ≡ Some m = sym is ∙ e in cc) (h.seen m m_in);
    third = third_none spots at c.third is h.third;
  }
  step_by at c lt h (Some m) is =
      let m_in = inside at m lt is in
      record {
        count = length-set c.seen m (seen_again (nth_seen c.seen m) at) ∙ h.count;
        seen = λ k k_in. by_same k k_in (cases_eq k m) m_in;
        third = third_step spots at m (nth_seen c.seen m) c.third is (h.seen m m_in) h.third;
      }
    where
      by_same : (k : ℕ) → k < names → (k ≡ m) ⊎ (k ≢ m) → m < names → IsStanding spots (at + 1) k (nth_seen (set c.seen m (seen_again (nth_seen c.seen m) at)) k)
      by_same k k_in (inl e) m_in =
          subst (λ k. IsStanding spots (at + 1) k (nth_seen (set c.seen m (seen_again (nth_seen c.seen m) at)) k)) (sym e)
          (subst (IsStanding spots (at + 1) m) (sym (get_or-set_same c.seen m (seen_again (nth_seen c.seen m) at) Never (omega (arith, m_in, h.count)))) (standing_more spots at m (nth_seen c.seen m) is (h.seen m m_in)))
      by_same k k_in (inr e) m_in =
          subst (IsStanding spots (at + 1) k) (sym (get_or-set_other c.seen m k (seen_again (nth_seen c.seen m) at) Never e))
          (standing_on spots at k (nth_seen c.seen k) (λ f. e (same_name spots at k m f is)) (h.seen k k_in))

  all_counted : (at : ℕ) (ss : List TextSpot) (c : Counting) → at + length ss ≡ length spots → ((i : ℕ) → i < length ss → nth_spot ss i ≡ nth_spot spots (at + i)) → IsCountedAt spots names at c → IsCountedAt spots names (length spots) (counts_from at ss c)
  all_counted at [] c count same h = subst (λ n. IsCountedAt spots names n c) (let e : at ≡ length spots = omega (arith, count) in e) h
  all_counted at (s ∷ ss) c count same h =
      let zero_on : at + 0 ≡ at = omega arith in
      let here : s ≡ nth_spot spots at = same 0 (omega arith) ∙ ap (nth_spot spots) zero_on in
      let next = step_by at c (omega (arith, count)) h (name_of (nth_spot spots at)) refl in
      all_counted (at + 1) ss (counts_spot c at s) (omega (arith, count)) (λ i lt. let e : at + suc i ≡ at + 1 + i = omega arith in same (suc i) (omega (arith, lt)) ∙ ap (nth_spot spots) e)
      (subst (λ s. IsCountedAt spots names (at + 1) (counts_spot c at s)) (sym here) next)

  pub counted : IsCountedAt spots names (length spots) (counts_from 0 spots (nothing_counted names))
  counted =
      all_counted 0 spots (nothing_counted names) (omega arith) (λ i lt. let e : i ≡ 0 + i = omega arith in ap (nth_spot spots) e)
      (record {
        count = length-none_seen names;
        seen = λ m lt. subst (IsStanding spots 0 m) (sym (nth_none names m)) (λ i x e. absurd (omega (arith, x)));
        third = λ q h. absurd (let l = h.inside in omega (arith, l));
      })

-- ---- a name's only spot

-- the spot of that number is the only one of its name, and is at the place
pub record IsOnlyAt (spots : List TextSpot) (free : List SourceFree) (q : Place) : Type 0 where
  pub name : ℕ
  pub one : ℕ
  pub inside : one < length spots
  pub has : Has spots name one
  pub only : (i : ℕ) → i < length spots → Has spots name i → i ≡ one
  pub stands : place_at free (slice_get spots one) ≡ Some q

abbrev IsOnce : List TextSpot → List SourceFree → Seen → Place → Type 0
IsOnce spots free s q = (a : ℕ) × (s ≡ Once a) × (place_at free (slice_get spots a) ≡ Some q)

once_by : (spots : List TextSpot) (free : List SourceFree) (a : ℕ) (o : Option Place) → place_at free (slice_get spots a) ≡ o → IsLeast (IsOnce spots free (Once a)) o
once_by spots free a None is = λ q h. let same : a ≡ h.0 = cc in absurd (let wrong : None ≡ Some q = sym is ∙ ap (λ a. place_at free (slice_get spots a)) same ∙ h.2 in cc)
once_by spots free a (Some p) is = ((a, refl, is), λ q h. least q h)
  where
    least : (q : Place) → IsOnce spots free (Once a) q → p.from ≤ q.from
    least q h =
        let same : a ≡ h.0 = let e = h.1 in cc in
        let place : Some p ≡ Some q = sym is ∙ ap (λ a. place_at free (slice_get spots a)) same ∙ h.2 in
        let equal : p ≡ q = cc in
        omega (arith, ap (λ (x : Place). x.from) equal)

once_least : (spots : List TextSpot) (free : List SourceFree) (s : Seen) → IsLeast (IsOnce spots free s) (lonely_place spots free s)
once_least spots free Never = λ q h. absurd (let wrong : Never ≡ Once h.0 = h.1 in cc)
once_least spots free (Once a) = once_by spots free a (place_at free (slice_get spots a)) refl
once_least spots free Twice = λ q h. absurd (let wrong : Twice ≡ Once h.0 = h.1 in cc)
once_least spots free Often = λ q h. absurd (let wrong : Often ≡ Once h.0 = h.1 in cc)

any_at : (spots : List TextSpot) (free : List SourceFree) (seen : List Seen) (q : Place) → AnyByRecursion (λ s. IsOnce spots free s q) seen → (m : ℕ) × (m < length seen) × IsOnce spots free (nth_seen seen m) q
any_at spots free [] q h = absurd h
any_at spots free (s ∷ seen) q (inl h) = (0, omega arith, h)
any_at spots free (s ∷ seen) q (inr h) = let there = any_at spots free seen q h in (suc there.0, omega (arith, there.1), there.2)

at_any : (spots : List TextSpot) (free : List SourceFree) (seen : List Seen) (q : Place) (m : ℕ) → m < length seen → IsOnce spots free (nth_seen seen m) q → AnyByRecursion (λ s. IsOnce spots free s q) seen
at_any spots free [] q m lt h = absurd (omega (arith, lt))
at_any spots free (s ∷ seen) q zero lt h = inl h
at_any spots free (s ∷ seen) q (suc m) lt h = inr (at_any spots free seen q m (omega (arith, lt)) h)

-- the name that a spot has, seen once
seen_once : (spots : List TextSpot) (at m i : ℕ) (s : Seen) → IsStanding spots at m s → i < at → Has spots m i → ((j : ℕ) → j < at → Has spots m j → j ≡ i) → s ≡ Once i
seen_once spots at m i Never h lt e only = absurd (h i lt e)
seen_once spots at m i (Once a) h lt e only = ap Once (only a h.0 h.1)
seen_once spots at m i Twice (a, b, less, in_, f, g, all) lt e only = absurd (omega (arith, only a (omega (arith, less, in_)) f, only b in_ g, less))
seen_once spots at m i Often (a, b, c, less, next, in_, f, g, k, all) lt e only = absurd (omega (arith, only a (omega (arith, less, next, in_)) f, only b (omega (arith, next, in_)) g, less))

module _ (spots : List TextSpot) (names : ℕ) (free : List SourceFree) (inside : (i m : ℕ) → i < length spots → Has spots m i → m < names) where
  abbrev all : Counting
  all = counts_from 0 spots (nothing_counted names)

  pub done : IsCountedAt spots names (length spots) (counts_from 0 spots (nothing_counted names))
  done = counted spots names inside

  only_of : (q : Place) → AnyByRecursion (λ s. IsOnce spots free s q) all.seen → IsOnlyAt spots free q
  only_of q h =
      let at = any_at spots free all.seen q h in
      let stand : IsStanding spots (length spots) at.0 (Once at.2.0) = subst (IsStanding spots (length spots) at.0) at.2.1 (done.seen at.0 (omega (arith, at.1, done.count))) in
      record { name = at.0; one = at.2.0; inside = stand.0; has = stand.1; only = stand.2; stands = at.2.2 }

  of_only : (q : Place) → IsOnlyAt spots free q → AnyByRecursion (λ s. IsOnce spots free s q) all.seen
  of_only q h =
      let m_in = inside h.one h.name h.inside h.has in
      at_any spots free all.seen q h.name (omega (arith, m_in, done.count)) (h.one, seen_once spots (length spots) h.name h.one (nth_seen all.seen h.name) (done.seen h.name m_in) h.inside h.has h.only, h.stands)

  -- the first spot of a name that occurs once or for the third time
  pub miscounted_least : IsLeast (λ q. IsThirdAt spots (length spots) q ⊎ IsOnlyAt spots free q) (miscounted names spots free)
  miscounted_least =
      least_earlier (IsThirdAt spots (length spots)) (IsOnlyAt spots free) all.third (lonely spots free all.seen) done.third
      (least_same (λ q. AnyByRecursion (λ s. IsOnce spots free s q) all.seen) (IsOnlyAt spots free) (lonely spots free all.seen) only_of of_only
      (least_of_all (lonely_place spots free) (λ s q. IsOnce spots free s q) (once_least spots free) all.seen))

seen_counted : (c : Counting) (at : ℕ) (o : Option ℕ) (s : TextSpot) → (counts_named c at s o).seen ≡ count_name c.seen at o
seen_counted c at None s = refl
seen_counted c at (Some m) s = refl

-- both ways of counting see the same
pub same_seen : (at : ℕ) (ss : List TextSpot) (c : Counting) → (counts_from at ss c).seen ≡ counted_from at ss c.seen
same_seen at [] c = refl
same_seen at (s ∷ ss) c = same_seen (at + 1) ss (counts_spot c at s) ∙ ap (counted_from (at + 1) ss) (seen_counted c at (name_of s) s)
