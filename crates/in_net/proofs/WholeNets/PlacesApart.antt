-- No two wires of a net have one place.
use Rattle.std.proofs.Common.{◌≡◌, ◌≢◌, ◌⊎◌, inl, inr, ℕ, suc, ◌+◌, ◌<◌, Bool, true, false, cond, nat_lt, List, [], ◌∷◌, length, map, Option, Some, None, refl, sym, ◌∙◌, ap, subst, arith, get_or}
use Rattle.std.specs.List.{AllByRecursion}
use Rattle.std.specs.List.Sorted.{IsNonDecreasingBy}
use Rattle.std.proofs.lemmas.Bool.{cases_eq}
use Rattle.in_syntax.specs.declared.places.Place.{Place}
use Rattle.in_syntax.specs.Order.{Rises}
use Rattle.in_symbols.specs.Tables.{Tables}
use Rattle.in_net.specs.declared.joining.Joining.{Joining}
use Rattle.in_net.specs.declared.joining.Link.{Link}
use Rattle.in_net.specs.declared.counting.Seen.{Seen}
use Rattle.in_net.specs.declared.counting.Seen.TheVariants.{Never, Once, Twice, Often}
use Rattle.in_net.specs.declared.nets.Wire.{Wire}
use Rattle.in_net.specs.declared.reading.TextSpot.{TextSpot}
use Rattle.in_net.specs.declared.reading.TextSpot.TheVariants.{Free, Occurrence}
use Rattle.in_net.specs.Building.{AreTwice, nth_link, nth_spot}
use Rattle.in_net.specs.Counting as counting
use Rattle.in_net.specs.Counting.{counted_from}
use Rattle.in_net.specs.Joining.{later_of, merged, met, joins_named, joins, joins_from}
use Rattle.in_net.specs.TextNet.{Body}
use Rattle.in_net.proofs.Wiring.Joined.{last_here, seen_named}
use Rattle.in_net.proofs.Wiring.Merged.{IsClosed, IsOpened, merges}
use Rattle.in_net.proofs.Wiring.Naming as naming
use Rattle.in_net.proofs.Wiring.Naming.{AreOfText, IsLast, IsSecond, step_on}
use Rattle.in_net.proofs.Wiring.Ways.{nth_seen, IsOpen, IsJoiningAt, no_place_before, spot_named}

-- of these spots, two that are joined at one place are joined to each other, or are equal
abbrev pub AreApart : ℕ → List Link → Type 0
AreApart n links = (i j : ℕ) → i < n → j < n → (nth_link links i).to ≢ i → (nth_link links j).to ≢ j → (nth_link links i).place.from ≡ (nth_link links j).place.from → (i ≡ j) ⊎ ((nth_link links i).to ≡ j)

later_is : (p q : Place) → (later_of p q ≡ p) ⊎ (later_of p q ≡ q)
later_is p q = by_test (nat_lt q.from p.from)
  where
    by_test : (c : Bool) → (cond c p q ≡ p) ⊎ (cond c p q ≡ q)
    by_test true = inl refl
    by_test false = inr refl

-- ---- two spots of a name are joined

module _ (n a b : ℕ) (links new : List Link) (closed : Option Place) (a_in : a < n) (b_in : b < n) (h : AreApart n links) where
  still_joined : (i j : ℕ) → nth_link new i ≡ nth_link links i → (i ≡ j) ⊎ ((nth_link links i).to ≡ j) → (i ≡ j) ⊎ ((nth_link new i).to ≡ j)
  still_joined i j old (inl e) = inl e
  still_joined i j old (inr e) = inr (ap (λ (l : Link). l.to) old ∙ e)

  closed_apart : IsClosed links new a b closed → AreApart n new
  closed_apart shut i j i_in j_in i_to j_to same =
      let old_i = shut.rest i (λ e. i_to (ap (λ k. (nth_link new k).to) e ∙ shut.one ∙ sym e)) (λ e. i_to (ap (λ k. (nth_link new k).to) e ∙ shut.other ∙ sym e)) in
      let old_j = shut.rest j (λ e. j_to (ap (λ k. (nth_link new k).to) e ∙ shut.one ∙ sym e)) (λ e. j_to (ap (λ k. (nth_link new k).to) e ∙ shut.other ∙ sym e)) in
      still_joined i j old_i
      (h i j i_in j_in (λ e. i_to (ap (λ (l : Link). l.to) old_i ∙ e)) (λ e. j_to (ap (λ (l : Link). l.to) old_j ∙ e)) (sym (ap (λ (l : Link). l.place.from) old_i) ∙ same ∙ ap (λ (l : Link). l.place.from) old_j))

  abbrev p : ℕ
  p = (nth_link links a).to

  abbrev q : ℕ
  q = (nth_link links b).to

  module _ (on : IsOpened links new a b p q closed) (b_to : q ≢ b) (alone : p ≡ a → (nth_link links a).place.from ≡ 0) where
    abbrev pa : Place
    pa = (nth_link links a).place

    abbrev pb : Place
    pb = (nth_link links b).place

    -- the joined spot that i is, if it is one of them
    data Which (i : ℕ) : Type 0 where
      is_p : i ≡ p → Which i
      is_q : i ≡ q → Which i
      is_else : i ≢ a → i ≢ b → i ≢ p → i ≢ q → Which i

    which : (i : ℕ) → (nth_link new i).to ≢ i → Which i
    which i to = go (cases_eq i p) (cases_eq i q) (cases_eq i a) (cases_eq i b)
      where
        go : (i ≡ p) ⊎ (i ≢ p) → (i ≡ q) ⊎ (i ≢ q) → (i ≡ a) ⊎ (i ≢ a) → (i ≡ b) ⊎ (i ≢ b) → Which i
        go (inl e) f g k = is_p e
        go (inr e) (inl f) g k = is_q f
        go (inr e) (inr f) (inl g) k = absurd (to (ap (λ k. (nth_link new k).to) g ∙ on.one (λ x. e (g ∙ x)) ∙ sym g))
        go (inr e) (inr f) (inr g) (inl k) = absurd (to (ap (λ k. (nth_link new k).to) k ∙ on.other ∙ sym k))
        go (inr e) (inr f) (inr g) (inr k) = is_else g k e f

    -- another spot was joined at neither of the two places
    not_there : (j : ℕ) → j < n → (nth_link links j).to ≢ j → j ≢ a → j ≢ b → j ≢ p → j ≢ q → (later_of pa pb).from ≡ (nth_link links j).place.from → ⊥
    not_there j j_in j_to x y z w same = by_place (later_is pa pb) (cases_eq p a)
      where
        at_b : pb.from ≡ (nth_link links j).place.from → ⊥
        at_b e = by_one (h b j b_in j_in b_to j_to e)
          where
            by_one : (b ≡ j) ⊎ (q ≡ j) → ⊥
            by_one (inl e) = y (sym e)
            by_one (inr e) = w (sym e)

        at_a : p ≢ a → pa.from ≡ (nth_link links j).place.from → ⊥
        at_a a_to e = by_one (h a j a_in j_in a_to j_to e)
          where
            by_one : (a ≡ j) ⊎ (p ≡ j) → ⊥
            by_one (inl e) = x (sym e)
            by_one (inr e) = z (sym e)

        by_place : (later_of pa pb ≡ pa) ⊎ (later_of pa pb ≡ pb) → (p ≡ a) ⊎ (p ≢ a) → ⊥
        by_place k (inl self) = at_b (ap (λ (p : Place). p.from) (sym (no_place_before pa pb (alone self))) ∙ same)
        by_place (inl k) (inr other) = at_a other (ap (λ (p : Place). p.from) (sym k) ∙ same)
        by_place (inr k) (inr other) = at_b (ap (λ (p : Place). p.from) (sym k) ∙ same)

    old_to : (j : ℕ) → nth_link new j ≡ nth_link links j → (nth_link new j).to ≢ j → (nth_link links j).to ≢ j
    old_to j old to e = to (ap (λ (l : Link). l.to) old ∙ e)

    place_p : (i : ℕ) → i ≡ p → (nth_link new i).place ≡ later_of pa pb
    place_p i e = ap (λ k. (nth_link new k).place) e ∙ ap (λ (l : Link). l.place) on.at_p

    place_q : (i : ℕ) → i ≡ q → (nth_link new i).place ≡ later_of pa pb
    place_q i e = ap (λ k. (nth_link new k).place) e ∙ ap (λ (l : Link). l.place) on.at_q

    -- the new link, and another one
    mixed : (i j : ℕ) → j < n → (nth_link new i).place ≡ later_of pa pb → (nth_link new j).to ≢ j → j ≢ a → j ≢ b → j ≢ p → j ≢ q → (nth_link new i).place.from ≡ (nth_link new j).place.from → ⊥
    mixed i j j_in at j_to x y z w same =
        let old = on.rest j x y z w in
        not_there j j_in (old_to j old j_to) x y z w (ap (λ (p : Place). p.from) (sym at) ∙ same ∙ ap (λ (l : Link). l.place.from) old)

    by_which : (i j : ℕ) → i < n → j < n → (nth_link new i).to ≢ i → (nth_link new j).to ≢ j → (nth_link new i).place.from ≡ (nth_link new j).place.from → Which i → Which j → (i ≡ j) ⊎ ((nth_link new i).to ≡ j)
    by_which i j i_in j_in i_to j_to same (is_p e) (is_p f) = inl (e ∙ sym f)
    by_which i j i_in j_in i_to j_to same (is_p e) (is_q f) = inr (ap (λ k. (nth_link new k).to) e ∙ ap (λ (l : Link). l.to) on.at_p ∙ sym f)
    by_which i j i_in j_in i_to j_to same (is_p e) (is_else x y z w) = absurd (mixed i j j_in (place_p i e) j_to x y z w same)
    by_which i j i_in j_in i_to j_to same (is_q e) (is_p f) = inr (ap (λ k. (nth_link new k).to) e ∙ ap (λ (l : Link). l.to) on.at_q ∙ sym f)
    by_which i j i_in j_in i_to j_to same (is_q e) (is_q f) = inl (e ∙ sym f)
    by_which i j i_in j_in i_to j_to same (is_q e) (is_else x y z w) = absurd (mixed i j j_in (place_q i e) j_to x y z w same)
    by_which i j i_in j_in i_to j_to same (is_else x y z w) (is_p f) = absurd (mixed j i i_in (place_p j f) i_to x y z w (sym same))
    by_which i j i_in j_in i_to j_to same (is_else x y z w) (is_q f) = absurd (mixed j i i_in (place_q j f) i_to x y z w (sym same))
    by_which i j i_in j_in i_to j_to same (is_else x y z w) (is_else x1 y1 z1 w1) =
        let old_i = on.rest i x y z w in
        let old_j = on.rest j x1 y1 z1 w1 in
        still_joined i j old_i (h i j i_in j_in (old_to i old_i i_to) (old_to j old_j j_to) (sym (ap (λ (l : Link). l.place.from) old_i) ∙ same ∙ ap (λ (l : Link). l.place.from) old_j))

    opened_apart : AreApart n new
    opened_apart i j i_in j_in i_to j_to same = by_which i j i_in j_in i_to j_to same (which i i_to) (which j j_to)

-- ---- all names are joined

module _ (t : Tables) (b : Body) (names : List (List ℕ)) (spots : List TextSpot) (of : AreOfText t b names spots) where
  -- the second spot of a name
  merged_apart : (at m a : ℕ) (j : Joining) (h : IsJoiningAt t b spots (length names) at j) (at_in : at < length spots) (name : counting.name_of (nth_spot spots at) ≡ Some m) (seen_is : nth_seen j.seen m ≡ Once a)
      (only : (i : ℕ) → at < i → i < length spots → counting.name_of (nth_spot spots i) ≢ Some m) → AreApart (length spots) j.links → AreApart (length spots) (merged j.links a at).0
  merged_apart at m a j h at_in name seen_is only apart =
      by_outcome (merges j.links a at (omega (arith, two.a_in, h.size)) (omega (arith, at_in, h.size)) two.differ (omega (arith, h.inside a two.a_in, h.size)) (omega (arith, h.inside at at_in, h.size)) two.p_not_q two.q_not_a at_to)
    where
      two : IsSecond t b spots j at m a
      two = naming.two t b names spots of (length names) at m a j h at_in (of.numbers at m at_in name) name seen_is only

      at_to : (nth_link j.links at).to ≢ at
      at_to = h.apart at at_in two.open_at

      -- a spot of a name that isn't met yet and leads to itself is a free end, and has no place
      alone : (nth_link j.links a).to ≡ a → (nth_link j.links a).place.from ≡ 0
      alone self = by_spot (spot_named (nth_spot spots a) m two.first.1)
        where
          by_spot : ((x : Place) × (nth_spot spots a ≡ Occurrence m x)) ⊎ ((k : ℕ) × (nth_spot spots a ≡ Free k m)) → (nth_link j.links a).place.from ≡ 0
          by_spot (inl (x, e)) = absurd (h.apart a two.a_in (subst (IsOpen j.seen) (sym e) two.unmet) self)
          by_spot (inr (k, e)) = ap (λ (l : Link). l.place.from) (h.fresh a k m two.a_in e two.unmet)

      by_outcome : IsClosed j.links (merged j.links a at).0 a at (merged j.links a at).1 ⊎ IsOpened j.links (merged j.links a at).0 a at (nth_link j.links a).to (nth_link j.links at).to (merged j.links a at).1 →
          AreApart (length spots) (merged j.links a at).0
      by_outcome (inl x) = closed_apart (length spots) a at j.links (merged j.links a at).0 (merged j.links a at).1 two.a_in at_in apart x
      by_outcome (inr x) = opened_apart (length spots) a at j.links (merged j.links a at).0 (merged j.links a at).1 two.a_in at_in apart x at_to alone

  named_apart : (at m : ℕ) (s : Seen) (j : Joining) → IsJoiningAt t b spots (length names) at j → at < length spots → IsLast spots at j.seen → counting.name_of (nth_spot spots at) ≡ Some m → nth_seen j.seen m ≡ s →
      AreApart (length spots) j.links → AreApart (length spots) (met j.links s at).0
  named_apart at m Never j h at_in last name is apart = apart
  named_apart at m (Once a) j h at_in last name is apart = merged_apart at m a j h at_in name is (last m a name is) apart
  named_apart at m Twice j h at_in last name is apart = apart
  named_apart at m Often j h at_in last name is apart = apart

  step_by : (at : ℕ) (o : Option ℕ) (j : Joining) → IsJoiningAt t b spots (length names) at j → at < length spots → IsLast spots at j.seen → counting.name_of (nth_spot spots at) ≡ o → AreApart (length spots) j.links →
      AreApart (length spots) (joins_named j at o).links
  step_by at None j h at_in last is apart = apart
  step_by at (Some m) j h at_in last is apart = named_apart at m (nth_seen j.seen m) j h at_in last is refl apart

  -- all spots from one on
  pub all_apart : (at : ℕ) (ss : List TextSpot) (j : Joining) → at + length ss ≡ length spots → ((i : ℕ) → i < length ss → nth_spot ss i ≡ nth_spot spots (at + i)) → AreTwice spots (counted_from at ss j.seen) →
      IsJoiningAt t b spots (length names) at j → AreApart (length spots) j.links → AreApart (length spots) (joins_from at ss j).links
  all_apart at [] j count same twice h apart = apart
  all_apart at (s ∷ ss) j count same twice h apart =
      let zero_on : at + 0 ≡ at = omega arith in
      let here : s ≡ nth_spot spots at = same 0 (omega arith) ∙ ap (nth_spot spots) zero_on in
      let last = last_here t b names spots of at s ss j.seen h.count count same twice in
      let next : IsJoiningAt t b spots (length names) (at + 1) (joins j at s) = subst (λ s. IsJoiningAt t b spots (length names) (at + 1) (joins j at s)) (sym here) (step_on t b names spots of at j h (omega (arith, count)) last) in
      let more : AreApart (length spots) (joins j at s).links = subst (λ s. AreApart (length spots) (joins j at s).links) (sym here) (step_by at (counting.name_of (nth_spot spots at)) j h (omega (arith, count)) last refl apart) in
      all_apart (at + 1) ss (joins j at s) (omega (arith, count)) (λ i lt. let e : at + suc i ≡ at + 1 + i = omega arith in same (suc i) (omega (arith, lt)) ∙ ap (nth_spot spots) e)
      (subst (λ z. AreTwice spots (counted_from (at + 1) ss z)) (sym (seen_named j at (counting.name_of s))) twice) next more

-- ---- a list in order, without two at one place

pub rising_places : (ws : List Wire) → IsNonDecreasingBy (λ w. w.place.from) ws → ((v w : ℕ) (d : Wire) → v < w → w < length ws → (get_or ws v d).place.from ≢ (get_or ws w d).place.from) → Rises (map (λ w. w.place) ws)
rising_places [] up apart = tt
rising_places (w ∷ ws) up apart = (
  all_later ws (λ i d lt. let le = up 0 (suc i) d (omega arith) (omega (arith, lt)) in let no_ = apart 0 (suc i) d (omega arith) (omega (arith, lt)) in omega (arith, le, no_)),
  rising_places ws (λ i j d le lt. up (suc i) (suc j) d (omega (arith, le)) (omega (arith, lt))) (λ v x d lt in_. apart (suc v) (suc x) d (omega (arith, lt)) (omega (arith, in_))),
)
  where
    all_later : (vs : List Wire) → ((i : ℕ) (d : Wire) → i < length vs → w.place.from < (get_or vs i d).place.from) → AllByRecursion (λ q. w.place.from < q.from) (map (λ w. w.place) vs)
    all_later [] h = tt
    all_later (v ∷ vs) h = (h 0 v (omega arith), all_later vs (λ i d lt. h (suc i) d (omega (arith, lt))))
