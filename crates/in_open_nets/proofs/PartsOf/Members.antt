-- Members in rising order, one after another.
use Rattle.std.proofs.Common.{◌≡◌, ◌⊎◌, ◌↔◌, ◌<◌, ◌≤◌, ◌+◌, ◌∙◌, ℕ, zero, suc, List, [], ◌∷◌, ◌++◌, length, replicate, get_or, add-one, Bool, true, false, ◌||◌, refl, sym, subst, ap, inl, inr, arith}
use Rattle.std.proofs.Math.ListN.{set}
use Rattle.std.specs.List.{remove}
use Rattle.std.proofs.lemmas.Bool.{or_left, false_from_ne_true}
use Rattle.std.proofs.lemmas.List.{length-replicate, length-set}
use Rattle.in_open_nets.specs.Members.{IsUnion, nodes_in, tests_of}
use Rattle.in_open_nets.specs.Constructions.{IsIn}
use Rattle.in_open_nets.specs.Parts.{IsRest}
use Rattle.in_open_nets.specs.Stuck.{Among, IsListed, RisesThrough}
use Rattle.in_open_nets.proofs.Reached.Links.{same_nat, at_most}
use Rattle.in_open_nets.proofs.Reached.Reaching.{in_length, among_left, among_last, among_cases}
use Rattle.in_open_nets.proofs.PartsOf.Sums.{not_both, same_test}
use Rattle.in_open_nets.proofs.PartsOf.Places.{IsUnitedTo, at_set, at_other}

-- the number after the first i of them
abbrev pub past : List ℕ → ℕ → ℕ
past ns zero = 0
past ns (suc i) = suc (get_or ns i 0)

pub rises_more : (low : ℕ) (ns : List ℕ) (k : ℕ) → RisesThrough low ns → ((n : ℕ) → Among n ns → n < k) → low ≤ k → RisesThrough low (ns ++ k ∷ [])
rises_more low [] k r h l = (l, tt)
rises_more low (n ∷ ns) k r h l = (r.0, rises_more (suc n) ns k r.1 (λ m g. h m (inr g)) (h n (inl refl)))

pub among_from : (low : ℕ) (ns : List ℕ) (m : ℕ) → RisesThrough low ns → Among m ns → low ≤ m
among_from low [] m r h = absurd h
among_from low (n ∷ ns) m r (inl e) = let a = r.0 in omega arith
among_from low (n ∷ ns) m r (inr h) = let a = r.0 in let b = among_from (suc n) ns m r.1 h in omega arith

pub among_get : (ns : List ℕ) (i : ℕ) → i < length ns → Among (get_or ns i 0) ns
among_get [] i l = absurd (omega arith)
among_get (n ∷ ns) zero l = inl refl
among_get (n ∷ ns) (suc i) l = inr (among_get ns i (omega arith))

-- one that isn't past the first i isn't one of them, and one below the next one is
gap : (low : ℕ) (ns : List ℕ) (m i : ℕ) → RisesThrough low ns → Among m ns → i < length ns → m < get_or ns i 0 → m < past ns i
gap low [] m i r h l b = absurd h
gap low (n ∷ ns) m zero r (inl e) l b = absurd (omega arith)
gap low (n ∷ ns) m zero r (inr h) l b = let a = among_from (suc n) ns m r.1 h in absurd (omega arith)
gap low (n ∷ ns) m (suc zero) r (inl e) l b = omega arith
gap low (n ∷ ns) m (suc zero) r (inr h) l b = let a = gap (suc n) ns m zero r.1 h (omega arith) b in absurd (omega arith)
gap low (n ∷ ns) m (suc (suc i)) r (inl e) l b = let a = among_from (suc n) ns (get_or ns i 0) r.1 (among_get ns i (omega arith)) in omega arith
gap low (n ∷ ns) m (suc (suc i)) r (inr h) l b = gap (suc n) ns m (suc i) r.1 h (omega arith) b

last : (low : ℕ) (ns : List ℕ) (m : ℕ) → RisesThrough low ns → Among m ns → m < past ns (length ns)
last low [] m r h = absurd h
last low (n ∷ []) m r (inl e) = omega arith
last low (n ∷ []) m r (inr h) = absurd h
last low (n ∷ k ∷ ns) m r (inl e) = let a = last (suc n) (k ∷ ns) k r.1 (inl refl) in let b = r.1.0 in omega arith
last low (n ∷ k ∷ ns) m r (inr h) = last (suc n) (k ∷ ns) m r.1 h

rises_from : (low high : ℕ) (ns : List ℕ) → low ≤ high → RisesThrough high ns → RisesThrough low ns
rises_from low high [] l r = tt
rises_from low high (n ∷ ns) l r = let a = r.0 in (omega arith, r.1)

rises_removed : (low : ℕ) (ns : List ℕ) (i : ℕ) → i < length ns → RisesThrough low ns → RisesThrough low (remove ns i)
rises_removed low [] i l r = absurd (omega arith)
rises_removed low (n ∷ ns) zero l r = let a = r.0 in rises_from low (suc n) ns (omega arith) r.1
rises_removed low (n ∷ ns) (suc i) l r = (r.0, rises_removed (suc n) ns i (omega arith) r.1)

among_others : (low : ℕ) (ns : List ℕ) (i m : ℕ) → i < length ns → RisesThrough low ns → Among m (remove ns i) ↔ (Among m ns × (m ≡ get_or ns i 0 → ⊥))
among_others low [] i m l r = absurd (omega arith)
among_others low (n ∷ ns) zero m l r = (
  (λ h. (inr h, λ e. let a = among_from (suc n) ns m r.1 h in absurd (omega arith))),
  λ h. elim h.0 [ inl e ↦ absurd (h.1 e) | inr g ↦ g ],
)
among_others low (n ∷ ns) (suc i) m l r =
    let others = among_others (suc n) ns i m (omega arith) r.1 in
    let next = among_from (suc n) ns (get_or ns i 0) r.1 (among_get ns i (omega arith)) in (
      (λ h. elim h [ inl e ↦ (inl e, λ f. absurd (omega arith)) | inr g ↦ (inr (others.0 g).0, (others.0 g).1) ]),
      λ h. elim h.0 [ inl e ↦ inl e | inr g ↦ inr (others.1 (g, h.1)) ],
    )

-- the numbers rise, and are those with this property
pub record Lists (P : ℕ → Type 0) (ns : List ℕ) : Type 0 where
  pub rises : RisesThrough 0 ns
  pub all : (n : ℕ) → P n ↔ Among n ns

pub lists_none : (P : ℕ → Type 0) → ((n : ℕ) → P n → ⊥) → Lists P []
lists_none P none = record { rises = tt; all = λ n. ((λ h. none n h), λ h. absurd h) }

pub lists_same : (P Q : ℕ → Type 0) (ns : List ℕ) → Lists P ns → ((n : ℕ) → P n ↔ Q n) → Lists Q ns
lists_same P Q ns h same = record { rises = h.rises; all = λ n. ((λ q. (h.all n).0 ((same n).1 q)), λ a. (same n).0 ((h.all n).1 a)) }

-- one more, above them
pub lists_more : (P Q : ℕ → Type 0) (ns : List ℕ) (k : ℕ) → Lists P ns → ((n : ℕ) → P n → n < k) → ((n : ℕ) → (P n ⊎ (n ≡ k)) ↔ Q n) → Lists Q (ns ++ k ∷ [])
lists_more P Q ns k h below same = record {
  rises = rises_more 0 ns k h.rises (λ n a. below n ((h.all n).1 a)) (omega arith);
  all = λ n. (
    (λ q. elim ((same n).1 q) [ inl p ↦ among_left ns n k ((h.all n).0 p) | inr e ↦ subst (λ z. Among z (ns ++ k ∷ [])) (sym e) (among_last ns k) ]),
    λ a. (same n).0 (elim (among_cases ns n k a) [ inl b ↦ inl ((h.all n).1 b) | inr e ↦ inr e ]),
  );
}

-- the members without one of them
pub listed_without : (nodes tests : List Bool) (ns : List ℕ) (i n : ℕ) → i < length ns → n ≡ get_or ns i 0 → IsListed (nodes_in nodes) ns → IsRest n nodes tests → IsListed (nodes_in tests) (remove ns i)
listed_without nodes tests ns i n l e h left = record {
  rises = rises_removed 0 ns i l h.rises;
  all = λ m. let others = among_others 0 ns i m l h.rises in (
    (λ x. others.1 ((h.all m).0 ((left m).0 x).0, λ f. ((left m).0 x).1 (f ∙ sym e))),
    λ a. (left m).1 ((h.all m).1 (others.0 a).0, λ f. (others.0 a).1 (f ∙ e)),
  );
}

-- ---- the members of a set, one after another

pub past_next : (ns : List ℕ) (i : ℕ) → past ns (i + 1) ≡ suc (get_or ns i 0)
past_next ns i = ap (past ns) (add-one i)

pub past_below : (low : ℕ) (ns : List ℕ) (i : ℕ) → RisesThrough low ns → i < length ns → past ns i ≤ get_or ns i 0
past_below low ns zero r l = omega arith
past_below low [] (suc i) r l = absurd (omega arith)
past_below low (n ∷ ns) (suc zero) r l = among_from (suc n) ns (get_or ns 0 0) r.1 (among_get ns 0 (omega arith))
past_below low (n ∷ ns) (suc (suc i)) r l = past_below (suc n) ns (suc i) r.1 (omega arith)

module _ (nodes : ℕ → Bool) (ns : List ℕ) (l : IsListed nodes ns) where
  pub next_in : (i : ℕ) → i < length ns → IsIn (get_or ns i 0) nodes
  next_in i b = (l.all (get_or ns i 0)).1 (among_get ns i b)

  -- none is between the first i and the next one, nor after all
  pub none_between : (i m : ℕ) → i < length ns → IsIn m nodes → m < get_or ns i 0 → m < past ns i
  none_between i m b h k = gap 0 ns m i l.rises ((l.all m).0 h) b k

  pub none_after : (m : ℕ) → IsIn m nodes → m < past ns (length ns)
  none_after m h = last 0 ns m l.rises ((l.all m).0 h)

  pub past_cases : (i m : ℕ) → i < length ns → IsIn m nodes → m < past ns (i + 1) → (m < past ns i) ⊎ (m ≡ get_or ns i 0)
  past_cases i m b h k = elim (same_nat m (get_or ns i 0)) [
    | inl e ↦ inr e
    | inr d ↦ let e = past_next ns i in inl (none_between i m b h (omega arith))
  ]

  -- a property of no member, or of all numbers that are no members, and of the members one after another
  module _ (P : ℕ → Type 0) (out : (m : ℕ) → (IsIn m nodes → ⊥) → P m) where
    pub holds_before : (i : ℕ) → i < length ns → ((m : ℕ) → m < past ns i → P m) → (m : ℕ) → m < get_or ns i 0 → P m
    holds_before i b h m k = elim (at_most (past ns i) m) [
      | inl g ↦ out m (λ here. let a = none_between i m b here k in omega arith)
      | inr g ↦ h m g
    ]

    pub holds_next : (i : ℕ) → i < length ns → ((m : ℕ) → m < past ns i → P m) → P (get_or ns i 0) → (m : ℕ) → m < past ns (i + 1) → P m
    holds_next i b h here m k = elim (same_nat m (get_or ns i 0)) [
      | inl e ↦ subst P (sym e) here
      | inr d ↦ let e = past_next ns i in holds_before i b h m (omega arith)
    ]

    pub holds_all : ((m : ℕ) → m < past ns (length ns) → P m) → (m : ℕ) → P m
    holds_all h m = elim (at_most (past ns (length ns)) m) [
      | inl g ↦ out m (λ here. let a = none_after m here in omega arith)
      | inr g ↦ h m g
    ]

  -- those of another set, each of them a member
  module _ (tests : ℕ → Bool) (within : (m : ℕ) → IsIn m tests → IsIn m nodes) where
    abbrev pub IsBefore : ℕ → ℕ → Type 0
    IsBefore i m = IsIn m tests × (m < past ns i)

    pub list_next : (i : ℕ) (ms : List ℕ) → i < length ns → Lists (IsBefore i) ms → IsIn (get_or ns i 0) tests → Lists (IsBefore (i + 1)) (ms ++ get_or ns i 0 ∷ [])
    list_next i ms b h here =
        let low = past_below 0 ns i l.rises b in
        let e = past_next ns i in
        lists_more (IsBefore i) (IsBefore (i + 1)) ms (get_or ns i 0) h (λ n p. let a = p.1 in omega arith) (λ n. (
          (λ p. elim p [ inl a ↦ let k = a.1 in (a.0, omega arith) | inr f ↦ (subst (λ z. IsIn z tests) (sym f) here, omega arith) ]),
          λ q. elim (past_cases i n b (within n q.0) q.1) [ inl k ↦ inl (q.0, k) | inr f ↦ inr f ],
        ))

    pub list_past : (i : ℕ) (ms : List ℕ) → i < length ns → Lists (IsBefore i) ms → tests (get_or ns i 0) ≡ false → Lists (IsBefore (i + 1)) ms
    list_past i ms b h out =
        let low = past_below 0 ns i l.rises b in
        let e = past_next ns i in
        lists_same (IsBefore i) (IsBefore (i + 1)) ms h (λ n. (
          (λ p. let k = p.1 in (p.0, omega arith)),
          λ q. elim (past_cases i n b (within n q.0) q.1) [ inl k ↦ (q.0, k) | inr f ↦ absurd (not_both (tests n) q.0 (subst (λ z. tests z ≡ false) (sym f) out)) ],
        ))

    pub list_end : (ms : List ℕ) → Lists (IsBefore (length ns)) ms → IsListed tests ms
    list_end ms h = record { rises = h.rises; all = λ n. ((λ q. (h.all n).0 (q, none_after n (within n q))), λ a. ((h.all n).1 a).0) }

-- .. made members of another set
module _ (more old : List Bool) (size : length more ≡ length old) (ns : List ℕ) (l : IsListed (nodes_in more) ns) where
  pub unite_small : (i : ℕ) (new : List Bool) → i < length ns → IsUnitedTo more old new (past ns i) → get_or ns i 0 < length new
  unite_small i new b h = let a = in_length more (get_or ns i 0) (next_in (nodes_in more) ns l i b) in let e = h.size in omega arith

  pub unite_next : (i : ℕ) (new : List Bool) → i < length ns → IsUnitedTo more old new (past ns i) → IsUnitedTo more old (set new (get_or ns i 0) true) (past ns (i + 1))
  unite_next i new b h =
      let small = unite_small i new b h in
      let k = get_or ns i 0 in
      let low = past_below 0 ns i l.rises b in
      let e = past_next ns i in
      record {
        size = length-set new k true ∙ h.size;
        below = λ n u. elim (same_nat n k) [
          | inl f ↦ at_set new k true false n small f ∙ sym (or_left (nodes_in more n) (nodes_in old n) (subst (λ z. IsIn z (nodes_in more)) (sym f) (next_in (nodes_in more) ns l i b)))
          | inr d ↦ at_other new k true false n d ∙ elim (at_most (past ns i) n) [
            | inl g ↦
                let out : nodes_in more n ≡ false = false_from_ne_true (nodes_in more n) (λ here. let a = none_between (nodes_in more) ns l i n b here (omega arith) in omega arith) in
                h.above n (λ v. omega arith) ∙ sym (ap (λ z. z || nodes_in old n) out)
            | inr g ↦ h.below n g
          ]
        ];
        above = λ n u. at_other new k true false n (λ f. u (omega arith)) ∙ h.above n (λ v. u (omega arith));
      }

  pub unite_end : (new : List Bool) → IsUnitedTo more old new (past ns (length ns)) → IsUnion more old new
  unite_end new h n = elim (at_most (past ns (length ns)) n) [
    | inl g ↦
        let out : nodes_in more n ≡ false = false_from_ne_true (nodes_in more n) (λ here. let a = none_after (nodes_in more) ns l n here in omega arith) in
        h.above n (λ v. omega arith) ∙ sym (ap (λ z. z || nodes_in old n) out)
    | inr g ↦ h.below n g
  ]

-- ---- the tests of a list

pub lists_equal : (xs ys : List Bool) → length xs ≡ length ys → ((n : ℕ) → IsIn n (nodes_in xs) ↔ IsIn n (nodes_in ys)) → xs ≡ ys
lists_equal [] [] e same = refl
lists_equal [] (y ∷ ys) e same = absurd (let a : 0 ≡ suc (length ys) = e in omega arith)
lists_equal (x ∷ xs) [] e same = absurd (let a : suc (length xs) ≡ 0 = e in omega arith)
lists_equal (x ∷ xs) (y ∷ ys) e same =
    ap (λ z. z ∷ xs) (same_test x y (same 0).0 (same 0).1) ∙ ap (λ z. y ∷ z) (lists_equal xs ys (let a : suc (length xs) ≡ suc (length ys) = e in omega arith) (λ n. same (suc n)))

pub tests_many : (count : ℕ) (ns : List ℕ) → length (tests_of count ns) ≡ count
tests_many count [] = length-replicate count false
tests_many count (n ∷ ns) = length-set (tests_of count ns) n true ∙ tests_many count ns

off : (count m : ℕ) → nodes_in (replicate count false) m ≡ false
off zero m = refl
off (suc count) zero = refl
off (suc count) (suc m) = off count m

pub tests_in : (count : ℕ) (ns : List ℕ) → ((n : ℕ) → Among n ns → n < count) → (m : ℕ) → IsIn m (nodes_in (tests_of count ns)) ↔ Among m ns
tests_in count [] small m = ((λ h. absurd (not_both (nodes_in (replicate count false) m) h (off count m))), λ h. absurd h)
tests_in count (n ∷ ns) small m =
    let lt : n < length (tests_of count ns) = let a = tests_many count ns in let b = small n (inl refl) in omega arith in
    let r = tests_in count ns (λ k h. small k (inr h)) m in
    elim (same_nat m n) [
      | inl e ↦ ((λ h. inl e), λ h. at_set (tests_of count ns) n true false m lt e)
      | inr d ↦ (
        (λ h. inr (r.0 (sym (at_other (tests_of count ns) n true false m d) ∙ h))),
        λ h. elim h [ inl e ↦ absurd (d e) | inr g ↦ at_other (tests_of count ns) n true false m d ∙ r.1 g ],
      )
    ]

-- members in rising order, all below the count, are listed
pub tests_listed : (count : ℕ) (ns : List ℕ) → RisesThrough 0 ns → ((n : ℕ) → Among n ns → n < count) → IsListed (nodes_in (tests_of count ns)) ns
tests_listed count ns r small = record { rises = r; all = tests_in count ns small }

-- a list of a set has the set's tests
module _ (tests : List Bool) (ns : List ℕ) (l : IsListed (nodes_in tests) ns) where
  small : (n : ℕ) → Among n ns → n < length tests
  small n h = in_length tests n ((l.all n).1 h)

  pub tests_same : tests_of (length tests) ns ≡ tests
  tests_same = lists_equal (tests_of (length tests) ns) tests (tests_many (length tests) ns) (λ n.
      let a = tests_in (length tests) ns small n in
      ((λ h. (l.all n).1 (a.0 h)), λ h. a.1 ((l.all n).0 h)))

  pub tests_are : (count : ℕ) → count ≡ length tests → (tests_of count ns ≡ tests) × IsListed (nodes_in (tests_of count ns)) ns
  tests_are count e =
      let same : tests_of count ns ≡ tests = ap (λ z. tests_of z ns) e ∙ tests_same in
      (same, subst (λ z. IsListed (nodes_in z) ns) (sym same) l)

-- a set with no member, and then these members alone
pub filled : (more none set : List Bool) → length set ≡ length more → ((n : ℕ) → nodes_in none n ≡ false) → IsUnion more none set → set ≡ more
filled more none set e out u = lists_equal set more e (λ n. (
  (λ h. or_none (nodes_in more n) (nodes_in none n) (out n) (sym (u n) ∙ h)),
  λ h. u n ∙ or_left (nodes_in more n) (nodes_in none n) h,
))
  where
    or_none : (b c : Bool) → c ≡ false → (b || c) ≡ true → b ≡ true
    or_none true c e h = refl
    or_none false c e h = absurd (not_both c h e)
