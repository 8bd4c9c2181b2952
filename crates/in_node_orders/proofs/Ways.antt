-- Ways up a forest, and how they are covered.
use Rattle.std.proofs.Common.{◌≡◌, ◌≢◌, ◌⊎◌, ◌<◌, ◌≤◌, ℕ, suc, Bool, true, false, nat_eq, List, length, refl, sym, subst, inl, inr, ◌∙◌, arith, set, length-set}
use Rattle.std.proofs.lemmas.Bool.{cases_Bool, cases_eq, or_right}
use Rattle.std.proofs.lemmas.Bool.Decides.{eqb_tells}
use Rattle.in_simple_bridges.specs.Spans.{at}
use Rattle.in_open_nets.proofs.Public.{at_other, at_set, not_both}
use Rattle.in_growing_graphs.specs.Blobs.{CoversWay, GoesUp, IsOnOneWay, over, there}
use Rattle.in_growing_graphs.proofs.Public.{goes_map, goes_on}
use Rattle.in_node_orders.specs.Heads.{AreSkips}
use Rattle.in_node_orders.specs.Growing.{CoversTo, with_covered}

abbrev pub Is : (ℕ → Bool) → ℕ → Type 0
Is covered z = covered z ≡ true

-- ---- one more covered vertex

pub covered_more : (c : ℕ → Bool) (x z : ℕ) → c z ≡ true → with_covered c x z ≡ true
covered_more c x z e = or_right (nat_eq z x) (c z) e

pub covered_here : (c : ℕ → Bool) (x : ℕ) → with_covered c x x ≡ true
covered_here c x = elim (eqb_tells x x) [ inl h ↦ let e : nat_eq x x ≡ true = h.0 in rw e refl | inr h ↦ absurd (h.1 refl) ]

pub covered_other : (c : ℕ → Bool) (x z : ℕ) → z ≢ x → with_covered c x z ≡ c z
covered_other c x z d = elim (eqb_tells z x) [ inl h ↦ absurd (d h.1) | inr h ↦ let e : nat_eq z x ≡ false = h.0 in rw e refl ]

pub covered_cases : (c : ℕ → Bool) (x z : ℕ) → with_covered c x z ≡ true → (z ≡ x) ⊎ (c z ≡ true)
covered_cases c x z h = elim (cases_eq z x) [ inl s ↦ inl s | inr d ↦ inr (sym (covered_other c x z d) ∙ h) ]

pub bare_other : (c : ℕ → Bool) (x z : ℕ) → with_covered c x z ≡ false → z ≢ x
bare_other c x z h s = not_both (with_covered c x x) (covered_here c x) (subst (λ y. with_covered c x y ≡ false) s h)

-- ---- skips

module _ (up : ℕ → ℕ) (covered : ℕ → Bool) (skips : List ℕ) (s : AreSkips up covered skips) (x far : ℕ) (here : x < length skips) where
  shorter : (y : ℕ) → y < length (set skips x far) → y < length skips
  shorter y l = omega (arith, l, length-set skips x far)

  -- a covered vertex gets a longer skip
  pub jumps : covered x ≡ true → far < x → GoesUp up (Is covered) x far → AreSkips up covered (set skips x far)
  jumps was less way = record {
    bare = λ y l e. elim (cases_eq y x) [
      | inl same ↦ absurd (not_both (covered y) (subst (λ z. covered z ≡ true) (sym same) was) e)
      | inr d ↦ at_other skips x far 0 y d ∙ s.bare y (shorter y l) e
    ];
    lower = λ y l e. elim (cases_eq y x) [
      | inl same ↦ let v : at (set skips x far) y ≡ far = at_set skips x far 0 y here same in omega (arith, v, same, less)
      | inr d ↦ let v : at (set skips x far) y ≡ at skips y = at_other skips x far 0 y d in let k = s.lower y (shorter y l) e in omega (arith, v, k)
    ];
    goes = λ y l. elim (cases_eq y x) [
      | inl same ↦ subst (λ z. GoesUp up (Is covered) y z) (sym (at_set skips x far 0 y here same)) (subst (λ z. GoesUp up (Is covered) z far) (sym same) way)
      | inr d ↦ subst (λ z. GoesUp up (Is covered) y z) (sym (at_other skips x far 0 y d)) (s.goes y (shorter y l))
    ];
  }

  -- a vertex gets covered
  pub covers : covered x ≡ false → up x ≡ suc far → far < x → AreSkips up (with_covered covered x) (set skips x far)
  covers bare e less = record {
    bare = λ y l b.
        let d = bare_other covered x y b in
        at_other skips x far 0 y d ∙ s.bare y (shorter y l) (sym (covered_other covered x y d) ∙ b);
    lower = λ y l b. elim (cases_eq y x) [
      | inl same ↦ let v : at (set skips x far) y ≡ far = at_set skips x far 0 y here same in omega (arith, v, same, less)
      | inr d ↦
          let v : at (set skips x far) y ≡ at skips y = at_other skips x far 0 y d in
          let k = s.lower y (shorter y l) (sym (covered_other covered x y d) ∙ b) in
          omega (arith, v, k)
    ];
    goes = λ y l. elim (cases_eq y x) [
      | inl same ↦ subst (λ z. GoesUp up (Is (with_covered covered x)) y z) (sym (at_set skips x far 0 y here same)) (subst (λ z. GoesUp up (Is (with_covered covered x)) z far) (sym same) (over x far far (covered_here covered x) e (there far)))
      | inr d ↦ subst (λ z. GoesUp up (Is (with_covered covered x)) y z) (sym (at_other skips x far 0 y d)) (goes_map up up (Is covered) (Is (with_covered covered x)) (λ z p h k. (covered_more covered x z h, k)) y (at skips y) (s.goes y (shorter y l)))
    ];
  }

pub is_bare : (up : ℕ → ℕ) (covered : ℕ → Bool) (skips : List ℕ) → AreSkips up covered skips → (x : ℕ) → x < length skips → x ≤ at skips x → covered x ≡ false
is_bare up covered skips s x l most = elim (cases_Bool (covered x)) [ inl h ↦ let k = s.lower x l h in absurd (omega (arith, k, most)) | inr h ↦ h ]

pub is_covered : (up : ℕ → ℕ) (covered : ℕ → Bool) (skips : List ℕ) → AreSkips up covered skips → (x : ℕ) → x < length skips → at skips x < x → covered x ≡ true
is_covered up covered skips s x l less = elim (cases_Bool (covered x)) [ inl h ↦ h | inr h ↦ let k = s.bare x l h in absurd (omega (arith, k, less)) ]

-- ---- two ways

module _ (up : ℕ → ℕ) (falls : (z q : ℕ) → up z ≡ suc q → q < z) where
  pub way_falls : (P : ℕ → Type 0) (x y : ℕ) → GoesUp up P x y → y ≤ x
  way_falls P x _ (there _) = omega arith
  way_falls P x y (over _ p _ h e r) = let a = way_falls P p y r in let b = falls x p e in omega (arith, a, b)

  pub below : (P : ℕ → Type 0) (z x y : ℕ) → x < z → GoesUp up P x y → GoesUp up (λ w. w ≢ z) x y
  below P z x _ l (there _) = there x
  below P z x y l (over _ p _ h e r) = let b = falls x p e in over x p y (λ s. omega (arith, l, s)) e (below P z p y (omega (arith, b, l)) r)

  past : (c : ℕ → Bool) (x a b : ℕ) → c x ≡ false → GoesUp up (Is c) a b → GoesUp up (λ w. w ≢ x) a b
  past c x a b bare r = goes_map up up (Is c) (λ w. w ≢ x) (λ z p h e. ((λ s. not_both (c x) (subst (λ w. c w ≡ true) s h) bare), e)) a b r

  module _ (old : ℕ → Bool) (a b : ℕ) where
    pub begins : (x y : ℕ) → GoesUp up (Is old) a x → GoesUp up (Is old) b y → CoversTo up old old a b x y
    begins x y f g = record {
      ways = record { kept = λ z h. h; one = f; other = g; only = λ z h k. absurd (not_both (old z) h k) };
      before = λ z h k. absurd (not_both (old z) h k);
    }

    pub goes_further : (new : ℕ → Bool) (x y p far : ℕ) → CoversTo up old new a b x y → new x ≡ false → y < x → up x ≡ suc p → GoesUp up (Is (with_covered new x)) p far → CoversTo up old (with_covered new x) a b far y
    goes_further new x y p far c bare less e way =
        let new' : ℕ → Bool = with_covered new x in
        let lower = falls x p e in
        let most = way_falls (Is new') p far way in
        let step : GoesUp up (Is new') x far = over x p far (covered_here new x) e way in
        record {
          ways = record {
            kept = λ z h. covered_more new x z (c.ways.kept z h);
            one = goes_on up (Is new') a x far (goes_map up up (Is new) (Is new') (λ z q h k. (covered_more new x z h, k)) a x c.ways.one) step;
            other = goes_map up up (Is new) (Is new') (λ z q h k. (covered_more new x z h, k)) b y c.ways.other;
            only = λ z h k. elim (covered_cases new x z h) [
              | inl same ↦ subst (λ w. (q : ℕ) × (up w ≡ suc q) × (IsOnOneWay up a b far y w q ⊎ IsOnOneWay up b a y far w q)) (sym same) (p, e, inl (past new x a x bare c.ways.one, below (Is new') x p far lower way, past new x b y bare c.ways.other))
              | inr was ↦
                  let l = (c.before z was k).0 in
                  let w = c.ways.only z was k in (
                    w.0,
                    w.1,
                    elim w.2 [
                      | inl one ↦ inl (one.0, goes_on up (λ v. v ≢ z) w.0 x far one.1 (below (Is new') z x far l step), one.2)
                      | inr other ↦ inr (other.0, other.1, goes_on up (λ v. v ≢ z) a x far other.2 (below (Is new') z x far l step))
                    ],
                  )
            ];
          };
          before = λ z h k. elim (covered_cases new x z h) [
            | inl same ↦ (omega (arith, same, lower, most), omega (arith, same, less))
            | inr was ↦ let l = c.before z was k in let l0 = l.0 in (omega (arith, l0, lower, most), l.1)
          ];
        }

  pub turned : (old new : ℕ → Bool) (a b x y : ℕ) → CoversTo up old new a b x y → CoversTo up old new b a y x
  turned old new a b x y c = record {
    ways = record {
      kept = c.ways.kept;
      one = c.ways.other;
      other = c.ways.one;
      only = λ z h k. let w = c.ways.only z h k in (w.0, w.1, elim w.2 [ inl one ↦ inr one | inr other ↦ inl other ]);
    };
    before = λ z h k. let l = c.before z h k in (l.1, l.0);
  }

  pub covers_way : (old new : ℕ → Bool) (a b x : ℕ) → CoversTo up old new a b x x → CoversWay up old new a b
  covers_way old new a b x c = record { meet = x; ways = c.ways }
