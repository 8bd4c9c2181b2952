-- The number of a wire among those that were met is that of the later one of its two ends among the ends that were kept.
use Rattle.std.proofs.Common.{◌≡◌, ◌&&◌, ◌||◌, ◌++◌, ◌+◌, ℕ, suc, nat_eq, nat_cmp, Bool, true, false, cond, List, [], ◌∷◌, length, map, reverse, position, Option, Some, None, option_map, refl, sym, ap, ◌∙◌, subst, unwrap_or, IsSome, nat_lt, Less, Equal, Greater, arith, length-append, true≢false, if◌then◌else◌}
use Rattle.std.proofs.lemmas.Bool.{and_parts}
use Rattle.std.proofs.lemmas.Bool.Decides.{nat_tests}
use Rattle.std.proofs.lemmas.Grind.{common_steps}
use Rattle.indexmap.specs.IndexSet.{insert_key}
use Rattle.std.specs.List.{list_any, AllByRecursion, IsDistinct}
use Rattle.std.specs.Ordering.{ord_max, is_lt}
use Rattle.std.specs.Option.{option_cmp}
use Rattle.std.proofs.lemmas.List.{reverse-append, map-append, length-reverse, length-map}
use Rattle.in_arena.specs.declared.content.End.{End}
use Rattle.in_arena.specs.declared.content.End.TheVariants as end
use Rattle.in_arena.specs.contracts.content.EndPartialEq.TheImpl.{eq-value}
use Rattle.in_net.specs.Nets.{Point}
use Rattle.in_net.proofs.Public.{equal_turned}
use Rattle.in_check.specs.NetText.{same_point, number_of}
use Rattle.in_print.specs.Points.{point_at}
use Rattle.in_print.specs.Writings.{number_at, met_after}

pub agree : (e k : End) → eq-value.it e k ≡ same_point nat_eq (point_at k) (point_at e)
agree (end.Cell c i) (end.Cell d j) = ap (λ b. b && nat_eq i j) (equal_turned c.0 d.0) ∙ ap (λ b. nat_eq d.0 c.0 && b) (equal_turned i j)
agree (end.Cell c i) (end.Free j) = refl
agree (end.Free i) (end.Cell d j) = refl
agree (end.Free i) (end.Free j) = equal_turned i j

abbrev pub later : Option ℕ → Option ℕ → Option ℕ
later a b = ord_max (option_cmp nat_cmp) a b

-- one number more, if there is one; otherwise 1, if the wire is met here
abbrev more : Bool → Option ℕ → Option ℕ
more t o = elim o [ None ↦ cond t (Some 1) None | Some k ↦ Some (suc k) ]

first_more : (t : End → Bool) (k : End) (ks : List End) → position t (k ∷ ks) ≡ cond (t k) (Some 0) (option_map suc (position t ks))
first_more t k ks = by (t k) refl
  where
    by : (b : Bool) → t k ≡ b → position t (k ∷ ks) ≡ cond b (Some 0) (option_map suc (position t ks))
    by true e = grind (arith, common_steps)
    by false e = grind (arith, common_steps)

-- the later one of two
later_is : (i j : ℕ) → later (Some i) (Some j) ≡ cond (nat_lt j i) (Some i) (Some j)
later_is i j = ap (λ b. cond b (Some i) (Some j)) (less (nat_lt j i) (nat_eq j i))
  where
    less : (b c : Bool) → is_lt (cond b Less (cond c Equal Greater)) ≡ b
    less true c = refl
    less false true = refl
    less false false = refl

later_of : (i j : ℕ) → later (Some (suc i)) (Some (suc j)) ≡ option_map suc (later (Some i) (Some j))
later_of i j = later_is (suc i) (suc j) ∙ ap (λ b. cond b (Some (suc i)) (Some (suc j))) (both i j) ∙ sort (nat_lt j i) ∙ ap (option_map suc) (sym (later_is i j))
  where
    both : (i j : ℕ) → nat_lt (suc j) (suc i) ≡ nat_lt j i
    both i j = grind (arith, nat_tests)

    sort : (b : Bool) → cond b (Some (suc i)) (Some (suc j)) ≡ option_map suc (cond b (Some i) (Some j))
    sort true = refl
    sort false = refl

later_more : (x y : Bool) (a b : Option ℕ) → (x ≡ true → a ≡ None) → (y ≡ true → b ≡ None)
    → option_map suc (later (cond x (Some 0) (option_map suc a)) (cond y (Some 0) (option_map suc b))) ≡ more (x || y) (option_map suc (later a b))
later_more true y (Some i) b h k = (let e : Some i ≡ None = h refl in cc)
later_more x true a (Some j) h k = (let e : Some j ≡ None = k refl in cc)
later_more true true None None h k = refl
later_more true false None None h k = refl
later_more true false None (Some j) h k = ap (option_map suc) (later_is 0 (suc j) ∙ ap (λ b. cond b (Some 0) (Some (suc j))) (none_below j))
  where
    none_below : (j : ℕ) → nat_lt (suc j) 0 ≡ false
    none_below j = grind (arith, nat_tests)
later_more false true None None h k = refl
later_more false true (Some i) None h k = ap (option_map suc) (later_is (suc i) 0 ∙ ap (λ b. cond b (Some (suc i)) (Some 0)) (positive i))
  where
    positive : (i : ℕ) → nat_lt 0 (suc i) ≡ true
    positive i = grind (arith, nat_tests)
later_more false false None None h k = refl
later_more false false None (Some j) h k = refl
later_more false false (Some i) None h k = refl
later_more false false (Some i) (Some j) h k = ap (option_map suc) (later_of i j) ∙ found (later (Some i) (Some j)) (later_some i j)
  where
    later_some : (i j : ℕ) → IsSome (later (Some i) (Some j))
    later_some i j = subst IsSome (sym (later_is i j)) (one (nat_lt j i))
      where
        one : (b : Bool) → IsSome (cond b (Some i) (Some j))
        one true = refl
        one false = refl

    found : (o : Option ℕ) → IsSome o → option_map suc (option_map suc o) ≡ more false (option_map suc o)
    found None h = absurd (true≢false (sym h))
    found (Some k) h = refl

-- ---- the number in a list

module _ (p q : Point ℕ) where
  abbrev meets : Point ℕ → Bool
  meets u = same_point nat_eq u p || same_point nat_eq u q

  number_last : (us : List (Point ℕ)) (u : Point ℕ) → number_of nat_eq (us ++ u ∷ []) p q ≡ more (meets u) (number_of nat_eq us p q)
  number_last [] u = refl
  number_last (v ∷ us) u = by (number_last us u) (meets v)
    where
      by : number_of nat_eq (us ++ u ∷ []) p q ≡ more (meets u) (number_of nat_eq us p q) → (b : Bool)
          → cond b (Some (suc (length (us ++ u ∷ [])))) (number_of nat_eq (us ++ u ∷ []) p q) ≡ more (meets u) (cond b (Some (suc (length us))) (number_of nat_eq us p q))
      by e true = ap (λ n. Some (suc n)) (omega (arith, length-append us (u ∷ [])))
      by e false = e

-- no other one is equal to one that the test finds
abbrev pub Once : (End → Bool) → List End → Type 0
Once t [] = Unit {0}
Once t (k ∷ ks) = (t k ≡ true → AllByRecursion (λ x. t x ≡ false) ks) × Once t ks

none_of : (t : End → Bool) (ks : List End) → AllByRecursion (λ x. t x ≡ false) ks → position t ks ≡ None
none_of t [] h = refl
none_of t (k ∷ ks) h = first_more t k ks ∙ ap (λ b. cond b (Some 0) (option_map suc (position t ks))) h.0 ∙ ap (option_map suc) (none_of t ks h.1)

-- the ends that were kept, each once, and the ends of a wire
module _ (e f : End) where
  abbrev pub here : End → Bool
  here = eq-value.it e

  abbrev pub there : End → Bool
  there = eq-value.it f

  met_at : (k : End) → meets (point_at e) (point_at f) (point_at k) ≡ here k || there k
  met_at k = (λ i. sym (agree e k) i || sym (agree f k) i)

  pub numbered : (ks : List End) → Once here ks → Once there ks → option_map suc (later (position here ks) (position there ks)) ≡ number_of nat_eq (reverse (map point_at ks)) (point_at e) (point_at f)
  numbered [] h g = refl
  numbered (k ∷ ks) h g =
      let us = reverse (map point_at ks) in
      ap (option_map suc) (λ i. later (first_more here k ks i) (first_more there k ks i))
      ∙ later_more (here k) (there k) (position here ks) (position there ks) (λ x. none_of here ks (h.0 x)) (λ x. none_of there ks (g.0 x))
      ∙ (λ i. more (sym (met_at k) i) (numbered ks h.1 g.1 i))
      ∙ sym (number_last (point_at e) (point_at f) us (point_at k))
      ∙ ap (λ l. number_of nat_eq l (point_at e) (point_at f)) (sym (reverse-append (point_at k ∷ []) (map point_at ks)))

-- ---- different ends

same_number : (i j : ℕ) → nat_eq i j ≡ true → i ≡ j
same_number i j e = grind (arith, nat_tests)

-- an end that is equal to one is equal to the same ends
follows : (e k x : End) → eq-value.it e k ≡ true → eq-value.it e x ≡ eq-value.it k x
follows (end.Cell c i) (end.Cell d j) (end.Cell b l) h =
    let both = and_parts (nat_eq c.0 d.0) (nat_eq i j) h in
    (λ k. nat_eq (same_number c.0 d.0 both.0 k) b.0 && nat_eq (same_number i j both.1 k) l)
follows (end.Cell c i) (end.Cell d j) (end.Free l) h = refl
follows (end.Free i) (end.Free j) (end.Cell b l) h = refl
follows (end.Free i) (end.Free j) (end.Free l) h = ap (λ i. nat_eq i l) (same_number i j h)
follows (end.Cell c i) (end.Free j) x h = absurd (true≢false (sym h))
follows (end.Free i) (end.Cell d j) x h = absurd (true≢false (sym h))

others : (e k : End) (ks : List End) → eq-value.it e k ≡ true → AllByRecursion (λ x. eq-value.it k x ≡ false) ks → AllByRecursion (λ x. eq-value.it e x ≡ false) ks
others e k [] h d = tt
others e k (x ∷ ks) h d = (follows e k x h ∙ d.0, others e k ks h d.1)

pub once : (e : End) (ks : List End) → IsDistinct eq-value.it ks → Once (here e e) ks
unfolding IsDistinct
once e [] d = tt
once e (k ∷ ks) d = ((λ h. others e k ks h d.0), once e ks d.1)

-- ---- the answers

pub later_none : (a b : Option ℕ) → later a b ≡ None → a ≡ None
later_none None b e = refl
later_none (Some i) None e = cc
later_none (Some i) (Some j) e = by (nat_lt j i) (sym (later_is i j) ∙ e)
  where
    by : (b : Bool) → cond b (Some i) (Some j) ≡ None → Some i ≡ None
    by true e = e
    by false e = cc

module _ (e f : End) (ks : List End) (distinct : IsDistinct eq-value.it ks) where
  abbrev met : List (Point ℕ)
  met = reverse (map point_at ks)

  is_number : (o : Option ℕ) → later (position (eq-value.it e) ks) (position (eq-value.it f) ks) ≡ o → number_of nat_eq met (point_at e) (point_at f) ≡ option_map suc o
  is_number o k = sym (numbered e f ks (once e ks distinct) (once f ks distinct)) ∙ ap (option_map suc) k

  pub known_number : (m : ℕ) → later (position (eq-value.it e) ks) (position (eq-value.it f) ks) ≡ Some m → (m + 1 ≡ number_at met (point_at e) (point_at f)) × (met ≡ met_after met (point_at e) (point_at f))
  known_number m k =
      let known = is_number (Some m) k in
      ((omega arith) ∙ ap (λ o. unwrap_or o (suc (length met))) (sym known), ap (λ o. elim o as (λ x. List (Point ℕ)) [ None ↦ point_at e ∷ met | Some k ↦ met ]) (sym known))

  pub new_number : later (position (eq-value.it e) ks) (position (eq-value.it f) ks) ≡ None → (length ks + 1 ≡ number_at met (point_at e) (point_at f)) × (reverse (map point_at (ks ++ e ∷ [])) ≡ met_after met (point_at e) (point_at f))
  new_number k =
      let new = is_number None k in (
        omega (arith, length-reverse (map point_at ks), length-map ks point_at) ∙ ap (λ o. unwrap_or o (suc (length met))) (sym new),
        ap reverse (map-append point_at ks (e ∷ [])) ∙ reverse-append (map point_at ks) (point_at e ∷ [])
            ∙ ap (λ o. elim o as (λ x. List (Point ℕ)) [ None ↦ point_at e ∷ met | Some k ↦ met ]) (sym new),
      )

lacks : (t : End → Bool) (ks : List End) → position t ks ≡ None → list_any t ks ≡ false
lacks t [] h = refl
lacks t (k ∷ ks) h = by (lacks t ks) (t k) (sym (first_more t k ks) ∙ h)
  where
    none : (o : Option ℕ) → option_map suc o ≡ None → o ≡ None
    none None e = refl
    none (Some n) e = (let f : Some (suc n) ≡ None = e in cc)

    by : (position t ks ≡ None → list_any t ks ≡ false) → (b : Bool) → cond b (Some 0) (option_map suc (position t ks)) ≡ None → b || list_any t ks ≡ false
    by rest true n = cc
    by rest false n = rest (none (position t ks) n)

-- an end that is in no place goes last
pub unlisted : (e : End) (ks : List End) → position (eq-value.it e) ks ≡ None → insert_key eq-value.it ks e ≡ ks ++ e ∷ []
unlisted e ks h = ap (λ b. if b then ks else (ks ++ e ∷ [])) (lacks (eq-value.it e) ks h)
