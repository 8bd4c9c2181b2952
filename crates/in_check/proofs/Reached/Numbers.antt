-- Each variable's number is written twice.
use Rattle.std.proofs.Common.{◌≡◌, ◌≢◌, ◌⊎◌, ◌≤◌, ◌<◌, ◌||◌, ◌&&◌, ℕ, suc, Bool, true, false, cond, nat_eq, Option, Some, None, List, [], ◌∷◌, length, refl, sym, subst, ap, inl, inr, ◌∙◌, arith}
use Rattle.std.specs.List.{AllByRecursion}
use native.Mathlib.Decide.{ℕ_discrete}
use Rattle.std.proofs.lemmas.Option.{same_Some}
use Rattle.std.proofs.lemmas.Bool.{or_parts, or_cases, cases_Bool, and_parts}
use Rattle.in_net.specs.Nets.{Point, Port, Free, Signature, Net, IsNet}
use Rattle.in_base.specs.Lists.{IsAmong}
use Rattle.in_net.proofs.Public.{port_agent, port_place}
use Rattle.in_check.specs.NetText.{TextPart, Bytes, Head, Variable, same_point, number_of, numbers, numbered, StandsTimes, IsAuxiliary, IsOfNet}
use Rattle.in_check.proofs.Reached.SameText.{IsTest, nat_test}

-- in a list of the wires met, the last one first, this one has this number
abbrev At : {X : Type 0} → List X → ℕ → X → Type 0
At [] k a = ⊥
At (u ∷ us) k a = ((k ≡ suc (length us)) × (u ≡ a)) ⊎ At us k a

at_most : {X : Type 0} (us : List X) (k : ℕ) (a : X) → At us k a → k ≤ length us
at_most [] k a h = absurd h
at_most (u ∷ us) k a (inl h) = let e : k ≡ suc (length us) = h.0 in omega arith
at_most (u ∷ us) k a (inr h) = let l : k ≤ length us = at_most us k a h in omega arith

at_one : {X : Type 0} (us : List X) (k : ℕ) (a b : X) → At us k a → At us k b → a ≡ b
at_one [] k a b h g = absurd h
at_one (u ∷ us) k a b (inl h) (inl g) = sym h.1 ∙ g.1
at_one (u ∷ us) k a b (inl h) (inr g) = let e : k ≡ suc (length us) = h.0 in let l : k ≤ length us = at_most us k b g in absurd (omega arith)
at_one (u ∷ us) k a b (inr h) (inl g) = let e : k ≡ suc (length us) = g.0 in let l : k ≤ length us = at_most us k a h in absurd (omega arith)
at_one (u ∷ us) k a b (inr h) (inr g) = at_one us k a b h g

at_among : {X : Type 0} (us : List X) (k : ℕ) (a : X) → At us k a → IsAmong a us
at_among [] k a h = h
at_among (u ∷ us) k a (inl h) = inl h.1
at_among (u ∷ us) k a (inr h) = inr (at_among us k a h)

above : (k l : ℕ) → suc l ≢ k → l < k → suc l < k
above k l d h = omega arith

module _ {A : Type 0} (s : A → A → Bool) (test : IsTest s) where
  point_test : IsTest (same_point s)
  point_test (Port x i) (Port y j) = (
    (λ h. (
        let b = and_parts (s x y) (nat_eq i j) h in
        let a : x ≡ y = (test x y).0 b.0 in
        let c : i ≡ j = (nat_test i j).0 b.1 in
        cc
        )),
    (λ e. (
        let a : s x y ≡ true = (test x y).1 (port_agent x y i j e) in
        let c : nat_eq i j ≡ true = (nat_test i j).1 (port_place x y i j e) in
        ap (λ b. b && nat_eq i j) a ∙ c
        )),
  )
  point_test (Port x i) (Free k) = ((λ h. cc), (λ e. cc))
  point_test (Free k) (Port x i) = ((λ h. cc), (λ e. cc))
  point_test (Free j) (Free k) = ((λ h. (let e : j ≡ k = (nat_test j k).0 h in ap (λ k. Free k) e)), (λ e. (let f : j ≡ k = cc in (nat_test j k).1 f)))

  no_point : (p q : Point A) → same_point s p q ≡ false → p ≢ q
  no_point p q h e = let g : same_point s p q ≡ true = (point_test p q).1 e in cc

  -- neither of the two points is among those met
  abbrev Unmet : List (Point A) → Point A → Point A → Type 0
  Unmet met p q = (w : Point A) → IsAmong w met → (w ≢ p) × (w ≢ q)

  none_met : (met : List (Point A)) (p q : Point A) → number_of s met p q ≡ None → Unmet met p q
  none_met [] p q e = λ w h. absurd h
  none_met (u ∷ us) p q e = go (same_point s u p || same_point s u q) refl e (λ f. none_met us p q f)
    where
      go : (b : Bool) → (same_point s u p || same_point s u q) ≡ b → cond b (Some (suc (length us))) (number_of s us p q) ≡ None → (number_of s us p q ≡ None → Unmet us p q) → Unmet (u ∷ us) p q
      go true t e again = cc
      go false t e again = λ w h. (
          let o = or_parts (same_point s u p) (same_point s u q) t in
          elim h [
            | inr g ↦ again e w g
            | inl g ↦ ((λ i. no_point u p o.0 (g ∙ i)), (λ i. no_point u q o.1 (g ∙ i)))
          ]
          )

  some_met : (met : List (Point A)) (p q : Point A) (k : ℕ) → number_of s met p q ≡ Some k → (w : Point A) × At met k w × ((w ≡ p) ⊎ (w ≡ q))
  some_met [] p q k e = cc
  some_met (u ∷ us) p q k e = go (same_point s u p || same_point s u q) refl e (λ f. some_met us p q k f)
    where
      go : (b : Bool) → (same_point s u p || same_point s u q) ≡ b → cond b (Some (suc (length us))) (number_of s us p q) ≡ Some k → (number_of s us p q ≡ Some k → (w : Point A) × At us k w × ((w ≡ p) ⊎ (w ≡ q))) → (w : Point A) × At (u ∷ us) k w × ((w ≡ p) ⊎ (w ≡ q))
      go false t e again = let r = again e in (r.0, inr r.1, r.2)
      go true t e again =
          let number : suc (length us) ≡ k = same_Some (suc (length us)) k e in
          elim (or_cases (same_point s u p) (same_point s u q) t) [
            | inl h ↦ (u, inl (sym number, refl), inl ((point_test u p).0 h))
            | inr h ↦ (u, inl (sym number, refl), inr ((point_test u q).0 h))
          ]

  module _ (sig : Signature) (n : Net A) (net : IsNet sig n) where
    -- at most one point of each wire was met
    abbrev AreApart : List (Point A) → Type 0
    AreApart [] = Unit {0}
    AreApart (u ∷ us) = ((v w : Point A) → IsAmong v us → n.partner u ≡ Some w → (v ≢ u) × (v ≢ w)) × AreApart us

    met_number : (met : List (Point A)) (k : ℕ) (a b : Point A) → AreApart met → n.partner a ≡ Some b → At met k a → number_of s met b a ≡ Some k
    met_number [] k a b apart e h = absurd h
    met_number (u ∷ us) k a b apart e h = go (cases_Bool (same_point s u b || same_point s u a)) h (λ g. met_number us k a b apart.1 e g)
      where
        go : ((same_point s u b || same_point s u a) ≡ true) ⊎ ((same_point s u b || same_point s u a) ≡ false) → ((k ≡ suc (length us)) × (u ≡ a)) ⊎ At us k a → (At us k a → number_of s us b a ≡ Some k) → number_of s (u ∷ us) b a ≡ Some k
        go (inl t) (inl g) again = ap (λ c. cond c (Some (suc (length us))) (number_of s us b a)) t ∙ ap (λ k. Some k) (sym g.0)
        go (inr t) (inl g) again = absurd (no_point u a (or_parts (same_point s u b) (same_point s u a) t).1 g.1)
        go (inr t) (inr g) again = ap (λ c. cond c (Some (suc (length us))) (number_of s us b a)) t ∙ again g
        go (inl t) (inr g) again =
            elim (or_cases (same_point s u b) (same_point s u a) t) [
              | inl h ↦ (
                  let same : u ≡ b = (point_test u b).0 h in
                  let f : n.partner u ≡ Some a = ap n.partner same ∙ net.back a b e in
                  absurd ((apart.0 a a (at_among us k a g) f).1 refl)
                  )
              | inr h ↦ (
                  let same : u ≡ a = (point_test u a).0 h in
                  absurd ((apart.0 a b (at_among us k a g) (ap n.partner same ∙ e)).0 (sym same))
                  )
            ]

    -- the far end of a variable's point
    wire_one : (p q a b : Point A) → n.partner p ≡ Some q → n.partner a ≡ Some b → (a ≡ p → Variable p q ≡ Variable a b) × (a ≡ q → Variable p q ≡ Variable b a)
    wire_one p q a b e f = (
      (λ same. (
          let far : b ≡ q = same_Some b q (sym f ∙ ap n.partner same ∙ e) in
          let near : a ≡ p = same in
          cc
          )),
      (λ same. (
          let far : b ≡ p = same_Some b p (sym f ∙ ap n.partner same ∙ net.back p q e) in
          let near : a ≡ q = same in
          cc
          )),
    )

    -- the number of a wire that was met is nowhere in the parts, if the wire's variable isn't
    number_nowhere : (ps : List (TextPart A)) → AllByRecursion (IsOfNet n) ps → (met : List (Point A)) (k : ℕ) (a b : Point A) → n.partner a ≡ Some b → At met k a → StandsTimes 0 (Variable a b) ps → StandsTimes 0 (Variable b a) ps → StandsTimes 0 k (numbers s met ps)
    number_nowhere [] of met k a b e h x y = tt
    number_nowhere (Bytes bs ∷ ps) of met k a b e h x y = number_nowhere ps of.1 met k a b e h x.1 y.1
    number_nowhere (Head z ∷ ps) of met k a b e h x y = number_nowhere ps of.1 met k a b e h x.1 y.1
    number_nowhere (Variable p q ∷ ps) of met k a b e h x y =
        go (number_of s met p q) refl (λ met h. number_nowhere ps of.1 met k a b e h x.1 y.1)
      where
        go : (o : Option ℕ) → number_of s met p q ≡ o → ((met : List (Point A)) → At met k a → StandsTimes 0 k (numbers s met ps)) → StandsTimes 0 k (elim o [
          | None ↦ suc (length met) ∷ numbers s (p ∷ met) ps
          | Some k ↦ k ∷ numbers s met ps
        ])
        go None f again = ((λ g. (let l : k ≤ length met = at_most met k a h in let bad : ⊥ = omega arith in bad)), again (p ∷ met) (inr h))
        go (Some j) f again = (
          (λ g. (
              let r = some_met met p q j f in
              let same : r.0 ≡ a = at_one met k r.0 a (subst (λ j. At met j r.0) g r.1) h in
              let w = wire_one p q a b of.0.0 e in
              elim r.2 [
                | inl i ↦ x.0 (w.0 (sym same ∙ i))
                | inr i ↦ y.0 (w.1 (sym same ∙ i))
              ]
              )),
          again met h,
        )

    -- .. and once, if its variable at the other point occurs once
    number_once : (ps : List (TextPart A)) → AllByRecursion (IsOfNet n) ps → (met : List (Point A)) (k : ℕ) (a b : Point A) → AreApart met → n.partner a ≡ Some b → At met k a → StandsTimes 0 (Variable a b) ps → StandsTimes 1 (Variable b a) ps → StandsTimes 1 k (numbers s met ps)
    number_once [] of met k a b apart e h x y = absurd y
    number_once (Bytes bs ∷ ps) of met k a b apart e h x (inl y) = cc
    number_once (Bytes bs ∷ ps) of met k a b apart e h x (inr y) = number_once ps of.1 met k a b apart e h x.1 y.1
    number_once (Head z ∷ ps) of met k a b apart e h x (inl y) = cc
    number_once (Head z ∷ ps) of met k a b apart e h x (inr y) = number_once ps of.1 met k a b apart e h x.1 y.1
    number_once (Variable p q ∷ ps) of met k a b apart e h x y =
        go (number_of s met p q) refl y (λ y met apart h. number_once ps of.1 met k a b apart e h x.1 y)
      where
        apart_more : number_of s met p q ≡ None → AreApart (p ∷ met)
        apart_more f = (
          (λ v w m g. (
              let u = none_met met p q f v m in
              (u.0, (λ i. u.1 (i ∙ same_Some w q (sym g ∙ of.0.0))))
              )),
          apart,
        )

        go : (o : Option ℕ) → number_of s met p q ≡ o → ((Variable p q ≡ Variable b a) × StandsTimes 0 (Variable b a) ps) ⊎ ((Variable p q ≢ Variable b a) × StandsTimes 1 (Variable b a) ps) → (StandsTimes 1 (Variable b a) ps → (met : List (Point A)) → AreApart met → At met k a → StandsTimes 1 k (numbers s met ps)) → StandsTimes 1 k (elim o [
          | None ↦ suc (length met) ∷ numbers s (p ∷ met) ps
          | Some k ↦ k ∷ numbers s met ps
        ])
        go None f (inl y) again =
            let far : q ≡ a = cc in
            absurd ((none_met met p q f a (at_among met k a h)).1 (sym far))
        go (Some j) f (inl y) again =
            let near : p ≡ b = cc in
            let far : q ≡ a = cc in
            let there : number_of s met b a ≡ Some k = met_number met k a b apart e h in
            let here : number_of s met b a ≡ Some j = ap (λ p. number_of s met p a) (sym near) ∙ ap (number_of s met p) (sym far) ∙ f in
            inl (same_Some j k (sym here ∙ there), number_nowhere ps of.1 met k a b e h x.1 y.1)
        go None f (inr y) again = inr ((λ g. (let l : k ≤ length met = at_most met k a h in let bad : ⊥ = omega arith in bad)), again y.1 (p ∷ met) (apart_more f) (inr h))
        go (Some j) f (inr y) again = inr (
          (λ g. (
              let r = some_met met p q j f in
              let same : r.0 ≡ a = at_one met k r.0 a (subst (λ j. At met j r.0) g r.1) h in
              let w = wire_one p q a b of.0.0 e in
              elim r.2 [
                | inl i ↦ x.0 (w.0 (sym same ∙ i))
                | inr i ↦ y.0 (w.1 (sym same ∙ i))
              ]
              )),
          again y.1 met apart h,
        )

    apart_more : (met : List (Point A)) (p q : Point A) → AreApart met → n.partner p ≡ Some q → number_of s met p q ≡ None → AreApart (p ∷ met)
    apart_more met p q apart e f = (
      (λ v w m g. (
          let u = none_met met p q f v m in
          (u.0, (λ i. u.1 (i ∙ same_Some w q (sym g ∙ e))))
          )),
      apart,
    )

    -- each wire that was not met has its variable once at each end in the rest
    abbrev Ahead : List (Point A) → List (TextPart A) → Type 0
    Ahead met ps = (u v : Point A) → n.partner u ≡ Some v → IsAuxiliary u → IsAuxiliary v → Unmet met u v → StandsTimes 1 (Variable u v) ps

    later : (x y : TextPart A) (ps : List (TextPart A)) → y ≢ x → StandsTimes 1 x (y ∷ ps) → StandsTimes 1 x ps
    later x y ps differ (inl h) = absurd (differ h.0)
    later x y ps differ (inr h) = h.1

    gone : (x : TextPart A) (ps : List (TextPart A)) → StandsTimes 1 x (x ∷ ps) → StandsTimes 0 x ps
    gone x ps (inl h) = h.1
    gone x ps (inr h) = absurd (h.0 refl)

    pub number_twice : (ps : List (TextPart A)) → AllByRecursion (IsOfNet n) ps → (met : List (Point A)) → AreApart met → Ahead met ps → (k : ℕ) → length met < k → IsAmong k (numbers s met ps) → StandsTimes 2 k (numbers s met ps)
    number_twice [] of met apart ahead k l h = absurd h
    number_twice (Bytes bs ∷ ps) of met apart ahead k l h =
        number_twice ps of.1 met apart (λ u v e a b m. later (Variable u v) (Bytes bs) ps (λ w. cc) (ahead u v e a b m)) k l h
    number_twice (Head z ∷ ps) of met apart ahead k l h =
        number_twice ps of.1 met apart (λ u v e a b m. later (Variable u v) (Head z) ps (λ w. cc) (ahead u v e a b m)) k l h
    number_twice (Variable p q ∷ ps) of met apart ahead k l h =
        go (number_of s met p q) refl h (λ met apart ahead l h. number_twice ps of.1 met apart ahead k l h)
      where
        near : (u v : Point A) → Variable p q ≡ Variable u v → (p ≡ u) × (q ≡ v)
        near u v w = (cc, cc)

        after_old : (j : ℕ) → number_of s met p q ≡ Some j → Ahead met ps
        after_old j f u v e a b m = later (Variable u v) (Variable p q) ps (λ w. (
            let r = some_met met p q j f in
            let g = near u v w in
            let x = m r.0 (at_among met j r.0 r.1) in
            elim r.2 [ inl i ↦ x.0 (i ∙ g.0) | inr i ↦ x.1 (i ∙ g.1) ]
            )) (ahead u v e a b m)

        after_new : Ahead (p ∷ met) ps
        after_new u v e a b m = later (Variable u v) (Variable p q) ps (λ w. (m p (inl refl)).0 (near u v w).0) (ahead u v e a b (λ w i. m w (inr i)))

        go : (o : Option ℕ) → number_of s met p q ≡ o → IsAmong k (elim o [
          | None ↦ suc (length met) ∷ numbers s (p ∷ met) ps
          | Some k ↦ k ∷ numbers s met ps
        ]) → ((met : List (Point A)) → AreApart met → Ahead met ps → length met < k → IsAmong k (numbers s met ps) → StandsTimes 2 k (numbers s met ps)) → StandsTimes 2 k (elim o [
          | None ↦ suc (length met) ∷ numbers s (p ∷ met) ps
          | Some k ↦ k ∷ numbers s met ps
        ])
        go (Some j) f h again =
            let r = some_met met p q j f in
            let below : j ≤ length met = at_most met j r.0 r.1 in
            elim h [
              | inl e ↦ (let g : j ≡ k = e in absurd (omega arith))
              | inr g ↦ inr ((λ e. (let w : j ≡ k = e in let bad : ⊥ = omega arith in bad)), again met apart (after_old j f) l g)
            ]
        go None f h again = decided (ℕ_discrete (suc (length met)) k) h
          where
            unmet : Unmet met p q
            unmet = none_met met p q f

            decided : Dec (suc (length met) ≡ k) → (suc (length met) ≡ k) ⊎ IsAmong k (numbers s (p ∷ met) ps) → StandsTimes 2 k (suc (length met) ∷ numbers s (p ∷ met) ps)
            decided (yes e) h = inl (
              e,
              number_once ps of.1 (p ∷ met) k p q (apart_more met p q apart of.0.0 f) of.0.0 (inl (sym e, refl))
                  (gone (Variable p q) ps (ahead p q of.0.0 of.0.1 of.0.2 unmet))
                  (later (Variable q p) (Variable p q) ps (λ w. (
                  let same : p ≡ q = (near q p w).0 in
                  net.apart p (of.0.0 ∙ ap (λ q. Some q) (sym same))
                  )) (ahead q p (net.back p q of.0.0) of.0.2 of.0.1 (λ w i. ((unmet w i).1, (unmet w i).0)))),
            )
            decided (no d) (inl e) = absurd (d e)
            decided (no d) (inr g) = inr (d, again (p ∷ met) (apart_more met p q apart of.0.0 f) after_new (above k (length met) d l) g)

  at_positive : {X : Type 0} (us : List X) (k : ℕ) (a : X) → At us k a → 0 < k
  at_positive [] k a h = absurd h
  at_positive (u ∷ us) k a (inl h) = let e : k ≡ suc (length us) = h.0 in omega arith
  at_positive (u ∷ us) k a (inr h) = at_positive us k a h

  -- they are counted from 1
  pub positive : (ps : List (TextPart A)) (met : List (Point A)) (k : ℕ) → IsAmong k (numbers s met ps) → 0 < k
  positive [] met k h = absurd h
  positive (Bytes bs ∷ ps) met k h = positive ps met k h
  positive (Head z ∷ ps) met k h = positive ps met k h
  positive (Variable p q ∷ ps) met k h = go (number_of s met p q) refl h (λ met h. positive ps met k h)
    where
      go : (o : Option ℕ) → number_of s met p q ≡ o → IsAmong k (elim o [
        | None ↦ suc (length met) ∷ numbers s (p ∷ met) ps
        | Some k ↦ k ∷ numbers s met ps
      ]) → ((met : List (Point A)) → IsAmong k (numbers s met ps) → 0 < k) → 0 < k
      go None f (inl e) again = let g : suc (length met) ≡ k = e in omega arith
      go None f (inr h) again = again (p ∷ met) h
      go (Some j) f (inl e) again = let r = some_met met p q j f in subst (λ k. 0 < k) e (at_positive met j r.0 r.1)
      go (Some j) f (inr h) again = again met h

  -- the wires met in the end
  abbrev all_met : List (TextPart A) → List (Point A) → List (Point A)
  all_met [] met = met
  all_met (Bytes bs ∷ ps) met = all_met ps met
  all_met (Head z ∷ ps) met = all_met ps met
  all_met (Variable p q ∷ ps) met = elim (number_of s met p q) [
    | None ↦ all_met ps (p ∷ met)
    | Some k ↦ all_met ps met
  ]

  still_met : (ps : List (TextPart A)) (met : List (Point A)) (k : ℕ) (a : Point A) → At met k a → At (all_met ps met) k a
  still_met [] met k a h = h
  still_met (Bytes bs ∷ ps) met k a h = still_met ps met k a h
  still_met (Head z ∷ ps) met k a h = still_met ps met k a h
  still_met (Variable p q ∷ ps) met k a h = go (number_of s met p q) (λ met h. still_met ps met k a h)
    where
      go : (o : Option ℕ) → ((met : List (Point A)) → At met k a → At (all_met ps met) k a) → At (elim o [
        | None ↦ all_met ps (p ∷ met)
        | Some k ↦ all_met ps met
      ]) k a
      go None again = again (p ∷ met) (inr h)
      go (Some j) again = again met h

  module _ (n : Net A) where
    -- a number's wire was met at this end of the variable or at the other one
    number_met : (ps : List (TextPart A)) → AllByRecursion (IsOfNet n) ps → (met : List (Point A)) (k : ℕ) (u : Point A) → IsAmong (k, u) (numbered (numbers s met ps) ps) → (w : Point A) × At (all_met ps met) k w × ((w ≡ u) ⊎ (n.partner u ≡ Some w))
    number_met [] of met k u h = absurd h
    number_met (Bytes bs ∷ ps) of met k u h = number_met ps of.1 met k u h
    number_met (Head z ∷ ps) of met k u h = number_met ps of.1 met k u h
    number_met (Variable p q ∷ ps) of met k u h = go (number_of s met p q) refl h (λ met h. number_met ps of.1 met k u h)
      where
        go : (o : Option ℕ) → number_of s met p q ≡ o → IsAmong (k, u) (numbered (elim o [
          | None ↦ suc (length met) ∷ numbers s (p ∷ met) ps
          | Some k ↦ k ∷ numbers s met ps
        ]) (Variable p q ∷ ps)) → ((met : List (Point A)) → IsAmong (k, u) (numbered (numbers s met ps) ps) → (w : Point A) × At (all_met ps met) k w × ((w ≡ u) ⊎ (n.partner u ≡ Some w))) → (w : Point A) × At (elim o [
          | None ↦ all_met ps (p ∷ met)
          | Some k ↦ all_met ps met
        ]) k w × ((w ≡ u) ⊎ (n.partner u ≡ Some w))
        go None f (inr h) again = again (p ∷ met) h
        go (Some j) f (inr h) again = again met h
        go None f (inl e) again =
            let number : suc (length met) ≡ k = ap (λ r. r.0) e in
            let point : p ≡ u = ap (λ r. r.1) e in
            (p, still_met ps (p ∷ met) k p (inl (sym number, refl)), inl point)
        go (Some j) f (inl e) again =
            let number : j ≡ k = ap (λ r. r.0) e in
            let point : p ≡ u = ap (λ r. r.1) e in
            let r = some_met met p q j f in (
              r.0,
              still_met ps met k r.0 (subst (λ j. At met j r.0) number r.1),
              elim r.2 [
                | inl i ↦ inl (i ∙ point)
                | inr i ↦ inr (ap n.partner (sym point) ∙ of.0.0 ∙ ap (λ q. Some q) (sym i))
              ],
            )

    -- variables of one number are at one wire
    pub one_wire : (sig : Signature) → IsNet sig n → (ps : List (TextPart A)) → AllByRecursion (IsOfNet n) ps → (k : ℕ) (u v : Point A) → IsAmong (k, u) (numbered (numbers s [] ps) ps) → IsAmong (k, v) (numbered (numbers s [] ps) ps) → (u ≡ v) ⊎ (n.partner u ≡ Some v)
    one_wire sig net ps of k u v h g = go a.2 b.2
      where
        a : (w : Point A) × At (all_met ps []) k w × ((w ≡ u) ⊎ (n.partner u ≡ Some w))
        a = number_met ps of [] k u h

        b : (w : Point A) × At (all_met ps []) k w × ((w ≡ v) ⊎ (n.partner v ≡ Some w))
        b = number_met ps of [] k v g

        same : a.0 ≡ b.0
        same = at_one (all_met ps []) k a.0 b.0 a.1 b.1

        go : (a.0 ≡ u) ⊎ (n.partner u ≡ Some a.0) → (b.0 ≡ v) ⊎ (n.partner v ≡ Some b.0) → (u ≡ v) ⊎ (n.partner u ≡ Some v)
        go (inl x) (inl y) = inl (sym x ∙ same ∙ y)
        go (inl x) (inr y) = inr (net.back v u (y ∙ ap (λ w. Some w) (sym same ∙ x)))
        go (inr x) (inl y) = inr (x ∙ ap (λ w. Some w) (same ∙ y))
        go (inr x) (inr y) = inl (same_Some u v (sym (net.back u a.0 x) ∙ ap n.partner same ∙ net.back v b.0 y))
