-- Runs of steps in which all but a few are named once.
use Rattle.std.proofs.Common.{◌≡◌, ◌⊎◌, ◌<◌, ◌≤◌, ◌+◌, ℕ, zero, suc, Bool, true, false, cond, ◌||◌, Some, List, [], ◌∷◌, ◌++◌, length, slice_get, refl, sym, subst, ap, inl, inr, ◌∙◌, arith}
use Rattle.in_open_nets.specs.Constructions.{IsIn}
use Rattle.in_open_nets.specs.OpenNets.{OpenNet}
use Rattle.in_open_nets.specs.declared.derivations.Step.{Step}
use Rattle.in_open_nets.specs.Derivations.{Part, named, own_nodes, own_links, is_among, nodes_of, links_of, ShareNothing, HaveNoRepeats, AreEarlier, Joins, BuildsPart, times, times_in}
use Rattle.in_base.proofs.Places.{kept_at}
use Rattle.in_base.proofs.Places.{some_same}
use Rattle.in_open_nets.proofs.PartsOf.Sums.{not_both, one_same, one_other}
use Rattle.in_open_nets.proofs.Reached.Links.{same_nat, at_most}
use Rattle.in_open_nets.proofs.Built.Whole.{times_among}
use Rattle.std.proofs.lemmas.Bool.{or_cases, or_left, or_right, false_from_ne_true}

pub length_app : {X : Type 0} (xs ys : List X) → length (xs ++ ys) ≡ length xs + length ys
length_app [] ys = omega arith
length_app (x ∷ xs) ys = let r = length_app xs ys in omega arith

pub get_past : {X : Type 0} (xs ys : List X) (i j : ℕ) (x : X) → j ≡ length xs + i → slice_get ys i ≡ Some x → slice_get (xs ++ ys) j ≡ Some x
get_past [] ys i j x e h = let f : j ≡ i = omega arith in subst (λ z. slice_get ys z ≡ Some x) (sym f) h
get_past (y ∷ xs) ys i zero x e h = absurd (omega arith)
get_past (y ∷ xs) ys i (suc j) x e h = get_past xs ys i j x (omega arith) h

pub get_cases : {X : Type 0} (xs ys : List X) (j : ℕ) (x : X) → slice_get (xs ++ ys) j ≡ Some x → (slice_get xs j ≡ Some x) ⊎ ((i : ℕ) × (j ≡ length xs + i) × (slice_get ys i ≡ Some x))
get_cases [] ys j x h = inr (j, omega arith, h)
get_cases (y ∷ xs) ys zero x h = inl h
get_cases (y ∷ xs) ys (suc j) x h = elim (get_cases xs ys j x h) [ inl e ↦ inl e | inr r ↦ let e = r.1 in inr (r.0, omega arith, r.2) ]

pub times_app : (n : ℕ) (xs ys : List ℕ) → times n (xs ++ ys) ≡ times n xs + times n ys
times_app n [] ys = omega arith
times_app n (x ∷ xs) ys = let r = times_app n xs ys in omega arith

pub times_in_app : (f : Step → List ℕ) (n : ℕ) (xs ys : List Step) → times_in f n (xs ++ ys) ≡ times_in f n xs + times_in f n ys
times_in_app f n [] ys = omega arith
times_in_app f n (x ∷ xs) ys = let r = times_in_app f n xs ys in omega arith

nodes_app : (xs ys : List Part) (n : ℕ) → nodes_of (xs ++ ys) n ≡ (nodes_of xs n || nodes_of ys n)
nodes_app [] ys n = refl
nodes_app (x ∷ xs) ys n = ap (λ z. x.nodes n || z) (nodes_app xs ys n) ∙ or_or (x.nodes n) (nodes_of xs n) (nodes_of ys n)
  where
    or_or : (a b c : Bool) → (a || (b || c)) ≡ ((a || b) || c)
    or_or true b c = refl
    or_or false b c = refl

links_app : (xs ys : List Part) (n : ℕ) → links_of (xs ++ ys) n ≡ (links_of xs n || links_of ys n)
links_app [] ys n = refl
links_app (x ∷ xs) ys n = ap (λ z. x.links n || z) (links_app xs ys n) ∙ or_or (x.links n) (links_of xs n) (links_of ys n)
  where
    or_or : (a b c : Bool) → (a || (b || c)) ≡ ((a || b) || c)
    or_or true b c = refl
    or_or false b c = refl

earlier_more : (parts : List Part) (k l : ℕ) → k ≤ l → (is : List ℕ) (xs : List Part) → AreEarlier parts k is xs → AreEarlier parts l is xs
earlier_more parts k l h [] [] e = tt
earlier_more parts k l h [] (x ∷ xs) e = e
earlier_more parts k l h (i ∷ is) [] e = e
earlier_more parts k l h (i ∷ is) (x ∷ xs) e = let a = e.0 in (omega arith, e.1, earlier_more parts k l h is xs e.2)

pub earlier_app : (parts : List Part) (k : ℕ) (is : List ℕ) (xs : List Part) (js : List ℕ) (ys : List Part) → AreEarlier parts k is xs → AreEarlier parts k js ys → AreEarlier parts k (is ++ js) (xs ++ ys)
earlier_app parts k [] [] js ys e f = f
earlier_app parts k [] (x ∷ xs) js ys e f = absurd e
earlier_app parts k (i ∷ is) [] js ys e f = absurd e
earlier_app parts k (i ∷ is) (x ∷ xs) js ys e f = (e.0, e.1, earlier_app parts k is xs js ys e.2 f)

share_app : (xs ys : List Part) → ShareNothing xs → ShareNothing ys → ((n : ℕ) → IsIn n (nodes_of xs) → IsIn n (nodes_of ys) → ⊥) → ((w : ℕ) → IsIn w (links_of xs) → IsIn w (links_of ys) → ⊥) → ShareNothing (xs ++ ys)
share_app [] ys s t f g = t
share_app (x ∷ xs) ys s t f g = (
  (λ n h k. elim (or_cases (nodes_of xs n) (nodes_of ys n) (sym (nodes_app xs ys n) ∙ k)) [ inl a ↦ s.0 n h a | inr a ↦ f n (or_left (x.nodes n) (nodes_of xs n) h) a ]),
  (λ w h k. elim (or_cases (links_of xs w) (links_of ys w) (sym (links_app xs ys w) ∙ k)) [ inl a ↦ s.1 w h a | inr a ↦ g w (or_left (x.links w) (links_of xs w) h) a ]),
  share_app xs ys s.2 t (λ n h k. f n (or_right (x.nodes n) (nodes_of xs n) h) k) (λ w h k. g w (or_right (x.links w) (links_of xs w) h) k),
)

pub different_of : (ns : List ℕ) → ((j : ℕ) → times j ns ≤ 1) → HaveNoRepeats ns
different_of [] h = tt
different_of (n ∷ ns) h = (
  false_from_ne_true (is_among n ns) (λ a. let t = times_among n ns a in let u = h n in let v = one_same n n refl in omega arith),
  different_of ns (λ j. let u = h j in omega arith),
)

pub or_sum : (b c : Bool) → (b ≡ true → c ≡ true → ⊥) → cond (b || c) 1 0 ≡ cond b 1 0 + cond c 1 0
or_sum true true f = absurd (f refl refl)
or_sum true false f = refl
or_sum false true f = refl
or_sum false false f = refl

abbrev pub Agrees : ℕ → List Part → List Part → Type 0
Agrees k parts all = (i : ℕ) (y : Part) → slice_get parts i ≡ Some y → slice_get all (k + i) ≡ Some y

-- steps from number k on, their parts, and those that no step names
pub record Forest (o : OpenNet) (k : ℕ) (steps : List Step) (parts : List Part) (roots : List ℕ) (tops : List Part) : Type 0 where
  pub same : length parts ≡ length steps
  pub each : (all : List Part) → Agrees k parts all → (i : ℕ) (step : Step) → slice_get steps i ≡ Some step → (y : Part) × (slice_get parts i ≡ Some y) × BuildsPart o all (k + i) step y
  pub earlier : (all : List Part) → Agrees k parts all → AreEarlier all (k + length steps) roots tops
  pub under : (j : ℕ) → j < k → times_in named j steps + times j roots ≡ 0
  pub inside : (j : ℕ) → k ≤ j → j < k + length steps → times_in named j steps + times j roots ≡ 1
  pub over : (j : ℕ) → k + length steps ≤ j → times_in named j steps + times j roots ≡ 0
  pub nodes : (n : ℕ) → times_in own_nodes n steps ≡ cond (nodes_of tops n) 1 0
  pub share : ShareNothing tops

module _ (o : OpenNet) where
  pub nothing : (k : ℕ) → Forest o k [] [] [] []
  nothing k = record {
    same = refl;
    each = λ all a i step h. cc;
    earlier = λ all a. tt;
    under = λ j l. refl;
    inside = λ j l m. absurd (omega arith);
    over = λ j l. refl;
    nodes = λ n. refl;
    share = tt;
  }

  pub beside : (k : ℕ) (s : List Step) (p : List Part) (r : List ℕ) (t : List Part) (s' : List Step) (p' : List Part) (r' : List ℕ) (t' : List Part) → Forest o k s p r t → Forest o (k + length s) s' p' r' t' → ((n : ℕ) → IsIn n (nodes_of t) → IsIn n (nodes_of t') → ⊥) → ((w : ℕ) → IsIn w (links_of t) → IsIn w (links_of t') → ⊥) → Forest o k (s ++ s') (p ++ p') (r ++ r') (t ++ t')
  beside k s p r t s' p' r' t' f g apart links = record {
    same = length_app p p' ∙ (let a = f.same in let b = g.same in sum a b) ∙ sym (length_app s s');
    each = λ all a i step h. elim (get_cases s s' i step h) [
      | inl e ↦
          let x = f.each all (left all a) i step e in
          (x.0, kept_at p p' i x.0 x.1, x.2)
      | inr e ↦
          let x = g.each all (right all a) e.0 step e.2 in
          let q = f.same in
          let z : k + i ≡ k + length s + e.0 = let u = e.1 in omega arith in
          (x.0, get_past p p' e.0 i x.0 (let u = e.1 in omega arith) x.1, subst (λ z. BuildsPart o all z step x.0) (sym z) x.2)
    ];
    earlier = λ all a.
        let l = length_app s s' in
        earlier_app all (k + length (s ++ s')) r t r' t' (earlier_more all (k + length s) (k + length (s ++ s')) (omega arith) r t (f.earlier all (left all a)))
        (earlier_more all (k + length s + length s') (k + length (s ++ s')) (omega arith) r' t' (g.earlier all (right all a)));
    under = λ j l.
        let a = f.under j l in let b = g.under j (omega arith) in let c = times_in_app named j s s' in let d = times_app j r r' in
        omega arith;
    inside = λ j l m.
        let e = length_app s s' in
        let c = times_in_app named j s s' in
        let d = times_app j r r' in
        elim (at_most (k + length s) j) [
          | inl u ↦ let a = f.over j u in let b = g.inside j u (omega arith) in omega arith
          | inr u ↦ let a = f.inside j l u in let b = g.under j u in omega arith
        ];
    over = λ j l.
        let e = length_app s s' in
        let a = f.over j (omega arith) in let b = g.over j (omega arith) in let c = times_in_app named j s s' in let d = times_app j r r' in
        omega arith;
    nodes = λ n. times_in_app own_nodes n s s' ∙ both n (f.nodes n) (g.nodes n) ∙ sym (or_sum (nodes_of t n) (nodes_of t' n) (apart n)) ∙ ap (λ z. cond z 1 0) (sym (nodes_app t t' n));
    share = share_app t t' f.share g.share apart links;
  }
    where
      sum : length p ≡ length s → length p' ≡ length s' → length p + length p' ≡ length s + length s'
      sum a b = omega arith

      both : (n : ℕ) → times_in own_nodes n s ≡ cond (nodes_of t n) 1 0 → times_in own_nodes n s' ≡ cond (nodes_of t' n) 1 0 → times_in own_nodes n s + times_in own_nodes n s' ≡ cond (nodes_of t n) 1 0 + cond (nodes_of t' n) 1 0
      both n a b = omega arith

      left : (all : List Part) → Agrees k (p ++ p') all → Agrees k p all
      left all a i y h = a i y (kept_at p p' i y h)

      right : (all : List Part) → Agrees k (p ++ p') all → Agrees (k + length s) p' all
      right all a i y h =
          let q = f.same in
          let z : k + (length p + i) ≡ k + length s + i = omega arith in
          subst (λ z. slice_get all z ≡ Some y) z (a (length p + i) y (get_past p p' i (length p + i) y refl h))

  -- one more step, which names all roots
  pub close : (k : ℕ) (s : List Step) (p : List Part) (r : List ℕ) (t : List Part) (step : Step) (x : Part) → Forest o k s p r t → named step ≡ r → ((n : ℕ) → times n (own_nodes step) ≡ cond (is_among n (own_nodes step)) 1 0) → ((n : ℕ) → is_among n (own_nodes step) ≡ true → IsIn n (nodes_of t) → ⊥) → ((n : ℕ) → x.nodes n ≡ (is_among n (own_nodes step) || nodes_of t n)) → ((w : ℕ) → x.links w ≡ (is_among w (own_links step) || links_of t w)) → Joins o step t x → Forest o k (s ++ step ∷ []) (p ++ x ∷ []) ((k + length s) ∷ []) (x ∷ [])
  close k s p r t step x f names one fresh nodes links joins = record {
    same = length_app p (x ∷ []) ∙ (let a = f.same in add a) ∙ sym (length_app s (step ∷ []));
    each = λ all a i step' h. elim (get_cases s (step ∷ []) i step' h) [
      | inl e ↦ let y = f.each all (left all a) i step' e in (y.0, kept_at p (x ∷ []) i y.0 y.1, y.2)
      | inr e ↦ last all a i step' e.0 e.1 e.2
    ];
    earlier = λ all a. let l = length_app s (step ∷ []) in let q = f.same in (omega arith, subst (λ z. slice_get all (k + z) ≡ Some x) q (a (length p) x (get_past p (x ∷ []) 0 (length p) x (omega arith) refl)), tt);
    under = λ j l.
        let a = f.under j l in let c = times_in_app named j s (step ∷ []) in let d = ap (times j) names in let e = one_other j (k + length s) (λ z. omega arith) in
        omega arith;
    inside = λ j l m.
        let e = length_app s (step ∷ []) in
        let c = times_in_app named j s (step ∷ []) in
        let d = ap (times j) names in
        elim (same_nat j (k + length s)) [
          | inl u ↦ let a = f.over j (omega arith) in let b = one_same j (k + length s) u in omega arith
          | inr u ↦ let a = f.inside j l (omega arith) in let b = one_other j (k + length s) u in omega arith
        ];
    over = λ j l.
        let e = length_app s (step ∷ []) in
        let a = f.over j (omega arith) in let c = times_in_app named j s (step ∷ []) in let d = ap (times j) names in let g = one_other j (k + length s) (λ z. omega arith) in
        omega arith;
    nodes = λ n. times_in_app own_nodes n s (step ∷ []) ∙ both n (f.nodes n) (one n) ∙ sym (or_sum (is_among n (own_nodes step)) (nodes_of t n) (fresh n)) ∙ ap (λ z. cond z 1 0) (sym (nodes n)) ∙ ap (λ z. cond z 1 0) (end (x.nodes n));
    share = ((λ n h k. not_both false k refl), (λ w h k. not_both false k refl), tt);
  }
    where
      end : (b : Bool) → b ≡ (b || false)
      end true = refl
      end false = refl

      add : length p ≡ length s → length p + 1 ≡ length s + 1
      add a = omega arith

      both : (n : ℕ) → times_in own_nodes n s ≡ cond (nodes_of t n) 1 0 → times n (own_nodes step) ≡ cond (is_among n (own_nodes step)) 1 0 → times_in own_nodes n s + (times n (own_nodes step) + 0) ≡ cond (is_among n (own_nodes step)) 1 0 + cond (nodes_of t n) 1 0
      both n a b = omega arith

      left : (all : List Part) → Agrees k (p ++ x ∷ []) all → Agrees k p all
      left all a i y h = a i y (kept_at p (x ∷ []) i y h)

      few : (j : ℕ) → times j r ≤ 1
      few j = elim (at_most k j) [
        | inl u ↦ elim (at_most (k + length s) j) [ inl v ↦ let a = f.over j v in omega arith | inr v ↦ let a = f.inside j u v in omega arith ]
        | inr u ↦ let a = f.under j u in omega arith
      ]

      last : (all : List Part) → Agrees k (p ++ x ∷ []) all → (i : ℕ) (step' : Step) (l : ℕ) → i ≡ length s + l → slice_get (step ∷ []) l ≡ Some step' → (y : Part) × (slice_get (p ++ x ∷ []) i ≡ Some y) × BuildsPart o all (k + i) step' y
      last all a i step' zero e h =
          let q = f.same in
          let same : step ≡ step' = some_same (Some step) step step' refl h in
          let z : k + i ≡ k + length s = omega arith in (
            x,
            get_past p (x ∷ []) 0 i x (omega arith) refl,
            subst (λ u. BuildsPart o all (k + i) u x) same (record {
              from = t;
              earlier = subst (λ u. AreEarlier all (k + i) u t) (sym names) (subst (λ u. AreEarlier all u r t) (sym z) (f.earlier all (left all a)));
              different = subst HaveNoRepeats (sym names) (different_of r few);
              apart = f.share;
              nodes = nodes;
              links = links;
              joins = joins;
            }),
          )
      last all a i step' (suc l) e h = cc
