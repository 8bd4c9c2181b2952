-- Leases of an arena in lists: one more, and one fewer.
use Rattle.std.proofs.Common.{◌≡◌, ◌≢◌, ℕ, zero, suc, ◌+◌, ◌<◌, ◌≤◌, eqb, cond, List, [], ◌∷◌, ◌++◌, length, set, get_or, All, Option, Some, None, refl, sym, ap, ◌∙◌, subst, ⊎_elim, arith, length-append, length-set, get_or-set_other}
use Rattle.std.proofs.lemmas.List.{map-append, set_comm, append-nil, append_assoc, get_or_append_left, get_or-append-add, set-set, set-get_or}
use Rattle.std.proofs.lemmas.List.Sums.{sum_by-cons, sum_by-append, sum_by_push}
use Rattle.std.proofs.lemmas.List.Elements.{All-nil, All-cons, All-head, All-tail, All-append, All-push, All-weaker}
use Rattle.std.proofs.lemmas.Bool.{cases_lt, cases_eq}
use Rattle.std.proofs.lemmas.Bool.Decides.{nat_tests}
use Rattle.in_arena.specs.Arenas.{ArenaView, LeaseView, Leases, IsOf, changed, state_at, free_of}
use Rattle.in_arena.specs.Changes.{HasAllCells}
use Rattle.in_arena.specs.Lending.{times, AreOnce, numbers, all_set, with_all, put_all, with_put, AreOf, Lends, LendsMore, LeaseLends, LendingsJoin, LendingGoesBack}
use Rattle.in_arena.specs.States.{State, Vacant, Leased}
use Rattle.in_arena.specs.declared.content.CellClass.{CellClass}
use Rattle.in_arena.proofs.Changes.{lease_takes_one}

-- ---- how often a number is in a list

-- one for this number
abbrev pub one_at : ℕ → ℕ → ℕ
one_at n k = cond (eqb k n) 1 0

pub times-cons : (n m : ℕ) (ns : List ℕ) → times n (m ∷ ns) ≡ cond (eqb m n) 1 0 + times n ns
times-cons n m ns = sum_by-cons (λ k. cond (eqb k n) 1 0) m ns

pub times_push : (n : ℕ) (ns : List ℕ) (m : ℕ) → times n (ns ++ m ∷ []) ≡ times n ns + cond (eqb m n) 1 0
times_push n ns m = sum_by_push (λ k. cond (eqb k n) 1 0) ns m

pub one_is : (m n : ℕ) → m ≡ n → Path ℕ (cond (eqb m n) 1 0) 1
one_is m n e = grind (arith, nat_tests)

pub none_is : (m n : ℕ) → m ≢ n → Path ℕ (cond (eqb m n) 1 0) 0
none_is m n e = grind (arith, nat_tests)

pub at_most_one : (m n : ℕ) → cond (eqb m n) 1 0 ≤ 1
at_most_one m n = grind (arith, nat_tests)

pub each_stands : (ns : List ℕ) → All (λ n. 0 < times n ns) ns
each_stands [] = All-nil (λ n. 0 < times n [])
each_stands (m ∷ ns) =
    All-cons (λ n. 0 < times n (m ∷ ns)) m ns (omega (arith, times-cons m m ns, one_is m m refl))
    (All-weaker (λ n. 0 < times n ns) (λ n. 0 < times n (m ∷ ns)) (λ n lt. omega (arith, times-cons n m ns, lt)) ns (each_stands ns))

-- a number that is in none of the places at which P holds
pub not_among : (P : ℕ → Type 0) (ns : List ℕ) (n : ℕ) → All P ns → (P n → ⊥) → times n ns ≡ 0
not_among P [] n all ne = refl
not_among P (m ∷ ns) n all ne =
    let rest = not_among P ns n (All-tail P m ns all) ne in
    let head : m ≢ n = λ e. ne (subst P e (All-head P m ns all)) in
    omega (arith, times-cons n m ns, none_is m n head, rest)

-- ---- several places of a list

pub all_set-push : (xs : List State) (ns : List ℕ) (n : ℕ) (x : State) → all_set xs (ns ++ n ∷ []) x ≡ set (all_set xs ns x) n x
all_set-push xs [] n x = refl
all_set-push xs (m ∷ ns) n x = all_set-push (set xs m x) ns n x

pub all_set-append : (xs : List State) (ns ms : List ℕ) (x : State) → all_set xs (ns ++ ms) x ≡ all_set (all_set xs ns x) ms x
all_set-append xs [] ms x = refl
all_set-append xs (n ∷ ns) ms x = all_set-append (set xs n x) ns ms x

pub set_twice : (xs : List State) (n m : ℕ) (x : State) → set (set xs n x) m x ≡ set (set xs m x) n x
set_twice xs n m x = ⊎_elim (λ (e : n ≡ m). ap (λ k. set (set xs n x) k x) (sym e) ∙ ap (λ k. set (set xs k x) n x) e) (λ (ne : n ≢ m). set_comm xs n m x x ne) (cases_eq n m)

-- the last of the places may be the first
pub all_set-first : (xs : List State) (ns : List ℕ) (n : ℕ) (x : State) → all_set (set xs n x) ns x ≡ all_set xs (ns ++ n ∷ []) x
all_set-first xs [] n x = refl
all_set-first xs (m ∷ ns) n x = ap (λ l. all_set l ns x) (set_twice xs n m x) ∙ all_set-first (set xs m x) ns n x

pub length-all_set : (xs : List State) (ns : List ℕ) (x : State) → length (all_set xs ns x) ≡ length xs
length-all_set xs [] x = refl
length-all_set xs (n ∷ ns) x = length-all_set (set xs n x) ns x ∙ length-set xs n x

-- the state at a place that isn't listed stays
pub all_set-other : (xs : List State) (ns : List ℕ) (n : ℕ) (x d : State) → times n ns ≡ 0 → get_or (all_set xs ns x) n d ≡ get_or xs n d
all_set-other xs [] n x d none = refl
all_set-other xs (m ∷ ns) n x d none =
    let ne : n ≢ m = λ (e : n ≡ m). absurd (omega (arith, times-cons n m ns, none, one_is m n (sym e))) in
    all_set-other (set xs m x) ns n x d (omega (arith, times-cons n m ns, none)) ∙ get_or-set_other xs m n x d ne

pub changed_all : (a : ArenaView) (ns : List ℕ) (n : ℕ) (x : State) → changed (with_all a ns x) n x ≡ with_all a (ns ++ n ∷ []) x
changed_all a ns n x = λ i. record { memory = a.memory; cells = a.cells; states = sym (all_set-push a.states ns n x) i }

pub all_changed : (a : ArenaView) (ns : List ℕ) (n : ℕ) (x : State) → with_all (changed a n x) ns x ≡ with_all a (ns ++ n ∷ []) x
all_changed a ns n x = λ i. record { memory = a.memory; cells = a.cells; states = all_set-first a.states ns n x i }

pub with_append : (a : ArenaView) (ns ms : List ℕ) (x : State) → with_all (with_all a ns x) ms x ≡ with_all a (ns ++ ms) x
with_append a ns ms x = λ i. record { memory = a.memory; cells = a.cells; states = sym (all_set-append a.states ns ms x) i }

-- ---- facts of all numbers of leases

pub all_numbers : (P : ℕ → Type 0) (ls : List LeaseView) → All (λ (l : LeaseView). P l.number) ls → All P (numbers ls)
all_numbers P [] all = All-nil P
all_numbers P (l ∷ ls) all = All-cons P l.number (numbers ls) (all 0 l (omega arith)) (all_numbers P ls (All-tail (λ (m : LeaseView). P m.number) l ls all))

pub all_leases : (P : ℕ → Type 0) (ls : List LeaseView) → All P (numbers ls) → All (λ (l : LeaseView). P l.number) ls
all_leases P [] all = All-nil (λ (l : LeaseView). P l.number)
all_leases P (l ∷ ls) all = All-cons (λ (m : LeaseView). P m.number) l ls (All-head P l.number (numbers ls) all) (all_leases P ls (All-tail P l.number (numbers ls) all))

-- a property of each place is one of a number that is in the list
pub among : (P : ℕ → Type 0) (ns : List ℕ) (n : ℕ) → All P ns → 0 < times n ns → P n
among P [] n all some = absurd (omega arith)
among P (m ∷ ns) n all some =
    ⊎_elim (λ (e : m ≡ n). subst P e (All-head P m ns all))
    (λ (ne : m ≢ n). among P ns n (All-tail P m ns all) (omega (arith, times-cons n m ns, none_is m n ne)))
    (cases_eq m n)

-- a number that is not in the list differs from each in it
pub apart : (ns : List ℕ) (n : ℕ) → times n ns ≡ 0 → All (λ m. m ≢ n) ns
apart [] n none = All-nil (λ m. m ≢ n)
apart (m ∷ ns) n none =
    All-cons (λ k. k ≢ n) m ns (λ (e : m ≡ n). absurd (omega (arith, times-cons n m ns, one_is m n e))) (apart ns n (omega (arith, times-cons n m ns)))

pub numbers-append : (ls ms : List LeaseView) → numbers (ls ++ ms) ≡ numbers ls ++ numbers ms
numbers-append ls ms = map-append (λ (l : LeaseView). l.number) ls ms

vacant_or_leased : Vacant ≡ Leased → ⊥
vacant_or_leased e = cc

-- ---- a lease stays one of its arena

-- if other cells change
pub still_of : (a : ArenaView) (l : LeaseView) (ns : List ℕ) (x : State) → IsOf l a → times l.number ns ≡ 0 → IsOf l (with_all a ns x)
still_of a l ns x is other = record { memory = is.memory; cells = is.cells; number = is.number; leased = all_set-other a.states ns l.number x Leased other ∙ is.leased }

-- a cell that is on lease stays so after any others are leased
leased_still : (xs : List State) (ns : List ℕ) (n : ℕ) → get_or xs n Leased ≡ Leased → get_or (all_set xs ns Leased) n Leased ≡ Leased
leased_still xs [] n is = is
leased_still xs (m ∷ ns) n is = leased_still (set xs m Leased) ns n (⊎_elim (λ (e : n ≡ m). ap (λ k. get_or (set xs m Leased) k Leased) e ∙ stays xs m) (λ (ne : n ≢ m). get_or-set_other xs m n Leased Leased ne ∙ is) (cases_eq n m))
  where
    stays : (ys : List State) (k : ℕ) → get_or (set ys k Leased) k Leased ≡ Leased
    stays [] k = refl
    stays (y ∷ ys) zero = refl
    stays (y ∷ ys) (suc k) = stays ys k

-- .. and if any cells are leased
pub still_leased : (a : ArenaView) (l : LeaseView) (ns : List ℕ) → IsOf l a → IsOf l (with_all a ns Leased)
still_leased a l ns is = record { memory = is.memory; cells = is.cells; number = is.number; leased = leased_still a.states ns l.number is.leased }

leased_numbers : (a : ArenaView) (ls : List LeaseView) → All (λ (l : LeaseView). IsOf l a) ls → All (λ n. state_at a n ≡ Leased) (numbers ls)
leased_numbers a ls each = all_numbers (λ n. state_at a n ≡ Leased) ls (All-weaker (λ (l : LeaseView). IsOf l a) (λ (l : LeaseView). state_at a l.number ≡ Leased) (λ l is. is.leased) ls each)

-- ---- leases are made one after another

pub lends_none : (a : ArenaView) → Lends a a []
lends_none a = record { arena = refl; free = All-nil (λ n. state_at a n ≡ Vacant); of = record { each = All-nil (λ (l : LeaseView). IsOf l a); once = λ n. omega arith } }

pub lends_one : LeaseLends
lends_one a b c l made =
    let n = l.number in
    record {
      arena = made.3;
      free = All-cons (λ k. state_at a k ≡ Vacant) n [] made.2 (All-nil (λ k. state_at a k ≡ Vacant));
      of = record {
        each = All-cons (λ (l : LeaseView). IsOf l b) l [] made.4 (All-nil (λ (l : LeaseView). IsOf l b));
        once = λ k. omega (arith, times-cons k n [], at_most_one n k);
      };
    }

pub lends_append : LendingsJoin
lends_append a b c ls ms first second =
    let there = leased_numbers b ls first.of.each in
    let before : (j : ℕ) → state_at b j ≡ Vacant → times j (numbers ls) ≡ 0 = λ j free. not_among (λ k. state_at b k ≡ Leased) (numbers ls) j there (λ leased. vacant_or_leased (sym free ∙ leased)) in
    let free_before : (j : ℕ) → state_at b j ≡ Vacant → state_at a j ≡ Vacant =
    λ j free. sym (ap (λ (v : ArenaView). state_at v j) first.arena ∙ all_set-other a.states (numbers ls) j Leased Leased (before j free)) ∙ free
    in
    record {
      arena = second.arena ∙ ap (λ (v : ArenaView). with_all v (numbers ms) Leased) first.arena ∙ with_append a (numbers ls) (numbers ms) Leased
          ∙ ap (λ ns. with_all a ns Leased) (sym (numbers-append ls ms));
      free = subst (All (λ n. state_at a n ≡ Vacant)) (sym (numbers-append ls ms))
          (All-append (λ n. state_at a n ≡ Vacant) (numbers ls) (numbers ms) first.free
          (All-weaker (λ n. state_at b n ≡ Vacant) (λ n. state_at a n ≡ Vacant) free_before (numbers ms) second.free));
      of = record {
        each = All-append (λ (l : LeaseView). IsOf l c) ls ms
            (All-weaker (λ (l : LeaseView). IsOf l b) (λ (l : LeaseView). IsOf l c) (λ l is. subst (λ v. IsOf l v) (sym second.arena) (still_leased b l (numbers ms) is)) ls first.of.each) second.of.each;
        once = λ j.
            let sum : times j (numbers (ls ++ ms)) ≡ times j (numbers ls) + times j (numbers ms) = ap (times j) (numbers-append ls ms) ∙ sum_by-append (one_at j) (numbers ls) (numbers ms) in
            let one = first.of.once j in let other = second.of.once j in
            ⊎_elim (λ (lt : 0 < times j (numbers ms)).
            let none = before j (among (λ n. state_at b n ≡ Vacant) (numbers ms) j second.free lt) in omega arith)
            (λ (ge : times j (numbers ms) ≤ 0). omega arith)
            (cases_lt 0 (times j (numbers ms)));
      };
    }

pub none_more : (old : List LeaseView) (a : ArenaView) (c : CellClass) → LendsMore old a c 0 old a
none_more old a c = record {
  more = [];
  list = sym (append-nil old);
  long = refl;
  of_class = All-nil (λ (l : LeaseView). l.class ≡ c);
  lends = lends_none a;
  free = omega arith;
  others = λ d ne. refl;
}

pub one_more : (old : List LeaseView) (a : ArenaView) (c : CellClass) (k : ℕ) (xs ys : List LeaseView) (b d : ArenaView) (r : Option LeaseView) (l : LeaseView) →
    HasAllCells b → LendsMore old a c k xs b → Leases b c r d → r ≡ Some l → ys ≡ xs ++ l ∷ [] → LendsMore old a c (k + 1) ys d
one_more old a c k xs ys b d r l all m leases is pushed =
    let made = subst (λ (o : Option LeaseView). Leases b c o d) is leases in
    let less = lease_takes_one b d c l all made in
    record {
      more = m.more ++ l ∷ [];
      list = pushed ∙ ap (λ zs. zs ++ l ∷ []) m.list ∙ append_assoc old m.more (l ∷ []);
      long = omega (arith, length-append m.more (l ∷ []), m.long);
      of_class = All-push (λ (v : LeaseView). v.class ≡ c) m.more l m.of_class made.0;
      lends = lends_append a b d m.more (l ∷ []) m.lends (lends_one b d c l made);
      free = let one = less.0 in omega (arith, m.free, one);
      others = λ e ne. less.1 e ne ∙ m.others e ne;
    }

-- a lease is made as long as fewer are made than cells were free
pub some_left : (old : List LeaseView) (a : ArenaView) (c : CellClass) (k count : ℕ) (xs : List LeaseView) (b d : ArenaView) (r : Option LeaseView) →
    LendsMore old a c k xs b → count ≤ free_of a c → k < count → Leases b c r d → r ≡ None → ⊥
some_left old a c k count xs b d r m free lt leases is =
    let none = subst (λ (o : Option LeaseView). Leases b c o d) is leases in omega (arith, m.free, none.0)

-- ---- leases are given back one after another

pub one_back : (a b : ArenaView) (xs ys : List LeaseView) (l : LeaseView) (x : State) → AreOf a xs → xs ≡ ys ++ l ∷ [] → b ≡ changed a l.number x → AreOf b ys
one_back a b xs ys l x of split new =
    let all = subst (AreOf a) split of in
    let n = l.number in
    let ns = numbers ys in
    let sum : (j : ℕ) → times j (numbers (ys ++ l ∷ [])) ≡ times j ns + cond (eqb n j) 1 0 = λ j. ap (times j) (numbers-append ys (l ∷ [])) ∙ times_push j ns n in
    let none : times n ns ≡ 0 = omega (arith, sum n, one_is n n refl, all.once n) in
    let here : All (λ (l : LeaseView). IsOf l a) ys = λ i d lt. subst (λ (l : LeaseView). IsOf l a) (get_or_append_left ys (l ∷ []) d i lt) (all.each i d (omega (arith, length-append ys (l ∷ [])))) in
    let others = all_leases (λ m. m ≢ n) ys (apart ns n none) in
    record {
      each = λ i d lt. subst (λ v. IsOf (get_or ys i d) v) (sym new)
          (still_of a (get_or ys i d) (n ∷ []) x (here i d lt)
          (omega (arith, times-cons (get_or ys i d).number n [], none_is n (get_or ys i d).number (λ (e : n ≡ (get_or ys i d).number). others i d lt (sym e)))));
      once = λ j. omega (arith, sum j, all.once j);
    }

pub left_back : (a b c : ArenaView) (xs ys : List LeaseView) (l : LeaseView) → xs ≡ ys ++ l ∷ [] → b ≡ changed a l.number Vacant → with_all a (numbers xs) Vacant ≡ c → with_all b (numbers ys) Vacant ≡ c
left_back a b c xs ys l split new left =
    ap (λ (v : ArenaView). with_all v (numbers ys) Vacant) new ∙ all_changed a (numbers ys) l.number Vacant
    ∙ ap (λ ns. with_all a ns Vacant) (sym (numbers-append ys (l ∷ [])) ∙ ap numbers (sym split)) ∙ left

-- leases in two lists, of which those of the first are given back
pub first_of : (a : ArenaView) (xs ys : List LeaseView) → AreOf a (xs ++ ys) → AreOf a xs
first_of a xs ys all = record {
  each = λ i d lt. subst (λ (l : LeaseView). IsOf l a) (get_or_append_left xs ys d i lt) (all.each i d (omega (arith, length-append xs ys)));
  once = λ j. omega (arith, all.once j, ap (times j) (numbers-append xs ys), sum_by-append (one_at j) (numbers xs) (numbers ys));
}

pub second_of : (a : ArenaView) (xs ys : List LeaseView) → AreOf a (xs ++ ys) → AreOf a ys
second_of a xs ys all = record {
  each = λ i d lt. subst (λ (l : LeaseView). IsOf l a) (get_or-append-add xs ys i d) (all.each (length xs + i) d (omega (arith, length-append xs ys)));
  once = λ j. omega (arith, all.once j, ap (times j) (numbers-append xs ys), sum_by-append (one_at j) (numbers xs) (numbers ys));
}

pub rest_of : (a b : ArenaView) (xs ys : List LeaseView) (x : State) → AreOf a (xs ++ ys) → b ≡ with_all a (numbers xs) x → AreOf b ys
rest_of a b xs ys x all new =
    let rest = second_of a xs ys all in
    let here : All (λ (l : LeaseView). 0 < times l.number (numbers ys)) ys = all_leases (λ n. 0 < times n (numbers ys)) ys (each_stands (numbers ys)) in
    record {
      each = λ i d lt. subst (λ v. IsOf (get_or ys i d) v) (sym new)
          (still_of a (get_or ys i d) (numbers xs) x (rest.each i d lt)
          (let j = (get_or ys i d).number in omega (arith, here i d lt, all.once j, ap (times j) (numbers-append xs ys), sum_by-append (one_at j) (numbers xs) (numbers ys))));
      once = rest.once;
    }

pub both_back : (a b c : ArenaView) (xs ys : List LeaseView) → b ≡ with_all a (numbers xs) Vacant → c ≡ with_all b (numbers ys) Vacant → c ≡ with_all a (numbers (xs ++ ys)) Vacant
both_back a b c xs ys one other =
    other ∙ ap (λ (v : ArenaView). with_all v (numbers ys) Vacant) one ∙ with_append a (numbers xs) (numbers ys) Vacant ∙ ap (λ ns. with_all a ns Vacant) (sym (numbers-append xs ys))

-- ---- leases are settled one after another

put_first : (xs : List State) (ls : List LeaseView) (l : LeaseView) → times l.number (numbers ls) ≡ 0 → put_all (set xs l.number l.state) ls ≡ put_all xs (ls ++ l ∷ [])
put_first xs [] l none = refl
put_first xs (m ∷ ms) l none =
    let differ : l.number ≢ m.number = λ (e : l.number ≡ m.number). absurd (omega (arith, times-cons l.number m.number (numbers ms), none, one_is m.number l.number (sym e))) in
    ap (λ zs. put_all zs ms) (set_comm xs l.number m.number l.state m.state differ) ∙ put_first (set xs m.number m.state) ms l (omega (arith, times-cons l.number m.number (numbers ms), none))

pub left_put : (a b c : ArenaView) (xs ys : List LeaseView) (l : LeaseView) → AreOf a xs → xs ≡ ys ++ l ∷ [] → b ≡ changed a l.number l.state → with_put a xs ≡ c → with_put b ys ≡ c
left_put a b c xs ys l of split new left =
    let once = (subst (AreOf a) split of).once l.number in
    let none : times l.number (numbers ys) ≡ 0 = omega (arith, once, ap (times l.number) (numbers-append ys (l ∷ [])), times_push l.number (numbers ys) l.number, one_is l.number l.number refl) in
    ap (λ (v : ArenaView). with_put v ys) new
    ∙ (λ i. record { memory = a.memory; cells = a.cells; states = put_first a.states ys l none i })
    ∙ ap (with_put a) (sym split) ∙ left

-- ---- all leases are given back

set_apart : (xs : List State) (ns : List ℕ) (n : ℕ) (x y : State) → times n ns ≡ 0 → set (all_set xs ns x) n y ≡ all_set (set xs n y) ns x
set_apart xs [] n x y none = refl
set_apart xs (m ∷ ns) n x y none =
    let differ : m ≢ n = λ (e : m ≡ n). absurd (omega (arith, times-cons n m ns, none, one_is m n e)) in
    set_apart (set xs m x) ns n x y (omega (arith, times-cons n m ns, none)) ∙ ap (λ l. all_set l ns x) (set_comm xs m n x y differ)

all_twice : (xs : List State) (ns : List ℕ) (x y : State) → AreOnce ns → all_set (all_set xs ns x) ns y ≡ all_set xs ns y
all_twice xs [] x y once = refl
all_twice xs (n ∷ ns) x y once =
    let none : times n ns ≡ 0 = omega (arith, times-cons n n ns, one_is n n refl, once n) in
    ap (λ l. all_set l ns y) (set_apart (set xs n x) ns n x y none ∙ ap (λ l. all_set l ns x) (set-set xs n x y))
    ∙ all_twice (set xs n y) ns x y (λ m. omega (arith, times-cons m n ns, once m))

all_already : (xs : List State) (ns : List ℕ) (y : State) → All (λ n. get_or xs n Leased ≡ y) ns → all_set xs ns y ≡ xs
all_already xs [] y all = refl
all_already xs (n ∷ ns) y all =
    let first = All-head (λ m. get_or xs m Leased ≡ y) n ns all in
    let same : set xs n y ≡ xs = ap (set xs n) (sym first) ∙ set-get_or xs n Leased in
    ap (λ l. all_set l ns y) same ∙ all_already xs ns y (All-tail (λ m. get_or xs m Leased ≡ y) n ns all)

pub goes_back : LendingGoesBack
goes_back a b ls lends =
    let ns = numbers ls in
    ap (λ (v : ArenaView). with_all v ns Vacant) lends.arena
    ∙ (λ i. record { memory = a.memory; cells = a.cells; states = (all_twice a.states ns Leased Vacant lends.of.once ∙ all_already a.states ns Vacant lends.free) i })
