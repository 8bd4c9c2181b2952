-- Tests, ports and sums over parts.
use Rattle.std.proofs.Common.{◌≡◌, ◌≢◌, ◌⊎◌, ◌<◌, ◌≤◌, ◌+◌, ℕ, zero, suc, Bool, true, false, cond, ◌||◌, ◌&&◌, nat_eq, Option, Some, None, IsSomeAnd, List, [], ◌∷◌, length, slice_get, refl, sym, subst, ap, inl, inr, ◌∙◌, eq-eqb, eqb-true, ne_eqb, arith}
use Rattle.std.proofs.lemmas.Bool.Decides.{eqb_tells}
use Rattle.std.proofs.lemmas.Option.{slice_get_within}
use Rattle.in_open_nets.specs.declared.open_nets.OpenPoint.{OpenPoint}
use Rattle.in_open_nets.specs.declared.open_nets.OpenPoint.TheVariants.{Port, Free}
use Rattle.in_base.proofs.Places.{some_same}
use Rattle.in_open_nets.specs.Constructions.{IsIn, AreParts, numbered}
use Rattle.in_open_nets.specs.OpenNets.{OpenNet, IsNode, IsOpenPoint}
use Rattle.in_open_nets.specs.Derivations.{Part, one_if, is_port_in, is_principal, is_auxiliary, is_among, nodes_of, ends_of, ShareNothing, AreEarlier}
use Rattle.std.proofs.lemmas.Bool.{and_parts, cond_both, or_cases, or_left, or_right, cases_Bool}

pub both_left : (b c : Bool) → (b && c) ≡ true → b ≡ true
both_left b c h = (and_parts b c h).0

pub both_right : (b c : Bool) → (b && c) ≡ true → c ≡ true
both_right b c h = (and_parts b c h).1

pub not_both : (b : Bool) → b ≡ true → b ≡ false → ⊥
not_both b h k = cc

pub same_test : (b c : Bool) → (b ≡ true → c ≡ true) → (c ≡ true → b ≡ true) → b ≡ c
same_test true c f g = sym (f refl)
same_test false c f g = go (cases_Bool c)
  where
    go : (c ≡ true) ⊎ (c ≡ false) → false ≡ c
    go (inl h) = let k = g h in cc
    go (inr h) = sym h

pub some_of : {X : Type 0} (P : X → Type 0) (o : Option X) → IsSomeAnd o P → (x : X) × (o ≡ Some x) × P x
some_of P None h = absurd h
some_of P (Some x) h = (x, refl, h)

-- the node of a port is one of the net's
pub point_node : (o : OpenNet) (n i : ℕ) → IsOpenPoint o (Port n i) → IsNode o n
point_node o n i h = let m = some_of (λ m. i < length m.class_of) (slice_get o.nodes n) h in slice_get_within o.nodes n m.0 m.1

-- ---- sets of nodes

pub swap_parts : {V : Type 0} (s a b : V → Bool) → AreParts s a b → AreParts s b a
swap_parts s a b parts n = ((λ h. elim ((parts n).0.0 h) [ inl x ↦ inr x | inr y ↦ inl y ], λ h. (parts n).0.1 (elim h [ inl x ↦ inr x | inr y ↦ inl y ])), λ x y. (parts n).1 y x)

pub numbered_is : {V : Type 0} (s : V → Bool) (part : V → ℕ) (c : ℕ) (n : V) → IsIn n (numbered s part c) → part n ≡ c
numbered_is s part c n h = eqb-true (part n) c (both_right (s n) (nat_eq (part n) c) h)

-- a port of s counts once
pub port_yes : (s : ℕ → Bool) (n i : ℕ) → IsIn n s → is_port_in s (Port n i) ≡ 1
port_yes s n i h = rw h refl

pub port_no : (s : ℕ → Bool) (n i : ℕ) → s n ≡ false → is_port_in s (Port n i) ≡ 0
port_no s n i h = rw h refl

pub port_own : (s : ℕ → Bool) (p : OpenPoint) → is_port_in s p ≡ 1 → (n : ℕ) × (i : ℕ) × (p ≡ Port n i) × IsIn n s
port_own s (Port n i) h = go (s n) refl
  where
    go : (b : Bool) → s n ≡ b → (m : ℕ) × (j : ℕ) × ◌≡◌ {A = OpenPoint} (Port n i) (Port m j) × IsIn m s
    go true e = (n, i, refl, e)
    go false e = let k : is_port_in s (Port n i) ≡ 0 = port_no s n i e in absurd (omega arith)
port_own s (Free k) h = absurd (omega arith)

pub port_same : (s t : ℕ → Bool) (p : OpenPoint) → ((n : ℕ) → s n ≡ t n) → is_port_in s p ≡ is_port_in t p
port_same s t (Port n i) h = ap (λ b. cond b 1 0) (h n)
port_same s t (Free k) h = refl

pub port_none : (s : ℕ → Bool) (p : OpenPoint) → ((n : ℕ) → s n ≡ false) → is_port_in s p ≡ 0
port_none s (Port n i) h = port_no s n i (h n)
port_none s (Free k) h = refl

pub port_or : (s t : ℕ → Bool) (p : OpenPoint) → ((n : ℕ) → IsIn n s → IsIn n t → ⊥) → is_port_in (λ n. s n || t n) p ≡ is_port_in s p + is_port_in t p
port_or s t (Port n i) apart = go (s n) (t n) refl refl
  where
    go : (b c : Bool) → s n ≡ b → t n ≡ c → cond (s n || t n) 1 0 ≡ cond (s n) 1 0 + cond (t n) 1 0
    go true true e f = absurd (apart n e f)
    go true false e f = rw (e, f) refl
    go false true e f = rw (e, f) refl
    go false false e f = rw (e, f) refl
port_or s t (Free k) apart = refl

pub own_port : (n : ℕ) (p : OpenPoint) → is_port_in (λ m. nat_eq m n) p ≡ is_principal n p + is_auxiliary n p
own_port n (Port m i) = go (nat_eq i 0)
  where
    go : (b : Bool) → cond (nat_eq m n) 1 0 ≡ cond b (one_if n m) 0 + cond b 0 (one_if n m)
    go true = side m n
      where
        side : (m n : ℕ) → cond (nat_eq m n) 1 0 ≡ cond (nat_eq n m) 1 0 + 0
        side m n = elim (eqb_tells m n) [
          | inl h ↦ let e : nat_eq n m ≡ true = eq-eqb n m (sym h.1) in let f : nat_eq m n ≡ true = h.0 in rw (e, f) refl
          | inr h ↦ let e : nat_eq n m ≡ false = ne_eqb n m (λ k. h.1 (sym k)) in let f : nat_eq m n ≡ false = h.0 in rw (e, f) refl
        ]
    go false = side m n
      where
        side : (m n : ℕ) → cond (nat_eq m n) 1 0 ≡ 0 + cond (nat_eq n m) 1 0
        side m n = elim (eqb_tells m n) [
          | inl h ↦ let e : nat_eq n m ≡ true = eq-eqb n m (sym h.1) in let f : nat_eq m n ≡ true = h.0 in rw (e, f) refl
          | inr h ↦ let e : nat_eq n m ≡ false = ne_eqb n m (λ k. h.1 (sym k)) in let f : nat_eq m n ≡ false = h.0 in rw (e, f) refl
        ]
own_port n (Free k) = refl

pub other_port : (n m i : ℕ) → m ≢ n → is_auxiliary n (Port m i) ≡ 0
other_port n m i h = go (nat_eq i 0)
  where
    go : (b : Bool) → cond b 0 (one_if n m) ≡ 0
    go true = refl
    go false = let e : nat_eq n m ≡ false = ne_eqb n m (λ k. h (sym k)) in rw e refl

pub auxiliary_port : (n i : ℕ) → i ≢ 0 → is_auxiliary n (Port n i) ≡ 1
auxiliary_port n i h =
    let e : nat_eq i 0 ≡ false = ne_eqb i 0 h in
    let f : nat_eq n n ≡ true = eq-eqb n n refl in
    rw (e, f) refl

pub auxiliary_most : (n m i : ℕ) → is_auxiliary n (Port m i) ≤ 1
auxiliary_most n m i = go (nat_eq i 0) (nat_eq n m)
  where
    go : (b c : Bool) → cond b 0 (cond c 1 0) ≤ 1
    go true c = omega arith
    go false true = omega arith
    go false false = omega arith

pub principal_zero : (n : ℕ) → is_auxiliary n (Port n 0) ≡ 0
principal_zero n = refl

pub principal_one : (n : ℕ) → is_principal n (Port n 0) ≡ 1
principal_one n = let f : nat_eq n n ≡ true = eq-eqb n n refl in rw f refl

pub one_same : (n m : ℕ) → n ≡ m → one_if n m ≡ 1
one_same n m h = let e : nat_eq n m ≡ true = eq-eqb n m h in rw e refl

pub one_other : (n m : ℕ) → n ≢ m → one_if n m ≡ 0
one_other n m h = let e : nat_eq n m ≡ false = ne_eqb n m h in rw e refl

pub one_most : (n m : ℕ) → one_if n m ≤ 1
one_most n m = cond_both (nat_eq n m) 1 0 (λ z. z ≤ 1) (λ e. omega arith) (λ e. omega arith)

-- a part of a list has its nodes and ends there
pub in_nodes_of : (xs : List Part) (i : ℕ) (x : Part) (n : ℕ) → slice_get xs i ≡ Some x → IsIn n x.nodes → IsIn n (nodes_of xs)
in_nodes_of [] i x n h k = cc
in_nodes_of (y ∷ ys) zero x n h k = let e : y ≡ x = some_same (Some y) y x refl h in or_left (y.nodes n) (nodes_of ys n) (subst (λ z. IsIn n z.nodes) (sym e) k)
in_nodes_of (y ∷ ys) (suc i) x n h k = or_right (y.nodes n) (nodes_of ys n) (in_nodes_of ys i x n h k)

pub of_nodes : (xs : List Part) (n : ℕ) → IsIn n (nodes_of xs) → (i : ℕ) × (x : Part) × (slice_get xs i ≡ Some x) × IsIn n x.nodes
of_nodes [] n h = cc
of_nodes (y ∷ ys) n h = elim (or_cases (y.nodes n) (nodes_of ys n) h) [ inl k ↦ (0, y, refl, k) | inr k ↦ let r = of_nodes ys n k in (suc r.0, r.1, r.2, r.3) ]

pub ends_most : (xs : List Part) (i : ℕ) (x : Part) (p : OpenPoint) → slice_get xs i ≡ Some x → x.ends p ≤ ends_of xs p
ends_most [] i x p h = cc
ends_most (y ∷ ys) zero x p h =
    let e : y ≡ x = some_same (Some y) y x refl h in
    let f : y.ends p ≡ x.ends p = ap (λ z. z.ends p) e in
    omega arith
ends_most (y ∷ ys) (suc i) x p h = let r = ends_most ys i x p h in omega arith

pub ends_two : (xs : List Part) (i j : ℕ) (x y : Part) (p : OpenPoint) → i ≢ j → slice_get xs i ≡ Some x → slice_get xs j ≡ Some y → x.ends p + y.ends p ≤ ends_of xs p
ends_two [] i j x y p d h k = cc
ends_two (z ∷ zs) zero zero x y p d h k = absurd (d refl)
ends_two (z ∷ zs) zero (suc j) x y p d h k =
    let f : z.ends p ≡ x.ends p = ap (λ z. z.ends p) (some_same (Some z) z x refl h) in
    let r = ends_most zs j y p k in
    omega arith
ends_two (z ∷ zs) (suc i) zero x y p d h k =
    let f : z.ends p ≡ y.ends p = ap (λ z. z.ends p) (some_same (Some z) z y refl k) in
    let r = ends_most zs i x p h in
    omega arith
ends_two (z ∷ zs) (suc i) (suc j) x y p d h k = let r = ends_two zs i j x y p (λ e. d (ap suc e)) h k in omega arith

pub parts_apart : (xs : List Part) → ShareNothing xs → (i j : ℕ) (x y : Part) (n : ℕ) → slice_get xs i ≡ Some x → slice_get xs j ≡ Some y → IsIn n x.nodes → IsIn n y.nodes → i ≡ j
parts_apart [] s i j x y n h k u v = cc
parts_apart (z ∷ zs) s zero zero x y n h k u v = refl
parts_apart (z ∷ zs) s zero (suc j) x y n h k u v = absurd (s.0 n (subst (λ z. IsIn n z.nodes) (sym (some_same (Some z) z x refl h)) u) (in_nodes_of zs j y n k v))
parts_apart (z ∷ zs) s (suc i) zero x y n h k u v = absurd (s.0 n (subst (λ z. IsIn n z.nodes) (sym (some_same (Some z) z y refl k)) v) (in_nodes_of zs i x n h u))
parts_apart (z ∷ zs) s (suc i) (suc j) x y n h k u v = ap suc (parts_apart zs s.2 i j x y n h k u v)

-- the parts of named steps are parts of earlier steps
pub earlier_at : (parts : List Part) (k : ℕ) (is : List ℕ) (xs : List Part) → AreEarlier parts k is xs → (j : ℕ) (x : Part) → slice_get xs j ≡ Some x → (i : ℕ) × (i < k) × (slice_get parts i ≡ Some x) × (is_among i is ≡ true)
earlier_at parts k [] [] e j x h = cc
earlier_at parts k [] (y ∷ ys) e j x h = absurd e
earlier_at parts k (i ∷ is) [] e j x h = absurd e
earlier_at parts k (i ∷ is) (y ∷ ys) e zero x h = (i, e.0, e.1 ∙ h, or_left (nat_eq i i) (is_among i is) (eq-eqb i i refl))
earlier_at parts k (i ∷ is) (y ∷ ys) e (suc j) x h =
    let r = earlier_at parts k is ys e.2 j x h in
    (r.0, r.1, r.2, or_right (nat_eq r.0 i) (is_among r.0 is) r.3)

-- and each named step gives one
pub earlier_of : (parts : List Part) (k : ℕ) (is : List ℕ) (xs : List Part) → AreEarlier parts k is xs → (i : ℕ) → is_among i is ≡ true → (i < k) × ((x : Part) → slice_get parts i ≡ Some x → (j : ℕ) × (slice_get xs j ≡ Some x))
earlier_of parts k [] xs e i h = cc
earlier_of parts k (l ∷ is) [] e i h = absurd e
earlier_of parts k (l ∷ is) (y ∷ ys) e i h =
    elim (or_cases (nat_eq i l) (is_among i is) h) [
      | inl t ↦
          let s : i ≡ l = eqb-true i l t in
          (subst (λ z. z < k) (sym s) e.0, λ x g. (0, ap Some (some_same (slice_get parts l) y x e.1 (subst (λ z. slice_get parts z ≡ Some x) s g))))
      | inr t ↦ let r = earlier_of parts k is ys e.2 i t in (r.0, λ x g. let q = r.1 x g in (suc q.0, q.1))
    ]
