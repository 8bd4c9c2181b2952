-- Sets that are kept by marks.
use Rattle.std.proofs.Common.{◌≡◌, ◌<◌, ◌≤◌, ◌+◌, ◌^◌, ◌∙◌, ℕ, zero, suc, Bool, true, false, nat_eq, List, [], ◌∷◌, None, length, slice_get, get_or, refl, sym, subst, ap, inl, inr, arith}
use Rattle.std.proofs.Math.ListN.{set}
use Rattle.std.proofs.lemmas.Bool.{eq-eqb, ne_eqb}
use Rattle.std.proofs.lemmas.List.{length-map, length-set, map-set, set-get_or}
use Rattle.in_open_nets.specs.Members.{AreMarks, marked, missing, nodes_in}
use Rattle.in_open_nets.proofs.PartsOf.Absent.{missing_cleared}
use Rattle.in_open_nets.proofs.Reached.Links.{same_nat}
use Rattle.in_open_nets.proofs.Reached.Reaching.{missing_set}
use Rattle.in_open_nets.proofs.PartsOf.Places.{at_other, at_set}

pub no_mark : (last : ℕ) (ms : List ℕ) (n : ℕ) → slice_get ms n ≡ None → nodes_in (marked last ms) n ≡ false
no_mark last [] n e = refl
no_mark last (k ∷ ks) zero e = cc
no_mark last (k ∷ ks) (suc n) e = no_mark last ks n e

pub marked_many : (last : ℕ) (ms : List ℕ) → length (marked last ms) ≡ length ms
marked_many last ms = length-map ms (λ m. nat_eq m last)

pub marked_set : (last : ℕ) (ms : List ℕ) (n m : ℕ) → marked last (set ms n m) ≡ set (marked last ms) n (nat_eq m last)
marked_set last ms n m = map-set (λ m. nat_eq m last) ms n m

-- one more has the last mark, or one less
module _ (ms : List ℕ) (last absent : ℕ) (h : AreMarks ms last absent) (n : ℕ) (small : n < length ms) where
  put : (m k : ℕ) → m ≤ last → k ≡ missing (marked last (set ms n m)) → AreMarks (set ms n m) last k
  put m k low e = record {
    some = h.some;
    most = λ i. elim (same_nat i n) [
      | inl f ↦ let a = at_set ms n m 0 i small f in omega arith
      | inr d ↦ let a = at_other ms n m 0 i d in let b = h.most i in omega arith
    ];
    absent = e;
    few = let a = length-set ms n m in let b = h.few in omega arith;
  }

  pub marked_in : marked last (set ms n last) ≡ set (marked last ms) n true
  marked_in = marked_set last ms n last ∙ ap (set (marked last ms) n) (eq-eqb last last refl)

  pub marked_out : marked last (set ms n 0) ≡ set (marked last ms) n false
  marked_out = marked_set last ms n 0 ∙ ap (set (marked last ms) n) (ne_eqb 0 last (let a = h.some in omega arith))

  pub fewer : nodes_in (marked last ms) n ≡ false → missing (set (marked last ms) n true) + 1 ≡ absent
  fewer out = let l = marked_many last ms in let a = missing_set (marked last ms) n (omega arith) out in let b = h.absent in omega arith

  pub more : nodes_in (marked last ms) n ≡ true → missing (set (marked last ms) n false) ≡ absent + 1
  more here = let a = missing_cleared (marked last ms) n here in let b = h.absent in omega arith

  pub put_in : (k : ℕ) → nodes_in (marked last ms) n ≡ false → k + 1 ≡ absent → AreMarks (set ms n last) last k
  put_in k out e = put last k (omega arith) (let a = fewer out in let b = ap missing marked_in in omega arith)

  pub put_out : (k : ℕ) → nodes_in (marked last ms) n ≡ true → k ≡ absent + 1 → AreMarks (set ms n 0) last k
  put_out k here e = put 0 k (omega arith) (let a = more here in let b = ap missing marked_out in omega arith)

-- no number has a mark after the last one
pub none_marked : (last : ℕ) (ms : List ℕ) → ((n : ℕ) → get_or ms n 0 ≤ last) → (n : ℕ) → nodes_in (marked (last + 1) ms) n ≡ false
none_marked last [] most n = refl
none_marked last (k ∷ ks) most zero = ne_eqb k (last + 1) (λ e. let a = most 0 in omega arith)
none_marked last (k ∷ ks) most (suc n) = none_marked last ks (λ n. most (suc n)) n

missing_off : (xs : List Bool) → ((n : ℕ) → nodes_in xs n ≡ false) → missing xs ≡ length xs
missing_off [] off = refl
missing_off (true ∷ xs) off = absurd (let a = off 0 in cc)
missing_off (false ∷ xs) off = let a = missing_off xs (λ n. off (suc n)) in omega arith

pub marks_next : (ms : List ℕ) (last absent : ℕ) → AreMarks ms last absent → AreMarks ms (last + 1) (length ms)
marks_next ms last absent h = record {
  some = omega arith;
  most = λ n. let a = h.most n in omega arith;
  absent = sym (missing_off (marked (last + 1) ms) (none_marked last ms h.most) ∙ marked_many (last + 1) ms);
  few = h.few;
}

-- all marks are 0
pub marks_first : (n : ℕ) (ms : List ℕ) → n < 2 ^ 64 → length ms ≡ n → ((i : ℕ) → get_or ms i 0 ≤ 0) → AreMarks ms 1 n
marks_first n ms few size none = record {
  some = omega arith;
  most = λ i. let a = none i in omega arith;
  absent = sym (missing_off (marked 1 ms) (none_marked 0 ms none) ∙ marked_many 1 ms ∙ size);
  few = omega arith;
}

-- a number of the set is one of the marks
pub has_mark : (last : ℕ) (ms : List ℕ) (now : List Bool) (n : ℕ) → marked last ms ≡ now → n < length now → n < length ms
has_mark last ms now n e l = let a = marked_many last ms in let b = ap length e in omega arith

-- right marks stay right
pub same_set : (bits : List Bool) (n : ℕ) (b : Bool) → nodes_in bits n ≡ b → bits ≡ set bits n b
same_set bits n b e = sym (subst (λ z. set bits n z ≡ bits) e (set-get_or bits n false))
