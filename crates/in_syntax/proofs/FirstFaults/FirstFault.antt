-- The first fault of all, from the first of each code.
use Rattle.std.proofs.Common.{◌≡◌, ◌⊎◌, ◌<◌, ◌≤◌, Bool, true, false, Option, Some, None, nat_lt, if◌then◌else◌, refl, sym, ◌∙◌, subst, inl, inr, ap, arith, ltb-true, ltb-false}
use Rattle.in_syntax.specs.declared.faults.Code.{Code}
use Rattle.in_syntax.specs.declared.faults.Refusal.{Refusal}
use Rattle.in_syntax.specs.declared.places.Place.{Place}
use Rattle.in_syntax.specs.Refusals.{code_number, IsNoLater, IsFirstOf, refused, earlier_refusal}
use Rattle.in_syntax.proofs.FirstFaults.Least.{IsLeast}

-- the first of the faults F, if there is any
abbrev pub IsFirst : (Code → Place → Type 0) → Option Refusal → Type 0
IsFirst F None = (c : Code) (q : Place) → F c q → ⊥
IsFirst F (Some r) = F r.code r.place × ((d : Code) (q : Place) → F d q → IsNoLater r.code r.place d q) × (let nothing : Option Place = None in r.other ≡ nothing)

pub first_same : (F G : Code → Place → Type 0) (o : Option Refusal) → ((c : Code) (q : Place) → F c q → G c q) → ((c : Code) (q : Place) → G c q → F c q) → IsFirst F o → IsFirst G o
first_same F G None to back none = λ c q h. none c q (back c q h)
first_same F G (Some r) to back first = (to r.code r.place first.0, (λ d q h. first.1 d q (back d q h)), first.2)

later_by : (c : Code) (p : Place) (d : Code) (q : Place) → p.from ≤ q.from → code_number c ≤ code_number d → (b : Bool) → nat_lt p.from q.from ≡ b → IsNoLater c p d q
later_by c p d q le low true is = inl (ltb-true p.from q.from is)
later_by c p d q le low false is = inr (omega (arith, le, ltb-false p.from q.from is), low)

no_later : (c : Code) (p : Place) (d : Code) (q : Place) → p.from ≤ q.from → code_number c ≤ code_number d → IsNoLater c p d q
no_later c p d q le low = later_by c p d q le low (nat_lt p.from q.from) refl

from_of : (c : Code) (p : Place) (d : Code) (q : Place) → IsNoLater c p d q → p.from ≤ q.from
from_of c p d q (inl h) = omega (arith, h)
from_of c p d q (inr h) = omega (arith, h.0)

-- the faults of one code
pub first_refused : (k : Code) (P : Place → Type 0) (o : Option Place) → IsLeast P o → IsFirst (λ c q. (c ≡ k) × P q) (refused k o)
first_refused k P None none = λ c q h. none q h.1
first_refused k P (Some p) least = ((refl, least.0), (λ d q h. no_later k p d q (least.1 q h.1) (omega (arith, ap code_number h.0))), refl)

-- the codes of the first faults are no higher
abbrev pub AreLower : (Code → Place → Type 0) → (Code → Place → Type 0) → Type 0
AreLower F G = (c : Code) (p : Place) (d : Code) (q : Place) → F c p → G d q → code_number c ≤ code_number d

-- no later than the faults of either kind
of_either : (F G : Code → Place → Type 0) (r : Refusal) → ((d : Code) (q : Place) → F d q → IsNoLater r.code r.place d q) → ((d : Code) (q : Place) → G d q → IsNoLater r.code r.place d q) →
    (d : Code) (q : Place) → F d q ⊎ G d q → IsNoLater r.code r.place d q
of_either F G r one other d q (inl h) = one d q h
of_either F G r one other d q (inr h) = other d q h

two_by : (F G : Code → Place → Type 0) → AreLower F G → (r s : Refusal) → IsFirst F (Some r) → IsFirst G (Some s) → (b : Bool) → nat_lt s.place.from r.place.from ≡ b →
    IsFirst (λ c q. F c q ⊎ G c q) (if b then Some s else Some r)
two_by F G lower r s first second true is = (inr second.0, of_either F G s (λ d q h. inl (omega (arith, from_of r.code r.place d q (first.1 d q h), ltb-true s.place.from r.place.from is))) second.1, second.2)
two_by F G lower r s first second false is = (
  inl first.0,
  of_either F G r first.1 (λ d q h. no_later r.code r.place d q (omega (arith, from_of s.code s.place d q (second.1 d q h), ltb-false s.place.from r.place.from is)) (lower r.code r.place d q first.0 h)),
  first.2,
)

pub first_of_two : (F G : Code → Place → Type 0) → AreLower F G → (a b : Option Refusal) → IsFirst F a → IsFirst G b → IsFirst (λ c q. F c q ⊎ G c q) (earlier_refusal a b)
first_of_two F G lower None None none other = λ c q h. neither c q h
  where
    neither : (c : Code) (q : Place) → F c q ⊎ G c q → ⊥
    neither c q (inl h) = none c q h
    neither c q (inr h) = other c q h
first_of_two F G lower None (Some s) none second = (inr second.0, of_either F G s (λ d q h. absurd (none d q h)) second.1, second.2)
first_of_two F G lower (Some r) None first none = (inl first.0, of_either F G r first.1 (λ d q h. absurd (none d q h)), first.2)
first_of_two F G lower (Some r) (Some s) first second = two_by F G lower r s first second (nat_lt s.place.from r.place.from) refl

-- ---- three codes

abbrev pub Of : Code → (Place → Type 0) → Code → Place → Type 0
Of k P c q = (c ≡ k) × P q

pub lower_codes : (j k : Code) (P Q : Place → Type 0) → code_number j ≤ code_number k → AreLower (Of j P) (Of k Q)
lower_codes j k P Q le c p d q h g = omega (arith, ap code_number h.0, ap code_number g.0, le)

-- the first of three kinds, each of which has its code
pub first_of_three : (i j k : Code) (P Q R : Place → Type 0) → code_number i ≤ code_number j → code_number j ≤ code_number k →
    (a b c : Option Place) → IsLeast P a → IsLeast Q b → IsLeast R c →
    IsFirst (λ d q. (Of i P d q ⊎ Of j Q d q) ⊎ Of k R d q) (earlier_refusal (earlier_refusal (refused i a) (refused j b)) (refused k c))
first_of_three i j k P Q R ij jk a b c first second third =
    first_of_two (λ d q. Of i P d q ⊎ Of j Q d q) (Of k R) both_lower (earlier_refusal (refused i a) (refused j b)) (refused k c)
    (first_of_two (Of i P) (Of j Q) (lower_codes i j P Q ij) (refused i a) (refused j b) (first_refused i P a first) (first_refused j Q b second))
    (first_refused k R c third)
  where
    both_lower : AreLower (λ d q. Of i P d q ⊎ Of j Q d q) (Of k R)
    both_lower d p e q (inl h) g = lower_codes i k P R (omega (arith, ij, jk)) d p e q h g
    both_lower d p e q (inr h) g = lower_codes j k Q R jk d p e q h g

pub first_as : (F : Code → Place → Type 0) (o : Option Refusal) (r : Refusal) → IsFirst F o → o ≡ Some r → IsFirstOf F r.code r.place × (let nothing : Option Place = None in r.other ≡ nothing)
first_as F o r first is = let there = subst (IsFirst F) is first in (record { stands = there.0; first = there.1 }, there.2)

-- ---- two first faults are equal

-- they are at one byte, and have codes of one number
pub both_first : (c d : Code) (p q : Place) → IsNoLater c p d q → IsNoLater d q c p → (p.from ≡ q.from) × (code_number c ≡ code_number d)
both_first c d p q (inl a) (inl e) = absurd (omega (arith, a, e))
both_first c d p q (inl a) (inr e) = let x = e.0 in absurd (omega (arith, a, x))
both_first c d p q (inr a) (inl e) = let x = a.0 in absurd (omega (arith, e, x))
both_first c d p q (inr a) (inr e) = (a.0, let x = a.1 in let y = e.1 in omega (arith, x, y))

-- one of three codes
abbrev pub IsOneOf : Code → Code → Code → Code → Type 0
IsOneOf i j k c = (c ≡ i) ⊎ ((c ≡ j) ⊎ (c ≡ k))

pub code_is : (i j k : Code) → code_number i < code_number j → code_number j < code_number k → (c d : Code) → IsOneOf i j k c → IsOneOf i j k d → code_number c ≡ code_number d → c ≡ d
code_is i j k ij jk c d (inl a) (inl e) n = a ∙ sym e
code_is i j k ij jk c d (inl a) (inr (inl e)) n = let x = ap code_number a in let y = ap code_number e in absurd (omega (arith, x, y, n, ij))
code_is i j k ij jk c d (inl a) (inr (inr e)) n = let x = ap code_number a in let y = ap code_number e in absurd (omega (arith, x, y, n, ij, jk))
code_is i j k ij jk c d (inr (inl a)) (inl e) n = let x = ap code_number a in let y = ap code_number e in absurd (omega (arith, x, y, n, ij))
code_is i j k ij jk c d (inr (inl a)) (inr (inl e)) n = a ∙ sym e
code_is i j k ij jk c d (inr (inl a)) (inr (inr e)) n = let x = ap code_number a in let y = ap code_number e in absurd (omega (arith, x, y, n, jk))
code_is i j k ij jk c d (inr (inr a)) (inl e) n = let x = ap code_number a in let y = ap code_number e in absurd (omega (arith, x, y, n, ij, jk))
code_is i j k ij jk c d (inr (inr a)) (inr (inl e)) n = let x = ap code_number a in let y = ap code_number e in absurd (omega (arith, x, y, n, jk))
code_is i j k ij jk c d (inr (inr a)) (inr (inr e)) n = a ∙ sym e
