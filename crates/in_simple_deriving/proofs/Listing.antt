-- Nodes that are listed in rising order.
use Rattle.std.proofs.Common.{◌↔◌, ◌<◌, ◌+◌, ℕ, Bool, List, [], ◌∷◌, ◌++◌, sym, subst, inl, inr, arith}
use Rattle.in_open_nets.specs.Constructions.{IsIn}
use Rattle.in_open_nets.specs.Stuck.{Among, IsListed, RisesThrough}
use Rattle.in_open_nets.proofs.Public.{among_cases, among_last, among_left, rises_more, same_nat}

-- those of the set that are below b
pub record ListsBelow (s : ℕ → Bool) (b : ℕ) (ns : List ℕ) : Type 0 where
  pub rises : RisesThrough 0 ns
  pub all : (n : ℕ) → ((n < b) × IsIn n s) ↔ Among n ns

pub lists_none : (s : ℕ → Bool) → ListsBelow s 0 []
lists_none s = record { rises = tt; all = λ n. ((λ h. let l = h.0 in absurd (omega arith)), λ h. absurd h) }

pub lists_more : (s : ℕ → Bool) (b : ℕ) (ns : List ℕ) → ListsBelow s b ns → IsIn b s → ListsBelow s (b + 1) (ns ++ b ∷ [])
lists_more s b ns l here = record {
  rises = rises_more 0 ns b l.rises (λ n a. ((l.all n).1 a).0) (omega arith);
  all = λ n. (
    (λ h. elim (same_nat n b) [
      | inl e ↦ subst (λ z. Among z (ns ++ b ∷ [])) (sym e) (among_last ns b)
      | inr d ↦ let less = h.0 in among_left ns n b ((l.all n).0 (omega arith, h.1))
    ]),
    λ h. elim (among_cases ns n b h) [
      | inl a ↦ let r = (l.all n).1 a in let r0 = r.0 in (omega arith, r.1)
      | inr e ↦ (omega arith, subst (λ z. IsIn z s) (sym e) here)
    ],
  );
}

pub lists_past : (s : ℕ → Bool) (b : ℕ) (ns : List ℕ) → ListsBelow s b ns → (IsIn b s → ⊥) → ListsBelow s (b + 1) ns
lists_past s b ns l off = record {
  rises = l.rises;
  all = λ n. (
    (λ h. elim (same_nat n b) [
      | inl e ↦ absurd (off (subst (λ z. IsIn z s) e h.1))
      | inr d ↦ let less = h.0 in (l.all n).0 (omega arith, h.1)
    ]),
    λ a. let r = (l.all n).1 a in let r0 = r.0 in (omega arith, r.1),
  );
}

pub lists_all : (s : ℕ → Bool) (b : ℕ) (ns : List ℕ) → ListsBelow s b ns → ((n : ℕ) → IsIn n s → n < b) → IsListed s ns
lists_all s b ns l few = record { rises = l.rises; all = λ n. ((λ h. (l.all n).0 (few n h, h)), λ a. ((l.all n).1 a).1) }

-- a set with the same nodes has the same list
pub listed_for : (s t : ℕ → Bool) (ns : List ℕ) → IsListed s ns → ((n : ℕ) → IsIn n s ↔ IsIn n t) → IsListed t ns
listed_for s t ns l same = record { rises = l.rises; all = λ n. ((λ h. (l.all n).0 ((same n).1 h)), λ a. (same n).0 ((l.all n).1 a)) }
