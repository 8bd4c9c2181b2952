-- Nodes among others, and in a set.
use Rattle.std.proofs.Common.{◌≡◌, ◌⊎◌, ◌<◌, ◌≤◌, ◌+◌, ℕ, zero, suc, Bool, true, false, List, [], ◌∷◌, ◌++◌, length, drop, refl, sym, subst, inl, inr, ◌∙◌, arith}
use Rattle.std.proofs.Math.ListN.{set}
use Rattle.std.proofs.lemmas.List.{get_or-set_same, get_or-set_other}
use Rattle.in_open_nets.specs.Constructions.{IsIn}
use Rattle.in_open_nets.specs.Members.{nodes_in, missing}
use Rattle.in_open_nets.specs.Stuck.{Among}
use Rattle.in_open_nets.proofs.Reached.Links.{same_nat}

pub in_length : (bits : List Bool) (n : ℕ) → IsIn n (nodes_in bits) → n < length bits
in_length [] n h = cc
in_length (b ∷ bs) zero h = omega arith
in_length (b ∷ bs) (suc n) h = let r = in_length bs n h in omega arith

pub among_left : (xs : List ℕ) (k x : ℕ) → Among k xs → Among k (xs ++ x ∷ [])
among_left [] k x h = absurd h
among_left (y ∷ ys) k x (inl e) = inl e
among_left (y ∷ ys) k x (inr h) = inr (among_left ys k x h)

pub among_last : (xs : List ℕ) (x : ℕ) → Among x (xs ++ x ∷ [])
among_last [] x = inl refl
among_last (y ∷ ys) x = inr (among_last ys x)

pub among_cases : (xs : List ℕ) (k x : ℕ) → Among k (xs ++ x ∷ []) → Among k xs ⊎ (k ≡ x)
among_cases [] k x (inl e) = inr e
among_cases [] k x (inr h) = absurd h
among_cases (y ∷ ys) k x (inl e) = inl (inl e)
among_cases (y ∷ ys) k x (inr h) = elim (among_cases ys k x h) [ inl g ↦ inl (inr g) | inr g ↦ inr g ]

pub drop_all : (k : ℕ) (xs : List ℕ) → length xs ≤ k → drop k xs ≡ []
drop_all zero [] l = refl
drop_all zero (x ∷ xs) l = absurd (omega arith)
drop_all (suc k) [] l = refl
drop_all (suc k) (x ∷ xs) l = drop_all k xs (omega arith)

pub missing_set : (bits : List Bool) (l : ℕ) → l < length bits → nodes_in bits l ≡ false → missing (set bits l true) + 1 ≡ missing bits
missing_set [] l h e = absurd (omega arith)
missing_set (true ∷ bs) zero h e = cc
missing_set (false ∷ bs) zero h e = omega arith
missing_set (b ∷ bs) (suc l) h e = let r = missing_set bs l (omega arith) e in omega arith

pub set_cases : (bits : List Bool) (l k : ℕ) → l < length bits → IsIn k (nodes_in (set bits l true)) → (k ≡ l) ⊎ IsIn k (nodes_in bits)
set_cases bits l k b h = elim (same_nat k l) [ inl e ↦ inl e | inr d ↦ inr (sym (get_or-set_other bits l k true false d) ∙ h) ]

pub set_kept : (bits : List Bool) (l k : ℕ) → l < length bits → IsIn k (nodes_in bits) → IsIn k (nodes_in (set bits l true))
set_kept bits l k b h = elim (same_nat k l) [
  | inl e ↦ subst (λ z. IsIn z (nodes_in (set bits l true))) (sym e) (get_or-set_same bits l true false b)
  | inr d ↦ get_or-set_other bits l k true false d ∙ h
]
