-- How many numbers below its count are no members of a set.
use Rattle.std.proofs.Common.{◌≡◌, ◌≤◌, ◌+◌, ◌++◌, ℕ, zero, suc, Bool, true, false, true≢false, List, [], ◌∷◌, length, replicate, refl, sym, ap, arith}
use Rattle.std.proofs.Math.ListN.{set, take}
use Rattle.in_open_nets.specs.Constructions.{IsIn}
use Rattle.in_open_nets.specs.Members.{nodes_in, missing}

-- a list is made of one item, as long as requested
module _ {X : Type 0} (b : X) where
  pub resized : (n k : ℕ) → k ≡ n → take n [] ++ replicate k b ≡ replicate n b
  resized zero k e = ap (λ z. replicate z b) e
  resized (suc n) k e = ap (λ z. replicate z b) e

pub missing_within : (xs : List Bool) → missing xs ≤ length xs
missing_within [] = omega arith
missing_within (true ∷ xs) = let r = missing_within xs in omega arith
missing_within (false ∷ xs) = let r = missing_within xs in omega arith

pub missing_cleared : (bits : List Bool) (l : ℕ) → nodes_in bits l ≡ true → missing (set bits l false) ≡ missing bits + 1
missing_cleared [] l e = absurd (true≢false (sym e))
missing_cleared (true ∷ bs) zero e = omega arith
missing_cleared (false ∷ bs) zero e = absurd (true≢false (sym e))
missing_cleared (b ∷ bs) (suc l) e = let r = missing_cleared bs l e in omega arith

-- members of another set alone are no more than its members
pub missing_fewer : (xs ys : List Bool) → length xs ≡ length ys → ((k : ℕ) → IsIn k (nodes_in xs) → IsIn k (nodes_in ys)) → missing ys ≤ missing xs
missing_fewer [] [] e within = omega arith
missing_fewer [] (y ∷ ys) e within = absurd (let a : 0 ≡ suc (length ys) = e in omega arith)
missing_fewer (x ∷ xs) [] e within = omega arith
missing_fewer (true ∷ xs) (true ∷ ys) e within = let r = missing_fewer xs ys (let a : suc (length xs) ≡ suc (length ys) = e in omega arith) (λ k. within (suc k)) in omega arith
missing_fewer (true ∷ xs) (false ∷ ys) e within = absurd (true≢false (sym (within 0 refl)))
missing_fewer (false ∷ xs) (true ∷ ys) e within = let r = missing_fewer xs ys (let a : suc (length xs) ≡ suc (length ys) = e in omega arith) (λ k. within (suc k)) in omega arith
missing_fewer (false ∷ xs) (false ∷ ys) e within = let r = missing_fewer xs ys (let a : suc (length xs) ≡ suc (length ys) = e in omega arith) (λ k. within (suc k)) in omega arith

-- a set with members of another one alone, and no fewer of them, has them all
pub has_all : (xs ys : List Bool) → length xs ≡ length ys → ((k : ℕ) → IsIn k (nodes_in xs) → IsIn k (nodes_in ys)) → missing xs ≤ missing ys → (k : ℕ) → IsIn k (nodes_in ys) → IsIn k (nodes_in xs)
has_all [] [] e within few k h = h
has_all [] (y ∷ ys) e within few k h = absurd (let a : 0 ≡ suc (length ys) = e in omega arith)
has_all (x ∷ xs) [] e within few k h = absurd (let a : suc (length xs) ≡ 0 = e in omega arith)
has_all (true ∷ xs) (true ∷ ys) e within few zero h = refl
has_all (true ∷ xs) (true ∷ ys) e within few (suc k) h = has_all xs ys (let a : suc (length xs) ≡ suc (length ys) = e in omega arith) (λ k. within (suc k)) (omega arith) k h
has_all (true ∷ xs) (false ∷ ys) e within few k h = absurd (true≢false (sym (within 0 refl)))
has_all (false ∷ xs) (true ∷ ys) e within few k h =
    let r = missing_fewer xs ys (let a : suc (length xs) ≡ suc (length ys) = e in omega arith) (λ k. within (suc k)) in
    absurd (omega arith)
has_all (false ∷ xs) (false ∷ ys) e within few zero h = h
has_all (false ∷ xs) (false ∷ ys) e within few (suc k) h = has_all xs ys (let a : suc (length xs) ≡ suc (length ys) = e in omega arith) (λ k. within (suc k)) (omega arith) k h
