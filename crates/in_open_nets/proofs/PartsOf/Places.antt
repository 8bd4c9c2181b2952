-- Sets and lists, place by place.
use Rattle.std.proofs.Common.{◌≡◌, ◌≢◌, ◌<◌, ℕ, zero, suc, Bool, ◌||◌, List, [], ◌∷◌, length, get_or, drop, slice_get, None, refl, sym, subst, arith}
use Rattle.std.proofs.Math.ListN.{set}
use Rattle.std.proofs.lemmas.List.{get_or-set_same, get_or-set_other}
use Rattle.in_open_nets.specs.Members.{nodes_in}

-- the sets are united below k, and unchanged from there on
pub record IsUnitedTo (more old new : List Bool) (k : ℕ) : Type 0 where
  pub size : length new ≡ length old
  pub below : (n : ℕ) → n < k → nodes_in new n ≡ (nodes_in more n || nodes_in old n)
  pub above : (n : ℕ) → (n < k → ⊥) → nodes_in new n ≡ nodes_in old n

-- the element at a place of a list with one place set
pub at_set : {X : Type 0} (xs : List X) (k : ℕ) (y d : X) (n : ℕ) → k < length xs → n ≡ k → get_or (set xs k y) n d ≡ y
at_set xs k y d n l e = subst (λ z. get_or (set xs k y) z d ≡ y) (sym e) (get_or-set_same xs k y d l)

pub at_other : {X : Type 0} (xs : List X) (k : ℕ) (y d : X) (n : ℕ) → n ≢ k → get_or (set xs k y) n d ≡ get_or xs n d
at_other xs k y d n e = get_or-set_other xs k n y d e

pub past_end : {X : Type 0} (xs : List X) (n : ℕ) (d : X) → (n < length xs → ⊥) → get_or xs n d ≡ d
past_end [] n d h = refl
past_end (x ∷ xs) zero d h = absurd (h (omega arith))
past_end (x ∷ xs) (suc n) d h = past_end xs n d (λ l. h (omega arith))

pub none_there : {X : Type 0} (xs : List X) (n : ℕ) (d : X) → slice_get xs n ≡ None → get_or xs n d ≡ d
none_there [] n d h = refl
none_there (x ∷ xs) zero d h = cc
none_there (x ∷ xs) (suc n) d h = none_there xs n d h

pub drop_here : (xs : List ℕ) (k : ℕ) → k < length xs → drop k xs ≡ get_or xs k 0 ∷ drop (suc k) xs
drop_here [] k l = absurd (omega arith)
drop_here (x ∷ xs) zero l = refl
drop_here (x ∷ xs) (suc k) l = drop_here xs k (omega arith)
