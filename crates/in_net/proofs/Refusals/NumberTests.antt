-- Tests of two numbers.
use Rattle.std.proofs.Common.{◌≡◌, ◌⊎◌, inl, inr, ◌<◌, ◌≤◌, ℕ, suc, true, false, nat_eq, nat_lt, arith}
use Rattle.std.proofs.lemmas.Bool.Decides.{leb_tells, nat_tests}

pub lt_tells : (a b : ℕ) → ((nat_lt a b ≡ true) × (a < b)) ⊎ ((nat_lt a b ≡ false) × (b ≤ a))
lt_tells a b = elim (leb_tells (suc a) b) [ inl h ↦ inl (h.0, omega (arith, h.1)) | inr h ↦ inr (h.0, omega (arith, h.1)) ]

pub equal_turned : (m n : ℕ) → nat_eq m n ≡ nat_eq n m
equal_turned m n = grind (arith, nat_tests)
