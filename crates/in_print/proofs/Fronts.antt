-- Writes of fronts of a text, one after the other.
use Rattle.std.proofs.Common.{◌≡◌, ℕ, zero, suc, ◌<◌, ◌+◌, ◌-◌, List, ◌++◌, take, drop, length, Option, Some, None, Ok, refl, sym, ◌∙◌, ap, append_assoc, arith, take-add}
use Rattle.std.proofs.lemmas.List.{take_rest}
use Rattle.std.specs.Io.KnownBytes.{append_known}
use Rattle.in_syntax.specs.Streams.{fails_write}

pub append_known-twice : (known : Option (List ℕ)) (a b : List ℕ) → append_known (append_known known a) b ≡ append_known known (a ++ b)
append_known-twice None a b = refl
append_known-twice (Some xs) a b = ap Some (append_assoc xs a b)

-- a write of a front of the rest
pub written : (i n : ℕ) (bytes : List ℕ) → take i bytes ++ take n (take (length bytes - i) (drop i bytes)) ≡ take (i + n) bytes
written i n bytes = ap (λ z. take i bytes ++ take n z) (take_rest bytes i) ∙ sym (take-add i n bytes)

-- a write that takes some bytes is no failure
pub takes_some : (n : ℕ) (bytes : List ℕ) → 0 < n → fails_write (Ok n) bytes ≡ 0
takes_some zero bytes lt = absurd (omega arith)
takes_some (suc n) bytes lt = refl
