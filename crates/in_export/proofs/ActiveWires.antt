-- The active wires of a net, found wire by wire.
use Rattle.std.proofs.Common.{◌≡◌, ◌<◌, ◌+◌, ◌-◌, ℕ, suc, Bool, true, false, cond, List, [], ◌∷◌, ◌++◌, length, append_assoc, sym, ap, ◌∙◌, arith}
use Rattle.in_net.specs.Parts.{Parts, wire_in}
use Rattle.in_export.specs.Parts.{active_from, joins_principals}

module _ (n : Parts) (k : ℕ) (old new : List ℕ) (lt : k < length n.wires) where
  one : length n.wires - k ≡ suc (length n.wires - (k + 1))
  one = omega (arith, lt)

  from_here : (b : Bool) → joins_principals (wire_in n k) ≡ b → active_from n k (length n.wires - k) ≡ cond b (k ∷ active_from n (k + 1) (length n.wires - (k + 1))) (active_from n (k + 1) (length n.wires - (k + 1)))
  from_here b is = ap (active_from n k) one ∙ ap (λ z. cond z (k ∷ active_from n (k + 1) (length n.wires - (k + 1))) (active_from n (k + 1) (length n.wires - (k + 1)))) is

  pub one_taken : joins_principals (wire_in n k) ≡ true → new ≡ old ++ k ∷ [] → new ++ active_from n (k + 1) (length n.wires - (k + 1)) ≡ old ++ active_from n k (length n.wires - k)
  one_taken is e =
      ap (λ z. z ++ active_from n (k + 1) (length n.wires - (k + 1))) e
      ∙ append_assoc old (k ∷ []) (active_from n (k + 1) (length n.wires - (k + 1)))
      ∙ ap (λ z. old ++ z) (sym (from_here true is))

  pub none_taken : joins_principals (wire_in n k) ≡ false → new ≡ old → new ++ active_from n (k + 1) (length n.wires - (k + 1)) ≡ old ++ active_from n k (length n.wires - k)
  none_taken is e = ap (λ z. z ++ active_from n (k + 1) (length n.wires - (k + 1))) e ∙ ap (λ z. old ++ z) (sym (from_here false is))
