-- How many members a set has, by the list of them.
use Rattle.std.proofs.Common.{◌≡◌, ◌+◌, ◌-◌, ◌↔◌, ℕ, suc, Bool, true, false, List, [], ◌∷◌, length, refl, sym, subst, inl, inr, arith}
use Rattle.in_open_nets.specs.Constructions.{IsIn}
use Rattle.in_open_nets.specs.Members.{missing, nodes_in}
use Rattle.in_open_nets.specs.Stuck.{Among, IsListed, RisesThrough}
use Rattle.in_open_nets.proofs.Reached.Links.{same_nat}
use Rattle.in_open_nets.proofs.PartsOf.Members.{among_from}

-- numbers without the least one rise from the next one
without_least : (low : ℕ) (ns : List ℕ) → RisesThrough low ns → (Among low ns → ⊥) → RisesThrough (suc low) ns
without_least low [] r out = tt
without_least low (k ∷ ks) r out =
    let a = r.0 in
    elim (same_nat low k) [
      | inl e ↦ absurd (out (inl e))
      | inr d ↦ (omega arith, r.1)
    ]

-- the numbers from `low` on are those of the tests
counted : (low : ℕ) (bits : List Bool) (ns : List ℕ) → RisesThrough low ns → ((n : ℕ) → IsIn n (nodes_in bits) ↔ Among (low + n) ns) → missing bits + length ns ≡ length bits
counted low [] [] r same = refl
counted low [] (k ∷ ks) r same =
    let a = r.0 in
    let wrong : false ≡ true = (same (k - low)).1 (inl (omega arith)) in
    cc
counted low (true ∷ bits) [] r same = absurd ((same 0).0 refl)
counted low (true ∷ bits) (k ∷ ks) r same =
    let a = r.0 in
    let first : low ≡ k = elim ((same 0).0 refl) [
      | inl e ↦ omega arith
      | inr h ↦ let b = among_from (suc k) ks (low + 0) r.1 h in absurd (omega arith)
    ] in
    let rest = counted (suc low) bits ks (subst (λ z. RisesThrough (suc z) ks) (sym first) r.1) (λ n. (
      (λ h. elim ((same (suc n)).0 h) [
        | inl e ↦ absurd (omega arith)
        | inr g ↦ subst (λ z. Among z ks) (let e : low + suc n ≡ suc low + n = omega arith in e) g
      ]),
      λ g. (same (suc n)).1 (inr (subst (λ z. Among z ks) (let e : suc low + n ≡ low + suc n = omega arith in e) g)),
    )) in
    omega arith
counted low (false ∷ bits) ns r same =
    let out : Among low ns → ⊥ = λ h. (let wrong : false ≡ true = (same 0).1 (subst (λ z. Among z ns) (let e : low ≡ low + 0 = omega arith in e) h) in cc) in
    let rest = counted (suc low) bits ns (without_least low ns r out) (λ n. (
      (λ h. subst (λ z. Among z ns) (let e : low + suc n ≡ suc low + n = omega arith in e) ((same (suc n)).0 h)),
      λ g. (same (suc n)).1 (subst (λ z. Among z ns) (let e : suc low + n ≡ low + suc n = omega arith in e) g),
    )) in
    omega arith

-- all numbers are members, or no members
pub missing_listed : (bits : List Bool) (ns : List ℕ) → IsListed (nodes_in bits) ns → missing bits + length ns ≡ length bits
missing_listed bits ns l = counted 0 bits ns l.rises (λ n. subst (λ z. IsIn n (nodes_in bits) ↔ Among z ns) (let e : n ≡ 0 + n = omega arith in e) (l.all n))
