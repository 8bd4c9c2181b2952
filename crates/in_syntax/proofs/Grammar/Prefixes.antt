-- The prefixes of some signs with which a program begins.
use Rattle.std.proofs.Common.{◌≡◌, ◌↔◌, ◌⊎◌, inl, inr, ℕ, zero, suc, ◌≤◌, ◌<◌, true, false, List, [], ◌∷◌, ◌++◌, length, take, drop, refl, sym, ◌∙◌, ap, subst, append_assoc, append-nil, arith, take-append-drop}
use Rattle.std.proofs.lemmas.Bool.{cases_lt}
use Rattle.std.proofs.lemmas.List.{map-append, take-take}
use Rattle.in_syntax.specs.declared.faults.Code.{Code}
use Rattle.in_syntax.specs.declared.faults.Code.TheVariants.{E02, E03}
use Rattle.in_syntax.specs.declared.signs.Sign.{Sign}
use Rattle.in_syntax.specs.declared.reader.Reader.{Reader}
use Rattle.in_syntax.specs.Grammar.{Spelling, marked, within}
use Rattle.in_syntax.specs.Programs.{Outcome, IsOutcomeOfSigns, signs, unmarked, Begins, BeginsWithin, BeginsPast, IsFault, tree, fault}
use Rattle.in_syntax.specs.GrammarLaws.{before_fault, PrefixesBegin}
use Rattle.in_syntax.specs.Steps.{start}
use Rattle.in_syntax.proofs.Grammar.Paths.{turns, turn, Path, split, same}
use Rattle.in_syntax.proofs.Grammar.Complete.{done_with, program_path}
use Rattle.in_syntax.proofs.Grammar.Outcomes.{signs_unmarked}
use Rattle.in_syntax.specs.declared.text_limits.TextLimits.{TextLimits}

-- a sign doesn't pass a limit and stay within it
not_twice : (x : Sign) (more rest : Spelling) (mid last one other : Reader) → mid ≡ last → Path mid (marked true x ∷ more) one → Path last (marked false x ∷ rest) other → ⊥
not_twice x more rest mid last one other e p q =
    let t : turns true p.0 ≡ turns false q.0 = sym p.1 ∙ ap (λ z. turn z x) e ∙ q.1 in
    cc

-- one sign more
one_more : (i : ℕ) (s : List Sign) → i < length s → (x : Sign) × (rest : List Sign) × (drop i s ≡ x ∷ rest) × (take (suc i) s ≡ take i s ++ x ∷ [])
one_more i [] lt = absurd (omega (arith, lt))
one_more zero (x ∷ s) lt = (x, s, refl, refl)
one_more (suc i) (y ∷ s) lt =
    let h = one_more i s (omega (arith, lt)) in
    (h.0, h.1, h.2, ap (λ z. y ∷ z) h.3)

module _ (limits : TextLimits) where
  -- a program that begins with signs begins with their prefixes
  front_begins : (a b : List Sign) → BeginsWithin limits (a ++ b) → BeginsWithin limits a
  front_begins a b (p, more, e) =
      (p, unmarked b ++ more, e ∙ ap (λ z. z ++ more) (map-append within a b) ∙ append_assoc (unmarked a) (unmarked b) more)

  prefix_begins : (n : ℕ) (s : List Sign) → BeginsWithin limits s → BeginsWithin limits (take n s)
  prefix_begins n s begins = front_begins (take n s) (drop n s) (subst (BeginsWithin limits) (sym (take-append-drop n s)) begins)

  -- up to the fault, the signs begin a program
  fault_begins : (c : Code) (front rest : List Sign) → IsFault limits c front rest → BeginsWithin limits front
  fault_begins E02 front [] is = is.0
  fault_begins E02 front (x ∷ rest) is = is.0
  fault_begins E03 front (x ∷ rest) is = (is.0, marked true x ∷ is.1, is.2)
  fault_begins c front rest is = absurd is

  past_within : (front : List Sign) (x : Sign) → BeginsPast limits front x → BeginsWithin limits (front ++ x ∷ []) → ⊥
  past_within front x (p, more, e) (q, rest, f) =
      let one = split (unmarked front) (marked true x ∷ more) (start limits) (done_with limits p) (subst (λ z. Path (start limits) z (done_with limits p)) e (program_path limits p)) in
      let other = split (unmarked front) (marked false x ∷ rest) (start limits) (done_with limits q) (subst (λ z. Path (start limits) z (done_with limits q)) (f ∙ ap (λ z. z ++ rest) (map-append within front (x ∷ [])) ∙ append_assoc (unmarked front) (within x ∷ []) rest) (program_path limits q)) in
      not_twice x more rest one.0 other.0 (done_with limits p) (done_with limits q) (same (unmarked front) (unmarked front) (start limits) one.0 other.0 one.1 other.1 refl).1 one.2 other.2

  within_begins : (front : List Sign) → BeginsWithin limits front → Begins limits front
  within_begins front (p, more, e) = (p, signs more, ap signs e ∙ map-append (λ m. m.sign) (unmarked front) more ∙ ap (λ z. z ++ signs more) (signs_unmarked front))

  -- the fault's own sign doesn't continue with them
  fault_ends : (c : Code) (front rest : List Sign) (x : Sign) → IsFault limits c front (x ∷ rest) → BeginsWithin limits (front ++ x ∷ []) → ⊥
  fault_ends E02 front rest x is begins = is.1 (within_begins (front ++ x ∷ []) begins)
  fault_ends E03 front rest x is begins = past_within front x is begins
  fault_ends c front rest x is begins = absurd is

  beyond : (s : List Sign) (c : Code) (i n : ℕ) → IsFault limits c (take i s) (drop i s) → i < n → n ≤ length s → BeginsWithin limits (take n s) → ⊥
  beyond s c i n is lt le begins =
      let h = one_more i s (omega (arith, lt, le)) in
      let fault_here : IsFault limits c (take i s) (h.0 ∷ h.1) = subst (IsFault limits c (take i s)) h.2 is in
      let here : BeginsWithin limits (take (suc i) s) = subst (BeginsWithin limits) (take-take (suc i) n s (omega (arith, lt))) (prefix_begins (suc i) (take n s) begins) in
      fault_ends c (take i s) h.1 h.0 fault_here (subst (BeginsWithin limits) h.3 here)

  pub prefixes_begin : (s : List Sign) (o : Outcome) → IsOutcomeOfSigns limits s o → (n : ℕ) → n ≤ length s → BeginsWithin limits (take n s) ↔ (n ≤ before_fault s o)
  prefixes_begin s (tree source) is n le =
      let whole : BeginsWithin limits s = (is.0, [], is.1 ∙ sym (append-nil (unmarked s))) in
      (λ begins. le, λ short. prefix_begins n s whole)
  prefixes_begin s (fault c i) is n le = (
    λ begins. decide begins (cases_lt i n),
    λ short. subst (BeginsWithin limits) (take-take n i s short) (prefix_begins n (take i s) (fault_begins c (take i s) (drop i s) is.1)),
  )
    where
      decide : BeginsWithin limits (take n s) → (i < n) ⊎ (n ≤ i) → n ≤ i
      decide begins (inl lt) = absurd (beyond s c i n is.1 lt le begins)
      decide begins (inr short) = short
