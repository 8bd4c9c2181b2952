-- The counts of a phase, with one part more, and the number of the agents that are gathered.
use Rattle.std.proofs.Common.{◌≡◌, ◌≢◌, inl, inr, ◌+◌, ◌*◌, ◌<◌, ◌≤◌, ℕ, suc, Bool, Option, Some, None, IsSome, List, [], ◌∷◌, length, map, option_map, option_and_then, count_by, is_some, true≢false, slice_get, refl, sym, ap, subst, ◌∙◌, arith}
use Rattle.std.specs.List.{AllByRecursion}
use Rattle.std.proofs.lemmas.List.{length-map}
use Rattle.std.proofs.lemmas.Nat.{mul-le, row_fits}
use Rattle.in_base.specs.Lists.{IsAmong}
use Rattle.in_syntax.specs.declared.symbol_no.SymbolNo.{SymbolNo}
use Rattle.in_net.specs.declared.nets.Cell.{Cell}
use Rattle.in_interaction.specs.Pieces.{AreDifferent}
use Rattle.in_interaction.proofs.Public.{few}
use Rattle.in_arena.specs.Changes.{AreListedOnce}
use Rattle.in_arena.specs.declared.content.CellNo.{CellNo}
use Rattle.in_reducer.specs.Machines.{MachineParts}
use Rattle.in_reducer.proofs.Public.{agent_numbers, as_many, numbered}
use Rattle.in_phases.specs.declared.phases.Worked.{Worked}
use Rattle.in_phases.specs.Branches.{AreOfBranch, HasAgent}
use Rattle.in_phases.specs.Phases.{AreCountsOfParts}

-- `most` is the greater one of the longest part and of the new part's count
pub counts_with_one : (w : Worked) (one most : ℕ) → AreCountsOfParts w → w.longest ≤ most → one ≤ most → most ≤ w.longest + one
    → AreCountsOfParts (record { interactions = one + w.interactions; longest = most; parts = w.parts + 1 })
counts_with_one w one most h long own fits =
    let some = h.0 in
    let longest = h.1 in
    let all = h.2 in
    let grown : w.parts * w.longest ≤ w.parts * most = mul-le w.parts w.longest w.parts most (let z : w.parts ≤ w.parts = omega arith in z) long in
    let more : w.parts * most + most ≤ (w.parts + 1) * most = row_fits w.parts most (w.parts + 1) most (let z : w.parts < w.parts + 1 = omega arith in z) (let z : most ≤ most = omega arith in z) in
    (omega (arith, some), omega (arith, longest, fits), omega (arith, all, grown, own, more))

-- ---- their number

-- numbers that are listed once are different
differ_from : (x : ℕ) (ns : List CellNo) → ((k : ℕ) (c : CellNo) → slice_get ns k ≡ Some c → x ≢ c.0) → AllByRecursion (λ y. x ≢ y) (map (λ (c : CellNo). c.0) ns)
differ_from x [] h = tt
differ_from x (n ∷ ns) h = (h 0 n refl, differ_from x ns (λ k c at. h (suc k) c at))

numbers_differ : (ns : List CellNo) → AreListedOnce ns → AreDifferent (map (λ (c : CellNo). c.0) ns)
numbers_differ [] once = tt
numbers_differ (n ∷ ns) once = (
  differ_from n.0 ns (λ k c at same. let z : 0 ≡ suc k = once 0 (suc k) n refl (at ∙ ap (λ (z : ℕ). Some (record { 0 = z })) (sym same)) in omega (arith, z)),
  numbers_differ ns (λ j k c a b. let z : suc j ≡ suc k = once (suc j) (suc k) c a b in omega (arith, z)),
)

module _ (m : MachineParts) where
  agent_numbered : (y : ℕ) → HasAgent m y → IsAmong y (agent_numbers m.agents)
  agent_numbered y h = by (slice_get m.agents y) refl h
    where
      shown : Option (Option Cell) → Option SymbolNo
      shown o = option_map (λ (c : Cell). c.symbol) (option_and_then (λ c. c) o)

      by : (o : Option (Option Cell)) → slice_get m.agents y ≡ o → IsSome (shown (slice_get m.agents y)) → IsAmong y (agent_numbers m.agents)
      by None e h = absurd (none (subst (λ o. IsSome (shown o)) e h))
        where
          none : IsSome (shown None) → ⊥
          none h = true≢false (sym h)
      by (Some None) e h = absurd (none (subst (λ o. IsSome (shown o)) e h))
        where
          none : IsSome (shown (Some None)) → ⊥
          none h = true≢false (sym h)
      by (Some (Some c)) e h = numbered m.agents y c e

  numbers_there : (ns : List CellNo) → ((k : ℕ) (c : CellNo) → slice_get ns k ≡ Some c → HasAgent m c.0) → (x : ℕ) → IsAmong x (map (λ (c : CellNo). c.0) ns) → IsAmong x (agent_numbers m.agents)
  numbers_there [] h x a = absurd a
  numbers_there (n ∷ ns) h x (inl e) = subst (λ (z : ℕ). IsAmong z (agent_numbers m.agents)) e (agent_numbered n.0 (h 0 n refl))
  numbers_there (n ∷ ns) h x (inr a) = numbers_there ns (λ k c at. h (suc k) c at) x a

  -- no more agents are gathered than there are
  pub few_gathered : (agents : List CellNo) (marks : List Bool) → AreOfBranch m agents marks → length agents ≤ count_by is_some m.agents
  few_gathered agents marks h =
      let a = few (map (λ (c : CellNo). c.0) agents) (agent_numbers m.agents) (numbers_differ agents h.once) (numbers_there agents h.there) in
      let b = length-map agents (λ (c : CellNo). c.0) in
      let d = as_many m.agents in
      omega (arith, a, b, d)
