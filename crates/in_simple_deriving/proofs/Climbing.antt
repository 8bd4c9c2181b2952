-- Climbing from node to node, with a shorter way left behind.
use Rattle.std.proofs.Common.{◌≡◌, ◌≢◌, ◌⊎◌, ◌<◌, ℕ, List, length, slice_index_or, slice_set, refl, sym, subst, ap, inl, inr, ◌∙◌, arith}
use Rattle.std.proofs.Math.ListN.{length-set}
use Rattle.in_open_nets.proofs.Public.{at_other, at_set, same_nat}
use Rattle.in_simple_deriving.specs.Heads.{Climbs, LeadsEarlier, IsShorter, climbs, stays, up_from}

pub climb_on : (up : List ℕ) (a b c : ℕ) → Climbs up a b → Climbs up b c → Climbs up a c
climb_on up a b c (stays _) r = r
climb_on up a b c (climbs _ _ k) r = climbs a c (climb_on up (up_from up a) b c k r)

pub shorter_start : (up : List ℕ) → IsShorter up up
shorter_start up = record { size = refl; past = λ m. climbs m (up_from up m) (stays (up_from up m)); tops = λ m e. e; stay = λ m e. e }

module _ (turns old up : List ℕ) (at above next : ℕ) (goes : LeadsEarlier turns up) (small : at < length up) (leads : above ≡ up_from up at) (moves : above ≢ at) (then : next ≡ up_from up above) where
  abbrev T : ℕ → ℕ
  T m = slice_index_or turns m 0

  pub above_small : above < length up
  above_small = subst (λ z. z < length up) (sym leads) (goes at small).0

  pub next_small : next < length up
  next_small = subst (λ z. z < length up) (sym then) (goes above above_small).0

  above_earlier : T above < T at
  above_earlier = elim (goes at small).1 [
    | inl e ↦ absurd (moves (leads ∙ e))
    | inr l ↦ subst (λ z. T z < T at) (sym leads) l
  ]

  pub next_earlier : T next < T at
  next_earlier = elim (goes above above_small).1 [
    | inl e ↦ subst (λ z. T z < T at) (sym (then ∙ e)) above_earlier
    | inr l ↦ let m : T next < T above = subst (λ z. T z < T above) (sym then) l in let n = above_earlier in omega arith
  ]

  next_moves : next ≢ at
  next_moves e = let l = next_earlier in let f : T next ≡ T at = ap T e in omega arith

  pub step_here : up_from (slice_set up at next) at ≡ next
  step_here = at_set up at next 0 at small refl

  pub step_other : (m : ℕ) → m ≢ at → up_from (slice_set up at next) m ≡ up_from up m
  step_other m d = at_other up at next 0 m d

  pub step_size : length (slice_set up at next) ≡ length up
  step_size = length-set up at next

  pub step_goes : LeadsEarlier turns (slice_set up at next)
  step_goes m l = elim (same_nat m at) [
    | inl e ↦
        let f : up_from (slice_set up at next) m ≡ next = ap (up_from (slice_set up at next)) e ∙ step_here in
        let s = next_small in
        let size = step_size in
        let early : T next < T m = subst (λ z. T next < T z) (sym e) next_earlier in
        (subst (λ z. z < length (slice_set up at next)) (sym f) (omega arith), inr (subst (λ z. T z < T m) (sym f) early))
    | inr d ↦
        let size = step_size in
        let g = goes m (omega arith) in
        subst (λ z. (z < length (slice_set up at next)) × ((z ≡ m) ⊎ (T z < T m))) (sym (step_other m d)) (let g0 = g.0 in omega arith, g.1)
  ]

  pub step_climbs : (from : ℕ) → IsShorter old up → Climbs old from at → Climbs old from next
  step_climbs from s c =
      let one = subst (Climbs old at) (sym leads) (s.past at) in
      let two = subst (Climbs old above) (sym then) (s.past above) in
      climb_on old from above next (climb_on old from at above c one) two

  pub step_shorter : IsShorter old up → IsShorter old (slice_set up at next)
  step_shorter s = record {
    size = step_size ∙ s.size;
    past = λ m. elim (same_nat m at) [
      | inl e ↦ subst (λ z. Climbs old z (up_from (slice_set up at next) z)) (sym e) (subst (Climbs old at) (sym step_here) (step_climbs at s (stays at)))
      | inr d ↦ subst (Climbs old m) (sym (step_other m d)) (s.past m)
    ];
    tops = λ m e. elim (same_nat m at) [
      | inl f ↦ absurd (next_moves (sym step_here ∙ subst (λ z. up_from (slice_set up at next) z ≡ z) f e))
      | inr d ↦ s.tops m (sym (step_other m d) ∙ e)
    ];
    stay = λ m e. elim (same_nat m at) [
      | inl f ↦ absurd (moves (leads ∙ subst (λ z. up_from up z ≡ z) f (s.stay m e)))
      | inr d ↦ step_other m d ∙ s.stay m e
    ];
  }
