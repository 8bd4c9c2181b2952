-- Agents leave an arena, one after another.
use Rattle.std.proofs.Common.{◌≡◌, ◌≢◌, ◌⊎◌, inl, inr, ◌<◌, ◌+◌, ◌*◌, ℕ, Some, List, length, take, get_or, count_by, slice_get, refl, sym, ap, subst, ◌∙◌, get_or-set_same, get_or-set_other, arith}
use Rattle.std.proofs.lemmas.Bool.{cases_eq}
use Rattle.std.proofs.lemmas.List.{length-set, take_all}
use Rattle.std.proofs.lemmas.List.Sums.{sum_by_more}
use Rattle.std.proofs.lemmas.Option.{same_Some, slice_get_within, get_or_from_slice_get}
use Rattle.in_arena.specs.Arenas.{ArenaView, changed, free_of, state_at}
use Rattle.in_arena.specs.Changes.{HasAllCells, one_if_free}
use Rattle.in_arena.specs.Classes.{Holds, IsNumberOf, all_of, holds}
use Rattle.in_arena.specs.States.{Vacant, Leased, IsLive, places}
use Rattle.in_arena.specs.declared.content.CellClass.{CellClass}
use Rattle.in_arena.specs.declared.content.CellNo.{CellNo}
use Rattle.in_arena.proofs.Public.{counts_change, class_of_number, live_inside}
use Rattle.in_cells.specs.Copying.{ArePart, is_for}
use Rattle.in_cells.specs.TakingOut.{AreClassed, AreRetired}
use Rattle.in_cells.specs.TakingOutSteps.{AreRetiredBelow}
use Rattle.in_cells.proofs.Taken.{apart, one_for, one_if, which}
use Rattle.in_cells.proofs.Written.{not_free}

pub none_retired : (agents : List CellNo) (old : ArenaView) → AreRetiredBelow agents old 0 old
none_retired agents old = record {
  gone = λ k c less. absurd (omega (arith, less));
  others = λ y out. refl;
  free = λ d. omega arith;
  memory = refl;
  cells = refl;
  many = refl;
}

module _ (agents : List CellNo) (old : ArenaView) (part : ArePart old agents) (x : ℕ) (now : ArenaView) (h : AreRetiredBelow agents old x now) (c : CellNo) (at : slice_get agents x ≡ Some c) where
  untouched : state_at now c.0 ≡ state_at old c.0
  untouched = h.others c.0 (λ k less s. (let same : k ≡ x = part.once k x c s at in omega (arith, less, same)))

  pub live_still : IsLive (state_at now c.0)
  live_still = subst IsLive (sym untouched) (part.live x c at)

  inside : c.0 < length now.states
  inside = live_inside now c.0 live_still

  module _ (all : HasAllCells old) (classed : AreClassed old agents) (now' : ArenaView) (e : now' ≡ changed now c.0 Vacant) where
    all_now : HasAllCells now
    all_now = h.many ∙ all ∙ ap all_of (sym h.cells)

    class : (d : CellClass) × IsNumberOf now.cells d c.0
    class = class_of_number now.cells c.0 (let i = inside in let a = all_now in omega (arith, i, a))

    held : Holds class.0 (places (state_at old c.0))
    held = classed x c class.0 at (subst (λ z. IsNumberOf z class.0 c.0) h.cells class.1)

    counted : (d : CellClass) → one_if (is_for old d (get_or agents x c)) ≡ one_if (holds d (places (state_at old c.0)))
    counted d = ap (λ (a : CellNo). one_if (is_for old d a)) (get_or_from_slice_get agents x c c at)

    counts : (free_of (changed now c.0 Vacant) class.0 + one_if_free (state_at now c.0) ≡ free_of now class.0 + one_if_free Vacant) × ((d : CellClass) → (d ≡ class.0 → ⊥) → free_of (changed now c.0 Vacant) d ≡ free_of now d)
    counts = counts_change now c.0 class.0 Vacant all_now class.1

    more_by : (d : CellClass) → Holds d (places (state_at old c.0)) ⊎ (one_if (holds d (places (state_at old c.0))) ≡ 0) → free_of (changed now c.0 Vacant) d ≡ free_of now d + one_if (holds d (places (state_at old c.0)))
    more_by d (inl holds_d) =
        let is : d ≡ class.0 = apart (places (state_at old c.0)) class.0 d held holds_d in
        let first = counts.0 in
        let was = not_free (state_at now c.0) live_still in
        let one = one_for class.0 (places (state_at old c.0)) held in
        subst (λ (z : CellClass). free_of (changed now c.0 Vacant) z ≡ free_of now z + one_if (holds z (places (state_at old c.0)))) (sym is) (omega (arith, first, was, one))
    more_by d (inr none) =
        let other : d ≡ class.0 → ⊥ = λ is. (let one = ap (λ (z : CellClass). one_if (holds z (places (state_at old c.0)))) is ∙ one_for class.0 (places (state_at old c.0)) held in omega (arith, one, none)) in
        let rest = counts.1 d other in
        omega (arith, none, rest)

    free_now : (d : CellClass) → free_of now' d ≡ free_of old d + count_by (is_for old d) (take (x + 1) agents)
    free_now d =
        let sum = sum_by_more (λ (a : CellNo). one_if (is_for old d a)) agents x c (slice_get_within agents x c at) in
        let one = counted d in
        let so_far = h.free d in
        let more = more_by d (which d (places (state_at old c.0))) in
        let same = ap (λ v. free_of v d) e in
        omega (arith, sum, one, so_far, more, same)

    at_new : state_at now' c.0 ≡ Vacant
    at_new = ap (λ v. state_at v c.0) e ∙ get_or-set_same now.states c.0 Vacant Leased inside

    at_other : (y : ℕ) → y ≢ c.0 → state_at now' y ≡ state_at now y
    at_other y ne = ap (λ v. state_at v y) e ∙ get_or-set_other now.states c.0 y Vacant Leased ne

    gone_by : (k : ℕ) (d : CellNo) → (k ≡ x) ⊎ (k ≢ x) → k < x + 1 → slice_get agents k ≡ Some d → state_at now' d.0 ≡ Vacant
    gone_by k d (inl same) less s = subst (λ (z : CellNo). state_at now' z.0 ≡ Vacant) (same_Some c d (sym at ∙ ap (slice_get agents) (sym same) ∙ s)) at_new
    gone_by k d (inr ne) less s =
        let before : k < x = omega (arith, less, ne) in
        at_other d.0 (λ f. ne (part.once k x c (s ∙ ap (λ (z : ℕ). Some (record { 0 = z })) f) at)) ∙ h.gone k d before s

    pub one_more_retired : AreRetiredBelow agents old (x + 1) now'
    one_more_retired = record {
      gone = λ k d less s. gone_by k d (cases_eq k x) less s;
      others = λ y out. at_other y (λ f. out x (omega arith) (at ∙ ap (λ (z : ℕ). Some (record { 0 = z })) (sym f))) ∙ h.others y (λ k less s. out k (omega (arith, less)) s);
      free = free_now;
      memory = ap (λ (v : ArenaView). v.memory) e ∙ h.memory;
      cells = ap (λ (v : ArenaView). v.cells) e ∙ h.cells;
      many = ap (λ (v : ArenaView). length v.states) e ∙ length-set now.states c.0 Vacant ∙ h.many;
    }

pub all_retired : (agents : List CellNo) (old new : ArenaView) → AreRetiredBelow agents old (length agents) new → AreRetired agents old new
all_retired agents old new h = record {
  gone = λ k c s. h.gone k c (slice_get_within agents k c s) s;
  others = λ y out. h.others y (λ k less s. out k s);
  free = λ d. h.free d ∙ ap (λ cs. free_of old d + count_by (is_for old d) cs) (take_all (length agents) agents (omega arith));
  memory = h.memory;
  cells = h.cells;
  many = h.many;
}
