-- The first two agents of a right member take the cells of the pair, which are free then.
use Rattle.std.proofs.Common.{◌≡◌, ◌≢◌, ◌⊎◌, inl, inr, ◌<◌, ◌≤◌, ◌+◌, ℕ, List, [], ◌∷◌, ◌++◌, length, slice_get, Some, refl, sym, ap, subst, ◌∙◌, get_or-set_other, arith}
use Rattle.std.proofs.lemmas.List.{length-set, set_comm}
use Rattle.in_arena.specs.Arenas.{ArenaView, changed, free_of, state_at}
use Rattle.in_arena.specs.Changes.{HasAllCells, one_if_free}
use Rattle.in_arena.specs.States.{State, Vacant, Leased, Live, IsLive}
use Rattle.in_arena.specs.declared.content.CellClass.{CellClass}
use Rattle.in_arena.specs.declared.content.CellNo.{CellNo}
use Rattle.in_arena.specs.declared.content.End.{End}
use Rattle.in_arena.proofs.Public.{class_of_number, counts_change, live_inside}
use Rattle.in_compile.specs.Cells.{count_of}
use Rattle.in_compile.specs.Members.{AgentParts, IsSoundMember, MemberParts}
use Rattle.in_compile.specs.Putting.{AreBegunBelow, BeginsAgent}
use Rattle.in_compile.proofs.Public.{begins, is_class, none_begun, one_more_begun, some_free}
use Rattle.in_reducer.specs.declared.sides.Pair.{Pair}
use Rattle.in_reducer.specs.Wiring.{AreLive, CanBegin, retired}

-- ---- a cell that is free makes none fewer

one_or_none : (x : State) → one_if_free x ≤ 1
one_or_none Vacant = omega arith
one_or_none Leased = omega arith
one_or_none (Live word ends) = omega arith

pub more_free : (a : ArenaView) (n : ℕ) (c : CellClass) → HasAllCells a → n < length a.states → free_of a c ≤ free_of (changed a n Vacant) c
more_free a n c all low =
    let d = class_of_number a.cells n (omega (arith, low, all)) in
    let counts = counts_change a n d.0 Vacant all d.1 in
    go d.0 counts.0 counts.1 (is_class c d.0)
  where
    go : (d : CellClass) → free_of (changed a n Vacant) d + one_if_free (state_at a n) ≡ free_of a d + 1 → ((e : CellClass) → (e ≡ d → ⊥) → free_of (changed a n Vacant) e ≡ free_of a e) → (c ≡ d) ⊎ (c ≡ d → ⊥)
        → free_of a c ≤ free_of (changed a n Vacant) c
    go d here others (inl same) = let one = one_or_none (state_at a n) in subst (λ (e : CellClass). free_of a e ≤ free_of (changed a n Vacant) e) (sym same) (let z : free_of a d ≤ free_of (changed a n Vacant) d = omega (arith, here, one) in z)
    go d here others (inr apart) = let e = others c apart in omega (arith, e)

pub all_stay : (a : ArenaView) (n : ℕ) (x : State) → HasAllCells a → HasAllCells (changed a n x)
all_stay a n x all = let l = length-set a.states n x in omega (arith, all, l)

not_live : (x : State) → IsLive x → x ≡ Vacant → ⊥
not_live x live e = subst IsLive e live

-- ---- a pair's cells

module _ (m : MemberParts) (sound : IsSoundMember m) (pair : Pair) (old : ArenaView) (live : AreLive pair old) (points : List End) (can : CanBegin m old points) where
  abbrev one : ArenaView
  one = changed old pair.one.0 Vacant

  pub all_one : HasAllCells one
  all_one = all_stay old pair.one.0 Vacant can.all

  all_two : HasAllCells (retired pair old)
  all_two = all_stay one pair.other.0 Vacant all_one

  enough_one : (c : CellClass) → count_of m.need c ≤ free_of one c
  enough_one c = let a = can.free c in let b = more_free old pair.one.0 c can.all (live_inside old pair.one.0 live.0) in omega (arith, a, b)

  enough_two : (c : CellClass) → count_of m.need c ≤ free_of (retired pair old) c
  enough_two c = let a = enough_one c in let b = more_free one pair.other.0 c all_one (live_inside one pair.other.0 live.1) in omega (arith, a, b)

  pub can_retired : CanBegin m (retired pair old) points
  can_retired = record { all = all_two; free = enough_two; few = can.few; long = can.long }

  pub first_free : (a : AgentParts) → slice_get m.agents 0 ≡ Some a → 0 < free_of one a.class
  first_free a at = some_free m one 0 one [] (none_begun m one) a at sound enough_one

  module _ (x : AgentParts) (at : slice_get m.agents 0 ≡ Some x) (n : CellNo) (next : ArenaView) (b : BeginsAgent x one n.0 next) where
    apart : n.0 ≢ pair.other.0
    apart e = not_live (state_at one pair.other.0) live.1 (ap (state_at one) (sym e) ∙ b.was)

    pub other_live : IsLive (state_at next pair.other.0)
    other_live = subst IsLive (sym (ap (λ (v : ArenaView). state_at v pair.other.0) b.arena ∙ get_or-set_other one.states n.0 pair.other.0 b.state Leased (λ e. apart (sym e)))) live.1

    pub all_next : HasAllCells next
    all_next = subst HasAllCells (sym b.arena) (all_stay one n.0 b.state all_one)

    pub second_free : (a : AgentParts) → slice_get m.agents 1 ≡ Some a → 0 < free_of (changed next pair.other.0 Vacant) a.class
    second_free a at_a =
        let before = one_more_begun m one 0 one [] (none_begun m one) x at n next b ([] ++ n ∷ []) refl in
        let some = some_free m one 1 next (n ∷ []) before a at_a sound enough_one in
        let more = more_free next pair.other.0 a.class all_next (live_inside next pair.other.0 other_live) in
        omega (arith, some, more)

    -- the same if the other cell is free already
    moved : BeginsAgent x (retired pair old) n.0 (changed next pair.other.0 Vacant)
    moved = begins (retired pair old) all_two x x.class refl x.symbol.0 (length x.ends) refl refl n.0 (changed next pair.other.0 Vacant) (record {
      at = b.at;
      was = get_or-set_other one.states pair.other.0 n.0 Vacant Leased apart ∙ b.was;
      state = b.state;
      begun = b.begun;
      arena = ap (λ (v : ArenaView). changed v pair.other.0 Vacant) b.arena
          ∙ ap (λ (ss : List State). let v : ArenaView = record { memory = old.memory; cells = old.cells; states = ss } in v) (set_comm one.states n.0 pair.other.0 b.state Vacant apart);
    })

    pub first_below : AreBegunBelow m (retired pair old) 1 (changed next pair.other.0 Vacant) (n ∷ [])
    first_below = one_more_begun m (retired pair old) 0 (retired pair old) [] (none_begun m (retired pair old)) x at n (changed next pair.other.0 Vacant) moved ([] ++ n ∷ []) refl

    pub both_below : (y : AgentParts) → slice_get m.agents 1 ≡ Some y → (k : CellNo) (new : ArenaView) → BeginsAgent y (changed next pair.other.0 Vacant) k.0 new → AreBegunBelow m (retired pair old) 2 new (n ∷ k ∷ [])
    both_below y at_y k new begun = one_more_begun m (retired pair old) 1 (changed next pair.other.0 Vacant) (n ∷ []) first_below y at_y k new begun ((n ∷ []) ++ k ∷ []) refl
