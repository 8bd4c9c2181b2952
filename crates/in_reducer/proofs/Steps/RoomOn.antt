-- Interactions that have the cells that they need, as is known before the first of them.
use Rattle.std.proofs.Common.{◌≡◌, ◌≤◌, ◌<◌, ◌+◌, ◌*◌, ℕ, zero, suc, refl, sym, ap, subst, ◌∙◌, suc-mul, zero-mul, arith}
use Rattle.std.proofs.lemmas.Nat.{mul-le}
use Rattle.std.proofs.lemmas.Option.{slice_get-get_or}
use Rattle.in_arena.specs.declared.content.CellClass.{CellClass}
use Rattle.in_check.specs.Programs.{Program}
use Rattle.in_compile.specs.declared.cells.Need.{Need}
use Rattle.in_compile.specs.Cells.{IsEnough, count_of}
use Rattle.in_compile.specs.Templates.{AreTemplatesOf, IsLargestNeed, TemplatesParts}
use Rattle.in_reducer.specs.Machines.{MachineParts}
use Rattle.in_reducer.specs.Reducers.{IsReducer}
use Rattle.in_reducer.specs.Runs.{Runs, at_start, then_step}
use Rattle.in_reducer.specs.Same.{RunsUpToNumbers}
use Rattle.in_reducer.specs.Steps.{HasRoomAt, StepsAt}
use Rattle.in_reducer.specs.Taking.{HasRoomOn}
use Rattle.in_reducer.proofs.Numbers.Before.{reducer_runs, runs_on}
use Rattle.in_reducer.proofs.Numbers.OfSame.{reducer_same}
use Rattle.in_reducer.proofs.Numbers.SameStep.{need_moved}
use Rattle.in_reducer.proofs.Steps.Found.{at_pair, its_need}
use Rattle.in_reducer.proofs.Steps.TakesNeed.{takes_its_need}

-- ---- the program stays

same_program : (m n : MachineParts) (k : ℕ) → Runs m k n → n.program ≡ m.program
same_program m n zero (at_start _) = refl
same_program m o (suc k) (then_step _ n _ _ before s) = s.step.program ∙ same_program m n k before

pub program_stays : (m n : MachineParts) (k : ℕ) → RunsUpToNumbers m k n → n.program ≡ m.program
program_stays m n k (s, same, run) = same_program s n k run ∙ same.1.program

-- .. and so does the invariant
pub reducer_on : (m n : MachineParts) (k : ℕ) → IsReducer m → RunsUpToNumbers m k n → IsReducer n
reducer_on m n k h (s, same, run) = reducer_runs s n k (reducer_same m s h same.0 same.1) run

-- ---- the largest need

module _ (ts : TemplatesParts) (most : Need) (is : IsLargestNeed ts.templates most) where
  -- an interaction takes no more cells than that
  takes_no_more : (m o : MachineParts) → IsReducer m → AreTemplatesOf m.program ts → StepsAt m 0 o → (c : CellClass) → count_of m.vacant c ≤ count_of o.vacant c + count_of most c
  takes_no_more m o h are s c =
      let at = at_pair m h 0 s.pair s.stands in
      let need = its_need m h 0 s.pair s.stands ts are at.first at.second at.one at.two in
      let taken = takes_its_need m o 0 h s need.0 need.1 c in
      let few = need.2 most is c in
      omega (arith, taken, few)

  -- .. and so many of them no more than so many times that
  take_no_more : (m n : MachineParts) (k : ℕ) → IsReducer m → AreTemplatesOf m.program ts → Runs m k n → (c : CellClass) → count_of m.vacant c ≤ count_of n.vacant c + k * count_of most c
  take_no_more m n zero h are (at_start _) c = omega (arith, zero-mul (count_of most c))
  take_no_more m o (suc k) h are (then_step _ n _ _ before s) c =
      let earlier = take_no_more m n k h are before c in
      let taken = takes_no_more n o (reducer_runs m n k h before) (subst (λ (p : Program). AreTemplatesOf p ts) (sym (same_program m n k before)) are) s c in
      omega (arith, earlier, taken, suc-mul k (count_of most c))

  module _ (m : MachineParts) (h : IsReducer m) (are : AreTemplatesOf m.program ts) (many : ℕ) (free : (c : CellClass) → many * count_of most c ≤ count_of m.vacant c) where
    pub have_room : HasRoomOn many m
    have_room k n low (s, same, run) some =
        let of_s = reducer_same m s h same.0 same.1 in
        let are_s = subst (λ (p : Program). AreTemplatesOf p ts) (sym same.1.program) are in
        let of_n = reducer_runs s n k of_s run in
        let are_n = subst (λ (p : Program). AreTemplatesOf p ts) (sym (same_program s n k run)) are_s in
        let stands = slice_get-get_or n.queue 0 (0, 0) some in
        let at = at_pair n of_n 0 _ stands in
        let need = its_need n of_n 0 _ stands ts are_n at.first at.second at.one at.two in (
          need.0,
          need.1,
          λ c. (
              let x = count_of most c in
              let all = free c in
              let vacant : count_of s.vacant c ≡ count_of m.vacant c = ap (λ (z : Need). count_of z c) same.1.vacant in
              let taken = take_no_more s n k of_s are_s run c in
              let few = need.2 most is c in
              let these : suc k * x ≤ many * x = mul-le (suc k) x many x (let z : suc k ≤ many = omega (arith, low) in z) (let z : x ≤ x = omega arith in z) in
              let sum = suc-mul k x in
              omega (arith, all, vacant, taken, few, these, sum)
              ),
        )

-- ---- as many as that

-- fewer times are in the free cells, too
pub fewer_times : (few many need free : ℕ) → few ≤ many → many * need ≤ free → few * need ≤ free
fewer_times few many need free le fits = let these : few * need ≤ many * need = mul-le few need many need le (let z : need ≤ need = omega arith in z) in omega (arith, these, fits)

pub fewer_have_room : (m : MachineParts) (few many : ℕ) → few ≤ many → HasRoomOn many m → HasRoomOn few m
fewer_have_room m few many le room k n low run some = room k n (let z : k < many = omega (arith, low, le) in z) run some

-- .. and the later ones have it after the first ones
pub room_later : (m n : MachineParts) → IsReducer m → (done few many : ℕ) → RunsUpToNumbers m done n → few + done ≤ many → HasRoomOn many m → HasRoomOn few n
room_later m n h done few many runs le room k o low more some = room (k + done) o (let z : k + done < many = omega (arith, low, le) in z) (runs_on m n o done k h runs more) some

-- the first one has it if its cells are free
pub one_has_room : (m : MachineParts) → HasRoomAt m 0 → HasRoomOn 1 m
one_has_room m room zero n low (s, same, at_start _) some =
    (room.0, need_moved same.0 m n same.1 0 room.0 room.1, subst (λ (z : Need). IsEnough (count_of room.0) (count_of z)) (sym same.1.vacant) room.2)
one_has_room m room (suc k) n low run some = absurd (omega (arith, low))
