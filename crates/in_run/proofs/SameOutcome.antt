-- The stops of runs of machines that are the same up to the numbers of their agents.
use Rattle.std.proofs.Common.{◌≡◌, ◌≢◌, ◌⊎◌, inl, inr, ◌<◌, ℕ, Option, Some, None, List, [], ◌∷◌, map, slice_get, refl, sym, ap, subst, ◌∙◌, arith}
use Rattle.in_arena.specs.declared.content.CellClass.{CellClass}
use Rattle.in_interaction.specs.Queues.{both}
use Rattle.in_compile.specs.declared.cells.Need.{Need}
use Rattle.in_run.specs.declared.stops.Stop.{Stop}
use Rattle.in_run.specs.declared.stops.Stop.TheVariants.{Normal, Limit, Full}
use Rattle.in_compile.specs.Cells.{count_of, IsFirstShort}
use Rattle.in_reducer.specs.Machines.{MachineParts}
use Rattle.in_machine.specs.Machines.{IsMachine}
use Rattle.in_reducer.specs.Steps.{HasRoomAt, IsShortAt}
use Rattle.in_reducer.specs.Runs.{Runs}
use Rattle.in_run.specs.Stops.{IsStop, IsOutcome}
use Rattle.in_reducer.specs.Same.{IsSameMachine, AreSame}
use Rattle.in_compile.proofs.Public.{one_short}
use Rattle.in_reducer.proofs.Public.{need_moved, pair_moved}
use Rattle.in_machine.proofs.Public.{machine_runs, one_need, passes, room_moved, same_run}

-- ---- one machine

module _ (m : MachineParts) (h : IsMachine m) where
  enough : (c : CellClass) (need free : ℕ) → IsShortAt m 0 c need free → HasRoomAt m 0 → ⊥
  enough c need free (x, at, short, a, b) (y, there, room) =
      let e : count_of x c ≡ count_of y c = ap (λ (z : Need). count_of z c) (one_need m h 0 x y at there) in
      let s = short.0 in
      let l = room c in
      omega (arith, e, s, l)

  -- where a run stops, no step of it is next
  not_next : (limit k : ℕ) (s : Stop) → IsStop limit m k s → k < limit → (q : ℕ × ℕ) → slice_get m.queue 0 ≡ Some q → HasRoomAt m 0 → ⊥
  not_next limit k Normal e l q stands room = let z : ◌≡◌ {A = Option (ℕ × ℕ)} None (Some q) = sym (ap (λ (q : List (ℕ × ℕ)). slice_get q 0) e) ∙ stands in cc
  not_next limit k Limit (e, f) l q stands room = omega (arith, f, l)
  not_next limit k (Full c need free) (e, f, short) l q stands room = enough c need free short room

  same_short : (c d : CellClass) (x y f g : ℕ) → IsShortAt m 0 c x f → IsShortAt m 0 d y g → ◌≡◌ {A = Stop} (Full c x f) (Full d y g)
  same_short c d x y f g (u, at, short, a, b) (v, there, shorter, e, k) =
      let needs : u ≡ v = one_need m h 0 u v at there in
      let class : c ≡ d = one_short (count_of v) (count_of m.vacant) c d (subst (λ (z : Need). IsFirstShort (count_of z) (count_of m.vacant) c) needs short) shorter in
      let need : x ≡ y = a ∙ ap (λ (z : Need). count_of z c) needs ∙ ap (count_of v) class ∙ sym e in
      let free : f ≡ g = b ∙ ap (count_of m.vacant) class ∙ sym k in
      ap (λ (z : CellClass). Full z x f) class ∙ ap (λ (z : ℕ). Full d z f) need ∙ ap (λ (z : ℕ). Full d y z) free

  pub same_stop : (limit k : ℕ) (s t : Stop) → IsStop limit m k s → IsStop limit m k t → s ≡ t
  same_stop limit k Normal Normal a b = refl
  same_stop limit k Normal Limit a b = absurd (b.0 a)
  same_stop limit k Normal (Full c x f) a b = absurd (b.0 a)
  same_stop limit k Limit Normal a b = absurd (a.0 b)
  same_stop limit k Limit Limit a b = refl
  same_stop limit k Limit (Full c x f) a b = absurd (let l = a.1 in let n = b.1 in omega (arith, l, n))
  same_stop limit k (Full c x f) Normal a b = absurd (a.0 b)
  same_stop limit k (Full c x f) Limit a b = absurd (let l = b.1 in let n = a.1 in omega (arith, l, n))
  same_stop limit k (Full c x f) (Full d y g) a b = same_short c d x y f g a.2 b.2

-- ---- two machines that are the same up to numbers

none_left : {X Y : Type 0} (f : X → Y) (xs : List X) → map f xs ≡ [] → xs ≡ []
none_left f [] e = refl
none_left f (x ∷ xs) e = cc

module _ (f : ℕ → ℕ) (m n : MachineParts) (same : IsSameMachine f m n) where
  some_moved : m.queue ≢ [] → n.queue ≢ []
  some_moved some e = some (none_left (both f) m.queue (sym same.queue ∙ e))

  pub stop_moved : (limit k : ℕ) (s : Stop) → IsStop limit m k s → IsStop limit n k s
  stop_moved limit k Normal h = same.queue ∙ ap (map (both f)) h
  stop_moved limit k Limit h = (some_moved h.0, h.1)
  stop_moved limit k (Full c need free) (some, l, (x, at, short, a, b)) = (some_moved some, l, (x, need_moved f m n same 0 x at, subst (λ (z : Need). IsFirstShort (count_of x) (count_of z) c) (sym same.vacant) short, a, b ∙ ap (λ (z : Need). count_of z c) (sym same.vacant)))

module _ (start other : MachineParts) (machine : IsMachine start) (machine_too : IsMachine other) (same : AreSame start other) (limit : ℕ) (m n : MachineParts) (j k : ℕ) (s t : Stop) (x : IsOutcome start limit m j s) (y : IsOutcome other limit n k t) where
  -- the first run is no shorter than the second
  not_shorter : j < k → ⊥
  not_shorter l =
      let u = passes other n j k y.run l in
      let r = same_run start other m u.0 j machine machine_too same x.run u.1 in
      let step = u.2.1 in
      not_next u.0 (machine_runs other u.0 j machine_too u.1) limit j s (stop_moved r.0 m u.0 r.1 limit j s x.stop) (let w = y.within in omega (arith, l, w)) step.pair step.stands step.room

  not_longer : k < j → ⊥
  not_longer l =
      let u = passes start m k j x.run l in
      let r = same_run start other u.0 n k machine machine_too same u.1 y.run in
      let step = u.2.1 in
      not_next n (machine_runs other n k machine_too y.run) limit k t y.stop (let w = x.within in omega (arith, l, w)) (both r.0 step.pair) (pair_moved r.0 u.0 n r.1 0 step.pair step.stands) (room_moved r.0 u.0 n r.1 step.room)

  as_long : j ≡ k
  as_long = elim (let z : (j < k) ⊎ (k < j) ⊎ (j ≡ k) = grind arith in z) [
    | inl l ↦ absurd (not_shorter l)
    | inr z ↦ elim z [ inl l ↦ absurd (not_longer l) | inr e ↦ e ]
  ]

  pub same_outcome : AreSame m n × (j ≡ k) × (s ≡ t)
  same_outcome =
      let run : Runs start k m = subst (λ i. Runs start i m) as_long x.run in
      let r = same_run start other m n k machine machine_too same run y.run in
      let stop : IsStop limit n k s = stop_moved r.0 m n r.1 limit k s (subst (λ i. IsStop limit m i s) as_long x.stop) in
      (r, as_long, same_stop n (machine_runs other n k machine_too y.run) limit k s t stop y.stop)
