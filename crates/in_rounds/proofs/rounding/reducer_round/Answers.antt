use Rattle.std.proofs.Common.{◌≡◌, ◌⊎◌, inl, inr, ◌<◌, ◌≤◌, ℕ, zero, suc, length, refl, sym, ap, subst, ◌∙◌, arith}
use Rattle.std.proofs.Math.Nat.{div-le_self}
use Rattle.in_arena.proofs.Public.{class_few}
use Rattle.in_arena.specs.Arenas.{ArenaView, free_of}
use Rattle.in_arena.specs.declared.content.CellClass.TheVariants.{Small}
use Rattle.in_compile.specs.declared.cells.Need.{Need}
use Rattle.in_compile.specs.Cells.{count_of}
use Rattle.in_rounds.specs.Gathers.{bags_of}
use Rattle.in_reducer.specs.Inside.{over, reducer_view}
use Rattle.in_reducer.specs.Machines.{MachineParts}
use Rattle.in_reducer.specs.Runs.{Runs}
use Rattle.in_rounds.specs.Lending.{IsShare}
use Rattle.in_rounds.specs.Rounds.{jobs_of}
use Rattle.in_reducer.specs.Standing.{at_rest}
use Rattle.in_reducer.specs.Steps.{HasRoomAt}
use Rattle.in_rounds.proofs.Gathered.{lent_have_all}
use Rattle.in_rounds.proofs.WhileLent as lending
use Rattle.in_reducer.proofs.Public.{free_is, rests, short_queue}
use Rattle.in_rounds.proofs.rounding.reducer_round.Goals as goal

some_or_none : (k : ℕ) → (0 < k) ⊎ (k ≡ 0)
some_or_none zero = inr refl
some_or_none (suc k) = inl (omega arith)

pub overflow_add-count : goal.overflow_add-count
overflow_add-count g c =
    let short = short_queue _ c.pairs.ensures.reducer in
    let cells = c.pairs.ensures.reducer.cells in let most = class_few cells.0 cells.1 Small in
    let part = div-le_self c.min-count.result c.args.workers in
    omega (arith, short, most.1, part, c.pairs.ensures.count, c.from.ensures, c.min-count.ensures)

pub gather_jobs-requires-clause-few : goal.gather_jobs-requires-clause-few
gather_jobs-requires-clause-few g c =
    let short = short_queue _ c.pairs.ensures.reducer in
    let cells = c.pairs.ensures.reducer.cells in let most = class_few cells.0 cells.1 Small in
    let long = ap (λ x. length x.jobs) c.new-plan.ensures in
    let slice = ap length c.as_slice.ensures.value in
    omega (arith, short, most.1, long, slice, c.in_ok-heads.ensures.count, c.pairs.ensures.count, c.from.ensures, c.min-count.ensures)

pub gather_jobs-requires-clause-share : goal.gather_jobs-requires-clause-share
gather_jobs-requires-clause-share g c =
    let a = c.reducer.inside.body.arena in
    let shared : IsShare c.args.workers c.share_of-share.result (free_of a) = λ d.
    let share = c.share_of-share.ensures.share d in
    let shown = ap (λ (n : Need). count_of n d) (c.vacant.ensures ∙ sym (ap (λ (m : MachineParts). m.vacant) c.reducer.view_is)) in
    let free = free_is (at_rest a) d ∙ ap (λ (v : ArenaView). free_of v d) (rests a c.reducer.invariant.none) in
    omega (arith, share, shown, free)
    in
    λ _ _. shared

pub stitch_all-stitched-requires-clause-all : goal.stitch_all-stitched-requires-clause-all
stitch_all-stitched-requires-clause-all g c =
    let r = c.reducer.inside.body in
    let b = c.gather_jobs.new.arena in
    let lent = c.in_ok-gather.ensures.lent in
    lending.keeps_all r b lent.memory lent.cells lent.count (lending.lent_alike (bags_of c.in_ok-gather.gather.slots) r.arena b lent) c.reducer.invariant.all

pub stitch_all-stitched-requires-clause-lent : goal.stitch_all-stitched-requires-clause-lent
stitch_all-stitched-requires-clause-lent g c =
    lent_have_all (bags_of c.in_ok-gather.gather.slots) c.reducer.inside.body.arena c.gather_jobs.new.arena c.reducer.invariant.none c.in_ok-gather.ensures.lent

pub returns-clause-front : goal.returns-clause-front
returns-clause-front g c =
    let r = c.reducer.inside.body in
    let m = c.args.reducer.now in
    let b = c.gather_jobs.new.arena in
    let lent = c.in_ok-gather.ensures.lent in
    let first : reducer_view (over b r) ≡ m = lending.view_same r b lent.memory lent.cells lent.count (lending.lent_alike (bags_of c.in_ok-gather.gather.slots) r.arena b lent) ∙ c.reducer.view_is in
    let stitched = c.stitch_all-stitched.result in
    let middle = reducer_view c.stitch_all-stitched.new.body in
    let given = reducer_view c.give_back.new.body in
    let ran : Runs m stitched middle = subst (λ (z : MachineParts). Runs z stitched middle) first c.stitch_all-stitched.ensures.runs in
    let back : Runs m stitched given = subst (λ (z : MachineParts). Runs m stitched z) (sym c.give_back.ensures.same) ran in
    let jobs : c.min-count.result ≡ jobs_of m c.args.budget = omega (arith, c.pairs.ensures.count, c.from.ensures, c.min-count.ensures) in
    record {
      run = c.step_on-interactions.ensures.runs m back;
      some = one m c.args.budget stitched given c.step_on-interactions.result back c.requires.room (let p = c.requires.pair in let q = c.requires.budget in omega (arith, jobs, p, q)) c.step_on-interactions.ensures.from c.step_on-interactions.ensures.some;
      most = (let l = c.step_on-interactions.ensures.most in omega (arith, l, jobs));
      ends = elim c.step_on-interactions.ensures.ends [ inl e ↦ inl (e ∙ jobs) | inr none ↦ inr none ];
    }
  where
    one : (m : MachineParts) (budget stitched : ℕ) (given : MachineParts) (count : ℕ) → Runs m stitched given → HasRoomAt m 0 → 0 < c.min-count.result → stitched ≤ count → (stitched < c.min-count.result → HasRoomAt given 0 → stitched < count) → 1 ≤ count
    one m budget stitched given count run room jobs from more = go (some_or_none stitched)
      where
        go : (0 < stitched) ⊎ (stitched ≡ 0) → 1 ≤ count
        go (inl l) = omega (arith, l, from)
        go (inr e) = let l = more (omega (arith, e, jobs)) (subst (λ (z : MachineParts). HasRoomAt z 0) (sym (lending.none_run m given stitched run e)) room) in omega (arith, l)
