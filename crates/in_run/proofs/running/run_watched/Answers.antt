use Rattle.std.proofs.Common.{◌≡◌, ◌⊎◌, ℕ, Ok, sym, subst}
use Rattle.in_arena.specs.declared.content.CellCounts.{CellCounts}
use Rattle.in_reducer.specs.Starts.{IsStart}
use Rattle.in_run.specs.Outcomes.{GoesOnToTheEnd, RunsTo}
use Rattle.in_run.specs.Stops.{IsStop, NoneHasRoom}
use Rattle.in_reducer.specs.Machines.{MachineParts}
use Rattle.in_machine.specs.Texts.{text_of}
use Rattle.in_order.specs.Ends.{EndsOnce}
use Rattle.in_run.proofs.OneEnd.{state_ended}
use Rattle.in_run.proofs.StatesOfRuns.{advances_further, begins, ends_at_the_end, ends_so}
use Rattle.in_run.proofs.running.run_watched.Goals as goal

pub loop-stop-init : goal.loop-stop-init
loop-stop-init g c =
    begins c.is_accepted.ensures.accepted.0 c.is_accepted.ensures.accepted.1 c.args.checked.now.program c.args.limits c.is_accepted.ensures.accepted.2 c.in-Ok.machine
    (subst (λ (n : CellCounts). IsStart c.args.checked.now.program n c.in-Ok.machine) c.cells.ensures.cells (c.in-Ok.ensures {u = tt}))

pub loop-stop-preserved : goal.loop-stop-preserved
loop-stop-preserved g c =
    let h = c.advance-interactions.ensures in
    advances_further c.args.checked.now.program c.args.limits c.loop-stop.interactions c.loop-stop.machine c.loop-stop.invariant c.advance-interactions.new.machine c.advance-interactions.result h.goes h.turn h.most

pub loop-stop-preserved-in-Some : goal.loop-stop-preserved-in-Some
loop-stop-preserved-in-Some g c =
    let h = c.go_on-more.ensures in
    advances_further c.args.checked.now.program c.args.limits c.loop-stop.interactions c.loop-stop.machine c.loop-stop.invariant c.go_on-more.new.machine c.go_on-more.result h.goes (λ one. absurd (c.if-more-eq0.false (h.alone one))) h.most

pub returns-then-more-eq0-clause-runs : goal.returns-then-more-eq0-clause-runs
returns-then-more-eq0-clause-runs g c =
    let p = c.args.checked.now.program in
    let l = c.args.limits in
    let k = c.loop-stop.interactions in
    let m = c.loop-stop.machine in
    let s = c.in-Some.stop in
    let h = c.go_on-more.ensures.none c.if-more-eq0.true in
    let stops = subst (λ (n : ℕ). IsStop n m k s) c.limit.ensures.limit (c.in-Some.ensures {u = tt}) in
    let goes_no_more = subst (λ (n : MachineParts). (l.workers ≡ 1) ⊎ (k ≡ l.limit) ⊎ NoneHasRoom n) h.0 h.1 in
    subst (λ (n : MachineParts). RunsTo p l (Ok (record { machine = n; interactions = k; stop = s }))) (sym h.0) (ends_so p l k m c.loop-stop.invariant s stops goes_no_more)

pub returns-then-more-eq0-clause-full : goal.returns-then-more-eq0-clause-full
returns-then-more-eq0-clause-full g c = λ several. (
    let p = c.args.checked.now.program in
    let l = c.args.limits in
    let k = c.loop-stop.interactions in
    let m = c.loop-stop.machine in
    let s = c.in-Some.stop in
    let h = c.go_on-more.ensures.none c.if-more-eq0.true in
    let stops = subst (λ (n : ℕ). IsStop n m k s) c.limit.ensures.limit (c.in-Some.ensures {u = tt}) in
    let goes_no_more = subst (λ (n : MachineParts). (l.workers ≡ 1) ⊎ (k ≡ l.limit) ⊎ NoneHasRoom n) h.0 h.1 in
    subst (λ (n : MachineParts). GoesOnToTheEnd p l (Ok (record { machine = n; interactions = k; stop = s }))) (sym h.0) (ends_at_the_end p l k m c.loop-stop.invariant s stops goes_no_more several)
    )

pub returns-then-more-eq0-clause-order : goal.returns-then-more-eq0-clause-order
returns-then-more-eq0-clause-order g c = λ normal.
    subst (λ (n : MachineParts). EndsOnce c.args.checked.now.program c.loop-stop.interactions (text_of n)) (sym (c.go_on-more.ensures.none c.if-more-eq0.true).0)
    (state_ended c.args.checked.now.program c.args.limits c.loop-stop.machine c.loop-stop.interactions c.loop-stop.invariant _ c.in-Some.stop (c.in-Some.ensures {u = tt}) normal)
