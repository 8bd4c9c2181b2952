use Rattle.std.proofs.Common.{◌-◌, ℕ, Ok, subst, arith}
use Rattle.in_arena.specs.declared.content.CellCounts.{CellCounts}
use Rattle.in_reducer.specs.Starts.{IsStart}
use Rattle.in_run.specs.Stops.{IsStop}
use Rattle.in_run.proofs.OneEnd.{normal_outcomes_are_one}
use Rattle.in_run.proofs.StatesOfRuns.{begins_in_turn, ends_in_turn, takes_in_turn, takes_some, turns_are_allowed}
use Rattle.in_run.proofs.in_turn.run_in_turn.Goals as goal

pub loop-stop-init : goal.loop-stop-init
loop-stop-init c =
    begins_in_turn c.args.checked.now.program c.args.limits c.in_ok-machine.machine (subst (λ (n : CellCounts). IsStart c.args.checked.now.program n c.in_ok-machine.machine) c.cells.ensures.cells c.in_ok-machine.ensures)

pub loop-stop-preserved : goal.loop-stop-preserved
loop-stop-preserved c =
    let limit = c.limit-in-loop-stop.ensures.limit in
    let most = c.take_first-interactions.ensures.most in
    let within = (c.in_default.ensures {u = tt}).1 in
    takes_in_turn c.is_accepted.ensures.accepted.0 c.is_accepted.ensures.accepted.1 c.args.checked.now.program c.args.limits c.take_first-interactions.result c.loop-stop.interactions c.loop-stop.machine c.take_first-interactions.new.self c.is_accepted.ensures.accepted.2 c.loop-stop.invariant c.take_first-interactions.ensures.runs
    (omega (arith, limit, most, within))

pub loop-stop-smaller : goal.loop-stop-smaller
loop-stop-smaller c =
    let limit = c.limit-in-loop-stop.ensures.limit in
    let first = c.limit.ensures.limit in
    let goes = c.in_default.ensures {u = tt} in
    let within = goes.1 in
    let some = takes_some c.loop-stop.machine c.take_first-interactions.new.self c.take_first-interactions.result (c.limit-in-loop-stop.result - c.loop-stop.interactions) c.take_first-interactions.ensures.runs goes.0 goes.2 (omega (arith, limit, first, within)) c.take_first-interactions.ensures.fewer in
    omega (arith, limit, first, within, some)

pub returns-in-Some-clause-runs : goal.returns-in-Some-clause-runs
returns-in-Some-clause-runs c =
    let turn = ends_in_turn c.args.checked.now.program c.args.limits c.loop-stop.interactions c.loop-stop.machine c.loop-stop.invariant c.in-Some.stop
    (subst (λ (n : ℕ). IsStop n c.loop-stop.machine c.loop-stop.interactions c.in-Some.stop) c.limit.ensures.limit (c.in-Some.ensures {u = tt})) in
    turns_are_allowed c.is_accepted.ensures.accepted.0 c.is_accepted.ensures.accepted.1 c.args.checked.now.program c.args.limits (Ok (record { machine = c.loop-stop.machine; interactions = c.loop-stop.interactions; stop = c.in-Some.stop })) c.is_accepted.ensures.accepted.2 turn

pub returns-in-Some-clause-order : goal.returns-in-Some-clause-order
returns-in-Some-clause-order c normal =
    normal_outcomes_are_one c.is_accepted.ensures.accepted.0 c.is_accepted.ensures.accepted.1 c.args.checked.now.program c.args.limits (record { machine = c.loop-stop.machine; interactions = c.loop-stop.interactions; stop = c.in-Some.stop }) c.is_accepted.ensures.accepted.2 (returns-in-Some-clause-runs c) normal
