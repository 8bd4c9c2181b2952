use Rattle.std.proofs.Common.{◌≡◌, ◌+◌, ℕ, Result, Ok, Err, IfOk, OnErr, sym, subst}
use Rattle.in_check.specs.Plain.{IsReachedBy}
use Rattle.in_check.specs.Programs.{Program}
use Rattle.in_compile.specs.Templates.{AreTemplatesOf, TemplatesParts}
use Rattle.in_rounds.specs.declared.rounding.Round.{Round}
use Rattle.in_reducer.specs.Machines.{MachineParts, plain_of}
use Rattle.in_machine.specs.Machines.{IsMachine}
use Rattle.in_rounds.specs.Rounds.{IsFront, IsRound}
use Rattle.in_machine.proofs.Public.{along}
use Rattle.in_rounds.proofs.Rounded.{rounds_end}
use Rattle.in_rounds.proofs.rounds.round.Goals as goal

-- the properties that are kept, by a round or without one
kept : {E : Type 0} (m n : MachineParts) (ts : TemplatesParts) (budget : ℕ) (o : Result Round E) → IsMachine m → AreTemplatesOf m.program ts → IfOk o (λ r. IsFront m budget n r.interactions) → OnErr o (n ≡ m) → IsMachine n × AreTemplatesOf n.program ts
kept m n ts budget (Ok r) h of front same = let a = along m n r.interactions h front.run in (a.machine, subst (λ (p : Program). AreTemplatesOf p ts) (sym a.program) of)
kept m n ts budget (Err e) h of front same = subst (λ (z : MachineParts). IsMachine z × AreTemplatesOf z.program ts) (sym same) (h, of)

round_by : {E : Type 0} (m n : MachineParts) (budget : ℕ) (o : Result Round E) → IsMachine m → IfOk o (λ r. IsFront m budget n r.interactions) → IfOk o (λ r. IsRound m budget n r.interactions)
round_by m n budget (Ok r) h front = rounds_end m n budget r.interactions h front
round_by m n budget (Err e) h front = tt

counted_by : {E : Type 0} (m n : MachineParts) (budget : ℕ) (o : Result Round E) → IsMachine m → IfOk o (λ r. IsFront m budget n r.interactions)
    → IfOk o (λ r. (k : ℕ) → IsReachedBy (plain_of m) k → IsReachedBy (plain_of n) (r.interactions + k))
counted_by m n budget (Ok r) h front = (along m n r.interactions h front.run).reached
counted_by m n budget (Err e) h front = tt

pub invariant_of-machine : goal.invariant_of-machine
invariant_of-machine g c =
    let old = c.machine.inside.reducer in
    kept old c.reducer_round.new.reducer c.machine.inside.templates c.args.budget c.reducer_round.result c.machine.invariant.0 c.machine.invariant.1 c.reducer_round.ensures.front c.reducer_round.ensures.refused

pub returns-clause-round : goal.returns-clause-round
returns-clause-round g c =
    subst (λ (z : MachineParts). IfOk c.reducer_round.result (λ r. IsRound z c.args.budget c.reducer_round.new.reducer r.interactions)) c.machine.view_is
    (round_by c.machine.inside.reducer c.reducer_round.new.reducer c.args.budget c.reducer_round.result c.machine.invariant.0 c.reducer_round.ensures.front)

pub returns-clause-counted : goal.returns-clause-counted
returns-clause-counted g c =
    subst (λ (z : MachineParts). IfOk c.reducer_round.result (λ r. (k : ℕ) → IsReachedBy (plain_of z) k → IsReachedBy (plain_of c.reducer_round.new.reducer) (r.interactions + k))) c.machine.view_is
    (counted_by c.machine.inside.reducer c.reducer_round.new.reducer c.args.budget c.reducer_round.result c.machine.invariant.0 c.reducer_round.ensures.front)
