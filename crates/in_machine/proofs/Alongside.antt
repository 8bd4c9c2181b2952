-- The machine after a run: it is a machine of the same program, which reaches its net by as many interactions more.
use Rattle.std.proofs.Common.{◌≡◌, ◌+◌, ℕ, zero, suc, refl, subst, ◌∙◌, arith}
use Rattle.in_check.specs.Plain.{IsReachedBy}
use Rattle.in_reducer.specs.Machines.{MachineParts, plain_of}
use Rattle.in_reducer.specs.Runs.{Runs, at_start, then_step}
use Rattle.in_machine.specs.Machines.{IsMachine}
use Rattle.in_machine.proofs.StepsOn.{machine_on, steps_on}

-- if j interactions reach the first net, k more reach the second
abbrev pub ReachesOn : MachineParts → ℕ → MachineParts → Type 0
ReachesOn m k n = (j : ℕ) → IsReachedBy (plain_of m) j → IsReachedBy (plain_of n) (k + j)

pub record Along (m n : MachineParts) (k : ℕ) : Type 0 where
  pub machine : IsMachine n
  pub program : n.program ≡ m.program
  pub reached : ReachesOn m k n

pub along : (m n : MachineParts) (k : ℕ) → IsMachine m → Runs m k n → Along m n k
along m n zero h (at_start _) = record { machine = h; program = refl; reached = λ j r. subst (IsReachedBy (plain_of m)) (let z : j ≡ 0 + j = omega arith in z) r }
along m o (suc k) h (then_step _ n _ _ before s) =
    let a = along m n k h before in
    record {
      machine = machine_on n o 0 a.machine s;
      program = s.step.program ∙ a.program;
      reached = λ j r. subst (IsReachedBy (plain_of o)) (let z : suc (k + j) ≡ suc k + j = omega arith in z) ((steps_on n o 0 a.machine s).1 (k + j) (a.reached j r));
    }
