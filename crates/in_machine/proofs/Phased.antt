-- A machine whose net is reduced in parts is one of the same program.
use Rattle.std.proofs.Common.{◌≡◌, ◌+◌, ℕ, map, sym, ap, subst, ◌∙◌, arith}
use Rattle.in_net.specs.Nets.{net_of}
use Rattle.in_check.specs.Plain.{IsPlain}
use Rattle.in_check.specs.Programs.{Program}
use Rattle.in_check.specs.Runs.{Reached}
use Rattle.in_check.specs.Systems.{system_of}
use Rattle.in_order.proofs.Public.{runs_are_joined}
use Rattle.in_reducer.specs.Machines.{MachineParts, parts_of, plain_of}
use Rattle.in_reducer.specs.Parting.{ReducesTo}
use Rattle.in_reducer.specs.Reducers.{IsReducer}
use Rattle.in_machine.specs.Machines.{IsMachine}
use Rattle.in_machine.specs.Phases.{IsPhase}
use Rattle.in_machine.proofs.Alongside.{ReachesOn}
use Rattle.in_machine.proofs.StepsOn.{as_machine}

module _ (m n : MachineParts) (k : ℕ) (h : IsMachine m) (of : IsReducer n) (reduced : ReducesTo m k n) where
  reached_on : ReachesOn m k n
  reached_on j reached =
      subst (λ (p : Program). Reached (system_of p) (k + j) (net_of (parts_of n))) (sym reduced.program)
      (subst (λ (z : ℕ). Reached (system_of m.program) z (net_of (parts_of n))) (let z : j + k ≡ k + j = omega arith in z)
      (runs_are_joined (system_of m.program) j k (net_of (parts_of m)) (net_of (parts_of n)) reached reduced.leads))

  plain_on : IsPlain (plain_of n)
  plain_on = record {
    reached = (k + h.plain.reached.0, reached_on h.plain.reached.0 h.plain.reached.1);
    over = of.net.over;
    names = reduced.names ∙ h.plain.names ∙ ap (λ (p : Program). map (λ f. f.name) p.net.free) (sym reduced.program);
  }

  pub phased : IsPhase m k n
  phased = record { machine = as_machine n of plain_on; program = reduced.program; cells = reduced.cells; reached = reached_on }
