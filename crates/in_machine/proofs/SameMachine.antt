-- A reducer that is the same as a machine up to the numbers of its agents is a machine.
use Rattle.std.proofs.Common.{ℕ, map, sym, ap, subst, ◌∙◌}
use Rattle.in_net.specs.Nets.{net_of}
use Rattle.in_check.specs.Plain.{IsReachedBy}
use Rattle.in_check.specs.Programs.{Program}
use Rattle.in_check.specs.Runs.{Reached, then_renamed}
use Rattle.in_check.specs.Systems.{system_of}
use Rattle.in_reducer.specs.Machines.{MachineParts, parts_of, plain_of}
use Rattle.in_reducer.specs.Same.{AreSame}
use Rattle.in_reducer.proofs.Public.{reducer_same}
use Rattle.in_machine.specs.Machines.{IsMachine}
use Rattle.in_machine.proofs.StepsOn.{as_machine, as_reducer}

-- under other numbers a net is reached by as many interactions
pub reached_same : (m n : MachineParts) (k : ℕ) → AreSame m n → IsReachedBy (plain_of m) k → IsReachedBy (plain_of n) k
reached_same m n k (f, same) reached = subst (λ (z : Program). Reached (system_of z) k (net_of (parts_of n))) (sym same.program) (then_renamed k (net_of (parts_of m)) f (net_of (parts_of n)) reached same.net)

pub machine_same : (m n : MachineParts) → IsMachine m → AreSame m n → IsMachine n
machine_same m n h (f, same) =
    let r = reducer_same m n (as_reducer m h) f same in
    as_machine n r (record {
      reached = (h.plain.reached.0, reached_same m n h.plain.reached.0 (f, same) h.plain.reached.1);
      over = r.net.over;
      names = same.names ∙ h.plain.names ∙ ap (λ (z : Program). map (λ f. f.name) z.net.free) (sym same.program);
    })
