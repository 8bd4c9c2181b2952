-- Cuts are undone, the last one first.
use Rattle.std.proofs.Common.{◌≤◌, ℕ, suc, length}
use Rattle.in_reducer.specs.Cutting.{CanJoin, JoinsLast}
use Rattle.in_reducer.specs.Machines.{MachineParts}
use Rattle.in_reducer.specs.Parting.{ReducesTo}
use Rattle.in_reducer.specs.PartingLaws.{IsCutTimes, uncut, then_cut}
use Rattle.in_reducer.proofs.Public.{cuts_are_undone}

-- the net was cut w times, and reduced to this one since
pub record IsCutAndReduced (m : MachineParts) (w k : ℕ) (now : MachineParts) : Type 0 where
  pub cut : MachineParts
  pub times : IsCutTimes m w cut
  pub reduced : ReducesTo cut k now

pub record CanUndo (m : MachineParts) (w k : ℕ) (now : MachineParts) : Type 0 where
  pub join : CanJoin now
  pub two : 2 ≤ length now.free
  pub after : (o : MachineParts) → JoinsLast now o → IsCutAndReduced m w k o

pub can_undo : (m now : MachineParts) (w k : ℕ) → IsCutAndReduced m (suc w) k now → CanUndo m w k now
can_undo m now w k h = go h.cut h.times h.reduced
  where
    go : (cut : MachineParts) → IsCutTimes m (suc w) cut → ReducesTo cut k now → CanUndo m w k now
    go cut (then_cut _ _ n _ c i before reducer at) reduced =
        let u = cuts_are_undone n cut now c i k reducer at reduced in
        record { join = u.0; two = u.1; after = λ o joined. record { cut = n; times = before; reduced = u.2 o joined } }

-- if no cut is left, all are undone
pub all_undone : (m now : MachineParts) (k : ℕ) → IsCutAndReduced m 0 k now → ReducesTo m k now
all_undone m now k h = go h.cut h.times h.reduced
  where
    go : (cut : MachineParts) → IsCutTimes m 0 cut → ReducesTo cut k now → ReducesTo m k now
    go cut (uncut _) reduced = reduced
