-- Rounds: all jobs of a round are done if there is room for them together.
use Rattle.std.proofs.Common.{◌≡◌, ◌⊎◌, inl, inr, ◌<◌, ◌≤◌, ◌+◌, ◌-◌, ℕ, arith}
use Rattle.in_machine.specs.Machines.{IsMachine}
use Rattle.in_machine.specs.Together.{HasRoomFor}
use Rattle.in_reducer.proofs.Public.{joined}
use Rattle.in_machine.proofs.Public.{room_lasts}
use Rattle.in_reducer.specs.Machines.{MachineParts}
use Rattle.in_reducer.specs.Runs.{Runs}
use Rattle.in_reducer.specs.Steps.{HasRoomAt}
use Rattle.in_rounds.specs.Rounds.{IsFront, IsRound, jobs_of}

pub rounds_end : (m n : MachineParts) (budget k : ℕ) → IsMachine m → IsFront m budget n k → IsRound m budget n k
rounds_end m n budget k h f = record { front = f; all = λ room. (elim f.ends [ inl e ↦ e | inr stuck ↦ ended room stuck ]) }
  where
    ended : HasRoomFor m (jobs_of m budget) → (HasRoomAt n 0 → ⊥) → k ≡ jobs_of m budget
    ended room stuck = let most = f.most in elim (let c : (k < jobs_of m budget) ⊎ (k ≡ jobs_of m budget) = grind (arith, most) in c) [
      | inl less ↦ absurd (stuck (room_lasts m n k (jobs_of m budget) h room f.run less))
      | inr e ↦ e
    ]

pub runs_on : (start m n : MachineParts) (limit j k : ℕ) → Runs start j m → j < limit → IsRound m (limit - j) n k → Runs start (k + j) n × (k + j ≤ limit) × (j < k + j)
runs_on start m n limit j k run l h = (joined start m n j k run h.front.run, (let a = h.front.most in omega (arith, a, l)), (let b = h.front.some in omega (arith, b)))
