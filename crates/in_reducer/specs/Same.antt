-- Machines that differ in the numbers of their agents alone. Lafont 1990 takes nets up to the names of their agents.
use Rattle.std.specs.Prelude.{◌≡◌, ℕ, map}
use Rattle.in_net.specs.Nets.{net_of}
use Rattle.in_net.specs.Renaming.{IsRenamed}
use Rattle.in_interaction.specs.Queues.{both}
use Rattle.in_reducer.specs.Machines.{MachineParts, parts_of}
use Rattle.in_reducer.specs.Runs.{Runs}
use Rattle.in_reducer.specs.Steps.{StepsAt}

-- the second machine is the first one under these numbers of its agents: the same program, net, queue and number of free cells
pub record IsSameMachine (f : ℕ → ℕ) (m n : MachineParts) : Type 0 where
  pub program : n.program ≡ m.program
  pub net : IsRenamed f (net_of (parts_of m)) (net_of (parts_of n))
  pub names : map (λ f. f.name) n.free ≡ map (λ f. f.name) m.free
  pub queue : n.queue ≡ map (both f) m.queue
  pub vacant : n.vacant ≡ m.vacant

-- .. under some numbers
abbrev pub AreSame : MachineParts → MachineParts → Type 0
AreSame m n = (f : ℕ → ℕ) × IsSameMachine f m n

-- the interaction of the pair of that number, of a machine that is the same as the first one up to numbers
abbrev pub StepsUpToNumbers : MachineParts → ℕ → MachineParts → Type 0
StepsUpToNumbers m i o = (s : MachineParts) × AreSame m s × StepsAt s i o

-- a given number of interactions, each at the first pair, from a machine that is the same as the first one up to numbers
abbrev pub RunsUpToNumbers : MachineParts → ℕ → MachineParts → Type 0
RunsUpToNumbers m k n = (s : MachineParts) × AreSame m s × Runs s k n
