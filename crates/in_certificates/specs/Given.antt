-- The steps that numbers encode. This form of steps is this project's own choice.
use Rattle.std.specs.Prelude.{ℕ, ◌+◌, ◌==◌, nat_le, if◌then◌else◌, List, [], ◌∷◌, length, slice_range, Option, Some, None, option_map}
use Rattle.in_open_nets.specs.declared.derivations.Step.{Step}
use Rattle.in_open_nets.specs.declared.derivations.Step.TheVariants.{Empty, Link, Given, Graft, Cut, Mix}
use Rattle.in_certificates.specs.declared.given.GivenStep.{GivenStep}

-- `count` numbers of a list from number `from` on, if it has them
abbrev pub some_of : List ℕ → ℕ → ℕ → Option (List ℕ)
some_of parts from count = if nat_le (from + count) (length parts) then Some (slice_range parts from (from + count)) else None

-- a reading of given numbers as a step, with a list of parts
abbrev pub StepReading : Type 0
StepReading = List ℕ → GivenStep → Option Step

-- an agent with the steps of its classes
abbrev pub graft_of : StepReading
graft_of parts g = option_map (Graft g.first) (some_of parts g.second g.third)

-- the step of that kind
abbrev pub step_of : StepReading
step_of parts g =
    if g.kind == 0 then Some Empty
    else (if g.kind == 1 then Some (Link g.first)
    else (if g.kind == 2 then Some (Given g.first)
    else (if g.kind == 3 then graft_of parts g
    else (if g.kind == 4 then Some (Cut g.first g.second g.third)
    else (if g.kind == 5 then Some (Mix g.first g.second)
    else None)))))

-- a step before others, if all are there
abbrev pub before : Option Step → Option (List Step) → Option (List Step)
before (Some s) (Some steps) = Some (s ∷ steps)
before _ _ = None

-- the steps one after another, if each of them is one
abbrev pub steps_of : List ℕ → List GivenStep → Option (List Step)
steps_of parts [] = Some []
steps_of parts (g ∷ given) = before (step_of parts g) (steps_of parts given)
