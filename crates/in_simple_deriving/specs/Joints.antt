-- Joints: steps over the last ones that no step names yet.
use Rattle.std.specs.Prelude.{ℕ, Bool, true, false, List, [], ◌∷◌, slice_get, Option, Some, None}
use Rattle.in_open_nets.specs.declared.open_nets.OpenPoint.{OpenPoint}
use Rattle.in_open_nets.specs.declared.open_nets.OpenPoint.TheVariants.{Port, Free}
use Rattle.in_simple_deriving.specs.declared.plans.StackStep.{StackStep}
use Rattle.in_simple_deriving.specs.declared.plans.StackStep.TheVariants as joint
use Rattle.in_open_nets.specs.declared.derivations.Step.{Step}
use Rattle.in_open_nets.specs.declared.derivations.Step.TheVariants.{Empty, Link, Given, Graft, Cut, Mix}
use Rattle.in_open_nets.specs.OpenNets.{OpenNet}

-- the number of the last unnamed steps that a joint takes, and the step that it makes of them
abbrev pub count_of : StackStep → ℕ
count_of joint.Empty = 0
count_of (joint.Link w) = 0
count_of (joint.Given n) = 0
count_of (joint.Graft n count) = count
count_of (joint.Cut w) = 2
count_of joint.Mix = 2

abbrev pub over_two : (ℕ → ℕ → Step) → List ℕ → Step
over_two f [] = Empty
over_two f (a ∷ []) = Empty
over_two f (a ∷ b ∷ more) = f a b

abbrev pub step_of : StackStep → List ℕ → Step
step_of joint.Empty names = Empty
step_of (joint.Link w) names = Link w
step_of (joint.Given n) names = Given n
step_of (joint.Graft n count) names = Graft n names
step_of (joint.Cut w) names = over_two (Cut w) names
step_of joint.Mix names = over_two Mix names

-- a wire between two free ends
abbrev pub are_free : Option (OpenPoint × OpenPoint) → Bool
are_free None = false
are_free (Some (Free k, Free l)) = true
are_free (Some (Free k, Port n i)) = false
are_free (Some (Port n i, q)) = false

abbrev pub loose_in : OpenNet → ℕ → Bool
loose_in o w = are_free (slice_get o.wires w)
