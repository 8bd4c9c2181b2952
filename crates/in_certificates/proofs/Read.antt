-- Steps that are read one after another.
use Rattle.std.proofs.Common.{◌≡◌, ◌≤◌, ◌+◌, ℕ, List, [], ◌∷◌, ◌++◌, append-nil, append_assoc, length, drop, slice_get, Option, Some, None, sym, ap, ◌∙◌, refl}
use Rattle.std.proofs.lemmas.List.{drop_all}
use Rattle.in_base.proofs.Places.{left_from}
use Rattle.in_open_nets.specs.declared.derivations.Step.{Step}
use Rattle.in_certificates.specs.declared.given.GivenStep.{GivenStep}
use Rattle.in_certificates.specs.Given.{before, step_of, steps_of}

-- steps that were read, before the others, if these are there
abbrev pub after : List Step → Option (List Step) → Option (List Step)
after done None = None
after done (Some rest) = Some (done ++ rest)

-- so many are read
abbrev pub are_read : List ℕ → List GivenStep → ℕ → List Step → Type 0
are_read parts given k done = after done (steps_of parts (drop k given)) ≡ steps_of parts given

after_none : (found : Option (List Step)) → after [] found ≡ found
after_none None = refl
after_none (Some rest) = refl

pub begins : (parts : List ℕ) (given : List GivenStep) → are_read parts given 0 []
begins parts given = after_none (steps_of parts given)

one_more : (done : List Step) (s : Step) (found : Option (List Step)) → after (done ++ s ∷ []) found ≡ after done (before (Some s) found)
one_more done s None = refl
one_more done s (Some rest) = ap (λ (z : List Step). Some z) (append_assoc done (s ∷ []) rest)

-- the rest begins with this one
rest_at : (parts : List ℕ) (given : List GivenStep) (k : ℕ) (g : GivenStep) → slice_get given k ≡ Some g → steps_of parts (drop k given) ≡ before (step_of parts g) (steps_of parts (drop (k + 1) given))
rest_at parts given k g at = ap (λ (z : List GivenStep). steps_of parts z) (left_from given k g at)

pub goes_on : (parts : List ℕ) (given : List GivenStep) (k : ℕ) (done : List Step) (g : GivenStep) (s : Step) → slice_get given k ≡ Some g → Some s ≡ step_of parts g → are_read parts given k done → are_read parts given (k + 1) (done ++ s ∷ [])
goes_on parts given k done g s at is read =
    one_more done s (steps_of parts (drop (k + 1) given))
    ∙ ap (λ (z : Option Step). after done (before z (steps_of parts (drop (k + 1) given)))) is
    ∙ ap (λ (z : Option (List Step)). after done z) (sym (rest_at parts given k g at))
    ∙ read

no_step : (done : List Step) (found : Option (List Step)) → after done (before None found) ≡ None
no_step done None = refl
no_step done (Some rest) = refl

pub breaks_off : (parts : List ℕ) (given : List GivenStep) (k : ℕ) (done : List Step) (g : GivenStep) → slice_get given k ≡ Some g → None ≡ step_of parts g → are_read parts given k done → None ≡ steps_of parts given
breaks_off parts given k done g at is read =
    sym (no_step done (steps_of parts (drop (k + 1) given)))
    ∙ ap (λ (z : Option Step). after done (before z (steps_of parts (drop (k + 1) given)))) is
    ∙ ap (λ (z : Option (List Step)). after done z) (sym (rest_at parts given k g at))
    ∙ read

pub all_read : (parts : List ℕ) (given : List GivenStep) (k : ℕ) (done : List Step) → length given ≤ k → are_read parts given k done → Some done ≡ steps_of parts given
all_read parts given k done le read =
    ap (λ (z : List Step). Some z) (sym (append-nil done))
    ∙ ap (λ (z : List GivenStep). after done (steps_of parts z)) (sym (drop_all k given le))
    ∙ read
