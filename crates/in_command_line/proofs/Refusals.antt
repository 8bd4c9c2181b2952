-- The errors that `clap` finds in words that are written out.
use Rattle.std.proofs.Common.{◌≡◌, ◌<◌, ◌⊎◌, ℕ, ◌++◌, Bool, true, false, cond, [], ◌∷◌, refl, inl, inr, arith}
use Rattle.std.specs.Prelude.{codes}
use Rattle.clap.specs.Kinds.{Kinds, or_else}
use Rattle.clap.specs.ValueTests.{accepts}
use Rattle.clap.specs.Walk.{Text}
use Rattle.clap.specs.declared.builder.value_parser.ValueParser.TheVariants.{Unsigned}
use Rattle.clap.specs.declared.error.kind.ErrorKind.TheVariants.{ValueValidation}
use Rattle.clap.proofs.OnLiterals.{clap_on_literals}
use Rattle.clap.proofs.ValueTestLemmas.{accepts-Accepts}
use Rattle.in_arena.specs.Limiting.{most_larger_cells, most_small_cells}
use Rattle.in_limits.specs.Limiting.{least_cells, most_cells, most_interactions, most_workers}
use Rattle.in_command_line.specs.Asking.{Spells, faults}
use Rattle.in_command_line.specs.Laws.{HelpIsAsked, NumbersOutOfRangeAreWrong, OtherWordsAreWrong, VersionIsAsked}

pub help_asked : HelpIsAsked
unfolding clap_on_literals
help_asked = (refl, refl, refl)

pub version_asked : VersionIsAsked
unfolding clap_on_literals
version_asked = (refl, refl)

pub others_wrong : OtherWordsAreWrong
unfolding clap_on_literals
others_wrong = (refl, refl, refl, refl)

-- a number out of range is not accepted
unaccepted : (least most n : ℕ) (text : Text) → Spells text n → (n < least) ⊎ (most < n) → accepts false (Unsigned least most) text ≡ false
unaccepted least most n text spells out = go (accepts false (Unsigned least most) text) refl
  where
    go : (b : Bool) → accepts false (Unsigned least most) text ≡ b → b ≡ false
    go false is = refl
    go true is =
        let a = accepts-Accepts false (Unsigned least most) text is in
        elim out [
          | inl few ↦ absurd (omega (arith, spells.1, a.2, few))
          | inr many ↦ absurd (omega (arith, spells.1, a.3, many))
        ]

-- the errors in a word with a number
abbrev pub in_word : Bool → Kinds
in_word b = or_else (or_else (cond b [] (ValueValidation ∷ [])) []) []

-- .. and in words of which one has a number
abbrev in_one_word : Bool → Kinds
in_one_word b = or_else (or_else (or_else (in_word b) []) []) []

one_wrong : (b : Bool) → b ≡ false → in_one_word b ≡ ValueValidation ∷ []
one_wrong b is = rw is refl

workers_wrong : (text : Text) → accepts false (Unsigned 1 most_workers) text ≡ false → faults (codes "inet" ∷ codes "run" ∷ (codes "--workers=" ++ text) ∷ []) ≡ ValueValidation ∷ []
unfolding clap_on_literals
workers_wrong text is = one_wrong (accepts false (Unsigned 1 most_workers) text) is

limit_wrong : (text : Text) → accepts false (Unsigned 0 most_interactions) text ≡ false → faults (codes "inet" ∷ codes "run" ∷ (codes "--limit=" ++ text) ∷ []) ≡ ValueValidation ∷ []
unfolding clap_on_literals
limit_wrong text is = one_wrong (accepts false (Unsigned 0 most_interactions) text) is

cells_wrong : (text : Text) → accepts false (Unsigned least_cells most_cells) text ≡ false → faults (codes "inet" ∷ codes "run" ∷ (codes "--cells=" ++ text) ∷ []) ≡ ValueValidation ∷ []
unfolding clap_on_literals
cells_wrong text is = one_wrong (accepts false (Unsigned least_cells most_cells) text) is

small_wrong : (text : Text) → accepts false (Unsigned least_cells most_small_cells) text ≡ false → faults (codes "inet" ∷ codes "run" ∷ (codes "--small-cells=" ++ text) ∷ []) ≡ ValueValidation ∷ []
unfolding clap_on_literals
small_wrong text is = one_wrong (accepts false (Unsigned least_cells most_small_cells) text) is

large_wrong : (text : Text) → accepts false (Unsigned least_cells most_larger_cells) text ≡ false → faults (codes "inet" ∷ codes "run" ∷ (codes "--large-cells=" ++ text) ∷ []) ≡ ValueValidation ∷ []
unfolding clap_on_literals
large_wrong text is = one_wrong (accepts false (Unsigned least_cells most_larger_cells) text) is

wide_wrong : (text : Text) → accepts false (Unsigned least_cells most_larger_cells) text ≡ false → faults (codes "inet" ∷ codes "run" ∷ (codes "--wide-cells=" ++ text) ∷ []) ≡ ValueValidation ∷ []
unfolding clap_on_literals
wide_wrong text is = one_wrong (accepts false (Unsigned least_cells most_larger_cells) text) is

pub numbers_wrong : NumbersOutOfRangeAreWrong
numbers_wrong text n spells = (
  λ out. workers_wrong text (unaccepted 1 most_workers n text spells out),
  λ many. limit_wrong text (unaccepted 0 most_interactions n text spells (inr many)),
  λ out. cells_wrong text (unaccepted least_cells most_cells n text spells out),
  λ out. small_wrong text (unaccepted least_cells most_small_cells n text spells out),
  λ out. large_wrong text (unaccepted least_cells most_larger_cells n text spells out),
  λ out. wide_wrong text (unaccepted least_cells most_larger_cells n text spells out),
)
