-- Laws over the requests that the words of a command line make.
use Rattle.std.specs.Prelude.{◌≡◌, ◌≤◌, ◌<◌, ◌⊎◌, ◌++◌, ℕ, true, false, List, [], ◌∷◌, None, codes}
use Rattle.clap.specs.Words.{Text}
use Rattle.clap.specs.declared.error.kind.ErrorKind.TheVariants.{ArgumentConflict, DisplayHelp, DisplayVersion, MissingSubcommand, UnknownArgument, ValueValidation}
use Rattle.in_arena.specs.Classes.{each}
use Rattle.in_arena.specs.Limiting.{most_larger_cells, most_small_cells}
use Rattle.in_limits.specs.Limiting.{least_cells, most_cells, most_interactions, most_workers}
use Rattle.in_limits.specs.declared.limits.Limits.{Limits}
use Rattle.in_command_line.specs.Asking.{Asked, AsksFor, Spells, by_large, faults, on_file_of, on_input}
use Rattle.in_command_line.specs.declared.action.Action.TheVariants.{Check, Derive, Run, Count}

-- words make at most one request
abbrev pub WordsAskForOneAction : Type 0
WordsAskForOneAction = (words : List Text) (a b : Asked) → AsksFor words a → AsksFor words b → a ≡ b

-- words in which `clap` finds no error make a request
abbrev pub FaultlessWordsAsk : Type 0
FaultlessWordsAsk = (words : List Text) → faults words ≡ [] → (a : Asked) × AsksFor words a

-- `inet check` and `inet derive` request those actions on standard input
abbrev pub SubcommandsAsk : Type 0
SubcommandsAsk = AsksFor (codes "inet" ∷ codes "check" ∷ []) (on_input Check) × AsksFor (codes "inet" ∷ codes "derive" ∷ []) (on_input Derive)

-- the default limits, with one worker
abbrev pub AreUsualLimits : Limits → Type 0
AreUsualLimits l = (l.workers ≡ 1) × (l.limit ≡ 1000000) × (l.cells ≡ each 65536)

-- `inet run` requests a run within the default limits
abbrev pub RunAsksForTheUsual : Type 0
RunAsksForTheUsual = (l : Limits) → AreUsualLimits l → AsksFor (codes "inet" ∷ codes "run" ∷ []) (on_input (Run l))

-- .. and with its options a run within the limits that their texts spell, with as many cells of each class
abbrev pub RunAsksForTheGiven : Type 0
RunAsksForTheGiven = (workers limit cells : Text) (n : ℕ) (l : Limits) → Spells workers l.workers → Spells limit l.limit → Spells cells n → n ≤ most_cells → l.cells ≡ each n
    → AsksFor (codes "inet" ∷ codes "run" ∷ (codes "--workers=" ++ workers) ∷ (codes "--limit=" ++ limit) ∷ (codes "--cells=" ++ cells) ∷ []) (on_input (Run l))

-- with an option for each class of cells it requests a run with exactly as many cells of each as their texts spell
abbrev pub RunAsksForEachClass : Type 0
RunAsksForEachClass = (small large wide : Text) (l : Limits) → l.workers ≡ 1 → l.limit ≡ 1000000 → Spells small l.cells.small_cells → Spells large l.cells.large_cells → Spells wide l.cells.wide_cells
    → AsksFor (codes "inet" ∷ codes "run" ∷ (codes "--small-cells=" ++ small) ∷ (codes "--large-cells=" ++ large) ∷ (codes "--wide-cells=" ++ wide) ∷ []) (on_input (Run l))

-- with one for small cells alone, there are as many of the others as `--cells` says
abbrev pub RunAsksForTheOthers : Type 0
RunAsksForTheOthers = (cells small : Text) (n : ℕ) (l : Limits) → l.workers ≡ 1 → l.limit ≡ 1000000 → Spells cells n → n ≤ most_cells → Spells small l.cells.small_cells → l.cells.large_cells ≡ n → l.cells.wide_cells ≡ n
    → AsksFor (codes "inet" ∷ codes "run" ∷ (codes "--cells=" ++ cells) ∷ (codes "--small-cells=" ++ small) ∷ []) (on_input (Run l))

-- with `--no-net` it requests a run without a printed net, and with `--stats` figures
abbrev pub FlagsAreAsked : Type 0
FlagsAreAsked = (l : Limits) → AreUsualLimits l
    → AsksFor (codes "inet" ∷ codes "run" ∷ codes "--no-net" ∷ []) (on_input (Count l))
    × AsksFor (codes "inet" ∷ codes "run" ∷ codes "--stats" ∷ []) (record { action = Run l; file = None; stats = true; large = false })

-- with `--large` each subcommand requests the same by the large limits
abbrev pub LargeIsAsked : Type 0
LargeIsAsked = AsksFor (codes "inet" ∷ codes "check" ∷ codes "--large" ∷ []) (by_large (on_input Check))
    × AsksFor (codes "inet" ∷ codes "derive" ∷ codes "--large" ∷ []) (by_large (on_input Derive))
    × AsksFor (codes "inet" ∷ codes "check" ∷ codes "--large" ∷ codes "sum.inet" ∷ []) (by_large (on_file_of (codes "sum.inet") Check))
    × ((l : Limits) → AreUsualLimits l → AsksFor (codes "inet" ∷ codes "run" ∷ codes "--large" ∷ []) (by_large (on_input (Run l))))

-- a word after the command is the program's file, before and after options; `-` is standard input
abbrev pub FilesAreAsked : Type 0
FilesAreAsked = AsksFor (codes "inet" ∷ codes "check" ∷ codes "sum.inet" ∷ []) (on_file_of (codes "sum.inet") Check)
    × AsksFor (codes "inet" ∷ codes "derive" ∷ codes "sum.inet" ∷ []) (on_file_of (codes "sum.inet") Derive)
    × AsksFor (codes "inet" ∷ codes "check" ∷ codes "-" ∷ []) (on_input Check)
    × ((l : Limits) → AreUsualLimits l
    → AsksFor (codes "inet" ∷ codes "run" ∷ codes "sum.inet" ∷ codes "--no-net" ∷ []) (on_file_of (codes "sum.inet") (Count l))
    × AsksFor (codes "inet" ∷ codes "run" ∷ codes "--no-net" ∷ codes "sum.inet" ∷ []) (on_file_of (codes "sum.inet") (Count l)))

-- `-h` and `--help` request help, alone and with a subcommand
abbrev pub HelpIsAsked : Type 0
HelpIsAsked = (faults (codes "inet" ∷ codes "-h" ∷ []) ≡ DisplayHelp ∷ [])
    × (faults (codes "inet" ∷ codes "--help" ∷ []) ≡ DisplayHelp ∷ [])
    × (faults (codes "inet" ∷ codes "run" ∷ codes "--help" ∷ []) ≡ DisplayHelp ∷ [])

-- `-V` and `--version` request the version
abbrev pub VersionIsAsked : Type 0
VersionIsAsked = (faults (codes "inet" ∷ codes "-V" ∷ []) ≡ DisplayVersion ∷ [])
    × (faults (codes "inet" ∷ codes "--version" ∷ []) ≡ DisplayVersion ∷ [])

-- `inet` alone, a word too many, and an option or a flag that occurs twice are wrong
abbrev pub OtherWordsAreWrong : Type 0
OtherWordsAreWrong = (faults (codes "inet" ∷ []) ≡ MissingSubcommand ∷ [])
    × (faults (codes "inet" ∷ codes "check" ∷ codes "sum.inet" ∷ codes "max.inet" ∷ []) ≡ UnknownArgument ∷ [])
    × (faults (codes "inet" ∷ codes "run" ∷ codes "--limit=1" ∷ codes "--limit=1" ∷ []) ≡ ArgumentConflict ∷ [])
    × (faults (codes "inet" ∷ codes "check" ∷ codes "--large" ∷ codes "--large" ∷ []) ≡ ArgumentConflict ∷ [])

-- .. and so is a number that is out of range
abbrev pub NumbersOutOfRangeAreWrong : Type 0
NumbersOutOfRangeAreWrong = (text : Text) (n : ℕ) → Spells text n
    → ((n < 1) ⊎ (most_workers < n) → faults (codes "inet" ∷ codes "run" ∷ (codes "--workers=" ++ text) ∷ []) ≡ ValueValidation ∷ [])
    × (most_interactions < n → faults (codes "inet" ∷ codes "run" ∷ (codes "--limit=" ++ text) ∷ []) ≡ ValueValidation ∷ [])
    × ((n < least_cells) ⊎ (most_cells < n) → faults (codes "inet" ∷ codes "run" ∷ (codes "--cells=" ++ text) ∷ []) ≡ ValueValidation ∷ [])
    × ((n < least_cells) ⊎ (most_small_cells < n) → faults (codes "inet" ∷ codes "run" ∷ (codes "--small-cells=" ++ text) ∷ []) ≡ ValueValidation ∷ [])
    × ((n < least_cells) ⊎ (most_larger_cells < n) → faults (codes "inet" ∷ codes "run" ∷ (codes "--large-cells=" ++ text) ∷ []) ≡ ValueValidation ∷ [])
    × ((n < least_cells) ⊎ (most_larger_cells < n) → faults (codes "inet" ∷ codes "run" ∷ (codes "--wide-cells=" ++ text) ∷ []) ≡ ValueValidation ∷ [])
