-- The request that the words of a command line make.
use Rattle.std.specs.Prelude.{◌≡◌, ◌≢◌, ◌<◌, ◌^◌, ℕ, Bool, true, false, List, [], Option, Some, None, codes, option_map, option_and_then, if◌then◌else◌}
use Rattle.std.specs.Option.{option_map_or}
use Rattle.std.specs.Str.{bytes_eq}
use Rattle.std.specs.Str.Parse.{IsNumeral, without_leading_plus, digits_value}
use Rattle.clap.specs.Walk.{has_row}
use Rattle.clap.specs.Words.{IsAmong, Kinds, Row, Text, fault_of, first_of, one_of, subcommand_of}
use Rattle.clap.specs.declared.error.kind.ErrorKind.{ErrorKind}
use Rattle.clap.specs.declared.error.kind.ErrorKind.TheVariants.{DisplayHelp, DisplayVersion, OutOfMemory}
use Rattle.in_arena.specs.declared.content.CellCounts.{CellCounts}
use Rattle.in_limits.specs.Limiting.{AreAllowed}
use Rattle.in_limits.specs.declared.limits.Limits.{Limits}
use Rattle.in_command_line.specs.CommandLine.{command_line}
use Rattle.in_command_line.specs.declared.action.Action.{Action}
use Rattle.in_command_line.specs.declared.action.Action.TheVariants.{Check, Derive, Run, Count}
use Rattle.in_command_line.specs.declared.action.Request.{Request}
use Rattle.in_command_line.specs.declared.action.Usage.{Usage}
use Rattle.in_command_line.specs.declared.action.Usage.TheVariants.{Wrong, Help, Version, Memory}

-- the kinds of errors that `clap` finds in the words; none if it gives a match
abbrev pub faults : List Text → Kinds
faults words = fault_of command_line words

-- the text is the number's decimal digits, which a plus sign may precede
abbrev pub Spells : Text → ℕ → Type 0
Spells text n = IsNumeral 10 (without_leading_plus text) × (n ≡ digits_value 10 (without_leading_plus text))

-- the option of this name has a text that spells the number
abbrev pub IsNumber : Text → List Row → ℕ → Type 0
IsNumber name options n = (text : Text) × (one_of name options ≡ Some text) × Spells text n

-- the option that says how many cells a class has: its own, of this name, if that is among the options, and otherwise `--cells`
abbrev pub option_for : Text → List Row → Text
option_for name options = if has_row name options then name else codes "cells"

-- the class with the option of this name has n cells
abbrev pub HasCount : Text → List Row → ℕ → Type 0
HasCount name options n = IsNumber (option_for name options) options n

-- the classes have these numbers of cells
abbrev pub HasCounts : List Row → CellCounts → Type 0
HasCounts options cells = HasCount (codes "small-cells") options cells.small_cells × HasCount (codes "large-cells") options cells.large_cells × HasCount (codes "wide-cells") options cells.wide_cells

-- `--workers` and `--limit` have these numbers, and so have the classes of cells
abbrev pub HasLimits : List Row → Limits → Type 0
HasLimits options l = IsNumber (codes "workers") options l.workers × IsNumber (codes "limit") options l.limit × HasCounts options l.cells

-- the flag of this name is set
abbrev pub is_set : Text → List Row → Bool
is_set name options = option_map_or (λ text. bytes_eq text (codes "true")) (first_of name options) false

-- `-` is standard input
abbrev pub unless_input : Text → Option Text
unless_input file = if bytes_eq file (codes "-") then None else Some file

-- the file that is named; none if the program comes on standard input
abbrev pub file_in : List Row → Option Text
file_in options = option_and_then unless_input (first_of (codes "file") options)

-- a request: an action on a file, or on standard input, whether figures of it are wanted, and whether the text has the large limits
pub record Asked : Type 0 where
  pub action : Action
  pub file : Option Text
  pub stats : Bool
  pub large : Bool

-- an action on standard input, without figures, by the usual limits
abbrev pub on_input : Action → Asked
on_input a = record { action = a; file = None; stats = false; large = false }

-- .. and one on a file
abbrev pub on_file_of : Text → Action → Asked
on_file_of file a = record { action = a; file = Some file; stats = false; large = false }

-- the same request by the large limits
abbrev pub by_large : Asked → Asked
by_large a = record a { large = true }

abbrev pub asked_of : Request → Asked
asked_of r = record { action = r.action; file = option_map (λ s. s.now) r.file; stats = r.stats; large = r.large }

-- a subcommand with these options requests the action
abbrev pub Names : Text → List Row → Action → Type 0
Names name options Check = name ≡ codes "check"
Names name options Derive = name ≡ codes "derive"
Names name options (Run l) = (name ≡ codes "run") × HasLimits options l × (is_set (codes "no-net") options ≡ false)
Names name options (Count l) = (name ≡ codes "run") × HasLimits options l × (is_set (codes "no-net") options ≡ true)

-- the words make this request: `clap` finds no error in them, and gives a subcommand that names it
pub record AsksFor (words : List Text) (a : Asked) : Type 0 where
  pub name : Text
  pub options : List Row
  pub taken : faults words ≡ []
  pub given : subcommand_of command_line words ≡ Some (name, options)
  pub named : Names name options a.action
  pub file_is : a.file ≡ file_in options
  pub stats_are : a.stats ≡ is_set (codes "stats") options
  pub large_is : a.large ≡ is_set (codes "large") options

-- the words are refused: they request help or the version, or have another error; and memory may run out at any words
abbrev pub AreWordsRefused : List Text → Usage → Type 0
AreWordsRefused words (Help text) = IsAmong DisplayHelp (faults words)
AreWordsRefused words Version = IsAmong DisplayVersion (faults words)
AreWordsRefused words (Wrong text) = (kind : ErrorKind) × IsAmong kind (faults words) × (kind ≢ DisplayHelp) × (kind ≢ DisplayVersion)
AreWordsRefused words Memory = Unit {0}

-- ---- words of the inner contracts

-- the refusal for an error of this kind
abbrev pub IsErrorTold : ErrorKind → Usage → Type 0
IsErrorTold kind (Help text) = kind ≡ DisplayHelp
IsErrorTold kind Version = kind ≡ DisplayVersion
IsErrorTold kind (Wrong text) = (kind ≢ DisplayHelp) × (kind ≢ DisplayVersion) × (kind ≢ OutOfMemory)
IsErrorTold kind Memory = Unit {0}

-- the number that the option of this name gives, if it gives one of 32 bits
abbrev pub IsOptionGiven : Text → List Row → Option ℕ → Type 0
IsOptionGiven name options (Some n) = IsNumber name options n
IsOptionGiven name options None = (n : ℕ) → n < 2 ^ 32 → IsNumber name options n → ⊥

-- the numbers of cells that the options give, if they give any that a run may have
abbrev pub AreCountsGiven : List Row → Option CellCounts → Type 0
AreCountsGiven options (Some cells) = HasCounts options cells
AreCountsGiven options None = (cells : CellCounts) → AreAllowed cells → HasCounts options cells → ⊥

abbrev pub HasNoLimits : List Row → Type 0
HasNoLimits options = (l : Limits) → HasLimits options l → ⊥

-- the limits that the options give, if they give any
abbrev pub AreGiven : List Row → Option Limits → Type 0
AreGiven options (Some l) = HasLimits options l
AreGiven options None = HasNoLimits options

-- the run that the options request, if they have limits
abbrev pub IsRunNamed : List Row → Option Action → Type 0
IsRunNamed options (Some a) = Names (codes "run") options a
IsRunNamed options None = HasNoLimits options

-- the action that a subcommand names, if it names one
abbrev pub IsNamed : Text → List Row → Option Action → Type 0
IsNamed name options (Some a) = Names name options a
IsNamed name options None = (a : Action) → Names name options a → ⊥

-- the request of a match, if its subcommand names an action
abbrev pub IsRequested : Option (Text × List Row) → Option Request → Type 0
IsRequested found (Some r) = (name : Text) × (options : List Row) × (found ≡ Some (name, options)) × Names name options r.action
    × (option_map (λ s. s.now) r.file ≡ file_in options) × (r.stats ≡ is_set (codes "stats") options) × (r.large ≡ is_set (codes "large") options)
IsRequested found None = (name : Text) (options : List Row) (a : Action) → found ≡ Some (name, options) → Names name options a → ⊥
