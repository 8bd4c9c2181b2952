-- Words in which `clap` finds no error request one action.
use Rattle.std.proofs.Common.{◌≡◌, ◌||◌, Bool, true, false, cond, List, [], Option, Some, None, is_some, refl, sym, subst}
use Rattle.std.specs.Prelude.{codes, option_map}
use Rattle.std.specs.Option.{option_map_or}
use Rattle.std.specs.Str.{bytes_eq}
use Rattle.std.proofs.lemmas.Slice.Eq.{bytes_eq-Decides}
use Rattle.clap.specs.Faults.{check_fault, defaults_fault, entered_fault, level_fault, settle_fault, walk_fault}
use Rattle.clap.specs.Simple.{App, Shape, argument_words, built, built_leaf, entered, help_shape, inherited, names_of, rows_at}
use Rattle.clap.specs.Walk.{Row, Text, finished, nothing_held, settled, walk, walk_from}
use Rattle.in_command_line.specs.Asking.{Asked, HasLimits, Names, file_in, is_set}
use Rattle.in_command_line.specs.CommandLine.{command_line, on_file}
use Rattle.in_command_line.specs.Laws.{FaultlessWordsAsk}
use Rattle.in_limits.specs.declared.limits.Limits.{Limits}
use Rattle.in_command_line.specs.declared.action.Action.TheVariants.{Check, Derive, Run, Count}
use Rattle.in_command_line.proofs.Faultless.{StopsWell, IsNoHelp, first_none, walk_well}
use Rattle.in_command_line.proofs.Options.{limits_asked, run_shape}

-- the command line as built, with its four subcommands
abbrev inet : App
inet = built command_line

abbrev plain_shape : Text → Shape
plain_shape name = built_leaf (inherited inet.top (on_file name).top)

abbrev help_command : Shape
help_command = built_leaf help_shape

-- the request of the words, if the subcommand is this one
abbrev Asks : Option (Text × List Row) → Type 0
Asks found = (a : Asked) × (name : Text) × (options : List Row) × (found ≡ Some (name, options)) × Names name options a.action × (a.file ≡ file_in options)
    × (a.stats ≡ is_set (codes "stats") options) × (a.large ≡ is_set (codes "large") options)

-- a run with these options
run_asked : (options : List Row) (l : Limits) → HasLimits options l → Asks (Some (codes "run", options))
run_asked options l limits = go (is_set (codes "no-net") options) refl
  where
    go : (b : Bool) → is_set (codes "no-net") options ≡ b → Asks (Some (codes "run", options))
    go true is = (record { action = Count l; file = file_in options; stats = is_set (codes "stats") options; large = is_set (codes "large") options }, codes "run", options, refl, (refl, limits, is), refl, refl, refl)
    go false is = (record { action = Run l; file = file_in options; stats = is_set (codes "stats") options; large = is_set (codes "large") options }, codes "run", options, refl, (refl, limits, is), refl, refl, refl)

-- the word isn't `help`
not_help : (name : Text) → IsNoHelp name → (bytes_eq (codes "help") name || false) ≡ true → ⊥
not_help name well e = go (bytes_eq (codes "help") name) refl e
  where
    go : (b : Bool) → bytes_eq (codes "help") name ≡ b → (b || false) ≡ true → ⊥
    go true is h =
        let same = (bytes_eq-Decides (codes "help") name).0 is in
        let bad : bytes_eq (codes "help") (codes "help") ≡ false = subst IsNoHelp (sym same) well in
        cc
    go false is h = cc

-- the first of the four that the word is
abbrev met_of : Bool → Bool → Bool → Bool → Option Shape
met_of check derive run help = cond check (Some (plain_shape (codes "check"))) (cond derive (Some (plain_shape (codes "derive"))) (cond run (Some run_shape) (cond help (Some help_command) None)))

at_subcommand : (name : Text) (rest : List Text) (a b c d : Bool) → (d ≡ true → ⊥) → option_map_or (λ s. level_fault s [] nothing_held rest false []) (met_of a b c d) [] ≡ []
    → is_some (option_map (λ s. rows_at s rest) (met_of a b c d)) ≡ true → Asks (option_map (λ s. rows_at s rest) (met_of a b c d))
at_subcommand name rest true b c d well none some =
    let options = (rows_at (plain_shape (codes "check")) rest).1 in
    (record { action = Check; file = file_in options; stats = is_set (codes "stats") options; large = is_set (codes "large") options }, codes "check", options, refl, refl, refl, refl, refl)
at_subcommand name rest false true c d well none some =
    let options = (rows_at (plain_shape (codes "derive")) rest).1 in
    (record { action = Derive; file = file_in options; stats = is_set (codes "stats") options; large = is_set (codes "large") options }, codes "derive", options, refl, refl, refl, refl, refl)
at_subcommand name rest false false true d well none some =
    let l = limits_asked rest none in
    run_asked (rows_at run_shape rest).1 l.0 l.1
at_subcommand name rest false false false true well none some = absurd (well refl)
at_subcommand name rest false false false false well none some = cc

at_stop : (stop : Option (Text × List Text)) → StopsWell stop → entered_fault inet stop ≡ [] → is_some (entered inet stop) ≡ true → Asks (entered inet stop)
at_stop None well none some = cc
at_stop (Some p) well none some = at_subcommand p.0 p.1 (bytes_eq (codes "check") p.0 || false) (bytes_eq (codes "derive") p.0 || false) (bytes_eq (codes "run") p.0 || false) (bytes_eq (codes "help") p.0 || false)
    (not_help p.0 well) none some

-- a subcommand is needed
needs_one : (rows : List Row) (has : Bool) → check_fault inet.top rows has ≡ [] → has ≡ true
needs_one rows true e = refl
needs_one rows false e = cc

pub faultless_asks : FaultlessWordsAsk
faultless_asks words none =
    let args = argument_words command_line words in
    let end = walk inet.top.rules (names_of inet) nothing_held args in
    let first = first_none (walk_fault inet.top (names_of inet) (walk_from nothing_held) args) _ none in
    let second = first_none (entered_fault inet end.stopped) _ first.1 in
    let third = first_none (settle_fault inet.top.rules inet.top.args_override_self end.held) _ second.1 in
    let fourth = first_none (defaults_fault (settled inet.top.rules end.held).rows inet.top.rules) _ third.1 in
    let well = walk_well inet.top (names_of inet) refl args (walk_from nothing_held) tt first.0 in
    let some = needs_one (finished inet.top.rules end.held) (is_some (entered inet end.stopped)) fourth.1 in
    let asks = at_stop end.stopped well second.0 some in
    (asks.0, record { name = asks.1; options = asks.2; taken = none; given = asks.3; named = asks.4; file_is = asks.5; stats_are = asks.6; large_is = asks.7 })
