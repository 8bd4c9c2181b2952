-- The requests of words that are written out.
use Rattle.std.proofs.Common.{◌≡◌, ◌<◌, ◌≤◌, ◌^◌, ℕ, ◌++◌, Bool, true, false, List, [], ◌∷◌, Some, refl, ◌∙◌, ap, arith, rules}
use Rattle.std.specs.Prelude.{codes}
use Rattle.clap.specs.Kinds.{Kinds, or_else}
use Rattle.clap.specs.ValueTests.{accepts}
use Rattle.clap.specs.Walk.{Row, Text}
use Rattle.clap.specs.Simple.{subcommand_of}
use Rattle.clap.specs.declared.builder.value_parser.ValueParser.TheVariants.{Unsigned}
use Rattle.clap.specs.declared.parser.matches.ValueSource.TheVariants.{DefaultValue, CommandLine}
use Rattle.clap.specs.declared.parser.matches.ValueSource.{ValueSource}
use Rattle.in_arena.specs.Limiting.{most_larger_cells, most_small_cells}
use Rattle.in_arena.specs.declared.content.CellCounts.{CellCounts}
use Rattle.in_limits.specs.declared.limits.Limits.{Limits}
use Rattle.clap.proofs.OnLiterals.{clap_on_literals}
use Rattle.clap.proofs.ValueTestLemmas.{Accepts-accepts}
use Rattle.in_limits.specs.Limiting.{least_cells, most_cells, most_interactions, most_workers}
use Rattle.in_command_line.specs.Asking.{HasLimits, Spells, faults}
use Rattle.in_command_line.specs.CommandLine.{command_line}
use Rattle.in_command_line.proofs.Options.{new_row}
use Rattle.in_command_line.proofs.Refusals.{in_word}
use Rattle.in_command_line.specs.Laws.{FilesAreAsked, FlagsAreAsked, LargeIsAsked, RunAsksForEachClass, RunAsksForTheGiven, RunAsksForTheOthers, RunAsksForTheUsual, SubcommandsAsk, AreUsualLimits}

abbrev check_words : List Text
check_words = codes "inet" ∷ codes "check" ∷ []

abbrev derive_words : List Text
derive_words = codes "inet" ∷ codes "derive" ∷ []

abbrev run_words : List Text
run_words = codes "inet" ∷ codes "run" ∷ []

abbrev given_words : Text → Text → Text → List Text
given_words workers limit cells = codes "inet" ∷ codes "run" ∷ (codes "--workers=" ++ workers) ∷ (codes "--limit=" ++ limit) ∷ (codes "--cells=" ++ cells) ∷ []

abbrev class_words : Text → Text → Text → List Text
class_words small large wide = codes "inet" ∷ codes "run" ∷ (codes "--small-cells=" ++ small) ∷ (codes "--large-cells=" ++ large) ∷ (codes "--wide-cells=" ++ wide) ∷ []

abbrev two_words : Text → Text → List Text
two_words cells small = codes "inet" ∷ codes "run" ∷ (codes "--cells=" ++ cells) ∷ (codes "--small-cells=" ++ small) ∷ []

abbrev usual_limit : List Row
usual_limit = new_row (codes "workers") (codes "1") DefaultValue ∷ new_row (codes "limit") (codes "1000000") DefaultValue ∷ []

abbrev usual_numbers : List Row
usual_numbers = usual_limit ++ new_row (codes "cells") (codes "65536") DefaultValue ∷ []

-- the row of `--large`, if it is not among the words, and if it is
abbrev not_large : List Row
not_large = new_row (codes "large") (codes "false") DefaultValue ∷ []

abbrev large_row : Row
large_row = new_row (codes "large") (codes "true") CommandLine

abbrev usual_flags : List Row
usual_flags = new_row (codes "no-net") (codes "false") DefaultValue ∷ new_row (codes "stats") (codes "false") DefaultValue ∷ not_large

abbrev usual_rows : List Row
usual_rows = usual_numbers ++ usual_flags

abbrev given_rows : Text → Text → Text → List Row
given_rows workers limit cells = (new_row (codes "workers") workers CommandLine ∷ new_row (codes "limit") limit CommandLine ∷ new_row (codes "cells") cells CommandLine ∷ []) ++ usual_flags

abbrev class_rows : Text → Text → Text → List Row
class_rows small large wide = (new_row (codes "small-cells") small CommandLine ∷ new_row (codes "large-cells") large CommandLine ∷ new_row (codes "wide-cells") wide CommandLine ∷ []) ++ usual_rows

abbrev two_rows : Text → Text → List Row
two_rows cells small = (new_row (codes "cells") cells CommandLine ∷ new_row (codes "small-cells") small CommandLine ∷ []) ++ usual_limit ++ usual_flags

abbrev file_row : Text → Row
file_row file = new_row (codes "file") file CommandLine

abbrev no_net_row : Row
no_net_row = new_row (codes "no-net") (codes "true") CommandLine

abbrev stats_row : ValueSource → Text → Row
stats_row s text = new_row (codes "stats") text s

check_taken : faults check_words ≡ []
unfolding clap_on_literals
check_taken = refl

check_given : subcommand_of command_line check_words ≡ Some (codes "check", not_large)
unfolding clap_on_literals
check_given = refl

derive_taken : faults derive_words ≡ []
unfolding clap_on_literals
derive_taken = refl

derive_given : subcommand_of command_line derive_words ≡ Some (codes "derive", not_large)
unfolding clap_on_literals
derive_given = refl

run_taken : faults run_words ≡ []
unfolding clap_on_literals
run_taken = refl

run_given : subcommand_of command_line run_words ≡ Some (codes "run", usual_rows)
unfolding clap_on_literals
run_given = refl

-- the errors in three words with numbers, and in two
abbrev in_words : Bool → Bool → Bool → Kinds
in_words workers limit cells = or_else (or_else (or_else (in_word workers) (or_else (in_word limit) (or_else (in_word cells) []))) []) []

abbrev in_two_words : Bool → Bool → Kinds
in_two_words cells small = or_else (or_else (or_else (in_word cells) (or_else (in_word small) [])) []) []

none_of_two_wrong : (a b : Bool) → a ≡ true → b ≡ true → in_two_words a b ≡ []
none_of_two_wrong a b has is = rw (has, is) refl

none_wrong : (a b c : Bool) → a ≡ true → b ≡ true → c ≡ true → in_words a b c ≡ []
none_wrong a b c has is are = rw (has, is, are) refl

all_taken : (workers limit cells : Text) → accepts false (Unsigned 1 most_workers) workers ≡ true → accepts false (Unsigned 0 most_interactions) limit ≡ true → accepts false (Unsigned least_cells most_cells) cells ≡ true → faults (given_words workers limit cells) ≡ []
unfolding clap_on_literals
all_taken workers limit cells has is are =
    none_wrong (accepts false (Unsigned 1 most_workers) workers) (accepts false (Unsigned 0 most_interactions) limit) (accepts false (Unsigned least_cells most_cells) cells) has is are

all_given : (workers limit cells : Text) → subcommand_of command_line (given_words workers limit cells) ≡ Some (codes "run", given_rows workers limit cells)
unfolding clap_on_literals
all_given workers limit cells = refl

classes_taken : (small large wide : Text) → accepts false (Unsigned least_cells most_small_cells) small ≡ true → accepts false (Unsigned least_cells most_larger_cells) large ≡ true → accepts false (Unsigned least_cells most_larger_cells) wide ≡ true → faults (class_words small large wide) ≡ []
unfolding clap_on_literals
classes_taken small large wide has is are =
    none_wrong (accepts false (Unsigned least_cells most_small_cells) small) (accepts false (Unsigned least_cells most_larger_cells) large) (accepts false (Unsigned least_cells most_larger_cells) wide) has is are

classes_given : (small large wide : Text) → subcommand_of command_line (class_words small large wide) ≡ Some (codes "run", class_rows small large wide)
unfolding clap_on_literals
classes_given small large wide = refl

two_taken : (cells small : Text) → accepts false (Unsigned least_cells most_cells) cells ≡ true → accepts false (Unsigned least_cells most_small_cells) small ≡ true → faults (two_words cells small) ≡ []
unfolding clap_on_literals
two_taken cells small has is = none_of_two_wrong (accepts false (Unsigned least_cells most_cells) cells) (accepts false (Unsigned least_cells most_small_cells) small) has is

two_given : (cells small : Text) → subcommand_of command_line (two_words cells small) ≡ Some (codes "run", two_rows cells small)
unfolding clap_on_literals
two_given cells small = refl

accepted : (least most n : ℕ) (text : Text) → Spells text n → least ≤ n → n ≤ most → most < 2 ^ 64 → accepts false (Unsigned least most) text ≡ true
accepted least most n text spells above below few =
    Accepts-accepts false (Unsigned least most) text (spells.0, omega (arith, spells.1), omega (arith, spells.1), omega (arith, spells.1))

-- the usual limits are those of any rows that begin with the usual numbers
usual_limits : (l : Limits) → AreUsualLimits l → HasLimits usual_rows l
usual_limits l usual = (
  (codes "1", refl, ((omega arith, search rules), usual.0)),
  (codes "1000000", refl, ((omega arith, search rules), usual.1)),
  (
    (codes "65536", refl, ((omega arith, search rules), ap (λ (c : CellCounts). c.small_cells) usual.2)),
    (codes "65536", refl, ((omega arith, search rules), ap (λ (c : CellCounts). c.large_cells) usual.2)),
    (codes "65536", refl, ((omega arith, search rules), ap (λ (c : CellCounts). c.wide_cells) usual.2)),
  ),
)

pub named_ask : SubcommandsAsk
named_ask = (
  record { name = codes "check"; options = not_large; taken = check_taken; given = check_given; named = refl; file_is = refl; stats_are = refl; large_is = refl },
  record { name = codes "derive"; options = not_large; taken = derive_taken; given = derive_given; named = refl; file_is = refl; stats_are = refl; large_is = refl },
)

pub usual_asks : RunAsksForTheUsual
usual_asks l usual = record {
  name = codes "run";
  options = usual_rows;
  taken = run_taken;
  given = run_given;
  named = (refl, usual_limits l usual, refl);
  file_is = refl;
  stats_are = refl;
  large_is = refl;
}

pub given_asks : RunAsksForTheGiven
given_asks workers limit cells n l has is are few same =
    let small : l.cells.small_cells ≡ n = ap (λ (c : CellCounts). c.small_cells) same in
    let large : l.cells.large_cells ≡ n = ap (λ (c : CellCounts). c.large_cells) same in
    let wide : l.cells.wide_cells ≡ n = ap (λ (c : CellCounts). c.wide_cells) same in
    let least : least_cells ≤ n = omega (arith, small, l.least.0) in
    record {
      name = codes "run";
      options = given_rows workers limit cells;
      taken = all_taken workers limit cells (accepted 1 most_workers l.workers workers has l.some_worker l.few_workers (omega arith)) (accepted 0 most_interactions l.limit limit is (omega arith) l.limit_in_range (omega arith)) (accepted least_cells most_cells n cells are least few (omega arith));
      given = all_given workers limit cells;
      named = (refl, ((workers, refl, has), (limit, refl, is), ((cells, refl, (are.0, small ∙ are.1)), (cells, refl, (are.0, large ∙ are.1)), (cells, refl, (are.0, wide ∙ are.1)))), refl);
      file_is = refl;
      stats_are = refl;
      large_is = refl;
    }

pub classes_ask : RunAsksForEachClass
classes_ask small large wide l alone usual has is are = record {
  name = codes "run";
  options = class_rows small large wide;
  taken = classes_taken small large wide (accepted least_cells most_small_cells l.cells.small_cells small has l.least.0 l.most.small (omega arith)) (accepted least_cells most_larger_cells l.cells.large_cells large is l.least.1 l.most.large (omega arith)) (accepted least_cells most_larger_cells l.cells.wide_cells wide are l.least.2 l.most.wide (omega arith));
  given = classes_given small large wide;
  named = (refl, ((codes "1", refl, ((omega arith, search rules), alone)), (codes "1000000", refl, ((omega arith, search rules), usual)), ((small, refl, has), (large, refl, is), (wide, refl, are))), refl);
  file_is = refl;
  stats_are = refl;
  large_is = refl;
}

pub others_ask : RunAsksForTheOthers
others_ask cells small n l alone usual are few has large wide =
    let least : least_cells ≤ n = omega (arith, large, l.least.1) in
    record {
      name = codes "run";
      options = two_rows cells small;
      taken = two_taken cells small (accepted least_cells most_cells n cells are least few (omega arith)) (accepted least_cells most_small_cells l.cells.small_cells small has l.least.0 l.most.small (omega arith));
      given = two_given cells small;
      named = (refl, ((codes "1", refl, ((omega arith, search rules), alone)), (codes "1000000", refl, ((omega arith, search rules), usual)), ((small, refl, has), (cells, refl, (are.0, large ∙ are.1)), (cells, refl, (are.0, wide ∙ are.1)))), refl);
      file_is = refl;
      stats_are = refl;
      large_is = refl;
    }

-- ---- flags and files

abbrev no_net_words : List Text
no_net_words = codes "inet" ∷ codes "run" ∷ codes "--no-net" ∷ []

no_net_taken : faults no_net_words ≡ []
unfolding clap_on_literals
no_net_taken = refl

no_net_given : subcommand_of command_line no_net_words ≡ Some (codes "run", no_net_row ∷ usual_numbers ++ (stats_row DefaultValue (codes "false") ∷ not_large))
unfolding clap_on_literals
no_net_given = refl

abbrev stats_words : List Text
stats_words = codes "inet" ∷ codes "run" ∷ codes "--stats" ∷ []

stats_taken : faults stats_words ≡ []
unfolding clap_on_literals
stats_taken = refl

stats_given : subcommand_of command_line stats_words ≡ Some (codes "run", stats_row CommandLine (codes "true") ∷ usual_numbers ++ (new_row (codes "no-net") (codes "false") DefaultValue ∷ not_large))
unfolding clap_on_literals
stats_given = refl

pub flags_asked : FlagsAreAsked
flags_asked l usual = (
  record { name = codes "run"; options = _; taken = no_net_taken; given = no_net_given; named = (refl, usual_limits l usual, refl); file_is = refl; stats_are = refl; large_is = refl },
  record { name = codes "run"; options = _; taken = stats_taken; given = stats_given; named = (refl, usual_limits l usual, refl); file_is = refl; stats_are = refl; large_is = refl },
)

abbrev a_file : Text
a_file = codes "sum.inet"

file_checked : faults (codes "inet" ∷ codes "check" ∷ a_file ∷ []) ≡ []
unfolding clap_on_literals
file_checked = refl

file_of_check : subcommand_of command_line (codes "inet" ∷ codes "check" ∷ a_file ∷ []) ≡ Some (codes "check", file_row a_file ∷ not_large)
unfolding clap_on_literals
file_of_check = refl

file_derived : faults (codes "inet" ∷ codes "derive" ∷ a_file ∷ []) ≡ []
unfolding clap_on_literals
file_derived = refl

file_of_derive : subcommand_of command_line (codes "inet" ∷ codes "derive" ∷ a_file ∷ []) ≡ Some (codes "derive", file_row a_file ∷ not_large)
unfolding clap_on_literals
file_of_derive = refl

input_checked : faults (codes "inet" ∷ codes "check" ∷ codes "-" ∷ []) ≡ []
unfolding clap_on_literals
input_checked = refl

input_of_check : subcommand_of command_line (codes "inet" ∷ codes "check" ∷ codes "-" ∷ []) ≡ Some (codes "check", file_row (codes "-") ∷ not_large)
unfolding clap_on_literals
input_of_check = refl

file_first : faults (codes "inet" ∷ codes "run" ∷ a_file ∷ codes "--no-net" ∷ []) ≡ []
unfolding clap_on_literals
file_first = refl

file_first_given : subcommand_of command_line (codes "inet" ∷ codes "run" ∷ a_file ∷ codes "--no-net" ∷ []) ≡ Some (codes "run", file_row a_file ∷ no_net_row ∷ usual_numbers ++ (stats_row DefaultValue (codes "false") ∷ not_large))
unfolding clap_on_literals
file_first_given = refl

file_last : faults (codes "inet" ∷ codes "run" ∷ codes "--no-net" ∷ a_file ∷ []) ≡ []
unfolding clap_on_literals
file_last = refl

file_last_given : subcommand_of command_line (codes "inet" ∷ codes "run" ∷ codes "--no-net" ∷ a_file ∷ []) ≡ Some (codes "run", no_net_row ∷ file_row a_file ∷ usual_numbers ++ (stats_row DefaultValue (codes "false") ∷ not_large))
unfolding clap_on_literals
file_last_given = refl

pub files_asked : FilesAreAsked
files_asked = (
  record { name = codes "check"; options = _; taken = file_checked; given = file_of_check; named = refl; file_is = refl; stats_are = refl; large_is = refl },
  record { name = codes "derive"; options = _; taken = file_derived; given = file_of_derive; named = refl; file_is = refl; stats_are = refl; large_is = refl },
  record { name = codes "check"; options = _; taken = input_checked; given = input_of_check; named = refl; file_is = refl; stats_are = refl; large_is = refl },
  λ l usual. (
    record { name = codes "run"; options = _; taken = file_first; given = file_first_given; named = (refl, usual_limits l usual, refl); file_is = refl; stats_are = refl; large_is = refl },
    record { name = codes "run"; options = _; taken = file_last; given = file_last_given; named = (refl, usual_limits l usual, refl); file_is = refl; stats_are = refl; large_is = refl },
  ),
)

-- ---- large limits

large_checked : faults (codes "inet" ∷ codes "check" ∷ codes "--large" ∷ []) ≡ []
unfolding clap_on_literals
large_checked = refl

large_of_check : subcommand_of command_line (codes "inet" ∷ codes "check" ∷ codes "--large" ∷ []) ≡ Some (codes "check", large_row ∷ [])
unfolding clap_on_literals
large_of_check = refl

large_derived : faults (codes "inet" ∷ codes "derive" ∷ codes "--large" ∷ []) ≡ []
unfolding clap_on_literals
large_derived = refl

large_of_derive : subcommand_of command_line (codes "inet" ∷ codes "derive" ∷ codes "--large" ∷ []) ≡ Some (codes "derive", large_row ∷ [])
unfolding clap_on_literals
large_of_derive = refl

large_file_checked : faults (codes "inet" ∷ codes "check" ∷ codes "--large" ∷ a_file ∷ []) ≡ []
unfolding clap_on_literals
large_file_checked = refl

large_file_of_check : subcommand_of command_line (codes "inet" ∷ codes "check" ∷ codes "--large" ∷ a_file ∷ []) ≡ Some (codes "check", large_row ∷ file_row a_file ∷ [])
unfolding clap_on_literals
large_file_of_check = refl

large_run : faults (codes "inet" ∷ codes "run" ∷ codes "--large" ∷ []) ≡ []
unfolding clap_on_literals
large_run = refl

large_of_run : subcommand_of command_line (codes "inet" ∷ codes "run" ∷ codes "--large" ∷ []) ≡ Some (codes "run", large_row ∷ usual_numbers ++ (new_row (codes "no-net") (codes "false") DefaultValue ∷ stats_row DefaultValue (codes "false") ∷ []))
unfolding clap_on_literals
large_of_run = refl

pub large_asked : LargeIsAsked
large_asked = (
  record { name = codes "check"; options = _; taken = large_checked; given = large_of_check; named = refl; file_is = refl; stats_are = refl; large_is = refl },
  record { name = codes "derive"; options = _; taken = large_derived; given = large_of_derive; named = refl; file_is = refl; stats_are = refl; large_is = refl },
  record { name = codes "check"; options = _; taken = large_file_checked; given = large_file_of_check; named = refl; file_is = refl; stats_are = refl; large_is = refl },
  λ l usual. record { name = codes "run"; options = _; taken = large_run; given = large_of_run; named = (refl, usual_limits l usual, refl); file_is = refl; stats_are = refl; large_is = refl },
)
