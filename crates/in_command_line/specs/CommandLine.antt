-- The command line of the program, in the words in which `clap` reads a command.
use Rattle.std.specs.Prelude.{ℕ, true, [], ◌∷◌, Some, codes}
use Rattle.clap.specs.Words.{App, Rule, Text, new_app, new_rule, with_rule, with_subcommand}
use Rattle.clap.specs.declared.builder.action.ArgAction.TheVariants.{Set, SetTrue}
use Rattle.clap.specs.declared.builder.value_parser.ValueParser.TheVariants.{Unsigned}
use Rattle.in_arena.specs.Limiting.{most_larger_cells, most_small_cells}
use Rattle.in_limits.specs.Limiting.{least_cells, most_cells, most_interactions, most_workers}

-- the option `--name N`, where N is a number from least to most
abbrev pub count_option : Text → ℕ → ℕ → Rule
count_option name least most = record (new_rule name) {
  long = Some name;
  action = Some Set;
  value_names = 1;
  parser = Some (Unsigned least most);
}

-- the same with a default, which is the usual text
abbrev pub number_option : Text → Text → ℕ → ℕ → Rule
number_option name usual least most = record (count_option name least most) { defaults = usual ∷ [] }

-- the number of workers, by default 1
abbrev pub workers_option : Rule
workers_option = number_option (codes "workers") (codes "1") 1 most_workers

-- the most interactions, by default 1,000,000
abbrev pub limit_option : Rule
limit_option = number_option (codes "limit") (codes "1000000") 0 most_interactions

-- the number of cells of each class, by default 65,536
abbrev pub cells_option : Rule
cells_option = number_option (codes "cells") (codes "65536") least_cells most_cells

-- the number of small cells, of large ones and of wide ones, each by default that of `--cells`
abbrev pub small_cells_option : Rule
small_cells_option = count_option (codes "small-cells") least_cells most_small_cells

abbrev pub large_cells_option : Rule
large_cells_option = count_option (codes "large-cells") least_cells most_larger_cells

abbrev pub wide_cells_option : Rule
wide_cells_option = count_option (codes "wide-cells") least_cells most_larger_cells

-- the flag `--name`
abbrev pub flag : Text → Rule
flag name = record (new_rule name) { long = Some name; action = Some SetTrue }

-- whether the net isn't printed
abbrev pub no_net_flag : Rule
no_net_flag = flag (codes "no-net")

-- whether figures of the run are wanted
abbrev pub stats_flag : Rule
stats_flag = flag (codes "stats")

-- whether the text has the large limits
abbrev pub large_flag : Rule
large_flag = flag (codes "large")

-- the argument `FILE`, which may be missing
abbrev pub file_argument : Rule
file_argument = record (new_rule (codes "file")) { action = Some Set; value_names = 1 }

-- a command that only has a text: its limits and its file
abbrev pub on_file : Text → App
on_file name = with_rule (with_rule (new_app name) large_flag) file_argument

-- `run` with the numbers of its workers, its interactions and its cells
abbrev pub cells_command : App
cells_command = with_rule (with_rule (with_rule (new_app (codes "run")) workers_option) limit_option) cells_option

-- .. with those of the cells of each class
abbrev pub limits_command : App
limits_command = with_rule (with_rule (with_rule cells_command small_cells_option) large_cells_option) wide_cells_option

-- .. and with its flags and its file
abbrev pub run_command : App
run_command = with_rule (with_rule (with_rule (with_rule limits_command no_net_flag) stats_flag) large_flag) file_argument

abbrev pub needs_subcommand : App → App
needs_subcommand a = record a { top = record a.top { subcommand_required = true } }

abbrev pub tells_version : App → App
tells_version a = record a { top = record a.top { has_version = true } }

-- `inet check`, `inet derive` and `inet run` with its options, each with `--large` and a file, and `inet --version`
abbrev pub command_line : App
command_line = with_subcommand (with_subcommand (with_subcommand
    (tells_version (needs_subcommand (new_app (codes "inet"))))
    (on_file (codes "check")).top)
    (on_file (codes "derive")).top)
    run_command.top
