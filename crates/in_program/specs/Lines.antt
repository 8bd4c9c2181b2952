-- The lines that the program writes. They are this project's own choice.
use Rattle.std.specs.Prelude.{ℕ, ◌==◌, List, [], ◌∷◌, ◌++◌, codes, decimal, if◌then◌else◌, slice_range, Option, Some, None}
use Rattle.in_syntax.specs.Characters.{line_feed}
use Rattle.in_syntax.specs.declared.places.Place.{Place}
use Rattle.in_syntax.specs.declared.faults.Code.{Code}
use Rattle.in_syntax.specs.declared.faults.Code.TheVariants as code
use Rattle.in_syntax.specs.declared.faults.Refusal.{Refusal}
use Rattle.in_arena.specs.declared.content.CellClass.{CellClass}
use Rattle.in_arena.specs.declared.content.CellClass.TheVariants.{Small, Large, Wide}
use Rattle.in_check.specs.declared.checked.ProgramCounts.{ProgramCounts}
use Rattle.in_run.specs.declared.stops.Stop.{Stop}
use Rattle.in_run.specs.declared.stops.Stop.TheVariants.{Normal, Limit, Full}

abbrev pub line_end : List ℕ
line_end = line_feed ∷ []

-- the line of an accepted program
abbrev pub accepted_line : ProgramCounts → List ℕ
accepted_line c =
    codes "accepted: " ++ (decimal c.types ++ (codes " types, " ++ (decimal c.symbols
    ++ (codes " symbols, " ++ (decimal c.rules ++ (codes " rules, " ++ (decimal c.agents ++ (codes " agents" ++ line_end))))))))

abbrev pub code_name : Code → List ℕ
code_name code.E01 = codes "E01"
code_name code.E02 = codes "E02"
code_name code.E03 = codes "E03"
code_name code.E04 = codes "E04"
code_name code.E05 = codes "E05"
code_name code.E06 = codes "E06"
code_name code.E07 = codes "E07"
code_name code.E08 = codes "E08"
code_name code.E09 = codes "E09"
code_name code.E10 = codes "E10"
code_name code.E11 = codes "E11"
code_name code.E12 = codes "E12"
code_name code.E13 = codes "E13"
code_name code.E14 = codes "E14"
code_name code.E15 = codes "E15"

-- a colon and the text at the place; nothing if the place is empty
abbrev pub text_at : List ℕ → Place → List ℕ
text_at text p = if p.from == p.to then [] else (codes ": " ++ slice_range text p.from p.to)

-- a comma and the text at the other place, if there is one
abbrev pub other_at : List ℕ → Option Place → List ℕ
other_at text None = []
other_at text (Some p) = codes ", " ++ slice_range text p.from p.to

-- the code, the line and the column, and the text at the place, and at the other place
abbrev pub refused_line : List ℕ → Refusal → List ℕ
refused_line text r =
    codes "refused " ++ (code_name r.code ++ (codes " at " ++ (decimal r.place.line ++ (codes ":" ++ (decimal r.place.col
    ++ (text_at text r.place ++ (other_at text r.other ++ line_end)))))))

abbrev pub memory_line : List ℕ
memory_line = codes "memory" ++ line_end

-- ---- runs

abbrev pub class_name : CellClass → List ℕ
class_name Small = codes "small"
class_name Large = codes "large"
class_name Wide = codes "wide"

-- the cells of a class, the number of needed ones, and the number of free ones
abbrev pub cells_text : CellClass → ℕ → ℕ → List ℕ
cells_text c need free = class_name c ++ (codes " need " ++ (decimal need ++ (codes " free " ++ (decimal free ++ line_end))))

abbrev pub stop_line : Stop → List ℕ
stop_line Normal = codes "stop: normal" ++ line_end
stop_line Limit = codes "stop: limit" ++ line_end
stop_line (Full c need free) = codes "stop: full " ++ cells_text c need free

-- the lines after the net: the number of interactions, and the stop
abbrev pub run_lines : ℕ → Stop → List ℕ
run_lines k s = codes "interactions: " ++ (decimal k ++ (line_end ++ stop_line s))

-- the line of a net that doesn't fit
abbrev pub start_line : CellClass → ℕ → ℕ → List ℕ
start_line c need free = codes "start: full " ++ cells_text c need free
