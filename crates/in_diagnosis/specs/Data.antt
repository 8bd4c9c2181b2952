-- A diagnosis as data. Its form is this project's own choice.
use Rattle.std.specs.Prelude.{◌≡◌, ℕ, List, [], ◌∷◌, ◌++◌, codes, decimal, Option, Some, None, Vec}
use Rattle.std.specs.Global.{Global}
use Rattle.in_syntax.specs.declared.faults.Refusal.{Refusal}
use Rattle.in_syntax.specs.declared.text_limits.TextLimits.{TextLimits}
use Rattle.in_syntax.specs.Refusals.{code_number}
use Rattle.in_check.specs.Checking.{IsCertified, IsRefused}
use Rattle.in_check.specs.Programs.{Certified}

-- the name of a member of an object, and a colon
abbrev member : List ℕ → List ℕ
member name = 34 ∷ [] ++ (name ++ (34 ∷ 58 ∷ []))

-- the beginning of the data: the number of this form, which no other form has; the number of the code; the line, the column and the bytes
abbrev pub data_head : Refusal → List ℕ
data_head r =
    codes "{" ++ (member (codes "format") ++ (codes "1," ++ (member (codes "code") ++ (decimal (code_number r.code)
    ++ (codes "," ++ (member (codes "line") ++ (decimal r.place.line ++ (codes "," ++ (member (codes "column") ++ (decimal r.place.col
    ++ (codes "," ++ (member (codes "bytes") ++ (codes "[" ++ (decimal r.place.from ++ (codes "," ++ (decimal r.place.to ++ codes "],"))))))))))))))))

-- the line of a refusal has this beginning
abbrev pub IsDataOf : Refusal → List ℕ → Type 0
IsDataOf r line = (rest : List ℕ) × (line ≡ data_head r ++ rest)

-- a refused text has such a line, and an accepted text has none
abbrev pub IsToldAsData : TextLimits → List ℕ → Option (Vec ℕ Global) → Type 0
IsToldAsData limits text (Some line) = (r : Refusal) × IsRefused limits text r × IsDataOf r line.items
IsToldAsData limits text None = (c : Certified) × IsCertified limits text c
