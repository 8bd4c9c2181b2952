-- The law on diagnoses as data.
use Rattle.std.specs.Prelude.{ℕ, List, Option, Some, None, Vec}
use Rattle.std.specs.Global.{Global}
use Rattle.in_syntax.specs.declared.faults.Refusal.{Refusal}
use Rattle.in_syntax.specs.declared.text_limits.TextLimits.{TextLimits}
use Rattle.in_diagnosis.specs.Data.{IsDataOf, IsToldAsData}

-- both are none, or both are lines on one refusal, and so begin in one way
abbrev pub BeginAlike : Option (Vec ℕ Global) → Option (Vec ℕ Global) → Type 0
BeginAlike None None = Unit {0}
BeginAlike None (Some line) = ⊥
BeginAlike (Some line) None = ⊥
BeginAlike (Some one) (Some other) = (r : Refusal) × IsDataOf r one.items × IsDataOf r other.items

-- the data on a text with its limits begins in one way
abbrev pub DataBeginsAlike : Type 0
DataBeginsAlike = (limits : TextLimits) (text : List ℕ) (one other : Option (Vec ℕ Global)) → IsToldAsData limits text one → IsToldAsData limits text other → BeginAlike one other
