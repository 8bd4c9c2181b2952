-- A reader or a writer after a call.
use Rattle.std.specs.Prelude.{◌≡◌, ℕ, ◌+◌, ◌<◌, List, length, take, Result, Ok, Err}
use Rattle.std.specs.Io.KnownBytes.{append_known}
use Rattle.in_syntax.specs.Streams.{Device}
use Rattle.in_print.specs.declared.writing.PrintFault.{PrintFault}
use Rattle.in_print.specs.declared.writing.PrintFault.TheVariants.{Memory, Write}

-- these bytes were moved, and no call failed
pub record Moves (old new : Device) (bytes : List ℕ) : Type 0 where
  pub moved : new.bytes ≡ append_known old.bytes bytes
  pub sound : new.failures ≡ old.failures

-- these bytes were moved, and then a call failed
pub record Breaks (old new : Device) (bytes : List ℕ) : Type 0 where
  pub moved : new.bytes ≡ append_known old.bytes bytes
  pub failed : new.failures ≡ old.failures + 1

-- the first `count` bytes were moved, but not all, and then a call failed
pub record BreaksAt (old new : Device) (bytes : List ℕ) (count : ℕ) : Type 0 where
  pub short : count < length bytes
  pub breaks : Breaks old new (take count bytes)

-- all is written, or a prefix of it up to a failure
abbrev pub WritesAll : Device → Device → List ℕ → Result (Unit {0}) ℕ → Type 0
WritesAll old new bytes (Ok u) = Moves old new bytes
WritesAll old new bytes (Err n) = BreaksAt old new bytes n

-- a text is written, with its length; or a prefix of it, with its length; or nothing, when out of memory
abbrev pub Prints : Device → Device → List ℕ → Result ℕ PrintFault → Type 0
Prints old new text (Ok n) = (n ≡ length text) × Moves old new text
Prints old new text (Err Memory) = new ≡ old
Prints old new text (Err (Write n)) = BreaksAt old new text n
