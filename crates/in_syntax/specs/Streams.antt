-- The views of readers and writers, the effect of one read or write, and when it has failed. This project's own choice.
use Rattle.std.specs.Prelude.{◌≡◌, ℕ, zero, ◌+◌, ◌-◌, ◌^◌, min, Bool, true, false, List, ◌∷◌, take, Option, Result, Ok, Err}
use Rattle.std.specs.Io.KnownBytes.{append_known}

-- a reader or a writer: the bytes that it moved so far, or nothing if it doesn't show them, and how many of its calls failed
pub record Device : Type 0 where
  pub bytes : Option (List ℕ)
  pub failures : ℕ

-- a reader: its bytes and failures, the number of reads, as a number of 64 bits that stays at its greatest value, and whether the last read gave
-- no byte though some were requested, and so found the end of the text
pub record Reader : Type 0 where
  pub device : Device
  pub reads : ℕ
  pub ended : Bool

-- the call moves as many first bytes as its result says, or none if it fails
abbrev pub MovesFront : Option (List ℕ) → Option (List ℕ) → Result ℕ (Unit {0}) → List ℕ → Type 0
MovesFront old new (Ok n) bytes = new ≡ append_known old (take n bytes)
MovesFront old new (Err e) bytes = new ≡ old

-- a read finds the end of a text if it gives none of some bytes
abbrev pub finds_end : Result ℕ (Unit {0}) → List ℕ → Bool
finds_end (Ok zero) (b ∷ bytes) = true
finds_end (Ok n) bytes = false
finds_end (Err e) bytes = false

-- a read fails if it returns an error
abbrev pub fails_read : Result ℕ (Unit {0}) → ℕ
fails_read (Ok n) = 0
fails_read (Err e) = 1

-- a write fails if it returns an error, or takes none of some bytes
abbrev pub fails_write : Result ℕ (Unit {0}) → List ℕ → ℕ
fails_write (Ok zero) (b ∷ bytes) = 1
fails_write (Ok n) bytes = 0
fails_write (Err e) bytes = 1

-- one more call, in a count of 64 bits that stays at its greatest value
abbrev pub one_more : ℕ → ℕ
one_more n = min (n + 1) (2 ^ 64 - 1)
