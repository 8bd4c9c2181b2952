-- The effect of a call on a reader, and on a writer: see `in_print`'s definitions of devices.
use Rattle.std.specs.Prelude.{◌⊎◌, ℕ, ◌+◌, ◌<◌, ◌≤◌, Bool, IsTrue, List, length}
use Rattle.in_syntax.specs.Streams.{Device, Reader, one_more}
use Rattle.in_syntax.specs.TextLimits.{text_limit}
use Rattle.in_syntax.specs.declared.text_limits.TextLimits.{TextLimits}
use Rattle.in_print.specs.Devices.{Moves, Breaks, BreaksAt}
use Rattle.in_program.specs.declared.reading.Input.{Input}
use Rattle.in_program.specs.declared.reading.Input.TheVariants as input

-- ---- a reader

-- the number of reads that suffice for a text: one for each of its bytes, and one that finds its end
abbrev pub most_reads : TextLimits → ℕ
most_reads limits = text_limit limits + 1

-- there was at least one read (which a full count does not show), at most one more than bytes, and no more than suffice for a text
pub record AreFewReads (limits : TextLimits) (old new : Reader) (bytes : List ℕ) : Type 0 where
  pub some : one_more old.reads ≤ new.reads
  pub each : new.reads ≤ old.reads + length bytes + 1
  pub most : new.reads ≤ old.reads + most_reads limits

-- it gave these bytes, and no read failed
pub record Gives (limits : TextLimits) (old new : Reader) (bytes : List ℕ) : Type 0 where
  pub moves : Moves old.device new.device bytes
  pub few : AreFewReads limits old new bytes

-- it gave these bytes, and then a read failed
pub record Fails (limits : TextLimits) (old new : Reader) (bytes : List ℕ) : Type 0 where
  pub breaks : Breaks old.device new.device bytes
  pub few : AreFewReads limits old new bytes

-- ---- reading and writing

-- the effect of calls with these bytes on a device
abbrev pub DeviceLaw : Type 1
DeviceLaw = Device → Device → List ℕ → Type 0

-- a prefix of the bytes was moved, but not all, and then a call failed
abbrev pub BreaksWithin : DeviceLaw
BreaksWithin old new bytes = (count : ℕ) × BreaksAt old new bytes count

-- the bytes are the text up to its end, or more of it than a text may have
abbrev pub IsEnoughText : TextLimits → Bool → List ℕ → Type 0
IsEnoughText limits ended bytes = IsTrue ended ⊎ (text_limit limits < length bytes)

-- the result of reading a text
abbrev pub IsInput : TextLimits → Reader → Reader → Input → Type 0
IsInput limits old new (input.Text text) = Gives limits old new text.items × IsEnoughText limits new.ended text.items
IsInput limits old new input.Failed = (bytes : List ℕ) × Fails limits old new bytes
IsInput limits old new input.Memory = (bytes : List ℕ) × Gives limits old new bytes
