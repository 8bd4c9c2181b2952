-- The result when bytes are given to a caller that has room for them.
use Rattle.std.specs.Prelude.{◌≡◌, ℕ, List, ◌++◌, drop, length, take}

-- the first bytes that fit are in the room, and the room's bytes behind them are as before; the count is that of all bytes
pub record IsGiven (bytes old new : List ℕ) (count : ℕ) : Type 0 where
  pub front : new ≡ take (length old) bytes ++ drop (length bytes) old
  pub all : count ≡ length bytes
