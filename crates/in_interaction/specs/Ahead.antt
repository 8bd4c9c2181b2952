-- The agents ahead of an agent: from the partner of its principal port, if that is an auxiliary port, on from its agent. This project's own words
-- for Lafont 1990's vicious circles, in which each agent waits for the next one.
use Rattle.std.specs.Prelude.{◌≡◌, ℕ, suc, Some}
use Rattle.in_net.specs.Nets.{Port, Free, Net}

-- from principal port to principal port the agents lead to an active pair
pub data MeetsPair {A : Type 0} (n : Net A) : A → Type 0 where
  pair : (x y : A) → n.partner (Port x 0) ≡ Some (Port y 0) → MeetsPair n x
  pair_later : (x y : A) (i : ℕ) → n.partner (Port x 0) ≡ Some (Port y (suc i)) → MeetsPair n y → MeetsPair n x

-- .. or to this free end
pub data WaitsAt {A : Type 0} (n : Net A) (k : ℕ) : A → Type 0 where
  free : (x : A) → n.partner (Port x 0) ≡ Some (Free k) → WaitsAt n k x
  free_later : (x y : A) (i : ℕ) → n.partner (Port x 0) ≡ Some (Port y (suc i)) → WaitsAt n k y → WaitsAt n k x
