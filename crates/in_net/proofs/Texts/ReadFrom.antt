-- The reading of a net is in range, and not too large.
use Rattle.std.proofs.Common.{◌≡◌, ℕ, suc, ◌+◌, ◌<◌, ◌≤◌, List, [], ◌∷◌, length, refl, sym, subst, arith, get_or}
use Rattle.std.specs.List.{AllByRecursion}
use Rattle.in_symbols.specs.Tables.{Tables, arity_of}
use Rattle.in_net.specs.declared.reading.TextSpot.{TextSpot}
use Rattle.in_net.specs.declared.reading.TextSpot.TheVariants.{Port, Free, End, Occurrence}
use Rattle.in_net.specs.declared.reading.Reading.{Reading}
use Rattle.in_net.specs.Joining.{JointsInside}
use Rattle.in_net.specs.Reading.{reading_of}
use Rattle.in_net.specs.Building.{no_agent, no_spot, nth_spot, nth_agent, IsPointSpot, IsSmall}
use Rattle.in_net.specs.Built.{HaveFewPorts, ArePointsAt, IsEnd, IsReadFrom}
use Rattle.in_net.specs.TextNet.{Body}
use Rattle.in_net.proofs.Wiring.Links.{all_at}
use Rattle.in_net.proofs.Texts.NetRead.{IsBodyRead, ends_in, names_in_body}
use Rattle.in_syntax.specs.TextLimits.{most_free, most_bytes}

-- a property of each element, one by one
pub from_each : {X : Type 0} (P : X → Type 0) (xs : List X) (d : X) → ((i : ℕ) → i < length xs → P (get_or xs i d)) → AllByRecursion P xs
from_each P [] d h = tt
from_each P (x ∷ xs) d h = (h 0 (omega arith), from_each P xs d (λ i lt. h (suc i) (omega (arith, lt))))

abbrev pub IsFew : Tables → Body → Type 0
IsFew t b = (ends_in t b ≤ most_free) × (names_in_body b ≤ most_bytes)

-- the reading of a body whose numbers of arguments fit
module _ (t : Tables) (b : Body) (read : IsBodyRead t b (reading_of t b)) where
  abbrev r : Reading
  r = reading_of t b

  pub joints : JointsInside (length (reading_of t b).spots) (reading_of t b).joints
  joints = read.net.read.joints

  agent_at : (i : ℕ) → i < length r.agents → (nth_agent r.agents i).symbol.0 < length t.names × ArePointsAt r.spots (nth_agent r.agents i).first (arity_of t (nth_agent r.agents i).symbol.0 + 1)
  agent_at i lt = (
    all_at _ r.agents i no_agent read.net.read.known lt,
    λ j less. let port = read.net.read.numbered.ports i j lt (omega (arith, less)) in (port.0, subst IsPointSpot (sym port.1) tt),
  )

  end_point : (s : TextSpot) (k : ℕ) → IsEnd s k → IsPointSpot s
  end_point (Port a i p) k h = absurd h
  end_point (Free j m) k h = tt
  end_point (End j) k h = tt
  end_point (Occurrence m p) k h = absurd h

  small_at : IsFew t b → (i : ℕ) (s : TextSpot) → i < length r.spots → nth_spot r.spots i ≡ s → IsSmall s
  small_at few i (Port a j p) lt is = let port = read.net.read.numbered.port i a j p lt is in let n = few.1 in let m = read.net.read.few_agents in let less = port.agent in omega (arith, less, m, n)
  small_at few i (Free k m) lt is = let end = read.net.read.numbered.end i k lt (subst (λ s. IsEnd s k) (sym is) refl) in let n = few.0 in let less = end.1 in omega (arith, less, n)
  small_at few i (End k) lt is = let end = read.net.read.numbered.end i k lt (subst (λ s. IsEnd s k) (sym is) refl) in let n = few.0 in let less = end.1 in omega (arith, less, n)
  small_at few i (Occurrence m p) lt is = tt

  pub read_from : HaveFewPorts t → IsFew t b → IsReadFrom t (ends_in t b) (reading_of t b)
  read_from ports few = record {
    numbered = read.net.read.numbered;
    agents = from_each _ r.agents no_agent agent_at;
    free_points = λ j lt.
        let end = read.net.read.numbered.ends j lt in
        let zero_on : 0 + j ≡ j = omega arith in
        subst (λ k. (k < length r.spots) × IsPointSpot (nth_spot r.spots k)) (sym zero_on) (end.0, end_point (nth_spot r.spots j) j end.1);
    small = from_each IsSmall r.spots no_spot (λ i lt. small_at few i (nth_spot r.spots i) lt refl);
    few_agents = let n = read.net.read.few_agents in let m = few.1 in omega (arith, n, m);
    few_spots = let n = read.net.read.few_spots in let m = few.1 in let e = few.0 in omega (arith, n, m, e);
    few_free = few.0;
    few_ports = ports;
  }
