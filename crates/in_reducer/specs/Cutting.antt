-- A wire of a reducer's net is cut, and two free ends are joined: the first makes a part of a net, the second undoes it. That nets are
-- reduced in parts is this project's own choice.
use Rattle.std.specs.Prelude.{◌≡◌, ◌≢◌, ℕ, List, [], ◌∷◌, ◌++◌, map, Some}
use Rattle.in_net.specs.Nets.{Point, Port, Net, net_of}
use Rattle.in_check.specs.Systems.{IsSound, system_of}
use Rattle.in_order.specs.Leading.{IsCutOnce, IsJoinedOnce, Leads}
use Rattle.in_reducer.specs.Machines.{MachineParts, parts_of}
use Rattle.in_reducer.specs.Reducers.{IsReducer}

abbrev pub net_in : MachineParts → Net ℕ
net_in m = net_of (parts_of m)

-- ---- a cut

-- this place of that agent leads somewhere, and its wire is no active pair
pub record CanCut (m : MachineParts) (c i : ℕ) : Type 0 where
  pub other : Point ℕ
  pub wire : (net_in m).partner (Port c i) ≡ Some other
  pub waits : i ≡ 0 → (d : ℕ) → other ≢ Port d 0

-- the wire at this place of that agent is cut: its two points are at new free ends without a name; all else is as it was
pub record CutsAt (m : MachineParts) (c i : ℕ) (after : MachineParts) : Type 0 where
  pub program : after.program ≡ m.program
  pub cut : IsCutOnce (system_of m.program) (net_in m) (net_in after)
  pub here : cut.one ≡ Port c i
  pub names : map (λ f. f.name) after.free ≡ map (λ f. f.name) m.free ++ ([] ∷ [] ∷ [])
  pub queue : after.queue ≡ m.queue
  pub vacant : after.vacant ≡ m.vacant

-- ---- a joint

-- once the last two free ends are joined, the net is sound. (Two ends that come from a cut are joined to a sound net: see `in_order`.)
abbrev pub CanJoin : MachineParts → Type 0
CanJoin m = (w : Net ℕ) → IsJoinedOnce (net_in m) w → IsSound (system_of m.program) w

-- the last two free ends are joined, and are gone. If both partners are principal ports, their agents are a new pair, which comes last
pub record JoinsLast (m after : MachineParts) : Type 0 where
  pub program : after.program ≡ m.program
  pub joined : IsJoinedOnce (net_in m) (net_in after)
  pub names : (one other : List ℕ) × (map (λ f. f.name) m.free ≡ map (λ f. f.name) after.free ++ (one ∷ other ∷ []))
  pub made : List (ℕ × ℕ)
  pub queue : after.queue ≡ m.queue ++ made
  pub vacant : after.vacant ≡ m.vacant

-- ---- the law

-- if a wire was cut, and only interactions were done since, the two ends can be joined, and the net before the cut leads to the joined net, by as
-- many interactions
abbrev pub JointsUndoCuts : Type 0
JointsUndoCuts = (m n o : MachineParts) (c i k : ℕ) → IsReducer m → CutsAt m c i n → o.program ≡ m.program → Leads (system_of m.program) k (net_in n) (net_in o) →
    CanJoin o × ((after : MachineParts) → JoinsLast o after → Leads (system_of m.program) k (net_in m) (net_in after))
