-- Nets that are cut, reduced apart and glued again, over whole runs: runs of the parts are a run of the whole. Agents may have other names
-- after each step, as when agents are moved from one memory to another. That nets are reduced in parts is this project's own choice.
use Rattle.std.specs.Prelude.{◌≡◌, ◌+◌, ℕ, zero, suc, List, [], ◌∷◌, ◌++◌, length, Some}
use Rattle.in_symbols.specs.declared.symbols.PortType.{PortType}
use Rattle.in_net.specs.Nets.{Point, Net, IsNet}
use Rattle.in_typing.specs.TypedNets.{type_in}
use Rattle.in_check.specs.Runs.{Reached}
use Rattle.in_check.specs.Systems.{System, IsSound, IsSoundSystem}
use Rattle.in_order.specs.Laws.{from_net}
use Rattle.in_gluing.specs.AsGluing.{two_parts}
use Rattle.in_gluing.specs.Gluing.{Cuts, IsGlued}
use Rattle.in_gluing.specs.Joining.{CutsWire, JoinsEnds}
use Rattle.in_gluing.specs.Laws.{KeepsApart}
use Rattle.in_gluing.specs.SideBySide.{StandBeside}

-- k interactions lead from the first net to the second
abbrev pub Leads : System → ℕ → Net ℕ → Net ℕ → Type 0
Leads p k n m = Reached (from_net p n) k m

-- a run continues where another one ended
abbrev pub LeadsGoOn : Type 0
LeadsGoOn = (p : System) (j k : ℕ) (l n m : Net ℕ) → Leads p j l n → Leads p k n m → Leads p (j + k) l m

-- two sound parts of a sound net are reduced each by itself: the whole leads to the net that they are glued to afterwards, along the same cuts, by
-- as many interactions as both together. The names of agents in the parts and in the whole, before and after, are left open
abbrev pub PartsLeadTheWhole : Type 0
PartsLeadTheWhole = (p : System) (j k : ℕ) (n m one two one_after two_after : Net ℕ) (before after : ℕ → ℕ → ℕ) (cuts : Cuts) → IsSoundSystem p → IsSound p n →
    IsGlued (two_parts one two) before cuts n → KeepsApart (two_parts one two) before → IsSound p one → IsSound p two →
    Leads p j one one_after → Leads p k two two_after →
    IsGlued (two_parts one_after two_after) after cuts m → KeepsApart (two_parts one_after two_after) after → Leads p (j + k) n m

-- ---- a wire that is cut and joined again

-- a wire is cut: its two points are at new free ends, which are the last two and are declared with their types
pub record IsCutOnce (p : System) (w m : Net ℕ) : Type 0 where
  pub one : Point ℕ
  pub other : Point ℕ
  pub wire : w.partner one ≡ Some other
  pub first : PortType
  pub second : PortType
  pub type_one : type_in p.symbols w one ≡ Some first
  pub type_other : type_in p.symbols w other ≡ Some second
  pub free : m.free ≡ w.free ++ (first ∷ second ∷ [])
  pub cut : CutsWire w one other (length w.free) (suc (length w.free)) m

-- the last two free ends are joined, and are gone
pub record IsJoinedOnce (m w : Net ℕ) : Type 0 where
  pub first : PortType
  pub second : PortType
  pub free : m.free ≡ w.free ++ (first ∷ second ∷ [])
  pub joins : JoinsEnds m (length w.free) (suc (length w.free)) w

-- a sound net stays sound if a wire is cut
abbrev pub CutOnceIsSound : Type 0
CutOnceIsSound = (p : System) (w m : Net ℕ) → IsSound p w → IsCutOnce p w m → IsSound p m

-- a net with a cut wire leads to another one, in which the two ends are joined again: the net itself leads to the joined one
abbrev pub CutLeadsAreJoined : Type 0
CutLeadsAreJoined = (p : System) (k : ℕ) (w m n o : Net ℕ) → IsSoundSystem p → IsSound p w → IsCutOnce p w m → Leads p k m n → IsJoinedOnce n o → Leads p k w o

-- ---- wires that are cut one after another, and joined in the opposite order

-- a given number of wires are cut, one after another
pub data IsCutDown (p : System) : ℕ → Net ℕ → Net ℕ → Type 0 where
  uncut : (n : Net ℕ) → IsCutDown p zero n n
  then_cut : (w : ℕ) (n m o : Net ℕ) → IsCutDown p w n m → IsCutOnce p m o → IsCutDown p (suc w) n o

-- the last two free ends are joined, a given number of times
pub data IsJoinedUp : ℕ → Net ℕ → Net ℕ → Type 0 where
  unjoined : (n : Net ℕ) → IsJoinedUp zero n n
  joined_first : (w : ℕ) (n m o : Net ℕ) → IsJoinedOnce n m → IsJoinedUp w m o → IsJoinedUp (suc w) n o

-- a sound net stays sound if wires are cut
abbrev pub CutDownIsSound : Type 0
CutDownIsSound = (p : System) (w : ℕ) (n m : Net ℕ) → IsSound p n → IsCutDown p w n m → IsSound p m

-- a net with cut wires leads to another one, in which as many pairs of ends are joined again: the net itself leads to the joined one
abbrev pub CutDownLeadsAreJoinedUp : Type 0
CutDownLeadsAreJoinedUp = (p : System) (w k : ℕ) (n m o q : Net ℕ) → IsSoundSystem p → IsSound p n → IsCutDown p w n m → Leads p k m o → IsJoinedUp w o q → Leads p k n q

-- ---- nets side by side

-- each of two nets leads to another net: then the net of both leads to the net of the others, side by side again with the free ends in the same order
abbrev pub BesideLeads : Type 0
BesideLeads = (p : System) (j k : ℕ) (one two one_after two_after n m : Net ℕ) (before after : ℕ → ℕ) (ends : List (ℕ × ℕ)) → IsSoundSystem p → IsSound p n → IsSound p one → IsSound p two →
    StandBeside one two before ends n → Leads p j one one_after → Leads p k two two_after → StandBeside one_after two_after after ends m → Leads p (j + k) n m

-- nets side by side in a sound net are sound
abbrev pub BesidePartsAreSound : Type 0
BesidePartsAreSound = (p : System) (one two n : Net ℕ) (name : ℕ → ℕ) (ends : List (ℕ × ℕ)) → IsSound p n → IsNet p.symbols one → IsNet p.symbols two →
    StandBeside one two name ends n → IsSound p one × IsSound p two

-- .. and sound nets side by side are a sound net
abbrev pub BesideSoundIsSound : Type 0
BesideSoundIsSound = (p : System) (one two n : Net ℕ) (name : ℕ → ℕ) (ends : List (ℕ × ℕ)) → IsSound p one → IsSound p two → StandBeside one two name ends n → IsSound p n
