-- The laws of nets that are glued from parts.
use Rattle.std.specs.Prelude.{◌≡◌, ◌<◌, ◌≤◌, ◌+◌, ℕ, suc, [], ◌∷◌, ◌++◌, length, Some}
use Rattle.in_symbols.specs.declared.symbols.PortType.{PortType}
use Rattle.in_net.specs.Interactions.{Redex}
use Rattle.in_net.specs.Nets.{Point, Net, IsNet}
use Rattle.in_typing.specs.TypedNets.{type_in}
use Rattle.in_check.specs.Promises.{IsAsPromised}
use Rattle.in_check.specs.Runs.{IsInteraction, Reached}
use Rattle.in_check.specs.Systems.{System, IsSound, IsSoundSystem}
use Rattle.in_order.specs.Laws.{from_net}
use Rattle.in_gluing.specs.Gluing.{Cuts, AreAllApart, IsGlued, AreCuts}
use Rattle.in_gluing.specs.Joining.{CutsWire}
use Rattle.in_gluing.specs.Laws.{KeepsApart}
use Rattle.in_order.specs.PartRuns.{Run, total, AreTypedAtCuts}

-- ---- soundness

-- a part of a sound net is sound, if it is a net and is typed where it is cut
abbrev pub PartsAreSound : Type 0
PartsAreSound = (p : System) (parts : ℕ → Net ℕ) (name : ℕ → ℕ → ℕ) (cuts : Cuts) (whole : Net ℕ) →
    AreAllApart name → IsGlued parts name cuts whole → AreCuts parts cuts → AreTypedAtCuts p.symbols parts cuts →
    IsSound p whole → (i : ℕ) → IsNet p.symbols (parts i) → IsSound p (parts i)

-- a sound net is as promised, whether or not the system reaches it
abbrev pub SoundIsPromised : Type 0
SoundIsPromised = (p : System) (n : Net ℕ) → IsSoundSystem p → IsSound p n → IsAsPromised p n

-- .. each interaction keeps it sound
abbrev pub SoundSteps : Type 0
SoundSteps = (p : System) (n : Net ℕ) (x : Redex ℕ ℕ) (name : ℕ → ℕ) (after : Net ℕ) → IsSoundSystem p → IsSound p n → IsInteraction p n x name after → IsSound p after

-- .. and the system that begins with it is sound
abbrev pub SoundIsStart : Type 0
SoundIsStart = (p : System) (n : Net ℕ) → IsSoundSystem p → IsSound p n → IsSoundSystem (from_net p n)

-- ---- runs

-- the parts of a net that is reached are reduced each by itself, by any number of interactions: there is a net that is glued from them,
-- and it is reached by all these interactions together
abbrev pub RunsAreGlued : Type 0
RunsAreGlued = (p : System) (k : ℕ) (parts after : ℕ → Net ℕ) (name : ℕ → ℕ → ℕ) (cuts : Cuts) (whole : Net ℕ) (workers : ℕ) (counts : ℕ → ℕ) →
    IsSoundSystem p → Reached p k whole → AreAllApart name → IsGlued parts name cuts whole →
    ((i : ℕ) → i < workers → Run p (counts i) (parts i) (after i)) → ((i : ℕ) → workers ≤ i → after i ≡ parts i) →
    (whole_after : Net ℕ) × IsGlued after name cuts whole_after × Reached p (k + total counts workers) whole_after

-- ---- cut, run and glued, for code

-- a run keeps a net sound
abbrev pub RunsKeepSound : Type 0
RunsKeepSound = (p : System) (k : ℕ) (n m : Net ℕ) → IsSoundSystem p → IsSound p n → Run p k n m → IsSound p m

-- a reached net is cut into sound parts, each is reduced by itself, and they are glued along the same cuts: the glued net is reached, by all these
-- interactions more. The names of its agents before, in the parts and after are left open
abbrev pub CutRunAndGlued : Type 0
CutRunAndGlued = (p : System) (k : ℕ) (n m : Net ℕ) (parts after : ℕ → Net ℕ) (before_names after_names : ℕ → ℕ → ℕ) (cuts : Cuts) (workers : ℕ) (counts : ℕ → ℕ) →
    IsSoundSystem p → Reached p k n → IsGlued parts before_names cuts n → KeepsApart parts before_names → ((i : ℕ) → IsSound p (parts i)) →
    ((i : ℕ) → i < workers → Run p (counts i) (parts i) (after i)) → ((i : ℕ) → workers ≤ i → after i ≡ parts i) →
    IsGlued after after_names cuts m → KeepsApart after after_names → Reached p (k + total counts workers) m

-- a part of a sound net is sound, for any names of its agents in the whole
abbrev pub PartsAreSoundByNames : Type 0
PartsAreSoundByNames = (p : System) (parts : ℕ → Net ℕ) (name : ℕ → ℕ → ℕ) (cuts : Cuts) (n : Net ℕ) →
    KeepsApart parts name → IsGlued parts name cuts n → AreCuts parts cuts → AreTypedAtCuts p.symbols parts cuts →
    ((i : ℕ) → IsNet p.symbols (parts i)) → IsSound p n → (i : ℕ) → IsSound p (parts i)

-- a sound net that is cut at a wire, the new free ends being the last two and declared with the types of the wire's points, is sound
abbrev pub CutsKeepSound : Type 0
CutsKeepSound = (p : System) (w : Net ℕ) (u v : Point ℕ) (s t : PortType) (m : Net ℕ) →
    IsSound p w → w.partner u ≡ Some v → type_in p.symbols w u ≡ Some s → type_in p.symbols w v ≡ Some t →
    m.free ≡ w.free ++ (s ∷ t ∷ []) → CutsWire w u v (length w.free) (suc (length w.free)) m → IsSound p m
