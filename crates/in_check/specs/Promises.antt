-- The promises for every net that an accepted program reaches. Lafont 1990: reduction preserves types, each active pair has its rule, and a
-- net that comes from a semi-simple one has no vicious circle. The sentences on closed paths, on leading on from an agent and on the text are
-- this project's own.
use Rattle.std.specs.Prelude.{◌≡◌, ◌⊎◌, ◌↔◌, ℕ, suc, nat_eq, List, [], length, map, Some, IsSome}
use Rattle.std.specs.List.{AllByRecursion}
use Rattle.in_base.specs.Lists.{IsAmong}
use Rattle.in_interaction.specs.Ahead.{MeetsPair, WaitsAt}
use Rattle.in_base.specs.Graphs.{CrossingCircle, ViciousCircle}
use Rattle.in_net.specs.Graphs.{graph_of}
use Rattle.in_net.specs.Interactions.{Redex, IsRedex, IsNaming, IsStep, ClosedPath}
use Rattle.in_net.specs.Nets.{Point, Port, Signature, Net, IsNet}
use Rattle.in_typing.specs.TypedNets.{IsTypedNet}
use Rattle.in_check.specs.NetText.{Words, TextPart, Head, Variable, text, text_parts, AreAgents, numbers, numbered, StandsTimes, IsQueue, IsAuxiliary, IsOfNet}
use Rattle.in_check.specs.Runs.{IsRenamed, moved, IsPairWithRule, IsInteraction, Reached, HasEnded}
use Rattle.in_check.specs.Systems.{System, IsMatching, HasOneRule, IsSoundSystem, system_of}
use Rattle.in_check.specs.Checking.{IsAccepted}
use Rattle.in_check.specs.Programs.{Program}
use Rattle.in_syntax.specs.declared.text_limits.TextLimits.{TextLimits}

-- ---- the six sentences

-- it is a net, and each of its wires joins two points of one type and opposite signs
abbrev pub IsTypedThroughout : System → Net ℕ → Type 0
IsTypedThroughout p n = IsNet p.symbols n × IsTypedNet p.symbols n

-- the two symbols of each active pair match, and exactly one rule is for them, the constructor first
abbrev pub HasOneRuleEach : System → Net ℕ → Type 0
HasOneRuleEach p n = (a b c d : ℕ) → n.symbol a ≡ Some c → n.symbol b ≡ Some d → n.partner (Port a 0) ≡ Some (Port b 0) → (IsMatching p.symbols c d × HasOneRule p c d) ⊎ (IsMatching p.symbols d c × HasOneRule p d c)

-- it has no crossing circle, and no vicious one
abbrev pub HasNoCircle : System → Net ℕ → Type 0
HasNoCircle p n = (CrossingCircle (graph_of p.symbols n) → ⊥) × (ViciousCircle (graph_of p.symbols n) → ⊥)

-- each interaction ends: it leaves no closed alternating path, which would be a wire without ends, and under any new names for the
-- new agents there is a net after it
abbrev pub EndsEachInteraction : System → Net ℕ → Type 0
EndsEachInteraction p n = (x : Redex ℕ ℕ) → IsPairWithRule p n x → (ClosedPath p.symbols n x → ⊥) × ((name : ℕ → ℕ) → IsNaming n x name → (after : Net ℕ) × IsInteraction p n x name after)

-- from each agent, principal ports lead on to an active pair, or to a free end at which it waits
abbrev pub LeadsOn : Net ℕ → Type 0
LeadsOn n = (x : ℕ) → IsSome (n.symbol x) → MeetsPair n x ⊎ ((k : ℕ) × WaitsAt n k x)

-- these parts of a text hold each agent once, each wire without principal ports once at each of its two points, and nothing else of
-- these kinds. Each variable's number is written twice, at one wire
pub record HoldsAll (n : Net ℕ) (parts : List (TextPart ℕ)) : Type 0 where
  pub agents : (x : ℕ) → IsSome (n.symbol x) → StandsTimes 1 (Head x) parts
  pub variables : (u v : Point ℕ) → n.partner u ≡ Some v → IsAuxiliary u → IsAuxiliary v → StandsTimes 1 (Variable u v) parts
  pub others : AllByRecursion (IsOfNet n) parts
  pub twice : (k : ℕ) → IsAmong k (numbers nat_eq [] parts) → StandsTimes 2 k (numbers nat_eq [] parts)
  pub one_wire : (k : ℕ) (u v : Point ℕ) → IsAmong (k, u) (numbered (numbers nat_eq [] parts) parts) → IsAmong (k, v) (numbered (numbers nat_eq [] parts) parts) → (u ≡ v) ⊎ (n.partner u ≡ Some v)

-- its agents and its active pairs can be listed, each once; and its text holds all, for any names and any order of the queue of its
-- active pairs
pub record IsWrittenWhole (p : System) (n : Net ℕ) : Type 0 where
  pub agents : (xs : List ℕ) × AreAgents n xs
  pub queue : (queue : List (ℕ × ℕ)) × IsQueue n queue
  pub holds : (words : Words) (xs : List ℕ) (queue : List (ℕ × ℕ)) → AreAgents n xs → IsQueue n queue → HoldsAll n (text_parts p.symbols words n (length xs) queue)

-- ---- all promises

pub record IsAsPromised (p : System) (n : Net ℕ) : Type 0 where
  pub typed : IsTypedThroughout p n
  pub one_rule : HasOneRuleEach p n
  pub no_circle : HasNoCircle p n
  pub interactions_end : EndsEachInteraction p n
  pub leads_on : LeadsOn n
  pub written_whole : IsWrittenWhole p n

-- each net that the program reaches, by interactions in any order and under any names, is as promised. (A proof that only has a program need not
-- look inside.)
unfoldable pub ReachesAsPromised : System → Type 0
ReachesAsPromised p = (k : ℕ) (n : Net ℕ) → Reached p k n → IsAsPromised p n

-- ---- laws

-- a sound system reaches only nets that are as promised, and the program of an accepted text is a sound system
abbrev pub SoundReachesAsPromised : Type 0
SoundReachesAsPromised = (p : System) → IsSoundSystem p → ReachesAsPromised p

abbrev pub AcceptedIsSound : Type 0
AcceptedIsSound = (limits : TextLimits) (text : List ℕ) (p : Program) → IsAccepted limits text p → IsSoundSystem (system_of p)

-- a reached net after one more interaction is reached by one more
abbrev pub StepsReach : Type 0
StepsReach = (p : System) (k : ℕ) (n : Net ℕ) (x : Redex ℕ ℕ) (name : ℕ → ℕ) (after : Net ℕ) → Reached p k n → IsInteraction p n x name after → Reached p (suc k) after

-- under other names a net is reached by as many interactions, has as many agents, has ended if it has, and is written alike
pub record IsUnchanged (p : System) (k : ℕ) (f : ℕ → ℕ) (n m : Net ℕ) : Type 0 where
  pub reached : Reached p k m
  pub agents : (xs ys : List ℕ) → AreAgents n xs → AreAgents m ys → length xs ≡ length ys
  pub ended : HasEnded m ↔ HasEnded n
  pub text : (words : Words) (d : ℕ) (queue : List (ℕ × ℕ)) → IsQueue n queue → text p.symbols words nat_eq m d (map (λ q. (f q.0, f q.1)) queue) ≡ text p.symbols words nat_eq n d queue

abbrev pub RenamingChangesNothing : Type 0
RenamingChangesNothing = (p : System) (k : ℕ) (n : Net ℕ) (f : ℕ → ℕ) (m : Net ℕ) → IsSoundSystem p → Reached p k n → IsRenamed f n m → IsUnchanged p k f n m

-- an interaction of a net under other names leads to the net after it, under other names, for any names of the new agents
abbrev pub RenamedStepsAreRenamed : Type 0
RenamedStepsAreRenamed = (sig : Signature) (n m after end : Net ℕ) (f name other_name : ℕ → ℕ) (x : Redex ℕ ℕ) → IsNet sig n → IsNet sig x.member → IsRedex sig n x →
    IsRenamed f n m → IsStep sig n x name after → IsStep sig m (moved f x) other_name end → (g : ℕ → ℕ) × IsRenamed g after end
