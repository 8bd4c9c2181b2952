-- Agents are begun in turn in cells of the free list.
use Rattle.std.proofs.Common.{◌≡◌, ◌≢◌, ◌⊎◌, inl, inr, ◌<◌, ◌≤◌, ◌+◌, ℕ, zero, suc, Option, Some, None, List, [], ◌∷◌, ◌++◌, length, map, take, drop, slice_get, refl, sym, ap, subst, ◌∙◌, length-append, length-drop, append_assoc, append-nil, arith}
use Rattle.std.specs.Prelude.{option_map, slice_index_or}
use Rattle.std.proofs.lemmas.Bool.{cases_eq}
use Rattle.std.proofs.lemmas.List.{length-set, length-take-le}
use Rattle.std.proofs.lemmas.Option.{get_or_from_slice_get, none-some, same_Some}
use Rattle.in_base.proofs.Places.{kept_at, last_at, of_mapped, to_mapped}
use Rattle.in_arena.specs.Arenas.{ArenaView, changed}
use Rattle.in_arena.specs.Beginning.{AreBegunInTurn, BeginsFrom}
use Rattle.in_arena.specs.Changes.{HasAllCells}
use Rattle.in_arena.specs.Classes.{Holds}
use Rattle.in_arena.specs.States.{State}
use Rattle.in_arena.specs.declared.content.CellClass.{CellClass}
use Rattle.in_arena.specs.declared.content.CellNo.{CellNo}
use Rattle.in_arena.specs.declared.content.End.{End}
use Rattle.in_arena.specs.declared.content.End.TheVariants.{Cell}
use Rattle.in_arena.specs.declared.head.NewCell.{NewCell}
use Rattle.in_compile.specs.MemberInside.{IsMember, member_view}
use Rattle.in_compile.specs.Members.{AgentParts, MemberParts, AgentsFit, class_at}
use Rattle.in_compile.specs.Putting.{AreAtPoints, AreBegunBelow, BeginsAgent, HasBegunTo}
use Rattle.in_compile.specs.Storing.{agent_from, agents_from}
use Rattle.in_compile.specs.declared.member.Member.TheInside.{Inside}
use Rattle.in_compile.proofs.Placements.AgentByAgent.{read_at}
use Rattle.in_compile.proofs.Placements.Put.{begins, one_more_begun}

still_all : (a b : ArenaView) (n : ℕ) (x : State) → b ≡ changed a n x → HasAllCells a → HasAllCells b
still_all a b n x e all = subst HasAllCells (sym e) (let l = length-set a.states n x in omega (arith, all, l))

-- one more cell has its principal port at its point
one_more_at : (first : ℕ) (ns : List CellNo) (n : CellNo) (points : List End) → AreAtPoints first ns points → slice_get points (first + length ns) ≡ Some (Cell n 0) → AreAtPoints first (ns ++ n ∷ []) points
one_more_at first ns n points at last k low = go (cases_eq k (length ns))
  where
    stands : (m : CellNo) → slice_get (ns ++ n ∷ []) k ≡ Some m → Some (Cell m 0) ≡ Some (Cell (slice_index_or (ns ++ n ∷ []) k (record { 0 = 0 })) 0)
    stands m e = ap (λ (p : CellNo). Some (Cell p 0)) (sym (get_or_from_slice_get (ns ++ n ∷ []) k m (record { 0 = 0 }) e))

    go : (k ≡ length ns) ⊎ (k ≢ length ns) → slice_get points (first + k) ≡ Some (Cell (slice_index_or (ns ++ n ∷ []) k (record { 0 = 0 })) 0)
    go (inl same) = ap (λ (z : ℕ). slice_get points (first + z)) same ∙ last ∙ stands n (ap (slice_get (ns ++ n ∷ [])) same ∙ last_at ns n)
    go (inr other) =
        let l : k < length ns = (let m = length-append ns (n ∷ []) in omega (arith, low, m, other)) in
        at k l ∙ stands (slice_index_or ns k (record { 0 = 0 })) (kept_at ns (n ∷ []) k (slice_index_or ns k (record { 0 = 0 })) (read_at ns k l))

-- an agent that is stored as this cell
record IsStoredAs (m : MemberParts) (k : ℕ) (c : NewCell) : Type 0 where
  pub agent : AgentParts
  pub at : slice_get m.agents k ≡ Some agent
  pub class : agent.class ≡ c.class
  pub symbol : agent.symbol.0 ≡ c.head.word
  pub ends : length agent.ends ≡ c.head.count

module _ (m : MemberParts) (cells : List NewCell) (stored : (k : ℕ) (c : NewCell) → slice_get cells k ≡ Some c → IsStoredAs m k c) (old now : ArenaView) (all : HasAllCells now) (from first : ℕ) (points : List End) (ns : List CellNo) (h : AreBegunBelow m old from now ns) (at : AreAtPoints first ns points) where
  in_turn : (k : ℕ) (ms : List CellNo) (new : ArenaView) → AreBegunInTurn cells from first points now k ms new → AreBegunBelow m old (from + k) new (ns ++ ms) × AreAtPoints first (ns ++ ms) points × HasAllCells new
  in_turn zero ms new t =
      let same : ns ++ ms ≡ ns = ap (λ (z : List CellNo). ns ++ z) t.0 ∙ append-nil ns in let none : from + 0 ≡ from = omega arith in (
        subst (λ (z : ℕ). AreBegunBelow m old z new (ns ++ ms)) (sym none) (subst (λ (z : List CellNo). AreBegunBelow m old from new z) (sym same) (subst (λ (v : ArenaView). AreBegunBelow m old from v ns) (sym t.1) h)),
        subst (λ (z : List CellNo). AreAtPoints first z points) (sym same) at,
        subst HasAllCells (sym t.1) all,
      )
  in_turn (suc k) ms new t =
      let c = t.0 in let before = t.1 in let n = t.2 in let middle = t.3 in let i = in_turn k before middle t.8 in
      let s = stored (from + k) c t.4 in
      let b = begins middle i.2 s.agent c.class s.class c.head.word c.head.count s.symbol s.ends n.0 new t.7 in
      let more : ns ++ ms ≡ (ns ++ before) ++ n ∷ [] = ap (λ (z : List CellNo). ns ++ z) t.5 ∙ sym (append_assoc ns before (n ∷ [])) in
      let next : from + k + 1 ≡ from + suc k = omega arith in
      let last : slice_get points (first + length (ns ++ before)) ≡ Some (Cell n 0) = ap (λ (z : ℕ). slice_get points (first + z)) i.0.count ∙ t.6 in (
        subst (λ (z : ℕ). AreBegunBelow m old z new (ns ++ ms)) next (one_more_begun m old (from + k) middle (ns ++ before) i.0 s.agent s.at n new b (ns ++ ms) more),
        subst (λ (z : List CellNo). AreAtPoints first z points) (sym more) (one_more_at first (ns ++ before) n points i.1 last),
        still_all middle new n.0 b.state b.arena i.2,
      )

module _ (m : Inside) (k : IsMember m) where
  long : (c : NewCell) → c.mark + c.head.count ≤ length m.joints → length (agent_from m.joints c).ends ≡ c.head.count
  long c within = length-take-le c.head.count (drop c.mark m.joints) (omega (arith, within, length-drop c.mark m.joints))

  stored_as : (i : ℕ) (c : NewCell) → slice_get m.agents i ≡ Some c → IsStoredAs (member_view m) i c
  stored_as i c at = record {
    agent = agent_from m.joints c;
    at = to_mapped (agent_from m.joints) m.agents i c at;
    class = refl;
    symbol = refl;
    ends = long c (k.laid.places i c at);
  }

  -- the cell of each agent is for its places
  pub cells_fit : (i : ℕ) (c : NewCell) → slice_get m.agents i ≡ Some c → Holds c.class c.head.count
  cells_fit i c at = subst (Holds c.class) (long c (k.laid.places i c at)) (k.sound.fits i (agent_from m.joints c) (to_mapped (agent_from m.joints) m.agents i c at))

  -- .. and of the agent's class
  pub class_here : (i : ℕ) (c : NewCell) → slice_get m.agents i ≡ Some c → class_at (member_view m) i ≡ Some c.class
  class_here i c at = ap (option_map (λ (a : AgentParts). a.class)) (to_mapped (agent_from m.joints) m.agents i c at)

  pub class_from : (i : ℕ) (d : CellClass) → class_at (member_view m) i ≡ Some d → (c : NewCell) × (slice_get m.agents i ≡ Some c) × (c.class ≡ d)
  class_from i d is = go (slice_get (agents_from m.joints m.agents) i) refl is
    where
      go : (o : Option AgentParts) → slice_get (agents_from m.joints m.agents) i ≡ o → option_map (λ (a : AgentParts). a.class) o ≡ Some d → (c : NewCell) × (slice_get m.agents i ≡ Some c) × (c.class ≡ d)
      go None at e = absurd (none-some d e)
      go (Some a) at e = let c = of_mapped (agent_from m.joints) m.agents i a at in (c.0, c.1, ap (λ (a : AgentParts). a.class) c.2 ∙ same_Some a.class d e)

  pub begun_to : (v : MemberParts) → member_view m ≡ v → (old now new : ArenaView) (from first to : ℕ) (points after : List End) → HasAllCells now → BeginsFrom m.agents from first now points to new after → HasBegunTo v old from now first points → HasBegunTo v old to new first after
  begun_to v e old now new from first to points after all b h =
      subst (λ (v : MemberParts). HasBegunTo v old from now first points → HasBegunTo v old to new first after) e
      (λ (h : HasBegunTo (member_view m) old from now first points).
      let at : AreAtPoints first h.0 after = λ k low. b.before (first + k) (let c = h.1.count in omega (arith, low, c)) ∙ h.2 k low in
      let t = in_turn (member_view m) m.agents stored_as old now all from first after h.0 h.1 at b.many b.numbers new b.begun in
      (h.0 ++ b.numbers, subst (λ (z : ℕ). AreBegunBelow (member_view m) old z new (h.0 ++ b.numbers)) (sym b.end) t.0, t.1))
      h
