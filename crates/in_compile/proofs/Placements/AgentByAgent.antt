-- A member is placed agent by agent.
use Rattle.std.proofs.Common.{◌≡◌, ◌≢◌, ◌⊎◌, inl, inr, ◌<◌, ◌+◌, ℕ, cond, Option, Some, None, List, [], ◌∷◌, ◌++◌, length, take, get_or, count_by, slice_get, refl, sym, ap, subst, ◌∙◌, length-append, get_or-set_same, get_or-set_other, arith}
use Rattle.std.specs.Prelude.{option_map, slice_index_or}
use Rattle.std.proofs.lemmas.Bool.{cases_eq}
use Rattle.std.proofs.lemmas.List.{length-set}
use Rattle.std.proofs.lemmas.List.Sums.{sum_by_more, sum_by_more_le}
use Rattle.std.proofs.lemmas.Option.{same_Some, slice_get_within, slice_get-get_or, get_or_from_slice_get}
use Rattle.in_base.proofs.Each.{all_append, at_index}
use Rattle.in_base.proofs.Places.{more_at}
use Rattle.in_arena.specs.Arenas.{ArenaView, changed, free_of, state_at}
use Rattle.in_arena.specs.Bags.{IsInBag, AreOfOne}
use Rattle.in_arena.specs.Changes.{HasAllCells}
use Rattle.in_arena.specs.Classes.{IsNumberOf}
use Rattle.in_arena.specs.States.{State, Vacant, Leased, IsLeased, IsLive}
use Rattle.in_arena.specs.declared.content.CellClass.{CellClass}
use Rattle.in_arena.specs.declared.content.CellNo.{CellNo}
use Rattle.in_arena.proofs.Public.{stays, number_inside, set_twice}
use Rattle.in_compile.specs.declared.cells.Need.{Need}
use Rattle.in_compile.specs.Cells.{count_of, IsEnough}
use Rattle.in_compile.specs.Listing.{of_class, IsListing}
use Rattle.in_compile.specs.Members.{AgentParts, MemberParts, has_class, class_at, IsSoundMember}
use Rattle.in_compile.specs.Placing.{content, IsPlacedMember}
use Rattle.in_compile.specs.PlacingSteps.{TakesOne, AreTakenBelow, AreWrittenBelow}
use Rattle.in_compile.specs.Stocks.{StockParts, held, with_all}
use Rattle.in_compile.proofs.Placements.Held.{cell_changed, cell_put}
use Rattle.in_compile.proofs.Placements.Stocked.{of_itself, same_or_other, in_range, not_leased, with_all-append, was_vacant, taken_at, fewer}

-- ---- the same for one cell more

changed_swap : (a : ArenaView) (i j : ℕ) (x : State) → changed (changed a i x) j x ≡ changed (changed a j x) i x
changed_swap a i j x = λ k. record { memory = a.memory; cells = a.cells; states = set_twice a.states i j x k }

first_last : (a : ArenaView) (n : CellNo) (ns : List CellNo) (x : State) → with_all (changed a n.0 x) ns x ≡ changed (with_all a ns x) n.0 x
first_last a n [] x = refl
first_last a n (m ∷ ns) x = ap (λ v. changed v m.0 x) (first_last a n ns x) ∙ changed_swap (with_all a ns x) n.0 m.0 x

pub with_last : (a : ArenaView) (ns : List CellNo) (n : CellNo) (x : State) → with_all a (ns ++ n ∷ []) x ≡ changed (with_all a ns x) n.0 x
with_last a ns n x = with_all-append a ns (n ∷ []) x ∙ first_last a n ns x

-- ---- a cell is taken from a stock

module _ (b : ArenaView) (room : Need) (l k : CellClass → List CellNo) (c : CellClass) (n : CellNo) (others : (d : CellClass) → (d ≡ c → ⊥) → k d ≡ l d) (h : IsListing b k) (here : k c ≡ l c ++ n ∷ []) (d : ArenaView) (of_one : AreOfOne b d) (all : HasAllCells d) where
  left : (e : CellClass) → (e ≡ c) ⊎ ((e ≡ c → ⊥) × ((x : ℕ) → of_class c x e ≡ 0)) → free_of (changed b n.0 Leased) e + of_class c 1 e ≡ free_of b e
  left e (inl same) =
      let now = (fewer b l k c n others h here).0 in
      subst (λ (z : CellClass). free_of (changed b n.0 Leased) z + of_class c 1 z ≡ free_of b z) (sym same) (omega (arith, now, of_itself c 1))
  left e (inr o) = let now = (fewer b l k c n others h here).1 e o.0 in let none = o.1 1 in omega (arith, now, none)

  pub one_taken : TakesOne (record { bag = b; room = room }) c d n (record { bag = changed b n.0 Leased; room = room }) (changed d n.0 Vacant)
  one_taken = record {
    at = (taken_at b l k c n others h here).0;
    was = (taken_at b l k c n others h here).1;
    stock = refl;
    bag = refl;
    inside = number_inside d n.0 c all (subst (λ m. IsNumberOf m c n.0) (sym of_one.1) (taken_at b l k c n others h here).0);
    left = λ e. left e (same_or_other c e);
  }

-- ---- agent by agent

agent_by : (c : CellClass) (o : Option AgentParts) → option_map (λ (a : AgentParts). a.class) o ≡ Some c → (a : AgentParts) × (o ≡ Some a) × (a.class ≡ c)
agent_by c None h = let e : None ≡ Some c = h in cc
agent_by c (Some a) h = (a, refl, same_Some a.class c h)

module _ (m : MemberParts) (old : StockParts) (first : ArenaView) (x : ℕ) (s : StockParts) (ns : List CellNo) (b : ArenaView) (h : AreTakenBelow m old first x s ns b) (c : CellClass) (at : class_at m x ≡ Some c) where
  abbrev agent : (a : AgentParts) × (slice_get m.agents x ≡ Some a) × (a.class ≡ c)
  agent = agent_by c (slice_get m.agents x) at

  inside : x < length m.agents
  inside = slice_get_within m.agents x agent.0 agent.1

  -- the agent of that number counts for its class
  counted : (d : CellClass) → cond (has_class d (get_or m.agents x agent.0)) 1 0 ≡ of_class c 1 d
  counted d =
      ap (λ (a : AgentParts). cond (has_class d a) 1 0) (get_or_from_slice_get m.agents x agent.0 agent.0 agent.1)
      ∙ ap (λ (e : CellClass). of_class e 1 d) agent.2

  -- so there is a cell of its class
  pub some_left : IsSoundMember m → IsEnough (count_of m.need) (held old) → 0 < held s c
  some_left sound enough =
      let within = sum_by_more_le (λ (a : AgentParts). cond (has_class c a) 1 0) m.agents x agent.0 inside in
      let one = counted c in
      let so_far = h.left c in
      let need = sound.counts c in
      let has = enough c in
      omega (arith, within, one, so_far, need, has, of_itself c 1)

  module _ (n : CellNo) (s' : StockParts) (b' : ArenaView) (t : TakesOne s c b n s' b') where
    abbrev less : StockParts
    less = record { bag = changed s.bag n.0 Leased; room = s.room }

    abbrev more : ArenaView
    more = changed b n.0 Vacant

    class_of : (k : ℕ) (a : AgentParts) (p : CellNo) → slice_get m.agents k ≡ Some a → (slice_get ns k ≡ Some p) ⊎ ((k ≡ length ns) × (n ≡ p)) → IsNumberOf b.cells a.class p.0
    class_of k a p stands (inl r) = h.classes k a p stands r
    class_of k a p stands (inr r) =
        let same : agent.0 ≡ a = same_Some agent.0 a (sym agent.1 ∙ ap (slice_get m.agents) (sym (r.0 ∙ h.count)) ∙ stands) in
        let class : c ≡ a.class = sym agent.2 ∙ ap (λ (z : AgentParts). z.class) same in
        let number : IsNumberOf b.cells c n.0 = subst (λ z. IsNumberOf z c n.0) (sym h.one.1) t.at in
        subst (λ (q : CellClass × CellNo). IsNumberOf b.cells q.0 q.1.0) (λ i. (class i, r.1 i)) number

    out : state_at b n.0 ≡ Leased
    out = h.apart n.0 (λ leased. subst IsLeased t.was leased)

    left_now : (d : CellClass) → held less d + count_by (has_class d) (take (x + 1) m.agents) ≡ held old d
    left_now d =
        let sum = sum_by_more (λ (a : AgentParts). cond (has_class d a) 1 0) m.agents x agent.0 inside in
        let one = counted d in
        let so_far = h.left d in
        let now : held less d + of_class c 1 d ≡ held s d = ap (λ (z : StockParts). held z d + of_class c 1 d) (sym t.stock) ∙ t.left d in
        omega (arith, sum, one, so_far, now)

    apart_by : (p : ℕ) → (p ≡ n.0) ⊎ (p ≢ n.0) → IsInBag less.bag p → state_at more p ≡ Leased
    apart_by p (inl e) in_it = absurd (in_it (subst IsLeased (sym (ap (state_at less.bag) e ∙ stays s.bag.states n.0 Leased)) tt))
    apart_by p (inr other) in_it =
        get_or-set_other b.states n.0 p Vacant Leased other ∙ h.apart p (not_leased (state_at s.bag p) (state_at less.bag p) in_it (sym (get_or-set_other s.bag.states n.0 p Leased Leased other)))

    pub one_more_taken : (ns' : List CellNo) → ns' ≡ ns ++ n ∷ [] → AreTakenBelow m old first (x + 1) s' ns' b'
    one_more_taken ns' e =
        subst (λ (q : StockParts × List CellNo × ArenaView). AreTakenBelow m old first (x + 1) q.0 q.1 q.2) (λ i. (sym t.stock i, sym e i, sym t.bag i))
        (record {
          count = length-append ns (n ∷ []) ∙ ap (λ z. z + 1) h.count;
          classes = λ k a p stands r. class_of k a p stands (more_at ns n p k r);
          cells = cell_put b ns n Vacant h.cells (λ leased. leased) t.inside out;
          were = all_append (λ (z : CellNo). state_at old.bag z.0 ≡ Vacant) ns (n ∷ []) h.were (was_vacant old.bag ns n.0 (sym (ap (λ v. state_at v n.0) h.rest) ∙ t.was), tt);
          rest = ap (λ v. changed v n.0 Leased) h.rest ∙ sym (with_last old.bag ns n Leased);
          left = left_now;
          room = h.room;
          apart = λ p in_it. apart_by p (cases_eq p n.0) in_it;
          one = h.one;
          same = h.same;
          all = length-set b.states n.0 Vacant ∙ h.all;
        })

-- ---- agents are written

module _ (m : MemberParts) (ns : List CellNo) (first : ArenaView) (x : ℕ) (b : ArenaView) (h : AreWrittenBelow m ns first x b) (a : AgentParts) (n : CellNo) (stands : slice_get m.agents x ≡ Some a) (at : slice_get ns x ≡ Some n) where
  abbrev new : ArenaView
  new = changed b n.0 (content ns a)

  each_by : (k : ℕ) (e : AgentParts) (p : CellNo) → (k ≡ x) ⊎ (k ≢ x) → k < x + 1 → slice_get m.agents k ≡ Some e → slice_get ns k ≡ Some p → state_at new p.0 ≡ content ns e
  each_by k e p (inl same) less s r =
      let agent : a ≡ e = same_Some a e (sym stands ∙ ap (slice_get m.agents) (sym same) ∙ s) in
      let cell : n ≡ p = same_Some n p (sym at ∙ ap (slice_get ns) (sym same) ∙ r) in
      subst (λ (q : AgentParts × CellNo). state_at new q.1.0 ≡ content ns q.0) (λ i. (agent i, cell i)) (get_or-set_same b.states n.0 (content ns a) Leased (in_range b n.0 (h.cells.each x n at)))
  each_by k e p (inr other) less s r =
      get_or-set_other b.states n.0 p.0 (content ns a) Leased
      (λ same. other (h.cells.once k x n (r ∙ ap (λ (z : ℕ). Some (record { 0 = z })) same) at)) ∙ h.each k e p (omega (arith, less, other)) s r

  pub one_more_written : (b' : ArenaView) → b' ≡ new → AreWrittenBelow m ns first (x + 1) b'
  one_more_written b' e = subst (AreWrittenBelow m ns first (x + 1)) (sym e) (record {
    each = λ k c p less s r. each_by k c p (cases_eq k x) less s r;
    cells = cell_changed b ns n (content ns a) h.cells (λ leased. leased) x at;
    same = h.same;
    all = length-set b.states n.0 (content ns a) ∙ h.all;
  })

-- all agents have their cells, and all are written
pub placed : (m : MemberParts) (old : StockParts) (start first : ArenaView) (s : StockParts) (ns : List CellNo) (b : ArenaView) (room : ℕ) → AreTakenBelow m old start (length m.agents) s ns first → AreWrittenBelow m ns first (length m.agents) b
    → IsPlacedMember m (record { cells = ns; bag = b; room = room })
placed m old start first s ns b room t w = record {
  count = t.count;
  each = λ k a n stands at. (subst (λ c. IsNumberOf c a.class n.0) (sym w.same.1) (t.classes k a n stands at), w.each k a n (slice_get_within m.agents k a stands) stands at);
  written = record {
    cells = w.cells;
    live = λ k n at.
        let within = slice_get_within ns k n at in
        let l : k < length m.agents = (let e = t.count in omega (arith, within, e)) in
        let a = at_index m.agents k l in
        subst IsLive (sym (w.each k a.0 n l a.1 at)) tt;
  };
}

-- a number that is read is in the list
pub read_at : (ns : List CellNo) (k : ℕ) → k < length ns → slice_get ns k ≡ Some (slice_index_or ns k (record { 0 = 0 }))
read_at ns k l = slice_get-get_or ns k (record { 0 = 0 }) l
