-- A member is put into an arena agent by agent.
use Rattle.std.proofs.Common.{◌≡◌, ◌≢◌, ◌⊎◌, inl, inr, ◌≤◌, ◌<◌, ◌+◌, ℕ, cond, Some, None, List, [], ◌∷◌, ◌++◌, length, take, get_or, count_by, slice_get, refl, sym, ap, subst, ◌∙◌, length-append, get_or-set_same, arith}
use Rattle.std.proofs.lemmas.Bool.{cases_eq}
use Rattle.std.proofs.lemmas.List.{length-set}
use Rattle.std.proofs.lemmas.List.Sums.{sum_by_more, sum_by_more_le}
use Rattle.std.proofs.lemmas.Option.{same_Some, slice_get_within, get_or_from_slice_get}
use Rattle.in_arena.specs.declared.content.CellCounts.{CellCounts}
use Rattle.in_base.proofs.Each.{at_index}
use Rattle.in_base.proofs.Places.{kept_at, last_at, more_at}
use Rattle.in_arena.specs.Arenas.{ArenaView, BeginsCell, changed, free_of, state_at}
use Rattle.in_arena.specs.Changes.{AllButOneStay, AreListedOnce, HasAllCells, OneFewerIsFree}
use Rattle.in_arena.specs.Classes.{IsNumberOf}
use Rattle.in_arena.specs.States.{State, Vacant, Leased, Live, IsBegun, IsLeased, word_of}
use Rattle.in_arena.specs.declared.content.CellClass.{CellClass}
use Rattle.in_arena.specs.declared.content.CellNo.{CellNo}
use Rattle.in_arena.proofs.Public.{begun_takes_one, changed_to_itself, others_stay, state_inside, vacant_inside}
use Rattle.in_compile.specs.Cells.{count_of, IsEnough}
use Rattle.in_compile.specs.Listing.{of_class}
use Rattle.in_compile.specs.Members.{AgentParts, MemberParts, has_class, IsSoundMember}
use Rattle.in_compile.specs.Placing.{content}
use Rattle.in_compile.specs.PlacingSteps.{IsBeingWritten}
use Rattle.in_compile.specs.Putting.{AreBegunBelow, ArePutBelow, BeginsAgent, IsPut}
use Rattle.in_compile.proofs.Placements.Stocked.{of_itself, one_more_once, same_or_other}

-- ---- one cell

module _ (old : ArenaView) (all : HasAllCells old) (a : AgentParts) (d : CellClass) (is : a.class ≡ d) (word many : ℕ) (symbol : a.symbol.0 ≡ word) (ends : length a.ends ≡ many) (n : ℕ) (new : ArenaView) (b : BeginsCell d word many old n new) where
  fewer : OneFewerIsFree d old new
  fewer = begun_takes_one old new d word many n all b

  left_by : (c : CellClass) → (c ≡ d) ⊎ ((c ≡ d → ⊥) × ((x : ℕ) → of_class d x c ≡ 0)) → free_of new c + of_class d 1 c ≡ free_of old c
  left_by c (inl same) =
      let first = fewer.0 in
      subst (λ (z : CellClass). free_of new z + of_class d 1 z ≡ free_of old z) (sym same) (omega (arith, first, of_itself d 1))
  left_by c (inr o) = let rest = fewer.1 c o.0 in let none = o.1 1 in omega (arith, none, rest)

  pub begins : BeginsAgent a old n new
  begins = record {
    at = subst (λ (c : CellClass). IsNumberOf old.cells c n) (sym is) b.at;
    was = b.was;
    state = b.state;
    begun = (b.begun.0, b.begun.1 ∙ sym ends, b.begun.2 ∙ ap (λ (w : ℕ). Live w b.begun.0) (sym symbol));
    arena = b.arena;
    left = λ c. subst (λ (z : CellClass). free_of new c + of_class z 1 c ≡ free_of old c) (sym is) (left_by c (same_or_other d c));
  }

-- ---- one agent after another

pub none_begun : (m : MemberParts) (old : ArenaView) → AreBegunBelow m old 0 old []
none_begun m old = record {
  count = refl;
  each = λ k a n stands at. cc;
  once = λ j k n s r. cc;
  others = λ n out. refl;
  free = λ d. omega arith;
  memory = refl;
  cells = refl;
  many = refl;
}

-- a begun cell isn't vacant
not_vacant : (word many : ℕ) (x : State) → IsBegun word many x → x ≡ Vacant → ⊥
not_vacant word many x h e = let f : Some word ≡ None = sym (ap word_of h.2) ∙ ap word_of e in cc

module _ (m : MemberParts) (old : ArenaView) (x : ℕ) (now : ArenaView) (ns : List CellNo) (h : AreBegunBelow m old x now ns) (a : AgentParts) (at : slice_get m.agents x ≡ Some a) where
  -- the agent of that number counts for its class
  abbrev one_if : CellClass → AgentParts → ℕ
  one_if d z = cond (has_class d z) 1 0

  counted : (d : CellClass) → one_if d (get_or m.agents x a) ≡ one_if d a
  counted d = ap (one_if d) (get_or_from_slice_get m.agents x a a at)

  pub some_free : IsSoundMember m → IsEnough (count_of m.need) (free_of old) → 0 < free_of now a.class
  some_free sound enough =
      let within = sum_by_more_le (λ (z : AgentParts). cond (has_class a.class z) 1 0) m.agents x a (slice_get_within m.agents x a at) in
      let one = counted a.class in
      let so_far = h.free a.class in
      let need = sound.counts a.class in
      let has = enough a.class in
      let itself : cond (has_class a.class a) 1 0 ≡ 1 = of_itself a.class 1 in
      omega (arith, within, one, so_far, need, has, itself)

  module _ (n : CellNo) (now' : ArenaView) (b : BeginsAgent a now n.0 now') (ns' : List CellNo) (more : ns' ≡ ns ++ n ∷ []) where
    here : state_at now' n.0 ≡ b.state
    here = ap (λ (v : ArenaView). state_at v n.0) b.arena ∙ get_or-set_same now.states n.0 b.state Leased (vacant_inside now n.0 b.was)

    there : AllButOneStay n.0 now now'
    there = others_stay now now' n.0 b.state b.arena

    -- none of those before has this cell
    other : (k : ℕ) (z : AgentParts) (p : CellNo) → slice_get m.agents k ≡ Some z → slice_get ns k ≡ Some p → p.0 ≢ n.0
    other k z p stands r same = not_vacant z.symbol.0 (length z.ends) (state_at now p.0) (h.each k z p stands r).2 (ap (state_at now) same ∙ b.was)

    agent_of : (k : ℕ) (p : CellNo) → slice_get ns k ≡ Some p → (z : AgentParts) × (slice_get m.agents k ≡ Some z)
    agent_of k p r =
        let l = slice_get_within ns k p r in
        let c = h.count in
        let w = slice_get_within m.agents x a at in
        at_index m.agents k (let z : k < length m.agents = omega (arith, l, c, w) in z)

    apart : (k : ℕ) (p : CellNo) → slice_get ns k ≡ Some p → p.0 ≢ n.0
    apart k p r = let z = agent_of k p r in other k z.0 p z.1 r

    at_new : (k : ℕ) (p : CellNo) → slice_get ns' k ≡ Some p → (slice_get ns k ≡ Some p) ⊎ ((k ≡ length ns) × (n ≡ p))
    at_new k p r = more_at ns n p k (sym (ap (λ (z : List CellNo). slice_get z k) more) ∙ r)

    old_at : (k : ℕ) (p : CellNo) → slice_get ns k ≡ Some p → slice_get ns' k ≡ Some p
    old_at k p r = ap (λ (z : List CellNo). slice_get z k) more ∙ kept_at ns (n ∷ []) k p r

    last : slice_get ns' (length ns) ≡ Some n
    last = ap (λ (z : List CellNo). slice_get z (length ns)) more ∙ last_at ns n

    -- the cell was free at the start
    was_free : state_at old n.0 ≡ Vacant
    was_free = sym (h.others n.0 (λ k r. apart k (record { 0 = n.0 }) r refl)) ∙ b.was

    each_by : (k : ℕ) (z : AgentParts) (p : CellNo) → slice_get m.agents k ≡ Some z → (slice_get ns k ≡ Some p) ⊎ ((k ≡ length ns) × (n ≡ p)) → IsNumberOf old.cells z.class p.0 × (state_at old p.0 ≡ Vacant) × IsBegun z.symbol.0 (length z.ends) (state_at now' p.0)
    each_by k z p stands (inl r) =
        let g = h.each k z p stands r in
        (g.0, g.1, subst (IsBegun z.symbol.0 (length z.ends)) (sym (there p.0 (apart k p r))) g.2)
    each_by k z p stands (inr r) =
        let agent : a ≡ z = same_Some a z (sym at ∙ ap (slice_get m.agents) (sym (r.0 ∙ h.count)) ∙ stands) in
        subst (λ (q : AgentParts × CellNo). IsNumberOf old.cells q.0.class q.1.0 × (state_at old q.1.0 ≡ Vacant) × IsBegun q.0.symbol.0 (length q.0.ends) (state_at now' q.1.0)) (λ i. (agent i, r.1 i))
        (subst (λ (c : CellCounts). IsNumberOf c a.class n.0) h.cells b.at, was_free, subst (IsBegun a.symbol.0 (length a.ends)) (sym here) b.begun)

    left_now : (d : CellClass) → free_of now' d + count_by (has_class d) (take (x + 1) m.agents) ≡ free_of old d
    left_now d =
        let sum = sum_by_more (λ (z : AgentParts). cond (has_class d z) 1 0) m.agents x a (slice_get_within m.agents x a at) in
        let one = counted d in
        let so_far = h.free d in
        let left = b.left d in
        omega (arith, sum, one, so_far, left)

    pub one_more_begun : AreBegunBelow m old (x + 1) now' ns'
    one_more_begun = record {
      count = ap length more ∙ length-append ns (n ∷ []) ∙ ap (λ (z : ℕ). z + 1) h.count;
      each = λ k z p stands r. each_by k z p stands (at_new k p r);
      once = subst AreListedOnce (sym more) (one_more_once ns n h.once (λ k p r same. apart k p r (ap (λ (c : CellNo). c.0) (sym same))));
      others = λ p out. there p (λ same. out (length ns) (last ∙ ap (λ (z : ℕ). Some (record { 0 = z })) (sym same))) ∙ h.others p (λ k r. out k (old_at k (record { 0 = p }) r));
      free = left_now;
      memory = ap (λ (v : ArenaView). v.memory) b.arena ∙ h.memory;
      cells = ap (λ (v : ArenaView). v.cells) b.arena ∙ h.cells;
      many = ap (λ (v : ArenaView). length v.states) b.arena ∙ length-set now.states n.0 b.state ∙ h.many;
    }

-- ---- the ends at their places

-- a begun cell isn't leased
pub begun_in : (word many : ℕ) (x : State) → IsBegun word many x → IsLeased x → ⊥
begun_in word many x h leased = subst IsLeased h.2 leased

-- no end of an agent is written
pub none_written : (m : MemberParts) (ns : List CellNo) (k : ℕ) (n : CellNo) (first : ArenaView) (a : AgentParts) → slice_get m.agents k ≡ Some a → IsBegun a.symbol.0 (length a.ends) (state_at first n.0) → IsBeingWritten m ns k 0 n first first
none_written m ns k n first a stands h = record {
  agent = a;
  stands = stands;
  ends = h.0;
  bag = sym (ap (changed first n.0) (sym h.2) ∙ changed_to_itself first n.0);
  count = h.1;
  so_far = refl;
}

pub none_put : (m : MemberParts) (ns : List CellNo) (begun : ArenaView) → ArePutBelow m ns begun 0 begun
none_put m ns begun = record {
  each = λ k a n less. absurd (omega (arith, less));
  rest = λ k n low r. refl;
  others = λ n out. refl;
  memory = refl;
  cells = refl;
  many = refl;
}

module _ (m : MemberParts) (old begun : ArenaView) (ns : List CellNo) (b : AreBegunBelow m old (length m.agents) begun ns) where
  module _ (x : ℕ) (now : ArenaView) (h : ArePutBelow m ns begun x now) (a : AgentParts) (n : CellNo) (stands : slice_get m.agents x ≡ Some a) (at : slice_get ns x ≡ Some n) where
    -- the next one is begun
    pub still_begun : (e : AgentParts) (p : CellNo) → slice_get m.agents x ≡ Some e → slice_get ns x ≡ Some p → IsBegun e.symbol.0 (length e.ends) (state_at now p.0)
    still_begun e p s r = subst (IsBegun e.symbol.0 (length e.ends)) (sym (h.rest x p (omega arith) r)) (b.each x e p s r).2

    within : n.0 < length now.states
    within = state_inside now n.0 (λ e. begun_in a.symbol.0 (length a.ends) (state_at now n.0) (still_begun a n stands at) (subst IsLeased (sym e) tt))

    module _ (now' : ArenaView) (change : now' ≡ changed now n.0 (content ns a)) where
      elsewhere : AllButOneStay n.0 now now'
      elsewhere = others_stay now now' n.0 (content ns a) change

      -- another number is that of another cell
      differ : (k : ℕ) (p : CellNo) → k ≢ x → slice_get ns k ≡ Some p → p.0 ≢ n.0
      differ k p other r same = other (b.once k x n (r ∙ ap (λ (z : ℕ). Some (record { 0 = z })) same) at)

      written_by : (k : ℕ) (e : AgentParts) (p : CellNo) → (k ≡ x) ⊎ (k ≢ x) → k < x + 1 → slice_get m.agents k ≡ Some e → slice_get ns k ≡ Some p → state_at now' p.0 ≡ content ns e
      written_by k e p (inl same) less s r =
          let agent : a ≡ e = same_Some a e (sym stands ∙ ap (slice_get m.agents) (sym same) ∙ s) in
          let cell : n ≡ p = same_Some n p (sym at ∙ ap (slice_get ns) (sym same) ∙ r) in
          subst (λ (q : AgentParts × CellNo). state_at now' q.1.0 ≡ content ns q.0) (λ i. (agent i, cell i))
          (ap (λ (v : ArenaView). state_at v n.0) change ∙ get_or-set_same now.states n.0 (content ns a) Leased within)
      written_by k e p (inr other) less s r = elsewhere p.0 (differ k p other r) ∙ h.each k e p (omega (arith, less, other)) s r

      pub one_more_put : ArePutBelow m ns begun (x + 1) now'
      one_more_put = record {
        each = λ k e p less s r. written_by k e p (cases_eq k x) less s r;
        rest = λ k p low r. elsewhere p.0 (differ k p (λ same. omega (arith, low, same)) r) ∙ h.rest k p (omega (arith, low)) r;
        others = λ p out. elsewhere p (λ same. out x (at ∙ ap (λ (z : ℕ). Some (record { 0 = z })) (sym same))) ∙ h.others p out;
        memory = ap (λ (v : ArenaView). v.memory) change ∙ h.memory;
        cells = ap (λ (v : ArenaView). v.cells) change ∙ h.cells;
        many = ap (λ (v : ArenaView). length v.states) change ∙ length-set now.states n.0 (content ns a) ∙ h.many;
      }

  pub all_put : (x : ℕ) (now : ArenaView) → length m.agents ≤ x → ArePutBelow m ns begun x now → IsPut m ns old now
  all_put x now beyond h = record {
    count = b.count;
    each = λ k a n stands r.
        let g = b.each k a n stands r in
        let l = slice_get_within m.agents k a stands in (
          subst (λ (c : CellCounts). IsNumberOf c a.class n.0) (sym (h.cells ∙ b.cells)) g.0,
          ap word_of g.1,
          h.each k a n (omega (arith, l, beyond)) stands r,
        );
    once = b.once;
    others = λ n out. h.others n out ∙ b.others n out;
    memory = h.memory ∙ b.memory;
    cells = h.cells ∙ b.cells;
    many = h.many ∙ b.many;
  }
