-- The same interaction of two machines that are the same up to the numbers of their agents leads to two that are.
use Rattle.std.proofs.Common.{◌≡◌, ◌<◌, ◌+◌, ℕ, zero, suc, Some, IsSome, List, [], ◌∷◌, ◌++◌, map, remove, slice_get, refl, sym, ap, subst, ◌∙◌, arith}
use Rattle.std.proofs.lemmas.List.{map-append}
use Rattle.std.proofs.lemmas.Option.{same_Some}
use Rattle.in_arena.specs.declared.content.CellClass.{CellClass}
use Rattle.in_symbols.specs.Tables.{Tables}
use Rattle.in_net.specs.declared.nets.AgentNo.{AgentNo}
use Rattle.in_net.specs.declared.nets.Point.TheVariants as code
use Rattle.in_net.specs.ActivePairs.{AreActive}
use Rattle.in_net.specs.Interactions.{IsRedex, redex_at}
use Rattle.in_net.specs.Nets.{Port, IsNet, net_of, signature_of}
use Rattle.in_net.specs.Parts.{symbol_in, partner_in}
use Rattle.in_net.specs.Rules.{RuleParts}
use Rattle.in_net.proofs.Public.{map_is, symbol_of}
use Rattle.in_interaction.specs.Interacting.{CanInteract, InteractsAs}
use Rattle.in_interaction.specs.Made.{IsMade, AreMadeOverEnds}
use Rattle.in_interaction.proofs.Public.{symbol_after, has_symbol, symbol_number, stays_after, end_once, one_made_over_ends, redex_in}
use Rattle.in_interaction.proofs.Public.{same_first}
use Rattle.in_check.specs.Plain.{IsRuleAt}
use Rattle.in_check.specs.Programs.{Program}
use Rattle.in_net.specs.Renaming.{IsRenamed}
use Rattle.in_check.proofs.Public.{agents_before, AreOpposed, stands_anywhere}
use Rattle.in_base.proofs.Places.{of_mapped, to_mapped, is_some as there}
use Rattle.in_check.proofs.Public.Moved as moving
use Rattle.in_interaction.specs.Queues.{IsQueueOf, agents_at, numbers_of, both, IsFirstQueue}
use Rattle.in_compile.specs.declared.cells.Need.{Need}
use Rattle.in_compile.specs.Cells.{agents_of, count_of, IsNeedOf}
use Rattle.in_reducer.specs.Machines.{MachineParts, parts_of, plain_of}
use Rattle.in_reducer.specs.Reducers.{IsReducer}
use Rattle.in_reducer.specs.Steps.{NeedsAt, StepsAt}
use Rattle.in_reducer.specs.Same.{IsSameMachine}
use Rattle.in_reducer.proofs.Starts.Accepted.{one_rule}
use Rattle.in_reducer.proofs.Pairs.Requeued.{was_there}
use Rattle.in_reducer.proofs.Starts.Started.{symbol_moved, symbol_back}
use Rattle.in_compile.proofs.Public.{same_need}
use Rattle.in_reducer.proofs.Cells.AsMany.{as_many_of}
use Rattle.in_reducer.proofs.Steps.StepsOn.{net_at, opposed_at, can_at, inside_at, queue_by_kinds, reducer_on}

-- ---- lists under a map

pub map_same : {X Y : Type 0} (f g : X → Y) (xs : List X) → ((k : ℕ) (x : X) → slice_get xs k ≡ Some x → f x ≡ g x) → map f xs ≡ map g xs
map_same f g [] h = refl
map_same f g (x ∷ xs) h = ap (λ z. z ∷ map f xs) (h 0 x refl) ∙ ap (λ zs. g x ∷ zs) (map_same f g xs (λ k. h (suc k)))

pub map_twice : {X Y Z : Type 0} (f : Y → Z) (g : X → Y) (xs : List X) → map f (map g xs) ≡ map (λ x. f (g x)) xs
map_twice f g [] = refl
map_twice f g (x ∷ xs) = ap (λ zs. f (g x) ∷ zs) (map_twice f g xs)

pub map_removed : {X Y : Type 0} (f : X → Y) (xs : List X) (i : ℕ) → remove (map f xs) i ≡ map f (remove xs i)
map_removed f [] zero = refl
map_removed f [] (suc i) = refl
map_removed f (x ∷ xs) zero = refl
map_removed f (x ∷ xs) (suc i) = ap (λ zs. f x ∷ zs) (map_removed f xs i)

pub map_fixed : {X : Type 0} (g : X → X) (xs : List X) → ((k : ℕ) (x : X) → slice_get xs k ≡ Some x → g x ≡ x) → map g xs ≡ xs
map_fixed g [] h = refl
map_fixed {X} g (x ∷ xs) h = ap (λ (z : X). z ∷ map g xs) (h 0 x refl) ∙ ap (λ (zs : List X). x ∷ zs) (map_fixed g xs (λ k. h (suc k)))

-- ---- an interaction apart from the record that it is in

pub record Acts (p : Program) (m : MachineParts) (pair : ℕ × ℕ) (r : RuleParts) (o : MachineParts) : Type 0 where
  pub can : CanInteract p.tables (parts_of m) r (agents_at pair).0 (agents_at pair).1
  pub name : ℕ → ℕ
  pub acts : InteractsAs p.tables (parts_of m) r (agents_at pair).0 (agents_at pair).1 name (parts_of o)

abbrev pub acts_of : (m o : MachineParts) (i : ℕ) → IsReducer m → (s : StepsAt m i o) → Acts m.program m s.pair s.step.rule o
acts_of m o i h s = record { can = can_at m o i h s; name = s.name; acts = s.step.acts }

-- ---- the two

-- a pair under other numbers
abbrev pub moved_pair : (ℕ → ℕ) → AgentNo × AgentNo → AgentNo × AgentNo
moved_pair f q = agents_at (both f (numbers_of q))

-- the same pair interacts in two machines that are the same up to the numbers of their agents
pub record ActAlike (p : Program) (f : ℕ → ℕ) (m n : MachineParts) (pair : ℕ × ℕ) (r : RuleParts) (o u : MachineParts) : Type 0 where
  -- the one machine has a net
  pub net : IsNet (signature_of p.tables) (net_of (parts_of m))
  -- the other has one
  pub net_other : IsNet (signature_of p.tables) (net_of (parts_of n))
  -- the right member is a net
  pub inside : IsNet (signature_of p.tables) (net_of r.member)
  -- the other has the agents of the one, under other numbers
  pub is_renamed : IsRenamed f (net_of (parts_of m)) (net_of (parts_of n))
  -- the pair interacts in the one
  pub act : Acts p m pair r o
  -- it interacts in the other, under its numbers there
  pub other_act : Acts p n (both f pair) r u
  -- of each active pair after, just one agent is a constructor
  pub opposed_after : AreOpposed p.tables (parts_of o)

module _ (p : Program) (f : ℕ → ℕ) (m n : MachineParts) (pair : ℕ × ℕ) (r : RuleParts) (o u : MachineParts) (given : ActAlike p f m n pair r o u) where
  open given use {net, net_other, inside, is_renamed, act, other_act, opposed_after}

  abbrev t : Tables
  t = p.tables

  abbrev a : AgentNo
  a = (agents_at pair).0

  abbrev b : AgentNo
  b = (agents_at pair).1

  abbrev fa : AgentNo
  fa = (agents_at (both f pair)).0

  abbrev fb : AgentNo
  fb = (agents_at (both f pair)).1

  redex : IsRedex (signature_of p.tables) (net_of (parts_of m)) (redex_at r pair.0 pair.1)
  redex = redex_in t (parts_of m) r a b net act.can

  pub g : ℕ → ℕ
  g = moving.g (signature_of t) (net_of (parts_of m)) (net_of (parts_of n)) net f is_renamed (redex_at r pair.0 pair.1) inside redex act.name other_act.name (net_of (parts_of o)) (net_of (parts_of u)) act.acts.step other_act.acts.step

  pub named_after : IsRenamed g (net_of (parts_of o)) (net_of (parts_of u))
  unfolding g
  named_after = moving.named_after (signature_of t) (net_of (parts_of m)) (net_of (parts_of n)) net f is_renamed (redex_at r pair.0 pair.1) inside redex act.name other_act.name (net_of (parts_of o)) (net_of (parts_of u)) act.acts.step other_act.acts.step

  pub g_old : (z : ℕ) → IsSome ((net_of (parts_of m)).symbol z) → g z ≡ f z
  unfolding g
  g_old = moving.g_old (signature_of t) (net_of (parts_of m)) (net_of (parts_of n)) net f is_renamed (redex_at r pair.0 pair.1) inside redex act.name other_act.name (net_of (parts_of o)) (net_of (parts_of u)) act.acts.step other_act.acts.step

  pub g_new : (k s : ℕ) → (net_of r.member).symbol k ≡ Some s → g (act.name k) ≡ other_act.name k
  unfolding g
  g_new = moving.g_new (signature_of t) (net_of (parts_of m)) (net_of (parts_of n)) net f is_renamed (redex_at r pair.0 pair.1) inside redex act.name other_act.name (net_of (parts_of o)) (net_of (parts_of u)) act.acts.step other_act.acts.step

  -- ---- the pairs that they make

  wire_m : (e : ℕ) (q : AgentNo × AgentNo) → IsMade t (parts_of m) r a b act.name e q → (net_of (parts_of o)).partner (Port q.0.0 0) ≡ Some (Port q.1.0 0)
  wire_m e q h =
      (act.acts.step.wires (Port q.0.0 0) (Port q.1.0 0)).1 (
        stays_after t (parts_of m) r a b act.name (parts_of o) net inside act.can act.acts q.0 h.first h.one,
        stays_after t (parts_of m) r a b act.name (parts_of o) net inside act.can act.acts q.1 h.second h.two,
        (h.path.passed.0, h.path.passed.1, h.path.passed.2),
      )

  wire_n : (e : ℕ) (q : AgentNo × AgentNo) → IsMade t (parts_of n) r fa fb other_act.name e q → (net_of (parts_of u)).partner (Port q.0.0 0) ≡ Some (Port q.1.0 0)
  wire_n e q h =
      (other_act.acts.step.wires (Port q.0.0 0) (Port q.1.0 0)).1 (
        stays_after t (parts_of n) r fa fb other_act.name (parts_of u) net_other inside other_act.can other_act.acts q.0 h.first h.one,
        stays_after t (parts_of n) r fa fb other_act.name (parts_of u) net_other inside other_act.can other_act.acts q.1 h.second h.two,
        (h.path.passed.0, h.path.passed.1, h.path.passed.2),
      )

  made_forth : (e : ℕ) (q : AgentNo × AgentNo) → IsMade t (parts_of m) r a b act.name e q → IsMade t (parts_of n) r fa fb other_act.name e (moved_pair g q)
  unfolding g
  made_forth e q h =
      let wire = wire_m e q h in
      let active : AreActive (parts_of o) q.0 q.1 = map_is (partner_in (parts_of o) (code.Port q.0 0)) (Port q.1.0 0) wire in
      let one : symbol_in (parts_of o) q.0.0 ≡ Some h.first = has_symbol t (parts_of m) r a b act.name (parts_of o) net inside act.can act.acts q.0 h.first h.one in
      let two : symbol_in (parts_of o) q.1.0 ≡ Some h.second = has_symbol t (parts_of m) r a b act.name (parts_of o) net inside act.can act.acts q.1 h.second h.two in
      record {
        first = h.first;
        second = h.second;
        one = symbol_after t (parts_of n) r fa fb other_act.name (parts_of u) net_other inside other_act.can other_act.acts (moved_pair g q).0 h.first (symbol_moved g (parts_of o) (parts_of u) named_after q.0.0 h.first one);
        two = symbol_after t (parts_of n) r fa fb other_act.name (parts_of u) net_other inside other_act.can other_act.acts (moved_pair g q).1 h.second (symbol_moved g (parts_of o) (parts_of u) named_after q.1.0 h.second two);
        path = moving.lowest (signature_of t) (net_of (parts_of m)) (net_of (parts_of n)) net f is_renamed (redex_at r pair.0 pair.1) inside redex act.name other_act.name (net_of (parts_of o)) (net_of (parts_of u)) act.acts.step other_act.acts.step e (Port q.0.0 0) (Port q.1.0 0) wire h.path;
        order = stands_anywhere t (parts_of o) q.0 q.1 q.0 q.1 h.first h.second opposed_after active one two h.order (moved_pair g q).0 (moved_pair g q).1;
      }

  made_back : (e : ℕ) (q : AgentNo × AgentNo) → IsMade t (parts_of n) r fa fb other_act.name e q → (z : AgentNo × AgentNo) × (moved_pair g z ≡ q) × IsMade t (parts_of m) r a b act.name e z
  unfolding g
  made_back e q h =
      let w = agents_before g (net_of (parts_of o)) (net_of (parts_of u)) named_after q.0.0 q.1.0 (wire_n e q h) in
      go w.0 w.1 w.2 w.3 w.4
    where
      net_o : IsNet (signature_of t) (net_of (parts_of o))
      net_o = moving.net_after (signature_of t) (net_of (parts_of m)) (net_of (parts_of n)) net f is_renamed (redex_at r pair.0 pair.1) inside redex act.name other_act.name (net_of (parts_of o)) (net_of (parts_of u)) act.acts.step other_act.acts.step

      go : (k l : ℕ) → g k ≡ q.0.0 → g l ≡ q.1.0 → (net_of (parts_of o)).partner (Port k 0) ≡ Some (Port l 0) → (z : AgentNo × AgentNo) × (moved_pair g z ≡ q) × IsMade t (parts_of m) r a b act.name e z
      go k l is_k is_l wire =
          let z : AgentNo × AgentNo = agents_at (k, l) in
          let same : moved_pair g z ≡ q = ap (λ (v : ℕ). agents_at (v, g l)) is_k ∙ ap (λ (v : ℕ). agents_at (q.0.0, v)) is_l in
          let h' : IsMade t (parts_of n) r fa fb other_act.name e (moved_pair g z) = subst (IsMade t (parts_of n) r fa fb other_act.name e) (sym same) h in
          let one_u : symbol_in (parts_of u) (g k) ≡ Some h'.first = has_symbol t (parts_of n) r fa fb other_act.name (parts_of u) net_other inside other_act.can other_act.acts (moved_pair g z).0 h'.first h'.one in
          let two_u : symbol_in (parts_of u) (g l) ≡ Some h'.second = has_symbol t (parts_of n) r fa fb other_act.name (parts_of u) net_other inside other_act.can other_act.acts (moved_pair g z).1 h'.second h'.two in
          let s = symbol_of (signature_of t) ((net_of (parts_of o)).symbol k) 0 (net_o.points (Port k 0) (Port l 0) wire) in
          let v = symbol_of (signature_of t) ((net_of (parts_of o)).symbol l) 0 (net_o.points (Port l 0) (Port k 0) (net_o.back (Port k 0) (Port l 0) wire)) in
          let one : symbol_in (parts_of o) k ≡ Some h'.first = symbol_back g (parts_of o) (parts_of u) named_after k s.0 h'.first s.1 one_u in
          let two : symbol_in (parts_of o) l ≡ Some h'.second = symbol_back g (parts_of o) (parts_of u) named_after l v.0 h'.second v.1 two_u in
          let active : AreActive (parts_of o) z.0 z.1 = map_is (partner_in (parts_of o) (code.Port z.0 0)) (Port l 0) wire in (
            z,
            same,
            record {
              first = h'.first;
              second = h'.second;
              one = symbol_after t (parts_of m) r a b act.name (parts_of o) net inside act.can act.acts z.0 h'.first one;
              two = symbol_after t (parts_of m) r a b act.name (parts_of o) net inside act.can act.acts z.1 h'.second two;
              path = moving.lowest_back (signature_of t) (net_of (parts_of m)) (net_of (parts_of n)) net f is_renamed (redex_at r pair.0 pair.1) inside redex act.name other_act.name (net_of (parts_of o)) (net_of (parts_of u)) act.acts.step other_act.acts.step e (Port k 0) (Port l 0) wire h'.path;
              order = stands_anywhere t (parts_of o) z.0 z.1 (moved_pair g z).0 (moved_pair g z).1 h'.first h'.second opposed_after active one two h'.order z.0 z.1;
            },
          )

  module _ (made : List (AgentNo × AgentNo)) (new : AreMadeOverEnds t (parts_of m) r a b act.name made) where
    pub all_moved : AreMadeOverEnds t (parts_of n) r fa fb other_act.name (map (moved_pair g) made)
    all_moved = record {
      each = λ k q h. (let z = of_mapped (moved_pair g) made k q h in let e = new.each k z.0 z.1 in (e.0, subst (IsMade t (parts_of n) r fa fb other_act.name e.0) z.2 (made_forth e.0 z.0 e.1)));
      all = λ e q h. (let z = made_back e q h in let k = new.all e z.0 z.2 in (k.0, to_mapped (moved_pair g) made k.0 z.0 k.1 ∙ ap (λ (v : AgentNo × AgentNo). Some v) z.1));
      rising = rising;
    }
      where
        rising : (j k d e : ℕ) (v w : AgentNo × AgentNo) → j < k → slice_get (map (moved_pair g) made) j ≡ Some v → slice_get (map (moved_pair g) made) k ≡ Some w → IsMade t (parts_of n) r fa fb other_act.name d v → IsMade t (parts_of n) r fa fb other_act.name e w → d < e
        rising j k d e v w l at_j at_k one two =
            let q = of_mapped (moved_pair g) made j v at_j in
            let z = of_mapped (moved_pair g) made k w at_k in
            let c = new.each j q.0 q.1 in
            let h = new.each k z.0 z.1 in
            let less = new.rising j k c.0 h.0 q.0 z.0 l q.1 z.1 c.1 h.1 in
            let first = end_once t (parts_of n) r fa fb other_act.name c.0 d v (subst (IsMade t (parts_of n) r fa fb other_act.name c.0) q.2 (made_forth c.0 q.0 c.1)) one in
            let second = end_once t (parts_of n) r fa fb other_act.name h.0 e w (subst (IsMade t (parts_of n) r fa fb other_act.name h.0) z.2 (made_forth h.0 z.0 h.1)) two in
            omega (arith, less, first, second)

    pub same_made : (other : List (AgentNo × AgentNo)) → AreMadeOverEnds t (parts_of n) r fa fb other_act.name other → other ≡ map (moved_pair g) made
    same_made other there = one_made_over_ends t (parts_of n) r fa fb other_act.name other (map (moved_pair g) made) there all_moved

    -- ---- their queues

    module _ (i : ℕ) (queue : IsQueueOf t (parts_of m) m.queue) (moved : n.queue ≡ map (both f) m.queue) (own : List (ℕ × ℕ)) (inner : IsFirstQueue t r.member own) where
      both_same : (h k : ℕ → ℕ) (q : ℕ × ℕ) → h q.0 ≡ k q.0 → h q.1 ≡ k q.1 → both h q ≡ both k q
      both_same h k q e d = ap (λ (z : ℕ). let w : ℕ × ℕ = (z, h q.1) in w) e ∙ ap (λ (z : ℕ). let w : ℕ × ℕ = (k q.0, z) in w) d

      left : remove n.queue i ≡ map (both g) (remove m.queue i)
      left =
          ap (λ (z : List (ℕ × ℕ)). remove z i) moved ∙ map_removed (both f) m.queue i
          ∙ map_same (both f) (both g) (remove m.queue i) (λ k q e. (
          let w = was_there m.queue i k q e in
          let h = queue.pairs w.0 q w.2 in
          both_same f g q (sym (g_old q.0 (there ((net_of (parts_of m)).symbol q.0) h.first.0 (symbol_number (symbol_in (parts_of m) q.0) h.first h.one)))) (sym (g_old q.1 (there ((net_of (parts_of m)).symbol q.1) h.second.0 (symbol_number (symbol_in (parts_of m) q.1) h.second h.two))))
          ))

      over_ends : map numbers_of (map (moved_pair g) made) ≡ map (both g) (map numbers_of made)
      over_ends = map_twice numbers_of (moved_pair g) made ∙ sym (map_twice (both g) numbers_of made)

      inner_pairs : map (both other_act.name) own ≡ map (both g) (map (both act.name) own)
      inner_pairs =
          map_same (both other_act.name) (λ q. both g (both act.name q)) own (λ k q e. (
          let h = inner.pairs.pairs k q e in
          both_same other_act.name (λ z. g (act.name z)) q (sym (g_new q.0 h.first.0 (symbol_number (symbol_in r.member q.0) h.first h.one))) (sym (g_new q.1 h.second.0 (symbol_number (symbol_in r.member q.1) h.second h.two)))
          ))
          ∙ sym (map_twice (both g) (both act.name) own)

      -- the rest of the queue, and the new pairs by their two kinds
      pub queue_on : remove n.queue i ++ (map numbers_of (map (moved_pair g) made) ++ map (both other_act.name) own) ≡ map (both g) (remove m.queue i ++ (map numbers_of made ++ map (both act.name) own))
      queue_on =
          ap (λ (z : List (ℕ × ℕ)). z ++ (map numbers_of (map (moved_pair g) made) ++ map (both other_act.name) own)) left
          ∙ ap (λ (z : List (ℕ × ℕ)). map (both g) (remove m.queue i) ++ (z ++ map (both other_act.name) own)) over_ends
          ∙ ap (λ (z : List (ℕ × ℕ)). map (both g) (remove m.queue i) ++ (map (both g) (map numbers_of made) ++ z)) inner_pairs
          ∙ ap (λ (z : List (ℕ × ℕ)). map (both g) (remove m.queue i) ++ z) (sym (map-append (both g) (map numbers_of made) (map (both act.name) own)))
          ∙ sym (map-append (both g) (remove m.queue i) (map numbers_of made ++ map (both act.name) own))

-- ---- the need of a pair

module _ (f : ℕ → ℕ) (m n : MachineParts) (same : IsSameMachine f m n) where
  pub rule_moved : (q : ℕ × ℕ) (k : ℕ) (r : RuleParts) → IsRuleAt (plain_of m) (agents_at q).0 (agents_at q).1 k r → IsRuleAt (plain_of n) (agents_at (both f q)).0 (agents_at (both f q)).1 k r
  rule_moved q k r h =
      subst (λ (z : Program). IsRuleAt (record { program = z; net = parts_of n }) (agents_at (both f q)).0 (agents_at (both f q)).1 k r) (sym same.program) (record {
        stands = h.stands;
        over = h.over;
        declared = h.declared;
        one = symbol_moved f (parts_of m) (parts_of n) same.net q.0 r.heads.0 h.one;
        two = symbol_moved f (parts_of m) (parts_of n) same.net q.1 r.heads.1 h.two;
      })

  pub pair_moved : (i : ℕ) (q : ℕ × ℕ) → slice_get m.queue i ≡ Some q → slice_get n.queue i ≡ Some (both f q)
  pair_moved i q e = ap (λ (z : List (ℕ × ℕ)). slice_get z i) same.queue ∙ to_mapped (both f) m.queue i q e

  pub need_moved : (i : ℕ) (x : Need) → NeedsAt m i x → NeedsAt n i x
  need_moved i x h = record {
    pair = both f h.pair;
    stands = pair_moved i h.pair h.stands;
    number = h.number;
    rule = h.rule;
    is_rule = rule_moved h.pair h.number h.rule h.is_rule;
    is_need = subst (λ (z : Program). IsNeedOf z.tables h.rule.member.cells x) (sym same.program) h.is_need;
  }

-- ---- a step of each

module _ (f : ℕ → ℕ) (m n o u : MachineParts) (i : ℕ) (reducer : IsReducer m) (other : IsReducer n) (same : IsSameMachine f m n) (s : StepsAt m i o) (z : StepsAt n i u) where
  pair_is : z.pair ≡ both f s.pair
  pair_is = same_Some z.pair (both f s.pair) (sym z.stands ∙ pair_moved f m n same i s.pair s.stands)

  rule_is : z.step.rule ≡ s.step.rule
  rule_is =
      one_rule reducer.accepted.0 reducer.accepted.1 m.program reducer.accepted.2 (plain_of n) (agents_at (both f s.pair)).0 (agents_at (both f s.pair)).1 z.step.number s.step.number z.step.rule s.step.rule same.program
      (subst (λ (q : ℕ × ℕ). IsRuleAt (plain_of n) (agents_at q).0 (agents_at q).1 z.step.number z.step.rule) pair_is z.step.is_rule) (rule_moved f m n same s.pair s.step.number s.step.rule s.step.is_rule)

  x : Acts m.program m s.pair s.step.rule o
  x = acts_of m o i reducer s

  -- the other one, apart from the record that it is in
  record Other (p : Program) (pair : ℕ × ℕ) (r : RuleParts) : Type 0 where
    acts : Acts p n pair r u
    made : List (AgentNo × AgentNo)
    new : AreMadeOverEnds p.tables (parts_of n) r (agents_at pair).0 (agents_at pair).1 acts.name made
    own : List (ℕ × ℕ)
    inner : IsFirstQueue p.tables r.member own
    queue : u.queue ≡ remove n.queue i ++ (map numbers_of made ++ map (both acts.name) own)
    names : map (λ f. f.name) u.free ≡ map (λ f. f.name) n.free
    cells : (c : CellClass) → count_of u.vacant c + agents_of p.tables c u.agents ≡ count_of n.vacant c + agents_of p.tables c n.agents

  y' : Other n.program z.pair z.step.rule
  y' = record { acts = acts_of n u i other z; made = z.new.over; new = z.new.are_over; own = z.new.own; inner = z.new.are_own; queue = queue_by_kinds n u i other z; names = z.step.acts.names; cells = z.cells }

  y : Other m.program (both f s.pair) s.step.rule
  y = subst (λ (p : Program). Other p (both f s.pair) s.step.rule) same.program (subst (λ (q : ℕ × ℕ). Other n.program q s.step.rule) pair_is (subst (λ (r : RuleParts). Other n.program z.pair r) rule_is y'))

  net_n : IsNet (signature_of m.program.tables) (net_of (parts_of n))
  net_n = subst (λ (p : Program). IsNet (signature_of p.tables) (net_of (parts_of n))) same.program (net_at n other)

  opposed : AreOpposed m.program.tables (parts_of o)
  opposed = subst (λ (p : Program). AreOpposed p.tables (parts_of o)) s.step.program (opposed_at o (reducer_on m o i reducer s))

  own_is : y.own ≡ s.new.own
  own_is = same_first m.program.tables s.step.rule.member y.own s.new.own y.inner s.new.are_own

  abbrev alike : ActAlike m.program f m n s.pair s.step.rule o u
  alike = record { net = net_at m reducer; net_other = net_n; inside = inside_at m o i reducer s; is_renamed = same.net; act = x; other_act = y.acts; opposed_after = opposed }

  h : ℕ → ℕ
  h = g m.program f m n s.pair s.step.rule o u alike

  named : IsRenamed h (net_of (parts_of o)) (net_of (parts_of u))
  unfolding h
  named = named_after m.program f m n s.pair s.step.rule o u alike

  made_is : y.made ≡ map (λ q. agents_at (both h (numbers_of q))) s.new.over
  unfolding h x
  made_is = same_made m.program f m n s.pair s.step.rule o u alike s.new.over s.new.are_over y.made y.new

  queue_is : u.queue ≡ map (both h) o.queue
  unfolding h x
  queue_is =
      y.queue ∙ ap (λ (z : List (AgentNo × AgentNo)). remove n.queue i ++ (map numbers_of z ++ map (both y.acts.name) y.own)) made_is
      ∙ ap (λ (z : List (ℕ × ℕ)). remove n.queue i ++ (map numbers_of (map (λ q. agents_at (both h (numbers_of q))) s.new.over) ++ map (both y.acts.name) z)) own_is
      ∙ queue_on m.program f m n s.pair s.step.rule o u alike s.new.over s.new.are_over i reducer.queue same.queue s.new.own s.new.are_own
      ∙ ap (map (both h)) (sym (queue_by_kinds m o i reducer s))

  free_is : (c : CellClass) → count_of u.vacant c ≡ count_of o.vacant c
  free_is c =
      let before = as_many_of m.program.tables c f (parts_of m) (parts_of n) same.net in
      let after = as_many_of m.program.tables c h (parts_of o) (parts_of u) named in
      let e : count_of n.vacant c ≡ count_of m.vacant c = ap (λ (z : Need). count_of z c) same.vacant in
      let one = s.cells c in
      let two = y.cells c in
      omega (arith, e, before, after, one, two)

  pub same_step : (h : ℕ → ℕ) × IsSameMachine h o u
  same_step = (
    h,
    record {
      program = z.step.program ∙ same.program ∙ sym s.step.program;
      net = named;
      names = y.names ∙ same.names ∙ sym s.step.acts.names;
      queue = queue_is;
      vacant = same_need u.vacant o.vacant free_is;
    },
  )
