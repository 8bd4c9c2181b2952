-- The result of an interaction, under other numbers, is the result of one of its reducer under other numbers. The agents that stay are numbered as
-- after it, and the two of the pair by numbers that the net after it doesn't have.
use Rattle.std.proofs.Common.{◌≡◌, ◌≢◌, ◌⊎◌, inl, inr, ◌<◌, ◌+◌, ℕ, zero, suc, Option, Some, None, IsSome, List, ◌++◌, map, length, remove, slice_get, option_map, option_and_then, refl, sym, ap, subst, ◌∙◌, arith}
use native.Mathlib.Decide.{ℕ_discrete}
use Rattle.std.proofs.lemmas.Option.{slice_get_within}
use Rattle.in_arena.specs.declared.content.CellClass.{CellClass}
use Rattle.in_symbols.specs.Tables.{Tables}
use Rattle.in_syntax.specs.declared.symbol_no.SymbolNo.{SymbolNo}
use Rattle.in_net.specs.declared.nets.AgentNo.{AgentNo}
use Rattle.in_net.specs.declared.nets.Cell.{Cell}
use Rattle.in_net.specs.Built.{IsOver}
use Rattle.in_net.specs.Interactions.{IsRedex, IsNaming, IsStep, redex_at}
use Rattle.in_net.specs.Nets.{Point, Port, Free, Net, IsNet, net_of, signature_of}
use Rattle.in_net.specs.Parts.{Parts}
use Rattle.in_net.specs.Rules.{RuleParts}
use Rattle.in_interaction.specs.Interacting.{InteractsAs}
use Rattle.in_interaction.specs.Made.{AreMade, AreMadeOverEnds}
use Rattle.in_interaction.specs.Queues.{agents_at, numbers_of, both}
use Rattle.in_interaction.proofs.Public.{has_value, made_numbers}
use Rattle.in_gluing.proofs.Public.{pick}
use Rattle.in_check.specs.Plain.{IsPairAt, IsRuleAt, StepsAs}
use Rattle.in_check.specs.Programs.{Program}
use Rattle.in_check.specs.Runs.{IsInteraction}
use Rattle.in_net.specs.Renaming.{renamed, IsRenamed}
use Rattle.in_check.specs.Systems.{rule_in, system_of}
use Rattle.in_check.proofs.Public.{live, symbol_kept, wire_kept, AreOpposed}
use Rattle.in_base.proofs.Options.{none_of}
use Rattle.in_base.proofs.Places.{to_mapped, is_some as there}
use Rattle.in_check.proofs.Public.Moved as moving
use Rattle.in_compile.specs.Cells.{agents_of, count_of}
use Rattle.in_reducer.specs.Machines.{MachineParts, parts_of, plain_of}
use Rattle.in_reducer.specs.Reducers.{IsReducer}
use Rattle.in_reducer.specs.Runs.{Runs, at_start, then_step}
use Rattle.in_reducer.specs.Steps.{StepsAt}
use Rattle.in_reducer.proofs.Cells.AsMany.{as_many_of}
use Rattle.in_reducer.proofs.Starts.Started.{lives, symbol_moved}
use Rattle.in_reducer.proofs.Pairs.Queues.{reducer_promised}
use Rattle.in_reducer.proofs.Steps.StepsOn.{net_at, opposed_at, can_interact, inside_at, redex_of_step, queue_by_kinds, reducer_on}
use Rattle.in_reducer.specs.Same.{IsSameMachine, AreSame, StepsUpToNumbers, RunsUpToNumbers}
use Rattle.in_reducer.proofs.Numbers.OfSame.{reducer_same}
use Rattle.in_reducer.proofs.Numbers.Renamed.{machine_under, is_under}
use Rattle.in_reducer.proofs.Numbers.SameKind.{same_back, same_through}
use Rattle.in_reducer.proofs.Numbers.SameStep.{moved_pair, Acts, acts_of, map_same, rule_moved, pair_moved, need_moved, all_moved, queue_on}
use Rattle.in_reducer.proofs.Numbers.SameStep as two_steps

-- ---- numbers beyond those of a net

pub number_below : (n : Parts) (y : ℕ) → IsSome ((net_of n).symbol y) → y < length n.cells
number_below n y h = let s = has_value ((net_of n).symbol y) h in go s.0 (slice_get n.cells y) refl s.1
  where
    go : (s : ℕ) (o : Option (Option Cell)) → slice_get n.cells y ≡ o → option_map (λ (s : SymbolNo). s.0) (option_map (λ (c : Cell). c.symbol) (option_and_then (λ (c : Option Cell). c) o)) ≡ Some s → y < length n.cells
    go s None is h = absurd (let z : ◌≡◌ {A = Option ℕ} None (Some s) = h in cc)
    go s (Some c) is h = slice_get_within n.cells y c is

-- ---- numbers of which two are chosen

chosen : (f : ℕ → ℕ) (a b x y : ℕ) → ℕ → ℕ
chosen f a b x y z = pick (ℕ_discrete z a) x (pick (ℕ_discrete z b) y (f z))

module _ (f : ℕ → ℕ) (a b x y : ℕ) where
  chosen_one : chosen f a b x y a ≡ x
  unfolding chosen
  chosen_one = go (ℕ_discrete a a)
    where
      go : (d : Dec (a ≡ a)) → pick d x (pick (ℕ_discrete a b) y (f a)) ≡ x
      go (yes e) = refl
      go (no n) = absurd (n refl)

  chosen_two : a ≢ b → chosen f a b x y b ≡ y
  unfolding chosen
  chosen_two differ = go (ℕ_discrete b a) (ℕ_discrete b b)
    where
      go : (d : Dec (b ≡ a)) (e : Dec (b ≡ b)) → pick d x (pick e y (f b)) ≡ y
      go (yes e) h = absurd (differ (sym e))
      go (no n) (yes e) = refl
      go (no n) (no m) = absurd (m refl)

  chosen_old : (z : ℕ) → z ≢ a → z ≢ b → chosen f a b x y z ≡ f z
  unfolding chosen
  chosen_old z not_a not_b = go (ℕ_discrete z a) (ℕ_discrete z b)
    where
      go : (d : Dec (z ≡ a)) (e : Dec (z ≡ b)) → pick d x (pick e y (f z)) ≡ f z
      go (yes e) h = absurd (not_a e)
      go (no n) (yes e) = absurd (not_b e)
      go (no n) (no m) = refl

-- ---- one interaction

module _ (m n o : MachineParts) (i : ℕ) (reducer : IsReducer m) (s : StepsAt m i n) (f : ℕ → ℕ) (same : IsSameMachine f n o) where
  abbrev t : Tables
  t = m.program.tables

  abbrev a : ℕ
  a = s.pair.0

  abbrev b : ℕ
  b = s.pair.1

  abbrev r : RuleParts
  r = s.step.rule

  abbrev before : Net ℕ
  before = net_of (parts_of m)

  abbrev after : Net ℕ
  after = net_of (parts_of n)

  abbrev goal : Net ℕ
  goal = net_of (parts_of o)

  net : IsNet (signature_of t) before
  net = net_at m reducer

  inside : IsNet (signature_of t) (net_of r.member)
  inside = inside_at m n i reducer s

  redex : IsRedex (signature_of t) before (redex_at r a b)
  redex = redex_of_step m n i reducer s

  is_step : IsStep (signature_of t) before (redex_at r a b) s.name after
  is_step = s.step.acts.step

  next : IsReducer n
  next = reducer_on m n i reducer s

  last : IsReducer o
  last = reducer_same n o next f same

  net_after : IsNet (signature_of t) after
  net_after = subst (λ (z : Program). IsNet (signature_of z.tables) after) s.step.program (net_at n next)

  -- ---- the numbers before

  h : ℕ → ℕ
  h = chosen f a b (length o.agents) (suc (length o.agents))

  h_one : h a ≡ length o.agents
  unfolding h
  h_one = chosen_one f a b (length o.agents) (suc (length o.agents))

  h_two : h b ≡ suc (length o.agents)
  unfolding h
  h_two = chosen_two f a b (length o.agents) (suc (length o.agents)) redex.differ

  h_old : (z : ℕ) → z ≢ a → z ≢ b → h z ≡ f z
  unfolding h
  h_old = chosen_old f a b (length o.agents) (suc (length o.agents))

  -- an agent after has a number below those of the pair
  f_below : (z : ℕ) → IsSome (after.symbol z) → f z < length o.agents
  f_below z live =
      let k = has_value (after.symbol z) live in
      number_below (parts_of o) (f z) (there (goal.symbol (f z)) k.0 ((same.net.agents (f z) k.0).1 (z, refl, k.1)))

  stays : (z : ℕ) → IsSome (before.symbol z) → z ≢ a → z ≢ b → IsSome (after.symbol z)
  stays z live not_a not_b = let k = has_value (before.symbol z) live in there (after.symbol z) k.0 ((is_step.agents z k.0).1 (inl (not_a, not_b, k.1)))

  comes : (k k' : ℕ) → (net_of r.member).symbol k ≡ Some k' → IsSome (after.symbol (s.name k))
  comes k k' e = there (after.symbol (s.name k)) k' ((is_step.agents (s.name k) k').1 (inr (k, refl, e)))

  data Which (z : ℕ) : Type 0 where
    is_a : z ≡ a → Which z
    is_b : z ≡ b → Which z
    is_old : z ≢ a → z ≢ b → Which z

  which : (z : ℕ) → Which z
  which z = go (ℕ_discrete z a) (ℕ_discrete z b)
    where
      go : Dec (z ≡ a) → Dec (z ≡ b) → Which z
      go (yes e) d = is_a e
      go (no n) (yes e) = is_b e
      go (no n) (no k) = is_old n k

  -- the number that an agent before gets
  abbrev Number : ℕ → Type 0
  Number z = ((z ≡ a) × (h z ≡ length o.agents)) ⊎ (((z ≡ b) × (h z ≡ suc (length o.agents))) ⊎ ((h z ≡ f z) × IsSome (after.symbol z)))

  number_of : (z : ℕ) → IsSome (before.symbol z) → Number z
  number_of z live = elim (which z) [
    | is_a e ↦ inl (e, ap h e ∙ h_one)
    | is_b e ↦ inr (inl (e, ap h e ∙ h_two))
    | is_old x y ↦ inr (inr (h_old z x y, stays z live x y))
  ]

  h_apart : (y z : ℕ) → IsSome (before.symbol y) → IsSome (before.symbol z) → h y ≡ h z → y ≡ z
  h_apart y z live_y live_z e = go (number_of y live_y) (number_of z live_z)
    where
      go : Number y → Number z → y ≡ z
      go (inl p) (inl q) = p.0 ∙ sym q.0
      go (inl p) (inr (inl q)) = absurd (let u = p.1 in let v = q.1 in omega (arith, u, v, e))
      go (inl p) (inr (inr q)) = absurd (let u = p.1 in let v = q.0 in let l = f_below z q.1 in omega (arith, u, v, e, l))
      go (inr (inl p)) (inl q) = absurd (let u = p.1 in let v = q.1 in omega (arith, u, v, e))
      go (inr (inl p)) (inr (inl q)) = p.0 ∙ sym q.0
      go (inr (inl p)) (inr (inr q)) = absurd (let u = p.1 in let v = q.0 in let l = f_below z q.1 in omega (arith, u, v, e, l))
      go (inr (inr p)) (inl q) = absurd (let u = p.0 in let v = q.1 in let l = f_below y p.1 in omega (arith, u, v, e, l))
      go (inr (inr p)) (inr (inl q)) = absurd (let u = p.0 in let v = q.1 in let l = f_below y p.1 in omega (arith, u, v, e, l))
      go (inr (inr p)) (inr (inr q)) = same.net.apart y z p.1 q.1 (sym p.0 ∙ e ∙ q.0)

  abbrev first : MachineParts
  first = machine_under h m

  renamed_first : IsSameMachine h m first
  renamed_first = is_under h m h_apart

  first_reducer : IsReducer first
  first_reducer = reducer_same m first reducer h renamed_first

  -- ---- the names of new agents

  abbrev named : ℕ → ℕ
  named k = f (s.name k)

  naming : IsNaming (net_of (parts_of first)) (redex_at r (h a) (h b)) named
  naming = record { fresh = fresh; apart = apart }
    where
      fresh : (k k' : ℕ) → (net_of r.member).symbol k ≡ Some k' → (net_of (parts_of first)).symbol (named k) ≡ None
      fresh k k' e = none_of ((net_of (parts_of first)).symbol (named k)) (λ u there_u. (
          let z = (renamed_first.net.agents (named k) u).0 there_u in
          let live_z = there (before.symbol z.0) u z.2 in
          let l = f_below (s.name k) (comes k k' e) in
          let at = z.1 in
          elim (number_of z.0 live_z) [
            | inl p ↦ (let v = p.1 in absurd (omega (arith, v, at, l)))
            | inr q ↦ elim q [
              | inl p ↦ (let v = p.1 in absurd (omega (arith, v, at, l)))
              | inr p ↦ (
                  let one : z.0 ≡ s.name k = same.net.apart z.0 (s.name k) p.1 (comes k k' e) (sym p.0 ∙ at) in
                  let w : ◌≡◌ {A = Option ℕ} None (Some u) = sym (is_step.naming.fresh k k' e) ∙ ap before.symbol (sym one) ∙ z.2 in
                  cc
                  )
            ]
          ]
          ))

      apart : (k l u v : ℕ) → (net_of r.member).symbol k ≡ Some u → (net_of r.member).symbol l ≡ Some v → named k ≡ named l → k ≡ l
      apart k l u v at_k at_l e = is_step.naming.apart k l u v at_k at_l (same.net.apart (s.name k) (s.name l) (comes k u at_k) (comes l v at_l) e)

  -- ---- a net after it, which is the net after, under the other numbers

  is_rule : IsRuleAt (plain_of first) (agents_at (both h s.pair)).0 (agents_at (both h s.pair)).1 s.step.number r
  is_rule = rule_moved h m first renamed_first s.pair s.step.number r s.step.is_rule

  some_after : (end : Net ℕ) × IsInteraction (system_of m.program) (net_of (parts_of first)) (redex_at r (h a) (h b)) named end
  some_after =
      ((reducer_promised first first_reducer).interactions_end (redex_at r (h a) (h b)) (record {
        one = symbol_kept (signature_of t) h before (net_of (parts_of first)) net renamed_first.net a r.heads.0.0 redex.one;
        two = symbol_kept (signature_of t) h before (net_of (parts_of first)) net renamed_first.net b r.heads.1.0 redex.two;
        active = wire_kept (signature_of t) h before (net_of (parts_of first)) net renamed_first.net (Port a 0) (Port b 0) redex.active;
        rule = (s.step.number, to_mapped rule_in m.program.rules s.step.number r s.step.is_rule.stands);
      })).1 named naming

  end_step : IsStep (signature_of t) (net_of (parts_of first)) (redex_at r (h a) (h b)) named some_after.0
  end_step = some_after.1.step

  g : ℕ → ℕ
  g = moving.g (signature_of t) before (net_of (parts_of first)) net h renamed_first.net (redex_at r a b) inside redex s.name named after some_after.0 is_step end_step

  end_named : IsRenamed g after some_after.0
  unfolding g
  end_named = moving.named_after (signature_of t) before (net_of (parts_of first)) net h renamed_first.net (redex_at r a b) inside redex s.name named after some_after.0 is_step end_step

  g_old : (z : ℕ) → IsSome (before.symbol z) → g z ≡ h z
  unfolding g
  g_old = moving.g_old (signature_of t) before (net_of (parts_of first)) net h renamed_first.net (redex_at r a b) inside redex s.name named after some_after.0 is_step end_step

  g_new : (k k' : ℕ) → (net_of r.member).symbol k ≡ Some k' → g (s.name k) ≡ named k
  unfolding g
  g_new = moving.g_new (signature_of t) before (net_of (parts_of first)) net h renamed_first.net (redex_at r a b) inside redex s.name named after some_after.0 is_step end_step

  -- numbers that are h's before and the new names after are those that the net after gets
  agrees : (e : ℕ → ℕ) → ((z : ℕ) → IsSome (before.symbol z) → e z ≡ h z) → ((k k' : ℕ) → (net_of r.member).symbol k ≡ Some k' → e (s.name k) ≡ named k) →
      (z : ℕ) → IsSome (after.symbol z) → e z ≡ f z
  agrees e old new z live_z =
      let k = has_value (after.symbol z) live_z in
      elim ((is_step.agents z k.0).0 k.1) [
        | inl p ↦ old z (there (before.symbol z) k.0 p.2) ∙ h_old z p.0 p.1
        | inr p ↦ ap e (sym p.1) ∙ new p.0 k.0 p.2 ∙ ap f p.1
      ]

  g_is : (z : ℕ) → IsSome (after.symbol z) → g z ≡ f z
  g_is = agrees g g_old g_new

  point_is : (p q : Point ℕ) → after.partner p ≡ Some q → renamed g p ≡ renamed f p
  point_is (Port z j) q e = ap (λ (z : ℕ). Port z j) (g_is z (live (signature_of t) f after goal net_after same.net z j (net_after.points (Port z j) q e)))
  point_is (Free k) q e = refl

  steps : IsStep (signature_of t) (net_of (parts_of first)) (redex_at r (h a) (h b)) named goal
  steps = record {
    naming = naming;
    agents = λ y u. (
      (λ e. (let z = (same.net.agents y u).0 e in (end_step.agents y u).0 ((end_named.agents y u).1 (z.0, g_is z.0 (there (after.symbol z.0) u z.2) ∙ z.1, z.2)))),
      (λ k. (let z = (end_named.agents y u).0 ((end_step.agents y u).1 k) in (same.net.agents y u).1 (z.0, sym (g_is z.0 (there (after.symbol z.0) u z.2)) ∙ z.1, z.2))),
    );
    wires = λ u v. (
      (λ e. (
          let w = (same.net.wires u v).0 e in
          (end_step.wires u v).0 ((end_named.wires u v).1 (w.0, w.1, point_is w.0 w.1 w.4 ∙ w.2, point_is w.1 w.0 (net_after.back w.0 w.1 w.4) ∙ w.3, w.4))
          )),
      (λ j. (
          let w = (end_named.wires u v).0 ((end_step.wires u v).1 j) in
          (same.net.wires u v).1 (w.0, w.1, sym (point_is w.0 w.1 w.4) ∙ w.2, sym (point_is w.1 w.0 (net_after.back w.0 w.1 w.4)) ∙ w.3, w.4)
          )),
    );
    free = same.net.free ∙ is_step.free ∙ sym renamed_first.net.free;
  }

  -- ---- the step

  active : IsPairAt (plain_of first) (agents_at (both h s.pair)).0 (agents_at (both h s.pair)).1
  active = record {
    first = s.active.first;
    second = s.active.second;
    one = symbol_moved h (parts_of m) (parts_of first) renamed_first.net a s.active.first s.active.one;
    two = symbol_moved h (parts_of m) (parts_of first) renamed_first.net b s.active.second s.active.two;
    active = (first_reducer.queue.pairs i (both h s.pair) (pair_moved h m first renamed_first i s.pair s.stands)).active;
    constructor = s.active.constructor;
  }

  acts_as : InteractsAs t (parts_of first) r (agents_at (both h s.pair)).0 (agents_at (both h s.pair)).1 named (parts_of o)
  acts_as = record {
    step = steps;
    over = subst (λ (z : Program). IsOver z.tables (parts_of o)) (same.program ∙ s.step.program) last.net.over;
    names = same.names ∙ s.step.acts.names ∙ sym renamed_first.names;
  }

  abbrev steps_as : StepsAs (plain_of first) (agents_at (both h s.pair)).0 (agents_at (both h s.pair)).1 named (plain_of o)
  steps_as = record {
    number = s.step.number;
    rule = r;
    is_rule = is_rule;
    acts = acts_as;
    program = same.program ∙ s.step.program;
  }

  x : Acts m.program m s.pair r n
  x = acts_of m n i reducer s

  y : Acts m.program first (both h s.pair) r o
  y = record { can = can_interact first first_reducer (agents_at (both h s.pair)).0 (agents_at (both h s.pair)).1 active s.step.number r is_rule; name = named; acts = acts_as }

  opposed : AreOpposed t (parts_of n)
  opposed = subst (λ (p : Program). AreOpposed p.tables (parts_of n)) s.step.program (opposed_at n next)

  abbrev alike : two_steps.ActAlike m.program h m first s.pair r n o
  alike = record { net = net; net_other = net_at first first_reducer; inside = inside; is_renamed = renamed_first.net; act = x; other_act = y; opposed_after = opposed }

  e : ℕ → ℕ
  e = two_steps.g m.program h m first s.pair r n o alike

  e_old : (z : ℕ) → IsSome (before.symbol z) → e z ≡ h z
  unfolding e
  e_old = two_steps.g_old m.program h m first s.pair r n o alike

  e_new : (k k' : ℕ) → (net_of r.member).symbol k ≡ Some k' → e (s.name k) ≡ named k
  unfolding e x y
  e_new = two_steps.g_new m.program h m first s.pair r n o alike

  e_is : (z : ℕ) → IsSome (after.symbol z) → e z ≡ f z
  e_is = agrees e e_old e_new

  abbrev made : List (AgentNo × AgentNo)
  made = map (moved_pair e) s.new.over ++ map (λ q. agents_at (both named q)) s.new.own

  over_ends : AreMadeOverEnds t (parts_of first) r (agents_at (both h s.pair)).0 (agents_at (both h s.pair)).1 named (map (moved_pair e) s.new.over)
  unfolding e x y
  over_ends = all_moved m.program h m first s.pair r n o alike s.new.over s.new.are_over

  new : AreMade t (parts_of first) r (agents_at (both h s.pair)).0 (agents_at (both h s.pair)).1 named made
  new = record { over = map (moved_pair e) s.new.over; own = s.new.own; are_over = over_ends; are_own = s.new.are_own; listed = refl }

  queue_moved_on : remove first.queue i ++ (map numbers_of (map (moved_pair e) s.new.over) ++ map (both named) s.new.own) ≡ map (both e) (remove m.queue i ++ (map numbers_of s.new.over ++ map (both s.name) s.new.own))
  unfolding e x y
  queue_moved_on = queue_on m.program h m first s.pair r n o alike s.new.over s.new.are_over i reducer.queue refl s.new.own s.new.are_own

  queue_agrees : map (both f) n.queue ≡ map (both e) n.queue
  queue_agrees = map_same (both f) (both e) n.queue (λ k q at. (
      let l = lives n.program.tables (parts_of n) q (next.queue.pairs k q at) in
      ap (λ (z : ℕ). let w : ℕ × ℕ = (z, f q.1) in w) (sym (e_is q.0 l.0)) ∙ ap (λ (z : ℕ). let w : ℕ × ℕ = (e q.0, z) in w) (sym (e_is q.1 l.1))
      ))

  queue_is : o.queue ≡ remove first.queue i ++ map numbers_of made
  unfolding new
  queue_is =
      same.queue ∙ queue_agrees ∙ ap (map (both e)) (queue_by_kinds m n i reducer s) ∙ sym queue_moved_on
      ∙ ap (λ (z : List (ℕ × ℕ)). remove first.queue i ++ z) (sym (made_numbers t (parts_of first) r (agents_at (both h s.pair)).0 (agents_at (both h s.pair)).1 named made new))

  cells_are : (c : CellClass) → count_of o.vacant c + agents_of t c o.agents ≡ count_of m.vacant c + agents_of t c first.agents
  cells_are c =
      let one = as_many_of t c f (parts_of n) (parts_of o) same.net in
      let two = as_many_of t c h (parts_of m) (parts_of first) renamed_first.net in
      let free : count_of o.vacant c ≡ count_of n.vacant c = ap (λ z. count_of z c) same.vacant in
      let kept = s.cells c in
      omega (arith, one, two, free, kept)

  pub step_before : (z : MachineParts) × AreSame m z × StepsAt z i o
  step_before = (
    first,
    (h, renamed_first),
    record {
      pair = both h s.pair;
      stands = pair_moved h m first renamed_first i s.pair s.stands;
      active = active;
      room = (s.room.0, need_moved h m first renamed_first i s.room.0 s.room.1, s.room.2);
      name = named;
      step = steps_as;
      made = made;
      new = new;
      queue = queue_is;
      cells = cells_are;
    },
  )

-- ---- runs

pub reducer_runs : (m n : MachineParts) (k : ℕ) → IsReducer m → Runs m k n → IsReducer n
reducer_runs m n zero h (at_start _) = h
reducer_runs m o (suc k) h (then_step _ n _ _ before s) = reducer_on n o 0 (reducer_runs m n k h before) s

pub run_before : (m n o : MachineParts) (k : ℕ) → IsReducer m → Runs m k n → AreSame n o → (s : MachineParts) × AreSame m s × Runs s k o
run_before m n o zero h (at_start _) same = (o, same, at_start o)
run_before m n o (suc k) h (then_step _ w _ _ before s) same =
    let z = step_before w n o 0 (reducer_runs m w k h before) s same.0 same.1 in
    let r = run_before m w z.0 k h before z.1 in
    (r.0, r.1, then_step r.0 z.0 o k r.2 z.2)

pub joined : (a b c : MachineParts) (j k : ℕ) → Runs a j b → Runs b k c → Runs a (k + j) c
joined a b c j zero run (at_start _) = subst (λ (i : ℕ). Runs a i b) (let z : j ≡ 0 + j = omega arith in z) run
joined a b c j (suc k) run (then_step _ n _ _ before s) = subst (λ (i : ℕ). Runs a i c) (let z : suc (k + j) ≡ suc k + j = omega arith in z) (then_step a n c (k + j) (joined a b n j k run before) s)

pub runs_on : (m n o : MachineParts) (j k : ℕ) → IsReducer m → RunsUpToNumbers m j n → RunsUpToNumbers n k o → RunsUpToNumbers m (k + j) o
runs_on m n o j k h (s, one, run) (z, two, then) =
    let r = run_before s n z j (reducer_same m s h one.0 one.1) run two in
    (r.0, same_through m s r.0 one r.1, joined r.0 z o j k r.2 then)

pub takes_step : (m n o : MachineParts) (k : ℕ) → IsReducer m → RunsUpToNumbers m k n → StepsUpToNumbers n 0 o → RunsUpToNumbers m (suc k) o
takes_step m n o k h run (s, same, step) = subst (λ (i : ℕ). RunsUpToNumbers m i o) (let z : 1 + k ≡ suc k = omega arith in z) (runs_on m n o k 1 h run (s, same, then_step s s o 0 (at_start s) step))

-- ---- the results of runs and interactions

pub same_run : (m n o u : MachineParts) (k : ℕ) → IsReducer m → IsReducer n → AreSame m n → Runs m k o → Runs n k u → AreSame o u
same_run m n o u zero h g same (at_start _) (at_start _) = same
same_run m n o u (suc k) h g same (then_step _ v _ _ before s) (then_step _ w _ _ earlier z) =
    let r = same_run m n v w k h g same before earlier in
    two_steps.same_step r.0 v w o u 0 (reducer_runs m v k h before) (reducer_runs n w k g earlier) r.1 s z

-- two machines that are the same as one reducer are the same
both_ways : (m s z : MachineParts) → IsReducer m → AreSame m s → AreSame m z → AreSame s z
both_ways m s z h one two = same_through s m z (same_back m s h one.0 one.1) two

pub one_run : (m n o : MachineParts) (k : ℕ) → IsReducer m → RunsUpToNumbers m k n → RunsUpToNumbers m k o → AreSame n o
one_run m n o k h (s, one, run) (z, two, other) =
    same_run s z n o k (reducer_same m s h one.0 one.1) (reducer_same m z h two.0 two.1) (both_ways m s z h one two) run other

pub one_step : (m n o : MachineParts) (i : ℕ) → IsReducer m → StepsUpToNumbers m i n → StepsUpToNumbers m i o → AreSame n o
one_step m n o i h (s, one, step) (z, two, other) =
    let same = both_ways m s z h one two in
    two_steps.same_step same.0 s z n o i (reducer_same m s h one.0 one.1) (reducer_same m z h two.0 two.1) same.1 step other

-- ---- two agents aside

-- these numbers move two agents there and no other one, and keep all apart
pub record IsAsideBy (m : MachineParts) (a b x y : ℕ) (f : ℕ → ℕ) : Type 0 where
  pub one : f a ≡ x
  pub two : f b ≡ y
  pub old : (z : ℕ) → z ≢ a → z ≢ b → f z ≡ z
  pub apart : (u v : ℕ) → IsSome ((net_of (parts_of m)).symbol u) → IsSome ((net_of (parts_of m)).symbol v) → f u ≡ f v → u ≡ v

module _ (m : MachineParts) (a b x y : ℕ) (differ : a ≢ b) (other : x ≢ y) (no_x : (net_of (parts_of m)).symbol x ≡ None) (no_y : (net_of (parts_of m)).symbol y ≡ None) where
  f_aside : ℕ → ℕ
  f_aside = chosen (λ z. z) a b x y

  is_x : f_aside a ≡ x
  unfolding f_aside
  is_x = chosen_one (λ z. z) a b x y

  is_y : f_aside b ≡ y
  unfolding f_aside
  is_y = chosen_two (λ z. z) a b x y differ

  is_z : (z : ℕ) → z ≢ a → z ≢ b → f_aside z ≡ z
  unfolding f_aside
  is_z = chosen_old (λ z. z) a b x y

  abbrev Kind_aside : ℕ → Type 0
  Kind_aside z = ((z ≡ a) × (f_aside z ≡ x)) ⊎ (((z ≡ b) × (f_aside z ≡ y)) ⊎ (f_aside z ≡ z))

  kind_aside : (z : ℕ) → Kind_aside z
  kind_aside z = go (ℕ_discrete z a) (ℕ_discrete z b)
    where
      go : Dec (z ≡ a) → Dec (z ≡ b) → Kind_aside z
      go (yes e) d = inl (e, ap f_aside e ∙ is_x)
      go (no n) (yes e) = inr (inl (e, ap f_aside e ∙ is_y))
      go (no n) (no k) = inr (inr (is_z z n k))

  not_there : (z u : ℕ) → IsSome ((net_of (parts_of m)).symbol z) → (net_of (parts_of m)).symbol u ≡ None → z ≢ u
  not_there z u live none e = let k = has_value ((net_of (parts_of m)).symbol z) live in let w : ◌≡◌ {A = Option ℕ} None (Some k.0) = sym none ∙ ap (net_of (parts_of m)).symbol (sym e) ∙ k.1 in cc

  apart_aside : (u v : ℕ) → IsSome ((net_of (parts_of m)).symbol u) → IsSome ((net_of (parts_of m)).symbol v) → f_aside u ≡ f_aside v → u ≡ v
  apart_aside u v live_u live_v e = go (kind_aside u) (kind_aside v)
    where
      go : Kind_aside u → Kind_aside v → u ≡ v
      go (inl p) (inl q) = p.0 ∙ sym q.0
      go (inl p) (inr (inl q)) = absurd (other (sym p.1 ∙ e ∙ q.1))
      go (inl p) (inr (inr q)) = absurd (not_there v x live_v no_x (sym q ∙ sym e ∙ p.1))
      go (inr (inl p)) (inl q) = absurd (other (sym q.1 ∙ sym e ∙ p.1))
      go (inr (inl p)) (inr (inl q)) = p.0 ∙ sym q.0
      go (inr (inl p)) (inr (inr q)) = absurd (not_there v y live_v no_y (sym q ∙ sym e ∙ p.1))
      go (inr (inr p)) (inl q) = absurd (not_there u x live_u no_x (sym p ∙ e ∙ q.1))
      go (inr (inr p)) (inr (inl q)) = absurd (not_there u y live_u no_y (sym p ∙ e ∙ q.1))
      go (inr (inr p)) (inr (inr q)) = sym p ∙ e ∙ q

  pub put_aside : (f : ℕ → ℕ) × IsAsideBy m a b x y f
  put_aside = (f_aside, record { one = is_x; two = is_y; old = is_z; apart = apart_aside })

  pub stand_aside : (s : MachineParts) × (f : ℕ → ℕ) × IsSameMachine f m s × (f a ≡ x) × (f b ≡ y) × ((z : ℕ) → z ≢ a → z ≢ b → f z ≡ z)
  stand_aside = (machine_under f_aside m, f_aside, is_under f_aside m apart_aside, is_x, is_y, is_z)
