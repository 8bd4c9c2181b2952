-- An interaction in place of a machine is one up to numbers: that of the machine whose pair has two numbers beyond all others.
use Rattle.std.proofs.Common.{◌≡◌, ◌≢◌, inl, inr, ◌<◌, ◌≤◌, ◌+◌, ℕ, suc, Option, Some, None, IsSome, List, [], ◌∷◌, ◌++◌, map, length, remove, slice_get, refl, sym, ap, ◌∙◌, arith}
use Rattle.in_arena.specs.declared.content.CellClass.{CellClass}
use Rattle.in_base.specs.Lists.{IsAmong}
use Rattle.in_symbols.specs.Tables.{Tables}
use Rattle.in_syntax.specs.declared.symbol_no.SymbolNo.{SymbolNo}
use Rattle.in_net.specs.declared.nets.AgentNo.{AgentNo}
use Rattle.in_net.specs.Interactions.{Redex, IsRedex, IsStep, redex_at}
use Rattle.in_net.specs.Nets.{Point, Port, Free, Net, IsNet, net_of, signature_of}
use Rattle.in_net.specs.Parts.{symbol_in}
use Rattle.in_net.specs.Rules.{RuleParts}
use Rattle.in_interaction.specs.Made.{HasSymbolAfter, AreMade}
use Rattle.in_interaction.specs.Queues.{agents_at, both, numbers_of}
use Rattle.in_interaction.proofs.Public.{agent_same, symbol_is, symbol_number}
use Rattle.in_base.proofs.Places.{is_some as there}
use Rattle.in_compile.specs.Cells.{agents_of, count_of}
use Rattle.in_overwriting.specs.MadeByWires.{IsMadeByWire, MakeInTurn, of_none, with_one, without}
use Rattle.in_overwriting.specs.Overwriting.{IsSideAt}
use Rattle.in_overwriting.proofs.Public.{wires_make_all_pairs}
use Rattle.in_reducer.specs.Machines.{MachineParts, parts_of}
use Rattle.in_reducer.specs.Reducers.{IsReducer}
use Rattle.in_reducer.proofs.Public.{IsAsideBy, as_many_of, is_under, machine_under, map_fixed, map_removed, need_moved, number_below, one_step, other_pair, pair_moved, put_aside, reducer_same, rule_moved, symbol_moved, was_there}
use Rattle.in_reducer.proofs.Public.StepsOn as reducers
use Rattle.in_reducer.specs.Aside.{IsAside, IsReusing}
use Rattle.in_reducer.specs.Same.{IsSameMachine, StepsUpToNumbers}
use Rattle.in_reusing.specs.InPlace.{CanReuse}
use Rattle.in_reusing.specs.StepsInPlace.{StepsInPlace, StepsInPlaceAreSteps, StepsInPlaceAreSame}
use Rattle.in_reusing.proofs.InPlace.{can_m, side_m, side_n, steps}

module _ (name : ℕ → ℕ) where
  -- more than the names of these
  top : List ℕ → ℕ
  top [] = 0
  top (k ∷ ks) = suc (name k) + top ks

  below_top : (ks : List ℕ) (k : ℕ) → IsAmong k ks → name k < top ks
  unfolding top
  below_top [] k a = absurd a
  below_top (l ∷ ks) k (inl e) = let same : name l ≡ name k = ap name e in omega (arith, same)
  below_top (l ∷ ks) k (inr a) = let h = below_top ks k a in omega (arith, h)

module _ (m o : MachineParts) (i : ℕ) (reducer : IsReducer m) (h : StepsInPlace m i o) where
  abbrev t : Tables
  t = m.program.tables

  abbrev a : ℕ
  a = h.pair.0

  abbrev b : ℕ
  b = h.pair.1

  abbrev r : RuleParts
  r = h.rule

  abbrev before : Net ℕ
  before = net_of (parts_of m)

  abbrev x : Redex ℕ ℕ
  x = redex_at r a b

  net : IsNet (signature_of t) before
  net = reducers.net_at m reducer

  inside : IsNet (signature_of t) (net_of r.member)
  inside = reducers.member_net m reducer h.number r h.is_rule.stands

  redex : IsRedex (signature_of t) before x
  redex = reducers.redex m reducer (agents_at h.pair).0 (agents_at h.pair).1 h.active h.number r h.is_rule

  -- ---- the pair aside

  far : ℕ
  far = length m.agents + top h.name inside.agents

  none_beyond : (y : ℕ) → length m.agents ≤ y → before.symbol y ≡ None
  none_beyond y l = go (before.symbol y) refl
    where
      go : (k : Option ℕ) → before.symbol y ≡ k → before.symbol y ≡ None
      go None e = e
      go (Some s) e = absurd (let less = number_below (parts_of m) y (there (before.symbol y) s e) in omega (arith, less, l))

  no_far : before.symbol far ≡ None
  unfolding far
  no_far = none_beyond far (omega arith)

  no_next : before.symbol (suc far) ≡ None
  unfolding far
  no_next = none_beyond (suc far) (omega arith)

  name_near : (k s : ℕ) → (net_of r.member).symbol k ≡ Some s → h.name k < far
  unfolding far
  name_near k s e = let l = below_top h.name inside.agents k (inside.all k (there ((net_of r.member).symbol k) s e)) in omega (arith, l)

  other : far ≢ suc far
  other e = omega (arith, e)

  moved : (f : ℕ → ℕ) × IsAsideBy m a b far (suc far) f
  moved = put_aside m a b far (suc far) redex.differ other no_far no_next

  abbrev f : ℕ → ℕ
  f = moved.0

  abbrev s : MachineParts
  s = machine_under f m

  same : IsSameMachine f m s
  same = is_under f m moved.1.apart

  s_reducer : IsReducer s
  s_reducer = reducer_same m s reducer f same

  aside : IsAside before (net_of (parts_of s)) x f
  aside = record { renamed = same.net; stays = moved.1.old }

  reusing : IsReusing before x f h.name
  reusing = record {
    in_place = h.naming;
    aside = λ k k' e. (
      (λ d. (let l = name_near k k' e in let z = moved.1.one in omega (arith, d, l, z))),
      (λ d. (let l = name_near k k' e in let z = moved.1.two in omega (arith, d, l, z))),
    );
  }

  can : CanReuse (signature_of t) before x f h.name
  can = record { net = net; inside = inside; redex = redex; none_back = h.none_back; reusing = reusing; beside = (ap before.symbol moved.1.one ∙ no_far, ap before.symbol moved.1.two ∙ no_next) }

  step : IsStep (signature_of t) (net_of (parts_of s)) (redex_at r (f a) (f b)) h.name (net_of (parts_of o))
  step = steps (signature_of t) before (net_of (parts_of s)) x f h.name can aside (net_of (parts_of o)) h.over

  -- ---- the pairs that its wires make

  abbrev fa : AgentNo
  fa = (agents_at (both f h.pair)).0

  abbrev fb : AgentNo
  fb = (agents_at (both f h.pair)).1

  symbol_forth : (y : AgentNo) (k : SymbolNo) → HasSymbolAfter (parts_of m) r (agents_at h.pair).0 (agents_at h.pair).1 h.name y k → HasSymbolAfter (parts_of s) r fa fb h.name y k
  symbol_forth y k (inr new) = inr new
  symbol_forth y k (inl old) =
      let not_a : y.0 ≢ a = λ e. old.0 (agent_same y (agents_at h.pair).0 e) in
      let not_b : y.0 ≢ b = λ e. old.1 (agent_same y (agents_at h.pair).1 e) in
      let live = symbol_number (symbol_in (parts_of m) y.0) k old.2 in
      let out : (z : ℕ) → before.symbol z ≡ None → y.0 ≢ z = λ z none e. (let w : ◌≡◌ {A = Option ℕ} None (Some k.0) = sym none ∙ ap before.symbol (sym e) ∙ live in cc) in
      inl (
        (λ e. out far no_far (ap (λ (z : AgentNo). z.0) e ∙ moved.1.one)),
        (λ e. out (suc far) no_next (ap (λ (z : AgentNo). z.0) e ∙ moved.1.two)),
        ap (symbol_in (parts_of s)) (sym (moved.1.old y.0 not_a not_b)) ∙ symbol_moved f (parts_of m) (parts_of s) same.net y.0 k old.2,
      )

  symbol_back : (y : AgentNo) (k : SymbolNo) → HasSymbolAfter (parts_of s) r fa fb h.name y k → HasSymbolAfter (parts_of m) r (agents_at h.pair).0 (agents_at h.pair).1 h.name y k
  symbol_back y k (inr new) = inr new
  symbol_back y k (inl old) =
      let z = (same.net.agents y.0 k.0).0 (symbol_number (symbol_in (parts_of s) y.0) k old.2) in
      let not_a : z.0 ≢ a = λ e. old.0 (agent_same y fa (sym z.1 ∙ ap f e)) in
      let not_b : z.0 ≢ b = λ e. old.1 (agent_same y fb (sym z.1 ∙ ap f e)) in
      let is_y : z.0 ≡ y.0 = sym (moved.1.old z.0 not_a not_b) ∙ z.1 in
      inl (
        (λ e. not_a (is_y ∙ ap (λ (z : AgentNo). z.0) e)),
        (λ e. not_b (is_y ∙ ap (λ (z : AgentNo). z.0) e)),
        symbol_is (symbol_in (parts_of m) y.0) k (ap before.symbol (sym is_y) ∙ z.2),
      )

  forth : (p : Point ℕ) (u : Point ℕ) → IsSideAt (signature_of t) before x h.name p u → IsSideAt (signature_of t) (net_of (parts_of s)) (redex_at r (f a) (f b)) h.name p u
  forth = side_m (signature_of t) before (net_of (parts_of s)) x f h.name can aside

  back : (p : Point ℕ) (u : Point ℕ) → IsSideAt (signature_of t) (net_of (parts_of s)) (redex_at r (f a) (f b)) h.name p u → IsSideAt (signature_of t) before x h.name p u
  back = side_n (signature_of t) before (net_of (parts_of s)) x f h.name can aside

  wire_forth : (w : ℕ × Point ℕ) (q : AgentNo × AgentNo) → IsMadeByWire t (parts_of m) r (agents_at h.pair).0 (agents_at h.pair).1 h.name w q → IsMadeByWire t (parts_of s) r fa fb h.name w q
  wire_forth w q d = record {
    first = d.first;
    second = d.second;
    one = symbol_forth q.0 d.first d.one;
    two = symbol_forth q.1 d.second d.two;
    sides = elim d.sides [
      | inl z ↦ inl (forth (Free w.0) (Port q.0.0 0) z.0, forth w.1 (Port q.1.0 0) z.1)
      | inr z ↦ inr (forth (Free w.0) (Port q.1.0 0) z.0, forth w.1 (Port q.0.0 0) z.1)
    ];
    order = d.order;
  }

  wire_back : (w : ℕ × Point ℕ) (q : AgentNo × AgentNo) → IsMadeByWire t (parts_of s) r fa fb h.name w q → IsMadeByWire t (parts_of m) r (agents_at h.pair).0 (agents_at h.pair).1 h.name w q
  wire_back w q d = record {
    first = d.first;
    second = d.second;
    one = symbol_back q.0 d.first d.one;
    two = symbol_back q.1 d.second d.two;
    sides = elim d.sides [
      | inl z ↦ inl (back (Free w.0) (Port q.0.0 0) z.0, back w.1 (Port q.1.0 0) z.1)
      | inr z ↦ inr (back (Free w.0) (Port q.1.0 0) z.0, back w.1 (Port q.0.0 0) z.1)
    ];
    order = d.order;
  }

  in_turn : (ws : List (ℕ × Point ℕ)) (qs : List (AgentNo × AgentNo)) → MakeInTurn t (parts_of m) r (agents_at h.pair).0 (agents_at h.pair).1 h.name ws qs → MakeInTurn t (parts_of s) r fa fb h.name ws qs
  in_turn [] [] of_none = of_none
  in_turn [] (q ∷ qs) d = elim d [ ]
  in_turn (w ∷ ws) (q ∷ qs) (with_one _ _ _ _ d rest) = with_one w ws q qs (wire_forth w q d) (in_turn ws qs rest)
  in_turn (w ∷ ws) qs (without _ _ _ none rest) = without w ws qs (λ q d. none q (wire_back w q d)) (in_turn ws qs rest)

  abbrev made : List (AgentNo × AgentNo)
  made = h.made ++ map (λ q. agents_at (both h.name q)) h.own

  new : AreMade t (parts_of s) r fa fb h.name made
  new =
      wires_make_all_pairs t (parts_of s) r fa fb h.name h.wires h.made h.own (can_m (signature_of t) before (net_of (parts_of s)) x f h.name can aside) h.are_wires
      (in_turn h.wires h.made h.in_turn) h.are_own

  -- ---- the step

  left : remove s.queue i ≡ remove m.queue i
  left =
      map_removed (both f) m.queue i
      ∙ map_fixed (both f) (remove m.queue i) (λ k q e. (
      let w = was_there m.queue i k q e in
      let d = other_pair t (parts_of m) (agents_at h.pair).0 (agents_at h.pair).1 m.queue i net reducer.queue h.stands w.0 q w.2 w.1 in
      let one : f q.0 ≡ q.0 = moved.1.old q.0 (λ z. d.1 (agent_same (agents_at q).0 (agents_at h.pair).0 z)) (λ z. d.2 (agent_same (agents_at q).0 (agents_at h.pair).1 z)) in
      let two : f q.1 ≡ q.1 = moved.1.old q.1 (λ z. d.3 (agent_same (agents_at q).1 (agents_at h.pair).0 z)) (λ z. d.4 (agent_same (agents_at q).1 (agents_at h.pair).1 z)) in
      ap (λ (z : ℕ). let w : ℕ × ℕ = (z, f q.1) in w) one ∙ ap (λ (z : ℕ). let w : ℕ × ℕ = (q.0, z) in w) two
      ))

  cells_are : (c : CellClass) → count_of o.vacant c + agents_of t c o.agents ≡ count_of m.vacant c + agents_of t c s.agents
  cells_are c = h.cells c ∙ ap (λ (k : ℕ). count_of m.vacant c + k) (as_many_of t c f (parts_of m) (parts_of s) same.net)

  pub in_place : StepsUpToNumbers m i o
  in_place = (
    s,
    (f, same),
    record {
      pair = both f h.pair;
      stands = pair_moved f m s same i h.pair h.stands;
      active = record {
        first = h.active.first;
        second = h.active.second;
        one = symbol_moved f (parts_of m) (parts_of s) same.net a h.active.first h.active.one;
        two = symbol_moved f (parts_of m) (parts_of s) same.net b h.active.second h.active.two;
        active = (s_reducer.queue.pairs i (both f h.pair) (pair_moved f m s same i h.pair h.stands)).active;
        constructor = h.active.constructor;
      };
      room = (h.room.0, need_moved f m s same i h.room.0 h.room.1, h.room.2);
      name = h.name;
      step = record {
        number = h.number;
        rule = r;
        is_rule = rule_moved f m s same h.pair h.number r h.is_rule;
        acts = record { step = step; over = h.shown; names = h.names ∙ sym same.names };
        program = h.program;
      };
      made = made;
      new = new;
      queue = h.queue ∙ ap (λ (z : List (ℕ × ℕ)). z ++ map numbers_of made) (sym left);
      cells = cells_are;
    },
  )

pub steps_in_place_are_steps : StepsInPlaceAreSteps
steps_in_place_are_steps m o i reducer h = in_place m o i reducer h

pub steps_in_place_are_same : StepsInPlaceAreSame
steps_in_place_are_same m n o i reducer h g = one_step m n o i reducer (in_place m n i reducer h) (in_place m o i reducer g)
