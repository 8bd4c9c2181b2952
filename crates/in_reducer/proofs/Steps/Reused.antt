-- An interaction of a reducer whose new agents may be in the cells of the pair: the goals of its steps, and its result. It is one of the reducer in
-- which the pair has numbers of no cell.
use Rattle.std.proofs.Common.{◌≡◌, ◌≢◌, ◌≤◌, ◌+◌, ℕ, suc, true, List, ◌++◌, map, take, remove, length, length-append, Option, Some, None, refl, sym, ap, subst, ◌∙◌, append_assoc, arith}
use Rattle.std.proofs.lemmas.List.{length-map, length-set, take_all}
use Rattle.std.specs.Prelude.{option_map, IsTrue}
use Rattle.in_arena.specs.declared.content.CellCounts.{CellCounts}
use Rattle.in_base.proofs.Places.{to_mapped, is_some as there}
use Rattle.in_arena.specs.Arenas.{ArenaView, NoneLeased, changed, state_at}
use Rattle.in_arena.specs.Changes.{HasAllCells}
use Rattle.in_arena.specs.Classes.{IsNumberOf, all_of, amount}
use Rattle.in_arena.specs.States.{Vacant, word_of}
use Rattle.in_arena.specs.declared.content.CellClass.{CellClass}
use Rattle.in_arena.specs.declared.content.CellNo.{CellNo}
use Rattle.in_arena.specs.declared.content.End.{End}
use Rattle.in_arena.proofs.Public.{class_of_number, counts_alike, live_inside, word_live}
use Rattle.in_syntax.specs.declared.symbol_no.SymbolNo.{SymbolNo}
use Rattle.in_symbols.specs.Tables.{Tables}
use Rattle.in_net.specs.declared.nets.AgentNo.{AgentNo}
use Rattle.in_net.specs.declared.nets.FreeEnd.{FreeEnd}
use Rattle.in_net.specs.Interactions.{IsStep, IsRedex, redex_at}
use Rattle.in_net.specs.Nets.{Point, net_of, point_of, signature_of}
use Rattle.in_interaction.specs.Interacting.{InteractsAs}
use Rattle.in_interaction.specs.Made.{AreMade, AreMadeOverEnds}
use Rattle.in_interaction.specs.Queues.{agents_at, both, numbers_of}
use Rattle.in_interaction.proofs.Public.{agent_same, made_numbers}
use Rattle.in_check.specs.Plain.{IsPairAt, IsRuleAt}
use Rattle.in_check.specs.Runs.{IsInteraction}
use Rattle.in_check.specs.Systems.{IsSound, rule_in, system_of}
use Rattle.in_check.proofs.Public.{is_sound}
use Rattle.in_order.proofs.Public.{sound_steps}
use Rattle.in_cells.specs.Between.{IsDone}
use Rattle.in_cells.specs.Shown.{IsShown}
use Rattle.in_cells.proofs.Public.{shown_is_step}
use Rattle.in_compile.specs.Cells.{count_of, is_of}
use Rattle.in_compile.specs.Templates.{TemplateParts}
use Rattle.in_compile.specs.Wires.{over_of, over_point}
use Rattle.in_compile.proofs.Public.{one_class, over_ends}
use Rattle.in_overwriting.specs.MadeByWires.{MakeInTurn}
use Rattle.in_overwriting.proofs.Public.{wires_make_pairs_in_turn}
use Rattle.in_reducer.specs.declared.body.Body.{Body}
use Rattle.in_reducer.specs.declared.sides.Pair.{Pair}
use Rattle.in_reducer.specs.Inside.{KeepsNet, most_points, own_free, reducer_view}
use Rattle.in_reducer.specs.Interacting.{IsAbout, PairSetting, interaction_of, named}
use Rattle.in_reducer.specs.Machines.{MachineParts, parts_of, plain_of}
use Rattle.in_reducer.specs.Reducers.{IsReducer}
use Rattle.in_reducer.specs.Same.{IsSameMachine, StepsUpToNumbers}
use Rattle.in_reducer.specs.Standing.{IsNetIn, agent_in, agents_in, at_rest, leading_to, vacant_in}
use Rattle.in_reducer.specs.Steps.{HasRoomAt, StepsAt}
use Rattle.in_reducer.specs.Templates.{IsTemplateAt}
use Rattle.in_reducer.specs.Wiring.{CanWireAnew, IsSetAside, IsWiredAnew, IsWiring, aside_of, retired, wires_of}
use Rattle.in_reducer.proofs.Cells.AsMany.{as_many_of}
use Rattle.in_reducer.proofs.Cells.Counted.{cells_at_rest}
use Rattle.in_reducer.proofs.Cells.Shown.{is_over, is_shown, same_kinds, same_names, seen}
use Rattle.in_reducer.proofs.Numbers.Before.{IsAsideBy, number_below, put_aside}
use Rattle.in_reducer.proofs.Numbers.OfSame.{reducer_same}
use Rattle.in_reducer.proofs.Numbers.Renamed.{is_under, machine_under}
use Rattle.in_reducer.proofs.Numbers.SameStep.{map_fixed, map_removed, need_moved, pair_moved, rule_moved}
use Rattle.in_reducer.proofs.Pairs.Queues.{short_queue}
use Rattle.in_reducer.proofs.Pairs.Requeued.{other_pair, was_there}
use Rattle.in_reducer.proofs.Starts.Started.{symbol_moved}
use Rattle.in_reducer.proofs.Steps.CanWire as can
use Rattle.in_reducer.proofs.Steps.StillNet as still
use Rattle.in_reducer.proofs.Steps.Stepped as stepped
use Rattle.in_reducer.proofs.Steps.StepsOn as steps

-- the cell of an agent is of its symbol's class
of_its_class : (t : Tables) (a : ArenaView) → IsNetIn t (at_rest a) → HasAllCells a → (n s : ℕ) → word_of (state_at a n) ≡ Some s → (c : CellClass) → is_of t c s ≡ true → IsNumberOf a.cells c n
of_its_class t a net all n s word c is =
    let low = live_inside a n (word_live (state_at a n) s word) in
    let d = class_of_number a.cells n (omega (arith, low, all)) in
    subst (λ (z : CellClass). IsNumberOf a.cells z n) (one_class _ d.0 c (still.good_of t a net n d.0 s d.1 word) is) d.1

module _ (r : Body) (k : KeepsNet r) (i : ℕ) (p : TemplateParts) (at : IsTemplateAt (reducer_view r) i p) where
  abbrev t : Tables
  t = r.checked.now.program.tables

  abbrev m : MachineParts
  m = reducer_view r

  abbrev a : ℕ
  a = at.pair.0

  abbrev b : ℕ
  b = at.pair.1

  abbrev pub setting : PairSetting
  setting = stepped.setting r k i p at

  -- ---- the pair aside

  none_beyond : (y : ℕ) → length r.arena.states ≤ y → (net_of (parts_of m)).symbol y ≡ None
  none_beyond y l = go ((net_of (parts_of m)).symbol y) refl
    where
      go : (o : Option ℕ) → (net_of (parts_of m)).symbol y ≡ o → (net_of (parts_of m)).symbol y ≡ None
      go None e = e
      go (Some s) e = absurd (let less = number_below (parts_of m) y (there ((net_of (parts_of m)).symbol y) s e) in let all = length-map r.arena.states agent_in in omega (arith, less, all, l))

  no_one : (net_of (parts_of m)).symbol (length r.arena.states) ≡ None
  no_one = none_beyond (length r.arena.states) (omega arith)

  no_two : (net_of (parts_of m)).symbol (suc (length r.arena.states)) ≡ None
  no_two = none_beyond (suc (length r.arena.states)) (omega arith)

  differ : a ≢ b
  differ = (steps.redex m k.reducer (agents_at at.pair).0 (agents_at at.pair).1 at.active at.number at.rule at.is_rule).differ

  next_other : length r.arena.states ≢ suc (length r.arena.states)
  next_other e = omega (arith, e)

  pub moved : (f : ℕ → ℕ) × IsAsideBy m a b (length r.arena.states) (suc (length r.arena.states)) f
  moved = put_aside m a b (length r.arena.states) (suc (length r.arena.states)) differ next_other no_one no_two

  abbrev pub f : ℕ → ℕ
  f = moved.0

  abbrev pub s : MachineParts
  s = machine_under f m

  same : IsSameMachine f m s
  same = is_under f m moved.1.apart

  s_reducer : IsReducer s
  s_reducer = reducer_same m s k.reducer f same

  abbrev fa : AgentNo
  fa = (agents_at (both f at.pair)).0

  abbrev fb : AgentNo
  fb = (agents_at (both f at.pair)).1

  active : IsPairAt (plain_of s) fa fb
  active = record {
    first = at.active.first;
    second = at.active.second;
    one = symbol_moved f (parts_of m) (parts_of s) same.net a at.active.first at.active.one;
    two = symbol_moved f (parts_of m) (parts_of s) same.net b at.active.second at.active.two;
    active = (s_reducer.queue.pairs i (both f at.pair) (pair_moved f m s same i at.pair at.stands)).active;
    constructor = at.active.constructor;
  }

  is_rule : IsRuleAt (plain_of s) fa fb at.number at.rule
  is_rule = rule_moved f m s same at.pair at.number at.rule at.is_rule

  redex : IsRedex (signature_of t) (net_of (parts_of s)) (redex_at at.rule (f a) (f b))
  redex = steps.redex s s_reducer fa fb active at.number at.rule is_rule

  pub set : IsSetAside t setting r.arena (parts_of s) f
  set = record {
    aside = record { renamed = same.net; stays = moved.1.old };
    net = s_reducer.net.sound.net;
    typed = s_reducer.net.sound.typed;
    redex = redex;
    one = (let e = moved.1.one in omega (arith, e));
    two = (let e = moved.1.two in omega (arith, e));
  }

  -- ---- the results of the interaction

  module _ (room : HasRoomAt m i) (none : NoneLeased r.arena) (all : HasAllCells r.arena) (pair : Pair) (own : ℕ) (ends : List End) (tables : Tables) (is_tables : tables ≡ t) (about : IsAbout tables setting p pair own r.arena ends) where
    one_word : word_of (state_at r.arena pair.one.0) ≡ Some at.rule.heads.0.0
    one_word = ap (λ y. word_of (state_at r.arena y)) about.one ∙ sym (about.shown.agents a) ∙ about.redex.one

    other_word : word_of (state_at r.arena pair.other.0) ≡ Some at.rule.heads.1.0
    other_word = ap (λ y. word_of (state_at r.arena y)) about.two ∙ sym (about.shown.agents b) ∙ about.redex.two

    pub can_wire_anew : IsTrue p.unmarked → (points : List End) → most_points ≤ length points → CanWireAnew tables p pair r.arena ends points
    can_wire_anew unmarked points long = record {
      setting = setting;
      own = own;
      about = about;
      aside = (parts_of s, f, subst (λ (u : Tables). IsSetAside u setting r.arena (parts_of s) f) (sym is_tables) set);
      classed = (
        of_its_class t r.arena k.net all pair.one.0 at.rule.heads.0.0 one_word p.classes.0 at.template.classes.0,
        of_its_class t r.arena k.net all pair.other.0 at.rule.heads.1.0 other_word p.classes.1 at.template.classes.1,
      );
      unmarked = unmarked;
      begin = record { all = all; free = stepped.enough r k i p at none room; few = stepped.few_agents r k i p at; long = long };
      few = stepped.few_joints r k i p at;
    }

  -- ---- its result

  module _ (room : HasRoomAt m i) (none : NoneLeased r.arena) (pair : Pair) (own : ℕ) (is_own : own ≡ length (own_free r)) (ends : List End) (about : IsAbout t setting p pair own r.arena ends)
      (old : List (ℕ × ℕ)) (c : ArenaView) (es points : List End) (middle : List (ℕ × ℕ)) (up : IsWiredAnew t p pair r.arena ends old c es points middle) where
    abbrev ns : List CellNo
    ns = up.cells

    wiring : IsWiring t (aside_of setting (parts_of s) f) p own ns points (length (wires_of p.member)) c es
    wiring = up.written setting own (parts_of s) f about set

    done : IsDone t (interaction_of (aside_of setting (parts_of s) f) ns) own c es
    done = can.is_done t (aside_of setting (parts_of s) f) p own ns points c es wiring

    abbrev qs : List (AgentNo × AgentNo)
    qs = (up.queued setting own (parts_of s) f about set).0

    over_many : length (over_of p.member) ≡ length (map over_point (over_of p.member))
    over_many = sym (length-map (over_of p.member) over_point)

    in_turn : MakeInTurn t (parts_of s) at.rule fa fb (named ns) (map over_point (over_of p.member)) qs
    in_turn =
        subst (λ (ws : List (ℕ × Point ℕ)). MakeInTurn t (parts_of s) at.rule fa fb (named ns) ws qs)
        (take_all (length (over_of p.member)) (map over_point (over_of p.member)) (let l = over_many in omega (arith, l))) (up.queued setting own (parts_of s) f about set).1

    over : AreMadeOverEnds t (parts_of s) at.rule fa fb (named ns) qs
    over =
        (wires_make_pairs_in_turn t (parts_of s) at.rule fa fb (named ns) (map over_point (over_of p.member)) qs wiring.from.can
        (over_ends t at.rule.member p.member at.template.member)).0 in_turn

    -- ---- the cells

    abbrev gone : ArenaView
    gone = retired pair r.arena

    gone_many : length gone.states ≡ length r.arena.states
    gone_many = length-set (changed r.arena pair.one.0 Vacant).states pair.other.0 Vacant ∙ length-set r.arena.states pair.one.0 Vacant

    as_many : length c.states ≡ length r.arena.states
    as_many = still.as_many up.middle c up.kept ∙ up.begun.many ∙ gone_many

    pub cells : c.cells ≡ r.arena.cells
    cells = up.kept.cells ∙ up.begun.cells

    pub memory : c.memory ≡ r.arena.memory
    memory = up.kept.memory ∙ up.begun.memory

    gone_net : IsNetIn t (at_rest gone)
    gone_net =
        let first = still.retired_good t r.arena r.arena pair.one.0 refl up.live.0 (still.good_of t r.arena k.net) in
        let second = still.retired_good t r.arena (changed r.arena pair.one.0 Vacant) pair.other.0 (length-set r.arena.states pair.one.0 Vacant) up.live.1 first in
        still.net_in t r.arena gone k.net.all refl gone_many second

    pub net : IsNetIn t (at_rest c)
    net =
        let good = still.begun_good t at.rule.member at.is_rule.over.member p.member at.template.member ns gone up.middle up.begun gone_net in
        still.net_in t gone c gone_net.all cells (still.as_many up.middle c up.kept ∙ up.begun.many) (still.kept_good up.middle c up.kept t gone good)

    pub none_leased : NoneLeased c
    none_leased =
        let none_gone : NoneLeased gone = still.still_unleased r.arena gone
        (still.alike_through r.arena (changed r.arena pair.one.0 Vacant) gone (still.retired_alike r.arena (changed r.arena pair.one.0 Vacant) pair.one.0 up.live.0 refl)
        (still.retired_alike (changed r.arena pair.one.0 Vacant) gone pair.other.0 up.live.1 refl)) none in
        still.still_unleased up.middle c (still.kept_alike up.middle c up.kept) (still.begun_unleased t at.rule.member at.is_rule.over.member p.member at.template.member ns gone up.middle up.begun none_gone)

    module _ (long : length es ≡ length r.ends.items) where
      -- ---- the net

      abbrev fs : List FreeEnd
      fs = own_free r

      fits_ends : length (own_free r) ≤ length r.ends.items
      fits_ends = let e = k.ends in let l = stepped.own_many r k i p at in omega (arith, e, l)

      still_fits : length (own_free r) ≤ length es
      still_fits = let e = fits_ends in omega (arith, e, long)

      shown : IsShown c (take own es) (net_of (seen c (own_free r) es))
      shown = subst (λ (n : ℕ). IsShown c (take n es) (net_of (seen c (own_free r) es))) (sym is_own) (is_shown c (own_free r) es)

      step : IsStep (signature_of t) (net_of (parts_of s)) (redex_at at.rule (f a) (f b)) (named ns) (net_of (seen c (own_free r) es))
      step = shown_is_step t (interaction_of (aside_of setting (parts_of s) f) ns) own c es (net_of (seen c (own_free r) es)) done shown
          (same_kinds fs es still_fits ∙ sym (same_kinds fs r.ends.items fits_ends) ∙ sym same.net.free)

      sound : IsSound (system_of r.checked.now.program) (net_of (seen c (own_free r) es))
      sound =
          sound_steps (system_of r.checked.now.program) (net_of (parts_of s)) (redex_at at.rule (f a) (f b)) (named ns) (net_of (seen c (own_free r) es))
          (is_sound k.reducer.accepted.0 k.reducer.accepted.1 r.checked.now.program k.reducer.accepted.2) s_reducer.net.sound act
        where
          act : IsInteraction (system_of r.checked.now.program) (net_of (parts_of s)) (redex_at at.rule (f a) (f b)) (named ns) (net_of (seen c (own_free r) es))
          act = record {
            at = record {
              one = ap (option_map (λ (s : SymbolNo). s.0)) is_rule.one;
              two = ap (option_map (λ (s : SymbolNo). s.0)) is_rule.two;
              active = ap (option_map point_of) active.active;
              rule = (at.number, to_mapped rule_in r.checked.now.program.rules at.number at.rule at.is_rule.stands);
            };
            step = step;
          }

      acts : InteractsAs t (parts_of s) at.rule fa fb (named ns) (seen c (own_free r) es)
      acts = record {
        step = step;
        over = is_over t c fs es sound.net sound.within;
        names = same_names fs es still_fits ∙ sym (same_names fs r.ends.items fits_ends) ∙ sym same.names;
      }

      abbrev news : List (AgentNo × AgentNo)
      news = qs ++ map (λ (z : ℕ × ℕ). agents_at (both (named ns) z)) p.member.pairs

      are_made : AreMade t (parts_of s) at.rule fa fb (named ns) news
      are_made = record { over = qs; own = p.member.pairs; are_over = over; are_own = at.template.member.pairs; listed = refl }

      abbrev pub after : List (ℕ × ℕ) → MachineParts
      after queue = record { program = r.checked.now.program; agents = agents_in c; free = leading_to (own_free r) es; queue = queue; vacant = vacant_in (at_rest c) }

      abbrev final : List (ℕ × ℕ)
      final = remove r.queue.items i ++ map numbers_of news

      -- no other pair has the numbers of this one
      left : remove s.queue i ≡ remove r.queue.items i
      left =
          map_removed (both f) m.queue i
          ∙ map_fixed (both f) (remove m.queue i) (λ j q e. (
          let w = was_there m.queue i j q e in
          let d = other_pair t (parts_of m) (agents_at at.pair).0 (agents_at at.pair).1 m.queue i k.reducer.net.sound.net k.reducer.queue at.stands w.0 q w.2 w.1 in
          let one : f q.0 ≡ q.0 = moved.1.old q.0 (λ z. d.1 (agent_same (agents_at q).0 (agents_at at.pair).0 z)) (λ z. d.2 (agent_same (agents_at q).0 (agents_at at.pair).1 z)) in
          let two : f q.1 ≡ q.1 = moved.1.old q.1 (λ z. d.3 (agent_same (agents_at q).1 (agents_at at.pair).0 z)) (λ z. d.4 (agent_same (agents_at q).1 (agents_at at.pair).1 z)) in
          ap (λ (z : ℕ). let w : ℕ × ℕ = (z, f q.1) in w) one ∙ ap (λ (z : ℕ). let w : ℕ × ℕ = (q.0, z) in w) two
          ))

      is_step : StepsAt s i (after final)
      is_step = record {
        pair = both f at.pair;
        stands = pair_moved f m s same i at.pair at.stands;
        active = active;
        room = (room.0, need_moved f m s same i room.0 room.1, room.2);
        name = named ns;
        step = record { number = at.number; rule = at.rule; is_rule = is_rule; acts = acts; program = refl };
        made = news;
        new = are_made;
        queue = ap (λ (z : List (ℕ × ℕ)). z ++ map numbers_of news) (sym left);
        cells = λ d. cells_at_rest t c net d ∙ ap (λ (z : CellCounts). amount z d) cells ∙ sym (cells_at_rest t r.arena k.net d) ∙ ap (λ (n : ℕ). count_of m.vacant d + n) (as_many_of t d f (parts_of m) (parts_of s) same.net);
      }

      reducer_after : IsReducer (after final)
      reducer_after = steps.reducer_on s (after final) i s_reducer is_step

      -- ---- the queue

      module _ (removed : old ≡ remove r.queue.items i) where
        is_middle : middle ≡ remove r.queue.items i ++ map numbers_of qs
        is_middle = (up.queued setting own (parts_of s) f about set).2 ∙ ap (λ (z : List (ℕ × ℕ)). z ++ map numbers_of qs) removed

        all_queued : middle ++ map (both (named ns)) p.member.pairs ≡ final
        unfolding are_made
        all_queued =
            ap (λ (z : List (ℕ × ℕ)). z ++ map (both (named ns)) p.member.pairs) is_middle
            ∙ append_assoc (remove r.queue.items i) (map numbers_of qs) (map (both (named ns)) p.member.pairs)
            ∙ ap (λ (z : List (ℕ × ℕ)). remove r.queue.items i ++ z) (sym (made_numbers t (parts_of s) at.rule fa fb (named ns) news are_made))

        -- there is room for the pairs of the right member
        pub own_room : length middle + length p.member.pairs ≤ r.queue.room
        own_room =
            let short = short_queue (after final) reducer_after in
            let many = counts_alike reducer_after.cells.0 c.cells (λ d. sym (reducer_after.cells.2 d) ∙ cells_at_rest t c net d) in
            let room = k.queue in
            let same_long = ap length all_queued in
            let a = length-append middle (map (both (named ns)) p.member.pairs) in
            let d = length-map p.member.pairs (both (named ns)) in
            let same_cells = ap all_of cells in
            omega (arith, short, many, room, same_long, a, d, same_cells)

        module _ (queue : List (ℕ × ℕ)) (is_queue : queue ≡ middle ++ map (both (named ns)) p.member.pairs) (zs : List End) (is : zs ≡ es) where
          abbrev pub reused : MachineParts
          reused = record { program = r.checked.now.program; agents = agents_in c; free = leading_to (own_free r) zs; queue = queue; vacant = vacant_in (at_rest c) }

          is_reused : after final ≡ reused
          is_reused =
              ap after (sym (is_queue ∙ all_queued))
              ∙ ap (λ (z : List End). let w : MachineParts = record { program = r.checked.now.program; agents = agents_in c; free = leading_to (own_free r) z; queue = queue; vacant = vacant_in (at_rest c) } in w) (sym is)

          pub up_to_numbers : StepsUpToNumbers m i reused
          up_to_numbers = subst (λ (z : MachineParts). StepsUpToNumbers m i z) is_reused (s, (f, same), is_step)

          pub is_reducer : IsReducer reused
          is_reducer = subst IsReducer is_reused reducer_after
