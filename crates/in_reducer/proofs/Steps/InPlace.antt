-- An interaction in place, of a pair of a reducer: the goals of its steps, and its result.
use Rattle.std.proofs.Common.{◌≡◌, ◌≤◌, ◌+◌, ℕ, List, [], ◌++◌, map, remove, reverse, length, length-append, get_or, refl, sym, ap, subst, ◌∙◌, arith}
use Rattle.std.proofs.lemmas.List.{length-map, length-reverse, length-set, take_all}
use Rattle.std.proofs.lemmas.List.Edits.{length-remove}
use Rattle.std.specs.Prelude.{IsTrue}
use Rattle.std.proofs.lemmas.Option.{same_Some, slice_get_within, slice_get_read}
use Rattle.in_arena.proofs.Public.{counts_alike}
use Rattle.in_arena.specs.Arenas.{ArenaView, NoneLeased, changed}
use Rattle.in_arena.specs.Changes.{HasAllCells}
use Rattle.in_arena.specs.States.{Vacant}
use Rattle.in_arena.specs.declared.content.CellNo.{CellNo}
use Rattle.in_arena.specs.declared.content.End.{End}
use Rattle.in_symbols.specs.Tables.{Tables}
use Rattle.in_net.specs.declared.nets.AgentNo.{AgentNo}
use Rattle.in_net.specs.Nets.{Point}
use Rattle.in_interaction.specs.Made.{AreMadeOverEnds}
use Rattle.in_interaction.specs.Queues.{both, numbers_of}
use Rattle.in_compile.specs.Templates.{TemplateParts}
use Rattle.in_compile.specs.Wires.{over_of, over_point}
use Rattle.in_compile.proofs.Public.{over_ends}
use Rattle.in_overwriting.specs.MadeByWires.{MakeInTurn}
use Rattle.in_overwriting.proofs.Public.{wires_make_pairs_in_turn}
use Rattle.in_reducer.specs.declared.body.Body.{Body}
use Rattle.in_reducer.specs.declared.sides.Pair.{Pair}
use Rattle.in_reducer.specs.Inside.{KeepsNet, most_ends, most_points, own_free, reducer_view}
use Rattle.in_reducer.specs.Interacting.{IsAbout, IsInteracted, PairSetting, named}
use Rattle.in_reducer.specs.Machines.{MachineParts}
use Rattle.in_reducer.specs.Reducers.{IsReducer}
use Rattle.in_reducer.specs.Standing.{IsNetIn, AreLeasedAlike, agents_in, at_rest, leading_to, vacant_in}
use Rattle.in_reducer.specs.Steps.{HasRoomAt, StepsAt}
use Rattle.in_reducer.specs.Templates.{IsTemplateAt}
use Rattle.in_reducer.specs.Wiring.{CanWireUp, IsWiredUp, IsWiring, retired, wires_of}
use Rattle.in_reducer.proofs.Cells.Counted.{cells_at_rest}
use Rattle.in_reducer.proofs.Pairs.Queues.{short_queue}
use Rattle.in_reducer.proofs.Steps.CanWire as can
use Rattle.in_reducer.proofs.Steps.StillNet as still
use Rattle.in_reducer.proofs.Steps.Stepped as stepped

module _ (r : Body) (k : KeepsNet r) (i : ℕ) (p : TemplateParts) (at : IsTemplateAt (reducer_view r) i p) where
  abbrev t : Tables
  t = r.checked.now.program.tables

  abbrev pub setting : PairSetting
  setting = stepped.setting r k i p at

  -- as many free ends as named
  abbrev pub own_ends : ℕ
  own_ends = length (own_free r)

  -- the pair that is read of the queue
  module _ (q : ℕ × ℕ) (read : q ≡ get_or r.queue.items i q) (first : ℕ) (is_first : first ≡ p.first_ends) (ends : List End) (is_ends : ends ≡ r.ends.items) where
    abbrev pub pair_read : Pair
    pair_read = record { one = record { 0 = q.0 }; other = record { 0 = q.1 }; first_ends = first }

    same_pair : at.pair ≡ q
    same_pair = same_Some at.pair q (sym at.stands ∙ slice_get_read r.queue.items (length r.queue.items) i q refl (slice_get_within r.queue.items i at.pair at.stands) read)

    pub about_in : (tables : Tables) → tables ≡ t → IsAbout tables setting p pair_read own_ends r.arena ends
    about_in tables same =
        stepped.is_about r k i p at tables same pair_read (ap (λ (z : ℕ × ℕ). z.0) (sym same_pair)) (ap (λ (z : ℕ × ℕ). z.1) (sym same_pair)) is_first own_ends refl ends is_ends

    pub can_wire_up : (tables : Tables) → tables ≡ t → HasRoomAt (reducer_view r) i → NoneLeased r.arena → HasAllCells r.arena → IsTrue p.unmarked → (points : List End) → most_points ≤ length points → CanWireUp tables p pair_read r.arena ends points
    can_wire_up tables same room none all unmarked points long = record {
      about = (setting, own_ends, about_in tables same);
      unmarked = unmarked;
      begin = record { all = all; free = stepped.enough r k i p at none room; few = stepped.few_agents r k i p at; long = long };
      few = stepped.few_joints r k i p at;
    }

  -- one pair fewer and those that an interaction makes fit the queue
  pub over_room : (rest : List (ℕ × ℕ)) → rest ≡ remove r.queue.items i → length rest + most_ends ≤ r.queue.room
  over_room rest same =
      let short = short_queue (reducer_view r) k.reducer in
      let many = counts_alike k.reducer.cells.0 r.arena.cells (λ c. sym (k.reducer.cells.2 c) ∙ cells_at_rest t r.arena k.net c) in
      let room = k.queue in
      let low = slice_get_within r.queue.items i at.pair at.stands in
      let gone = ap length same in
      let fewer = length-remove r.queue.items i low in
      omega (arith, short, many, room, gone, fewer)

  module _ (room : HasRoomAt (reducer_view r) i) (none : NoneLeased r.arena) (pair : Pair) (own : ℕ) (is_own : own ≡ length (own_free r)) (ends : List End) (about : IsAbout t setting p pair own r.arena ends)
      (old : List (ℕ × ℕ)) (a : ArenaView) (es points : List End) (middle : List (ℕ × ℕ)) (up : IsWiredUp t p pair r.arena ends old a es points middle) where
    abbrev ns : List CellNo
    ns = up.cells

    wiring : IsWiring t setting p own ns points (length (wires_of p.member)) a es
    wiring = up.written setting own about

    abbrev pub qs : List (AgentNo × AgentNo)
    qs = (up.queued setting own about).0

    -- the pairs over boundary ends, the last one first
    abbrev made : List (ℕ × ℕ)
    made = map numbers_of (reverse qs)

    over_many : length (over_of p.member) ≡ length (map over_point (over_of p.member))
    over_many = sym (length-map (over_of p.member) over_point)

    in_turn : MakeInTurn t setting.net setting.rule setting.one setting.two (named ns) (map over_point (over_of p.member)) qs
    in_turn =
        subst (λ (ws : List (ℕ × Point ℕ)). MakeInTurn t setting.net setting.rule setting.one setting.two (named ns) ws qs)
        (take_all (length (over_of p.member)) (map over_point (over_of p.member)) (let l = over_many in omega (arith, l))) (up.queued setting own about).1

    over : AreMadeOverEnds t setting.net setting.rule setting.one setting.two (named ns) qs
    over =
        (wires_make_pairs_in_turn t setting.net setting.rule setting.one setting.two (named ns) (map over_point (over_of p.member)) qs wiring.from.can
        (over_ends t at.rule.member p.member at.template.member)).0 in_turn

    module _ (long : length es ≡ length r.ends.items) where
      did : IsInteracted t setting own ns a es [] made
      did = (can.is_done t setting p own ns points a es wiring, (qs, refl, over))

      -- ---- the cells

      abbrev gone : ArenaView
      gone = retired pair up.middle

      as_many : length a.states ≡ length r.arena.states
      as_many =
          still.as_many gone a up.kept ∙ length-set (changed up.middle pair.one.0 Vacant).states pair.other.0 Vacant ∙ length-set up.middle.states pair.one.0 Vacant
          ∙ up.begun.many

      pub cells : a.cells ≡ r.arena.cells
      cells = up.kept.cells ∙ up.begun.cells

      pub memory : a.memory ≡ r.arena.memory
      memory = up.kept.memory ∙ up.begun.memory

      pub net : IsNetIn t (at_rest a)
      net =
          let good = still.begun_good t at.rule.member at.is_rule.over.member p.member at.template.member ns r.arena up.middle up.begun k.net in
          let first = still.retired_good t r.arena up.middle pair.one.0 up.begun.many up.live.0 good in
          let second = still.retired_good t r.arena (changed up.middle pair.one.0 Vacant) pair.other.0 (length-set up.middle.states pair.one.0 Vacant ∙ up.begun.many) up.live.1 first in
          still.net_in t r.arena a k.net.all cells as_many (still.kept_good gone a up.kept t r.arena second)

      alike : AreLeasedAlike up.middle a
      alike =
          still.alike_through up.middle gone a
          (still.alike_through up.middle (changed up.middle pair.one.0 Vacant) gone (still.retired_alike up.middle (changed up.middle pair.one.0 Vacant) pair.one.0 up.live.0 refl)
          (still.retired_alike (changed up.middle pair.one.0 Vacant) gone pair.other.0 up.live.1 refl))
          (still.kept_alike gone a up.kept)

      pub none_leased : NoneLeased a
      none_leased = still.still_unleased up.middle a alike (still.begun_unleased t at.rule.member at.is_rule.over.member p.member at.template.member ns r.arena up.middle up.begun none)

      -- ---- the queue

      module _ (removed : old ≡ remove r.queue.items i) where
        is_middle : middle ≡ old ++ reverse made
        is_middle = (up.queued setting own about).2 ∙ ap (λ (z : List (ℕ × ℕ)). old ++ z) (sym (stepped.turned_back numbers_of qs))

        -- there is room for the pairs of the right member
        pub own_room : length middle + length p.member.pairs ≤ r.queue.room
        own_room =
            let few = stepped.lengths r k i p at room own is_own ns a es made did net cells long in
            let m = ap length is_middle ∙ length-append old (reverse made) in
            let o = ap length removed in
            let l = length-reverse made in
            omega (arith, few, m, o, l)

        module _ (queue : List (ℕ × ℕ)) (is_queue : queue ≡ middle ++ map (both (named ns)) p.member.pairs) where
          final : queue ≡ stepped.final r k i p at room own is_own ns a es made did net cells long
          final = stepped.in_turn r k i p at room own is_own ns a es made did net cells long old middle queue removed is_middle is_queue

          abbrev pub seen : List End → MachineParts
          seen zs = record { program = r.checked.now.program; agents = agents_in a; free = leading_to (own_free r) zs; queue = queue; vacant = vacant_in (at_rest a) }

          pub steps : (zs : List End) → zs ≡ es → StepsAt (reducer_view r) i (seen zs)
          steps zs is = subst (λ (z : List End). StepsAt (reducer_view r) i (seen z)) (sym is)
              (subst (λ (z : List (ℕ × ℕ)). StepsAt (reducer_view r) i (stepped.after r k i p at room own is_own ns a es made did net cells long z)) (sym final)
              (stepped.is_step r k i p at room own is_own ns a es made did net cells long))

          pub is_reducer : (zs : List End) → zs ≡ es → IsReducer (seen zs)
          is_reducer zs is = subst (λ (z : List End). IsReducer (seen z)) (sym is)
              (subst (λ (z : List (ℕ × ℕ)). IsReducer (stepped.after r k i p at room own is_own ns a es made did net cells long z)) (sym final)
              (stepped.reducer_after r k i p at room own is_own ns a es made did net cells long))
