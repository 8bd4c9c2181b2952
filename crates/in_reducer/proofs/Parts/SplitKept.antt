-- The rest and the part are reducers, once a part is split off.
use Rattle.std.proofs.Common.{◌≡◌, ◌⊎◌, inl, inr, ◌≤◌, ◌+◌, ◌*◌, ℕ, true, false, Option, Some, None, IsSome, List, length, map, slice_get, refl, sym, ap, subst, ◌∙◌, arith}
use Rattle.std.specs.List.{filter}
use Rattle.std.proofs.lemmas.List.{length-map}
use Rattle.std.proofs.lemmas.Option.{slice_get_within}
use Rattle.in_arena.specs.Arenas.{ArenaView, NoneLeased, state_at}
use Rattle.in_arena.specs.Classes.{all_of, each}
use Rattle.in_arena.specs.States.{State, Vacant, Leased, Live, IsLive, word_of}
use Rattle.in_arena.specs.declared.content.CellNo.{CellNo}
use Rattle.in_arena.proofs.Public.{each_amount, word_live}
use Rattle.in_symbols.specs.Tables.{Tables}
use Rattle.in_net.specs.declared.nets.FreeEnd.{FreeEnd}
use Rattle.in_net.specs.Nets.{net_of}
use Rattle.in_net.specs.Parts.{Parts}
use Rattle.in_interaction.specs.Queues.{IsQueueOf, both}
use Rattle.in_interaction.proofs.Public.{has_value}
use Rattle.in_check.proofs.Public.{AreOpposed, opposed_in}
use Rattle.in_check.specs.Programs.{Program}
use Rattle.in_cells.specs.Copying.{name_in, number_in}
use Rattle.in_cells.proofs.Public.{NamedOr, live_has_word, named_or, word_moved}
use Rattle.in_gluing.proofs.Public.{net_within}
use Rattle.in_reducer.specs.declared.body.Body.{Body}
use Rattle.in_reducer.specs.declared.body.OwnEnd.{OwnEnd}
use Rattle.in_reducer.specs.declared.tools.Tools.{Tools}
use Rattle.in_reducer.specs.Cutting.{net_in}
use Rattle.in_reducer.specs.Inside.{AreTools, IsOwnEnd, KeepsNet, declared_as, most_free_ends, own_free, reducer_view}
use Rattle.in_reducer.specs.Limiting.{AreAllowed, most_cells}
use Rattle.in_reducer.specs.Machines.{parts_of}
use Rattle.in_reducer.specs.Parting.{CanSplit, IsSplitButQueues, IsSplitOff, ends_of_two}
use Rattle.in_reducer.specs.Reducers.{IsReducer}
use Rattle.in_reducer.specs.Splitting.{ArePicked, goes, is_gone, is_there, stays}
use Rattle.in_reducer.specs.Standing.{AreLeasedAlike}
use Rattle.in_reducer.proofs.Cells.Counted.{cells_at_rest}
use Rattle.in_reducer.proofs.Pairs.Queues.{short_queue}
use Rattle.in_reducer.proofs.Pairs.QueueSplit as queues
use Rattle.in_reducer.proofs.Cells.Shown.{is_over, seen, symbol_seen}
use Rattle.in_reducer.proofs.Parts.SplitBefore as before
use Rattle.in_reducer.proofs.Parts.SplitCells as cells
use Rattle.in_reducer.proofs.Parts.SplitNets as nets
use Rattle.in_reducer.proofs.Parts.SplitNets.{ArePieces, Pieces}
use Rattle.in_reducer.proofs.Starts.StartNet.{no_word}
use Rattle.in_reducer.proofs.Steps.StillNet.{still_none}

-- an arena may have as many cells of each class
pub each_allowed : (n : ℕ) → n ≤ most_cells → AreAllowed (each n)
each_allowed n few = record { small = omega (arith, few); large = omega (arith, few); wide = omega (arith, few) }

-- ---- pairs

either : (x : State) → (is_there x ≡ true) ⊎ (is_gone x ≡ true)
either Vacant = inr refl
either Leased = inr refl
either (Live w es) = inl refl

there_word : (x : State) → is_there x ≡ true → IsSome (word_of x)
there_word Vacant e = let f : false ≡ true = e in cc
there_word Leased e = let f : false ≡ true = e in cc
there_word (Live w es) e = refl

gone_dead : (x : State) → is_gone x ≡ true → IsLive x → ⊥
gone_dead Vacant e h = h
gone_dead Leased e h = h
gone_dead (Live w es) e h = let f : false ≡ true = e in cc

word_live_some : (x : State) → IsSome (word_of x) → IsLive x
word_live_some x h = let w = has_value (word_of x) h in word_live x w.0 w.1

-- free ends that are picked from a program's own ones are its own
pub picked_own : (p : Program) (place : ℕ → ℕ) (n : ℕ) (all picked : List OwnEnd) → ArePicked (λ z. z) place n all picked → ((j : ℕ) (e : OwnEnd) → slice_get all j ≡ Some e → IsOwnEnd p e) → (j : ℕ) (e : OwnEnd) → slice_get picked j ≡ Some e → IsOwnEnd p e
picked_own p place n all picked h own j e at = go (slice_get all (place j)) refl (sym (h.each j (let l = slice_get_within picked j e at in let g = h.count in omega (arith, l, g))) ∙ at)
  where
    go : (o : Option OwnEnd) → slice_get all (place j) ≡ o → elim o [ None ↦ None | Some z ↦ Some z ] ≡ Some e → IsOwnEnd p e
    go None is f = absurd (let g : None ≡ Some e = f in cc)
    go (Some z) is f = own (place j) e (is ∙ f)

-- the tools are of an arena with the same leases
pub tools_stay : (y : Tools) (a b : ArenaView) → AreLeasedAlike a b → AreTools y a → AreTools y b
tools_stay y a b alike tools = record {
  placed = still_none y.placed.bag a b alike tools.placed;
  room = tools.room;
  made = tools.made;
  made_room = tools.made_room;
  points = tools.points;
}

module _ (r : Body) (k : KeepsNet r) (agents : List CellNo) (own cuts : ℕ) (can : CanSplit (reducer_view r) agents own cuts) (x : Pieces) (h : ArePieces r agents own cuts x) where
  abbrev t : Tables
  t = r.checked.now.program.tables

  abbrev rest_fs : List FreeEnd
  rest_fs = map (declared_as r.checked.now.program) x.rest_free

  abbrev part_fs : List FreeEnd
  part_fs = map (declared_as r.checked.now.program) x.part_free

  abbrev rest_parts : Parts
  rest_parts = seen x.left rest_fs x.rest_ends

  abbrev part_parts : Parts
  part_parts = seen x.new part_fs x.part_ends

  abbrev name : ℕ → ℕ
  name = name_in x.names

  -- the queues of both
  abbrev pub rest_pairs : List (ℕ × ℕ)
  rest_pairs = filter (stays x.left) r.queue.items

  abbrev pub part_pairs : List (ℕ × ℕ)
  part_pairs = map (both (name_in x.names)) (filter (goes x.left) r.queue.items)

  opposed : AreOpposed t part_parts
  opposed = opposed_in t part_parts (nets.sound r k agents own cuts can x h).1.typed

  agent_live : (y : ℕ) → IsSome ((net_in (reducer_view r)).symbol y) → IsLive (state_at r.arena y)
  agent_live y s = word_live_some (state_at r.arena y) (subst IsSome (symbol_seen r.arena (own_free r) r.ends.items y) s)

  -- an agent of the whole that isn't in the rest is one of the part
  part_agent : (y : ℕ) → is_gone (state_at x.left y) ≡ true → IsLive (state_at r.arena y) → (z : ℕ) × IsLive (state_at x.new z) × (nets.origin r k agents own cuts can x h z ≡ y)
  part_agent y gone live = go (cells.there_still r k agents own cuts can (number_in x.rest_numbers) x.left h.lost y live)
    where
      go : IsLive (state_at x.left y) ⊎ ((j : ℕ) × (slice_get agents j ≡ Some (record { 0 = y }))) → (z : ℕ) × IsLive (state_at x.new z) × (nets.origin r k agents own cuts can x h z ≡ y)
      go (inl still) = absurd (gone_dead (state_at x.left y) gone still)
      go (inr at) = (
        name y,
        word_live_some (state_at x.new (name y)) (subst IsSome (sym (ap word_of (h.copied.each at.0 (record { 0 = y }) at.1).1 ∙ word_moved name (number_in x.numbers) (state_at r.arena y))) (live_has_word (state_at r.arena y) live)),
        nets.from_where r k agents own cuts can x h at.0 (record { 0 = y }) at.1,
      )

  -- each agent of the part is found by its old number
  named : (z : ℕ) → IsLive (state_at x.new z) → name (nets.origin r k agents own cuts can x h z) ≡ z
  named z live = go (named_or agents name z)
    where
      go : NamedOr agents name z → name (nets.origin r k agents own cuts can x h z) ≡ z
      go (inl at) = ap (λ (v : ℕ). name (nets.origin r k agents own cuts can x h v)) (sym at.3) ∙ ap name (nets.from_where r k agents own cuts can x h at.0 at.1 at.2) ∙ at.3
      go (inr out) = absurd (let w = live_has_word (state_at x.new z) live in let f : false ≡ true = subst IsSome (ap word_of (h.copied.others z out) ∙ no_word x.first (each x.size) h.same h.empty z) w in cc)

  whole_alive : (q : ℕ × ℕ) → goes x.left q ≡ true → IsSome ((net_in (reducer_view r)).symbol q.0) → (y : ℕ) × IsSome ((net_of part_parts).symbol y) × (nets.origin r k agents own cuts can x h y ≡ q.0)
  whole_alive q gone s = let z = part_agent q.0 gone (agent_live q.0 s) in (z.0, subst IsSome (sym (symbol_seen x.new part_fs x.part_ends z.0)) (live_has_word (state_at x.new z.0) z.1), z.2)

  named_again : (y : ℕ) → IsSome ((net_of part_parts).symbol y) → name (nets.origin r k agents own cuts can x h y) ≡ y
  named_again y s = named y (word_live_some (state_at x.new y) (subst IsSome (symbol_seen x.new part_fs x.part_ends y) s))

  there_in_rest : (q : ℕ × ℕ) → stays x.left q ≡ true → IsSome ((net_in (reducer_view r)).symbol q.0) → IsSome ((net_of rest_parts).symbol q.0)
  there_in_rest q e s = subst IsSome (sym (symbol_seen x.left rest_fs x.rest_ends q.0)) (there_word (state_at x.left q.0) e)

  pairs_split : queues.ArePairsSplit t rest_parts part_parts (parts_of (reducer_view r)) (nets.origin r k agents own cuts can x h) (ends_of_two own cuts) name (stays x.left) (goes x.left) r.queue.items
  pairs_split = record {
    net_n = (nets.nets r k agents own cuts can x h).0;
    net_m = (nets.nets r k agents own cuts can x h).1;
    stand = nets.stand r k agents own cuts can x h;
    opposed = opposed;
    one_of_two = λ q. either (state_at x.left q.0);
    stays = there_in_rest;
    goes = whole_alive;
    named = named_again;
    queue = k.reducer.queue;
  }

  rest_queue : IsQueueOf t rest_parts rest_pairs
  rest_queue = queues.rest_queue t rest_parts part_parts (parts_of (reducer_view r)) (nets.origin r k agents own cuts can x h) (ends_of_two own cuts) name (stays x.left) (goes x.left) r.queue.items pairs_split

  part_queue : IsQueueOf t part_parts part_pairs
  part_queue = queues.part_queue t rest_parts part_parts (parts_of (reducer_view r)) (nets.origin r k agents own cuts can x h) (ends_of_two own cuts) name (stays x.left) (goes x.left) r.queue.items pairs_split

  -- ---- reducers

  pub rest_reducer : (q : List (ℕ × ℕ)) → q ≡ rest_pairs → IsReducer (nets.rest r k agents own cuts can x h q)
  rest_reducer q is =
      let sound = (nets.sound r k agents own cuts can x h).0 in
      record {
        accepted = k.reducer.accepted;
        net = record { sound = sound; over = is_over t x.left rest_fs x.rest_ends sound.net sound.within };
        queue = subst (IsQueueOf t rest_parts) (sym is) rest_queue;
        cells = (r.arena.cells, k.few, λ d. cells.rest_cells r k agents own cuts can (number_in x.rest_numbers) x.left h.lost d);
      }

  pub part_reducer : x.size ≤ most_cells → (q : List (ℕ × ℕ)) → q ≡ part_pairs → IsReducer (nets.part r k agents own cuts can x h q)
  part_reducer few q is =
      let sound = (nets.sound r k agents own cuts can x h).1 in
      record {
        accepted = k.reducer.accepted;
        net = record { sound = sound; over = is_over t x.new part_fs x.part_ends sound.net sound.within };
        queue = subst (IsQueueOf t part_parts) (sym is) part_queue;
        cells = (each x.size, each_allowed x.size few, λ d. cells.part_cells r k agents own cuts can x.numbers x.names x.size x.first x.new h.same h.empty h.copied d ∙ sym (each_amount x.size d));
      }

  -- the part's queue has room for all its pairs
  pub few_pairs : x.size ≤ most_cells → (room : ℕ) → all_of (each x.size) ≤ 2 * room + 1 → length (filter (goes x.left) r.queue.items) ≤ room
  unfolding part_reducer
  few_pairs few room wide =
      let short = short_queue (nets.part r k agents own cuts can x h part_pairs) (part_reducer few part_pairs refl) in
      let same = length-map (filter (goes x.left) r.queue.items) (both (name_in x.names)) in
      omega (arith, short, same, wide)

  but_queues : NoneLeased r.arena → (q o : List (ℕ × ℕ)) → IsSplitButQueues (reducer_view r) agents own cuts x.size (nets.rest r k agents own cuts can x h q) (nets.part r k agents own cuts can x h o)
  but_queues none q o = record {
    of_rest = record {
      gone = λ j c at. symbol_seen x.left rest_fs x.rest_ends c.0 ∙ ap word_of (h.lost.out.gone j c at);
      others = λ y out. (
          symbol_seen x.left rest_fs x.rest_ends y ∙ ap word_of (h.lost.out.others y out) ∙ word_moved (λ z. z) (number_in x.rest_numbers) (state_at r.arena y)
          ∙ sym (symbol_seen r.arena (own_free r) r.ends.items y)
          );
    };
    two = record { program_rest = refl; program_part = refl; name = nets.origin r k agents own cuts can x h; beside = nets.stand r k agents own cuts can x h; within_rest = net_within _ _ (nets.sound r k agents own cuts can x h).0.net; within_part = net_within _ _ (nets.sound r k agents own cuts can x h).1.net; names = nets.names_are r k agents own cuts can x h q o };
    many_rest = nets.rest_many r k agents own cuts can x h;
    many_part = nets.part_many r k agents own cuts can x h;
    part_cells = λ d. cells.part_cells r k agents own cuts can x.numbers x.names x.size x.first x.new h.same h.empty h.copied d;
    vacant = λ d. (
        let a = cells.rest_vacant r k agents own cuts can (number_in x.rest_numbers) x.left h.lost none d in
        let b = cells.part_counted r k agents own cuts can x.numbers x.names x.size x.first x.new h.same h.empty h.copied d in
        omega (arith, a, b)
        );
    cells = λ d. (
        let a = cells.rest_cells r k agents own cuts can (number_in x.rest_numbers) x.left h.lost d in
        let b = cells_at_rest t r.arena k.net d in
        omega (arith, a, b)
        );
  }

  pub split_off : NoneLeased r.arena → (q o : List (ℕ × ℕ)) → q ≡ rest_pairs → o ≡ part_pairs → IsSplitOff (reducer_view r) agents own cuts x.size (nets.rest r k agents own cuts can x h q) (nets.part r k agents own cuts can x h o)
  split_off none q o is is_part = record {
    but_queues = but_queues none q o;
    queue_rest = subst (IsQueueOf t rest_parts) (sym is) rest_queue;
    queue_part = subst (IsQueueOf t part_parts) (sym is_part) part_queue;
  }

  -- ---- both are kept

  few_free : own + (cuts + cuts) ≤ most_free_ends
  few_free = let a = before.whole r k agents own cuts can in let b = before.many r k in let c = k.few_free in omega (arith, a, b, c)

  pub rest_few : length x.rest_free ≤ most_free_ends
  rest_few = let a = few_free in let b = h.rest_free.count in omega (arith, a, b)

  pub part_few : length x.part_free ≤ most_free_ends
  part_few = let a = few_free in let b = h.part_free.count in omega (arith, a, b)
