-- An interaction whose right member is beside its pair: the goals of its last steps, and its result.
use Rattle.std.proofs.Common.{◌≡◌, ◌<◌, ◌≤◌, ◌+◌, ℕ, List, [], ◌++◌, map, remove, reverse, length, get_or, sym, ap, subst, ◌∙◌, arith, refl}
use Rattle.std.proofs.lemmas.Option.{same_Some, slice_get_within, slice_get_read}
use Rattle.in_arena.specs.Arenas.{ArenaView}
use Rattle.in_arena.specs.declared.content.CellNo.{CellNo}
use Rattle.in_arena.specs.declared.content.End.{End}
use Rattle.in_symbols.specs.Tables.{Tables}
use Rattle.in_interaction.specs.Queues.{both}
use Rattle.in_compile.specs.Templates.{TemplateParts}
use Rattle.in_reducer.specs.declared.body.Body.{Body}
use Rattle.in_reducer.specs.Inside.{StandsBeside, most_ends, over, own_free, reducer_view}
use Rattle.in_reducer.specs.Interacting.{HasBeside, IsInteracted, PairSetting, named}
use Rattle.in_reducer.specs.Machines.{MachineParts}
use Rattle.in_reducer.specs.Reducers.{IsReducer}
use Rattle.in_reducer.specs.Standing.{IsNetIn, agents_in, at_rest, leading_to, vacant_in}
use Rattle.in_reducer.specs.Steps.{StepsAt}
use Rattle.in_reducer.proofs.Steps.Stepped as stepped
use Rattle.in_reducer.proofs.Steps.Laid as laid
use Rattle.in_reducer.proofs.Steps.StillNet as still

-- a pair whose right member was put beside it has interacted in the cells; its queue is still the one before
pub record HasInteracted (r : Body) (a : ArenaView) (i : ℕ) (p : TemplateParts) (sb : StandsBeside r a i p) (own : ℕ) (b : ArenaView) (es : List End) (made : List (ℕ × ℕ)) (tables : Tables) (old : List (ℕ × ℕ)) : Type 0 where
  -- this is the number of free ends
  pub is_own : own ≡ length r.free.items
  -- these are the program's tables
  pub same : tables ≡ r.checked.now.program.tables
  -- no pair was listed before
  pub none : old ≡ []
  -- the cells show the net after, and the pairs that are made over boundary ends are listed
  pub adds : IsInteracted tables (stepped.setting (over a r) sb.net i p sb.at) own r.tools.placed.cells b es old made
  -- each live cell is of the class of its agent's symbol, and none is on lease
  pub still_net : IsNetIn tables (at_rest b)
  -- the arena has as many cells as before
  pub cells : b.cells ≡ r.arena.cells
  -- the ends are as many as before
  pub long : length es ≡ length r.ends.items

module _ (r : Body) (a : ArenaView) (i : ℕ) (p : TemplateParts) (sb : StandsBeside r a i p) where
  abbrev t : Tables
  t = r.checked.now.program.tables

  abbrev ns : List CellNo
  ns = r.tools.placed.cells

  abbrev pub setting : PairSetting
  setting = stepped.setting (over a r) sb.net i p sb.at

  pub low : i < length r.queue.items
  low = slice_get_within r.queue.items i sb.at.pair sb.at.stands

  pub put_net : (tables : Tables) → tables ≡ r.checked.now.program.tables → IsNetIn tables (at_rest r.arena)
  put_net tables same = subst (λ (u : Tables). IsNetIn u (at_rest r.arena)) (sym same)
      (still.net_in t a r.arena sb.net.net.all sb.put.cells sb.put.many (still.begun_good t sb.at.rule.member sb.at.is_rule.over.member p.member sb.at.template.member ns a r.arena
      (laid.begun_of t sb.at.rule.member sb.at.is_rule.over.member p.member sb.at.template.member ns a r.arena sb.put) sb.net.net))

  pub few : length p.member.joints ≤ most_ends
  few = stepped.few_joints (over a r) sb.net i p sb.at

  own_is : (own : ℕ) → own ≡ length r.free.items → own ≡ length (own_free (over a r))
  own_is own e = let m = stepped.own_many (over a r) sb.net i p sb.at in omega (arith, e, m)

  pub room : (own : ℕ) → own ≡ length r.free.items → (ends : List End) → ends ≡ r.ends.items → own + length p.member.joints + length p.member.joints ≤ length ends
  room own e ends f = stepped.room_there (over a r) sb.net i p sb.at own (own_is own e) ends f

  pub beside : (q : ℕ × ℕ) → q ≡ get_or r.queue.items i q → (tables : Tables) → tables ≡ r.checked.now.program.tables → (first : ℕ) → first ≡ p.first_ends → (own : ℕ) → own ≡ length r.free.items → (ends : List End) → ends ≡ r.ends.items
      → HasBeside tables (stepped.setting (over a r) sb.net i p sb.at) p (record { one = record { 0 = q.0 }; other = record { 0 = q.1 }; first_ends = first }) own r.tools.placed.cells r.arena ends
  beside q read tables same first is_first own is_own ends is_ends =
      let same_pair : sb.at.pair ≡ q = same_Some sb.at.pair q (sym sb.at.stands ∙ slice_get_read r.queue.items (length r.queue.items) i q refl low read) in (
        a,
        stepped.is_about (over a r) sb.net i p sb.at tables same (record { one = record { 0 = q.0 }; other = record { 0 = q.1 }; first_ends = first })
            (ap (λ (z : ℕ × ℕ). z.0) (sym same_pair)) (ap (λ (z : ℕ × ℕ). z.1) (sym same_pair)) is_first own (own_is own is_own) ends is_ends,
        sb.put,
      )

  module _ (own : ℕ) (b : ArenaView) (es : List End) (made : List (ℕ × ℕ)) (tables : Tables) (old : List (ℕ × ℕ)) (given : HasInteracted r a i p sb own b es made tables old) where
    open given use {is_own, same, none, adds, still_net, cells, long}

    did : IsInteracted t setting own ns b es [] made
    did = subst (λ (zs : List (ℕ × ℕ)). IsInteracted t setting own ns b es zs made) none (subst (λ (u : Tables). IsInteracted u setting own ns b es old made) same adds)

    net : IsNetIn t (at_rest b)
    net = subst (λ (u : Tables). IsNetIn u (at_rest b)) same still_net

    all_cells : b.cells ≡ a.cells
    all_cells = cells ∙ sb.put.cells

    is_all_own : own ≡ length (own_free (over a r))
    is_all_own = own_is own is_own

    -- the rest of the queue, the pairs made and those of the member fit the queue
    pub lengths : length (remove r.queue.items i) + length made + length p.member.pairs ≤ r.queue.room
    lengths = stepped.lengths (over a r) sb.net i p sb.at sb.room own is_all_own ns b es made did net all_cells long

    module _ (removed middle queue : List (ℕ × ℕ)) (e : removed ≡ remove r.queue.items i) (f : middle ≡ removed ++ reverse made) (g : queue ≡ middle ++ map (both (named r.tools.placed.cells)) p.member.pairs) where
      turned : queue ≡ stepped.final (over a r) sb.net i p sb.at sb.room own is_all_own ns b es made did net all_cells long
      turned = stepped.in_turn (over a r) sb.net i p sb.at sb.room own is_all_own ns b es made did net all_cells long removed middle queue e f g

      abbrev pub seen : List End → MachineParts
      seen ends = record { program = r.checked.now.program; agents = agents_in b; free = leading_to (own_free r) ends; queue = queue; vacant = vacant_in (at_rest b) }

      pub steps : (ends : List End) → ends ≡ es → StepsAt (reducer_view (over a r)) i (seen ends)
      steps ends is = subst (λ (z : List End). StepsAt (reducer_view (over a r)) i (seen z)) (sym is)
          (subst (λ (z : List (ℕ × ℕ)). StepsAt (reducer_view (over a r)) i (stepped.after (over a r) sb.net i p sb.at sb.room own is_all_own ns b es made did net all_cells long z)) (sym turned)
          (stepped.is_step (over a r) sb.net i p sb.at sb.room own is_all_own ns b es made did net all_cells long))

      pub is_reducer : (ends : List End) → ends ≡ es → IsReducer (seen ends)
      is_reducer ends is = subst (λ (z : List End). IsReducer (seen z)) (sym is)
          (subst (λ (z : List (ℕ × ℕ)). IsReducer (stepped.after (over a r) sb.net i p sb.at sb.room own is_all_own ns b es made did net all_cells long z)) (sym turned)
          (stepped.reducer_after (over a r) sb.net i p sb.at sb.room own is_all_own ns b es made did net all_cells long))
