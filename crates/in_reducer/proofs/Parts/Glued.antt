-- A reducer after a part was glued on: the rest's own free ends, and then by turns one of the part and one of the rest.
use Rattle.std.proofs.Common.{◌≡◌, ◌<◌, ◌≤◌, ◌+◌, ℕ, zero, suc, Option, Some, List, ◌++◌, length, length-append, map, take, slice_get, refl, sym, ap, subst, ◌∙◌, arith}
use Rattle.std.proofs.lemmas.List.{length-map, length-take-le}
use Rattle.std.proofs.lemmas.Option.{slice_get-map, slice_get_within}
use Rattle.in_base.proofs.Each.{at_index}
use Rattle.in_arena.specs.Arenas.{ArenaView, NoneLeased}
use Rattle.in_arena.specs.declared.content.CellNo.{CellNo}
use Rattle.in_arena.specs.declared.content.End.{End}
use Rattle.in_symbols.specs.declared.symbols.PortType.{PortType}
use Rattle.in_net.specs.declared.nets.FreeEnd.{FreeEnd}
use Rattle.in_net.specs.Nets.{Net}
use Rattle.in_interaction.specs.Queues.{both}
use Rattle.in_check.specs.Programs.{Program}
use Rattle.in_gluing.specs.AsGluing.{two_parts}
use Rattle.in_cells.specs.Copying.{IsCopied, IsListOfLive, moved_end, name_in, number_in}
use Rattle.in_cells.specs.Laws.{AreEndsOfBoth, leads_to, number_of}
use Rattle.in_cells.specs.TakingOut.{AreLedTo, AreNumberedAnew}
use Rattle.in_cells.proofs.Public.{copies_stand_beside, led_to, numbered_anew}
use Rattle.in_gluing.specs.SideBySide.{StandBeside}
use Rattle.in_gluing.proofs.Public.{net_within}
use Rattle.in_reducer.specs.declared.body.Body.{Body}
use Rattle.in_reducer.specs.declared.body.OwnEnd.{OwnEnd}
use Rattle.in_reducer.specs.Gluing.{CanAppend, glued}
use Rattle.in_reducer.specs.Cutting.{net_in}
use Rattle.in_reducer.specs.Inside.{IsOwnEnd, KeepsNet, declared_as, most_ends, most_free_ends, own_free, reducer_view}
use Rattle.in_reducer.specs.Machines.{MachineParts}
use Rattle.in_reducer.specs.Parting.{IsGluedOn, ends_of_two, names_of, names_of_two, place_of_two}
use Rattle.in_reducer.specs.Reducers.{IsReducer}
use Rattle.in_reducer.proofs.Cells.Shown.{same_kinds, same_names}
use Rattle.in_reducer.proofs.Parts.Together as together
use Rattle.in_reducer.proofs.Parts.Together.{in_cells}
use Rattle.in_reducer.proofs.Parts.Turns.{glued-map, glued_are, length-glued, told_at}
use Rattle.in_reducer.proofs.Parts.TwoEnds.{OneOfTwo, of_own, of_first, of_second, part_of_two, places_of_two, rest_of_two, which_of_two}

-- the list has the partner of each free end of the rest
pub are_led_to : (r : Body) → KeepsNet r → (many : ℕ) → many ≡ length r.free.items → AreLedTo r.arena (take many r.ends.items)
are_led_to r k many is =
    subst (λ (z : ℕ). AreLedTo r.arena (take z r.ends.items)) (together.many_free r k ∙ sym is)
    (led_to r.arena (take (length (own_free r)) r.ends.items) (net_in (reducer_view r)) (together.shows r k).shown (together.leads_back r k))

-- a free end of the rest or of the part
abbrev own_from : List OwnEnd → List OwnEnd → ℕ × ℕ → Option OwnEnd
own_from xs ys (zero, j) = slice_get xs j
own_from xs ys (suc k, j) = slice_get ys j

-- the free ends are the program's, or cut ones, as both had them
pub glued_own_ends : (p q : Program) (own cuts : ℕ) (xs ys new : List OwnEnd) → q ≡ p → new ≡ glued own xs ys → length xs ≡ own + cuts → length ys ≡ cuts → ((i : ℕ) (e : OwnEnd) → slice_get xs i ≡ Some e → IsOwnEnd p e) →
    ((i : ℕ) (e : OwnEnd) → slice_get ys i ≡ Some e → IsOwnEnd q e) → (i : ℕ) (e : OwnEnd) → slice_get new i ≡ Some e → IsOwnEnd p e
glued_own_ends p q own cuts xs ys new same is many_x many_y of_rest of_part i e at = go at_end.0.0 at_end.0.1 at_end.1
  where
    all : map (λ t. Some t) new ≡ map (own_from xs ys) (ends_of_two own cuts)
    all = ap (map (λ t. Some t)) is ∙ glued_are (own_from xs ys) own cuts xs ys many_x many_y (λ j. refl) (λ j. refl)

    at_end : (z : ℕ × ℕ) × (slice_get (ends_of_two own cuts) i ≡ Some z)
    at_end = at_index (ends_of_two own cuts) i (
        let l = slice_get_within new i e at in
        let f = sym (length-map new (λ (t : OwnEnd). Some t)) ∙ ap length all ∙ length-map (ends_of_two own cuts) (own_from xs ys) in
        omega (arith, l, f)
        )

    go : (k j : ℕ) → slice_get (ends_of_two own cuts) i ≡ Some (k, j) → IsOwnEnd p e
    go zero j h = of_rest j e (sym (told_at (own_from xs ys) new (ends_of_two own cuts) i (0, j) all h) ∙ at)
    go (suc k) j h = subst (λ (z : Program). IsOwnEnd z e) same (of_part j e (sym (told_at (own_from xs ys) new (ends_of_two own cuts) i (suc k, j) all h) ∙ at))

module _ (r o : Body) (k : KeepsNet r) (l : KeepsNet o) (can : CanAppend (reducer_view r) (reducer_view o)) (own cuts : ℕ) (many_rest : length r.free.items ≡ own + cuts) (many_part : length o.free.items ≡ cuts) where
  abbrev fs : List FreeEnd
  fs = own_free r

  abbrev gs : List FreeEnd
  gs = own_free o

  abbrev m : Net ℕ
  m = net_in (reducer_view r)

  abbrev n : Net ℕ
  n = net_in (reducer_view o)

  -- the data of both, in the order of the free ends
  module _ {X : Type 0} (f : FreeEnd → X) (from : ℕ × ℕ → Option X) (of_rest : (e : ℕ) → from (0, e) ≡ slice_get (map f fs) e) (of_part : (e : ℕ) → from (1, e) ≡ slice_get (map f gs) e) where
    pub told : map (λ t. Some t) (glued own (map f fs) (map f gs)) ≡ map from (ends_of_two own cuts)
    told =
        glued_are from own cuts (map f fs) (map f gs) (length-map fs f ∙ together.many_free r k ∙ many_rest) (length-map gs f ∙ together.many_free o l ∙ many_part) of_rest of_part

  module _ (agents : List CellNo) (live : IsListOfLive o.arena agents) (rest_numbers : List ℕ) (each_rest : (e : ℕ) → e < own + cuts → number_in rest_numbers e ≡ place_of_two own 0 e) (part_numbers : List ℕ) (each_part : (e : ℕ) → e < cuts → number_in part_numbers e ≡ place_of_two own 1 e)
      (a : ArenaView) (anew : AreNumberedAnew (number_in rest_numbers) r.arena a) (names : List CellNo) (b : ArenaView) (copied : IsCopied o.arena agents part_numbers names a b) where
    abbrev name : ℕ → ℕ
    name = name_in names

    abbrev of_rest : List End
    of_rest = take (length fs) r.ends.items

    abbrev of_part : List End
    of_part = take (length gs) o.ends.items

    abbrev rest_ends : List End
    rest_ends = map (moved_end (λ z. z) (number_in rest_numbers)) of_rest

    abbrev part_ends : List End
    part_ends = map (moved_end name (number_in part_numbers)) of_part

    abbrev pub shown_ends : List End
    shown_ends = glued own rest_ends part_ends

    many_rest_ends : length rest_ends ≡ own + cuts
    many_rest_ends = length-map of_rest (moved_end (λ z. z) (number_in rest_numbers)) ∙ length-take-le (length fs) r.ends.items (together.fits r k) ∙ together.many_free r k ∙ many_rest

    many_part_ends : length part_ends ≡ cuts
    many_part_ends = length-map of_part (moved_end name (number_in part_numbers)) ∙ length-take-le (length gs) o.ends.items (together.fits o l) ∙ together.many_free o l ∙ many_part

    abbrev from : ℕ × ℕ → Option End
    from q = leads_to name (number_in rest_numbers) (number_in part_numbers) of_rest of_part q.0 q.1

    all_ends : map (λ t. Some t) shown_ends ≡ map from (ends_of_two own cuts)
    all_ends =
        glued_are from own cuts rest_ends part_ends many_rest_ends many_part_ends (λ e. sym (slice_get-map (moved_end (λ z. z) (number_in rest_numbers)) of_rest e))
        (λ e. sym (slice_get-map (moved_end name (number_in part_numbers)) of_part e))

    is_number : (j i e : ℕ) → OneOfTwo own cuts j i e → number_of (number_in rest_numbers) (number_in part_numbers) i e ≡ place_of_two own i e
    is_number j i e (of_own low p q) = subst (λ (z : ℕ). number_of (number_in rest_numbers) (number_in part_numbers) z e ≡ place_of_two own z e) (sym p) (each_rest e (omega (arith, low, q)))
    is_number j i e (of_first v low is p q) = subst (λ (z : ℕ). number_of (number_in rest_numbers) (number_in part_numbers) z e ≡ place_of_two own z e) (sym p) (each_part e (omega (arith, low, q)))
    is_number j i e (of_second v low is p q) = subst (λ (z : ℕ). number_of (number_in rest_numbers) (number_in part_numbers) z e ≡ place_of_two own z e) (sym p) (each_rest e (omega (arith, low, q)))

    there : (i e : ℕ) → e < length (two_parts m n i).free → slice_get (ends_of_two own cuts) (number_of (number_in rest_numbers) (number_in part_numbers) i e) ≡ Some (i, e)
    there zero e low =
        let w : e < own + cuts = (let f = together.many_ends r k in let g = many_rest in omega (arith, low, f, g)) in
        ap (slice_get (ends_of_two own cuts)) (each_rest e w) ∙ rest_of_two own cuts e w
    there (suc zero) e low =
        let w : e < cuts = (let f = together.many_ends o l in let g = many_part in omega (arith, low, f, g)) in
        ap (slice_get (ends_of_two own cuts)) (each_part e w) ∙ part_of_two own cuts e w
    there (suc (suc i)) e low = absurd (omega (arith, low))

    are_ends : AreEndsOfBoth m n name (number_in rest_numbers) (number_in part_numbers) of_rest of_part (ends_of_two own cuts) shown_ends
    are_ends = record {
      many = sym (length-map shown_ends (λ (t : End). Some t)) ∙ ap length all_ends ∙ length-map (ends_of_two own cuts) from;
      each = λ j i e at. (is_number j i e (which_of_two own cuts j i e at) ∙ places_of_two own cuts j i e at, told_at from shown_ends (ends_of_two own cuts) j (i, e) all_ends at);
      all = there;
    }

    module _ (new : List OwnEnd) (is_new : new ≡ glued own r.free.items o.free.items) (sides list : List End)
        (is_list : list ≡ glued own (map (moved_end (λ z. z) (number_in rest_numbers)) (take (own + cuts) r.ends.items)) (map (moved_end (name_in names) (number_in part_numbers)) (take cuts o.ends.items)) ++ sides)
        (queue : List (ℕ × ℕ)) (is_queue : queue ≡ r.queue.items ++ map (both (name_in names)) o.queue.items) where
      abbrev after : MachineParts
      after = in_cells r b new list queue

      abbrev hs : List FreeEnd
      hs = map (declared_as r.checked.now.program) new

      all_free : hs ≡ glued own fs gs
      all_free =
          ap (map (declared_as r.checked.now.program)) is_new ∙ glued-map (declared_as r.checked.now.program) own r.free.items o.free.items
          ∙ ap (λ (z : Program). glued own fs (map (declared_as z) o.free.items)) (sym can.program)

      many_new : length new ≡ own + cuts + cuts
      many_new = let e = ap length is_new ∙ length-glued own r.free.items o.free.items (let f = many_rest in let g = many_part in omega (arith, f, g)) in let f = many_rest in let g = many_part in omega (arith, e, f, g)

      many_shown : length shown_ends ≡ length new
      many_shown =
          let f = many_rest_ends in
          let g = many_part_ends in
          let e = length-glued own rest_ends part_ends (omega (arith, f, g)) in
          let h = many_new in
          omega (arith, e, f, g, h)

      is_shown_list : list ≡ shown_ends ++ sides
      is_shown_list =
          is_list ∙ ap (λ (z : ℕ). glued own (map (moved_end (λ z. z) (number_in rest_numbers)) (take z r.ends.items)) (map (moved_end name (number_in part_numbers)) (take cuts o.ends.items)) ++ sides) (sym (together.many_free r k ∙ many_rest))
          ∙ ap (λ (z : ℕ). glued own rest_ends (map (moved_end name (number_in part_numbers)) (take z o.ends.items)) ++ sides) (sym (together.many_free o l ∙ many_part))

      abbrev kind : FreeEnd → PortType
      kind f = f.kind

      types : map (λ t. Some t) (net_in after).free ≡ map (λ q. slice_get (two_parts m n q.0).free q.1) (ends_of_two own cuts)
      types =
          ap (map (λ t. Some t)) (together.kinds_after r b new shown_ends sides list queue many_shown is_shown_list ∙ ap (map kind) all_free ∙ glued-map kind own fs gs)
          ∙ told kind (λ q. slice_get (two_parts m n q.0).free q.1) (λ e. ap (λ ts. slice_get ts e) (same_kinds fs r.ends.items (together.fits r k))) (λ e. ap (λ ts. slice_get ts e) (same_kinds gs o.ends.items (together.fits o l)))

      stand : StandBeside m n name (ends_of_two own cuts) (net_in after)
      stand = copies_stand_beside o.arena r.arena a b agents names part_numbers (number_in rest_numbers) of_part of_rest shown_ends (ends_of_two own cuts) n m (net_in after) (together.shows o l) (together.shows r k) live.all
          (numbered_anew (number_in rest_numbers) r.arena a anew) copied are_ends (together.shown_after r b new shown_ends sides list queue many_shown is_shown_list) types

      pub is_reducer : IsReducer after
      is_reducer = together.is_reducer r o k l can agents live (number_in rest_numbers) a anew part_numbers names b copied (ends_of_two own cuts) new list queue is_queue stand

      pub few_pairs : length r.queue.items + length o.queue.items ≤ r.queue.room
      few_pairs = together.few_pairs r o k l can agents live (number_in rest_numbers) a anew part_numbers names b copied (ends_of_two own cuts) new list queue is_queue stand

      pub few_free : own + cuts + cuts ≤ most_free_ends → length new ≤ most_free_ends
      few_free low = let e = many_new in omega (arith, e, low)

      -- there is room after the free ends
      pub enough_ends : length sides ≡ most_ends + most_ends → length new + most_ends + most_ends ≤ length list
      enough_ends many_sides = let e = ap length is_shown_list ∙ length-append shown_ends sides in let f = many_shown in omega (arith, e, f, many_sides)

      abbrev name_of : FreeEnd → List ℕ
      name_of f = f.name

      names_told : map (λ t. Some t) (names_of after) ≡ map (names_of_two (names_of (reducer_view r)) (names_of (reducer_view o))) (ends_of_two own cuts)
      names_told =
          ap (map (λ t. Some t)) (together.names_after r b new shown_ends sides list queue many_shown is_shown_list ∙ ap (map name_of) all_free ∙ glued-map name_of own fs gs)
          ∙ told name_of (names_of_two (names_of (reducer_view r)) (names_of (reducer_view o))) (λ e. ap (λ ns. slice_get ns e) (same_names fs r.ends.items (together.fits r k))) (λ e. ap (λ ns. slice_get ns e) (same_names gs o.ends.items (together.fits o l)))

      pub glued_on : NoneLeased r.arena → IsGluedOn (reducer_view r) (reducer_view o) own cuts after
      glued_on none = record {
        but_queue = record {
          two = record { program_rest = refl; program_part = can.program; name = name; beside = stand; within_rest = net_within _ _ k.reducer.net.sound.net; within_part = net_within _ _ l.reducer.net.sound.net; names = names_told };
          vacant = together.vacant_after r o k l can agents live (number_in rest_numbers) a anew part_numbers names b copied none;
          cells = together.cells_after r o k l can agents live (number_in rest_numbers) a anew part_numbers names b copied;
        };
        queue = is_reducer.queue;
      }
