-- The cells of both parts, once agents were copied to another arena and taken out of their own.
use Rattle.std.proofs.Common.{◌≡◌, ◌⊎◌, inl, inr, ◌+◌, ℕ, true, Some, None, List, count_by, replicate, slice_get, refl, sym, ap, subst, ◌∙◌, arith}
use Rattle.std.specs.Cmp.Derive.{both_true}
use Rattle.std.proofs.lemmas.Bool.{le-leb}
use Rattle.in_arena.specs.Arenas.{ArenaView, NoneLeased, free_of, state_at}
use Rattle.in_arena.specs.Classes.{Holds, IsNumberOf, all_of, amount, each, holds, least, width}
use Rattle.in_arena.specs.States.{State, Vacant, Leased, Live, IsLeased, IsLive, places, word_of}
use Rattle.in_arena.specs.declared.content.CellClass.{CellClass}
use Rattle.in_arena.specs.declared.content.CellCounts.{CellCounts}
use Rattle.in_arena.specs.declared.content.CellNo.{CellNo}
use Rattle.in_arena.proofs.Public.{each_amount, live_in, numbers_apart}
use Rattle.in_symbols.specs.Tables.{Tables, arity_of}
use Rattle.in_compile.specs.Cells.{agents_of, count_of, is_of}
use Rattle.in_cells.specs.Copying.{IsCopied, is_for, moved, name_in, number_in}
use Rattle.in_cells.proofs.Public.{NamedOr, named_or, not_leased, word_moved, leased_before, leased_after}
use Rattle.in_reducer.specs.declared.body.Body.{Body}
use Rattle.in_reducer.specs.Inside.{KeepsNet, reducer_view}
use Rattle.in_reducer.specs.Parting.{CanSplit}
use Rattle.in_reducer.specs.Splitting.{LosesPart}
use Rattle.in_reducer.specs.Standing.{AreLeasedAlike, IsNetIn, agents_in, at_rest, vacant_in}
use Rattle.in_reducer.proofs.Cells.AtRest.{all_at_rest, rests}
use Rattle.in_reducer.proofs.Cells.Counted.{cells_at_rest}
use Rattle.in_reducer.proofs.Parts.SplitBefore as before
use Rattle.in_reducer.proofs.Starts.StartNet.{all_free, empty_all, empty_none, no_word}
use Rattle.in_reducer.proofs.Steps.Stepped.{free_is}
use Rattle.in_reducer.proofs.Steps.StillNet.{IsGood, good_of, good_vacant, net_in as net_stays}

-- the free cells of an arena without leases
pub vacant_is : (a : ArenaView) → NoneLeased a → (c : CellClass) → count_of (vacant_in (at_rest a)) c ≡ free_of a c
vacant_is a none c = ap (λ (b : ArenaView). count_of (vacant_in b) c) (rests a none) ∙ free_is a c

pub to_holds : (c : CellClass) (n : ℕ) → Holds c n → holds c n ≡ true
to_holds c n h = both_true (le-leb (least c) n h.0) (le-leb n (width c) h.1)

module _ (r : Body) (k : KeepsNet r) (agents : List CellNo) (own cuts : ℕ) (can : CanSplit (reducer_view r) agents own cuts) where
  abbrev t : Tables
  t = r.checked.now.program.tables

  -- ---- the part

  module _ (numbers : List ℕ) (names : List CellNo) (size : ℕ) (first new : ArenaView) (same : first.cells ≡ each size) (empty : first.states ≡ replicate (all_of (each size)) Vacant) (copied : IsCopied r.arena agents numbers names first new) where
    abbrev to : State → State
    to = moved (name_in names) (number_in numbers)

    part_good : (y : ℕ) → IsGood t first y (state_at new y)
    part_good y = go (named_or agents (name_in names) y)
      where
        go : NamedOr agents (name_in names) y → IsGood t first y (state_at new y)
        go (inr out) = λ d s in_class w. absurd (let f : None ≡ Some s = sym (no_word first (each size) same empty y) ∙ sym (ap word_of (copied.others y out)) ∙ w in cc)
        go (inl at) = λ d s in_class w. (
            let c = at.1 in
            let state : state_at new y ≡ to (state_at r.arena c.0) = ap (state_at new) (sym at.3) ∙ (copied.each at.0 c at.2).1 in
            let word : word_of (state_at r.arena c.0) ≡ Some s = sym (word_moved (name_in names) (number_in numbers) (state_at r.arena c.0)) ∙ sym (ap word_of state) ∙ w in
            let own = copied.classes at.0 c at.2 in
            let one : own.0 ≡ d = numbers_apart first.cells y own.0 d (subst (λ (z : CellCounts). IsNumberOf z own.0 y) copied.cells (subst (IsNumberOf new.cells own.0) at.3 own.2)) in_class in
            let many = before.places_here r k c.0 s word in
            let fit : holds own.0 (arity_of t s + 1) ≡ true = ap (holds own.0) (let z : arity_of t s + 1 ≡ places (state_at r.arena c.0) = omega (arith, many) in z) ∙ to_holds own.0 (places (state_at r.arena c.0)) own.1 in
            subst (λ (z : CellClass). is_of t z s ≡ true) one fit
            )

    pub part_net : IsNetIn t (at_rest new)
    part_net = net_stays t first new (all_at_rest first (empty_all first (each size) same empty)) copied.cells copied.many part_good

    part_leased : (y : ℕ) → IsLeased (state_at new y) → IsLeased (state_at first y)
    part_leased y leased = elim (named_or agents (name_in names) y) [
      | inl at ↦ absurd (not_leased (name_in names) (number_in numbers) (state_at r.arena at.1.0) ((before.part r k agents own cuts can).live at.0 at.1 at.2) (subst IsLeased (ap (state_at new) (sym at.3) ∙ (copied.each at.0 at.1 at.2).1) leased))
      | inr out ↦ subst IsLeased (copied.others y out) leased
    ]

    pub part_alike : AreLeasedAlike first new
    part_alike = record {
      memory = copied.memory;
      cells = copied.cells;
      many = copied.many;
      stay = λ y leased. elim (named_or agents (name_in names) y) [
        | inl at ↦ absurd (subst IsLeased (ap (state_at first) (sym at.3) ∙ (copied.each at.0 at.1 at.2).0) leased)
        | inr out ↦ subst IsLeased (sym (copied.others y out)) leased
      ];
      none = λ y low leased. part_leased y leased;
    }

    pub part_none : NoneLeased new
    part_none y low leased = empty_none first (each size) same empty y (let e = copied.many in omega (arith, e, low)) (part_leased y leased)

    pub part_cells : (c : CellClass) → count_of (vacant_in (at_rest new)) c + agents_of t c (agents_in new) ≡ size
    part_cells c = cells_at_rest t new part_net c ∙ ap (λ (z : CellCounts). amount z c) (copied.cells ∙ same) ∙ each_amount size c

    -- the part has as many agents of each class as were copied
    pub part_counted : (c : CellClass) → agents_of t c (agents_in new) ≡ count_by (is_for r.arena c) agents
    part_counted c =
        let a = part_cells c in
        let b = vacant_is new part_none c in
        let d = copied.free c in
        let e = all_free first (each size) same empty t c in
        let f = each_amount size c in
        omega (arith, a, b, d, e, f)

  -- ---- the rest

  module _ (number : ℕ → ℕ) (left : ArenaView) (lost : LosesPart agents number r.arena left) where
    -- one of the agents, or none
    abbrev Listed : ℕ → Type 0
    Listed = NamedOr agents (λ z. z)

    listed_or : (y : ℕ) → Listed y
    listed_or = named_or agents (λ z. z)

    gone : (y j : ℕ) (c : CellNo) → slice_get agents j ≡ Some c → c.0 ≡ y → state_at left y ≡ Vacant
    gone y j c s e = ap (state_at left) (sym e) ∙ lost.out.gone j c s

    was_live : (y j : ℕ) (c : CellNo) → slice_get agents j ≡ Some c → c.0 ≡ y → IsLive (state_at r.arena y)
    was_live y j c s e = subst (λ (z : ℕ). IsLive (state_at r.arena z)) e ((before.part r k agents own cuts can).live j c s)

    stays : (y : ℕ) → ((j : ℕ) (c : CellNo) → slice_get agents j ≡ Some c → c.0 ≡ y → ⊥) → state_at left y ≡ moved (λ z. z) number (state_at r.arena y)
    stays y out = lost.out.others y (λ j s. out j (record { 0 = y }) s refl)

    rest_good : (y : ℕ) → IsGood t r.arena y (state_at left y)
    rest_good y = go (listed_or y)
      where
        go : Listed y → IsGood t r.arena y (state_at left y)
        go (inl at) = subst (IsGood t r.arena y) (sym (gone y at.0 at.1 at.2 at.3)) (good_vacant t r.arena y)
        go (inr out) = λ d s in_class w. good_of t r.arena k.net y d s in_class (sym (word_moved (λ z. z) number (state_at r.arena y)) ∙ sym (ap word_of (stays y out)) ∙ w)

    pub rest_net : IsNetIn t (at_rest left)
    rest_net = net_stays t r.arena left k.net.all lost.cells lost.many rest_good

    rest_leased : (y : ℕ) → IsLeased (state_at left y) → IsLeased (state_at r.arena y)
    rest_leased y leased = elim (listed_or y) [
      | inl at ↦ absurd (subst IsLeased (gone y at.0 at.1 at.2 at.3) leased)
      | inr out ↦ leased_before (λ z. z) number (state_at r.arena y) (subst IsLeased (stays y out) leased)
    ]

    pub rest_alike : AreLeasedAlike r.arena left
    rest_alike = record {
      memory = lost.memory;
      cells = lost.cells;
      many = lost.many;
      stay = λ y leased. elim (listed_or y) [
        | inl at ↦ absurd (live_in (state_at r.arena y) (was_live y at.0 at.1 at.2 at.3) leased)
        | inr out ↦ subst IsLeased (sym (stays y out)) (leased_after (λ z. z) number (state_at r.arena y) leased)
      ];
      none = λ y low leased. rest_leased y leased;
    }

    module _ (none : NoneLeased r.arena) where
      pub rest_none : NoneLeased left
      rest_none y low leased = none y (let e = lost.many in omega (arith, e, low)) (rest_leased y leased)

      -- the cells of the agents are free
      pub rest_vacant : (c : CellClass) → count_of (vacant_in (at_rest left)) c ≡ count_of (vacant_in (at_rest r.arena)) c + count_by (is_for r.arena c) agents
      rest_vacant c = let a = vacant_is left rest_none c in let b = vacant_is r.arena none c in let d = lost.free c in omega (arith, a, b, d)

    pub rest_cells : (c : CellClass) → count_of (vacant_in (at_rest left)) c + agents_of t c (agents_in left) ≡ amount r.arena.cells c
    rest_cells c = cells_at_rest t left rest_net c ∙ ap (λ (z : CellCounts). amount z c) lost.cells

    -- a cell that is still live isn't one of the agents, and one that is gone is one
    pub there_still : (y : ℕ) → IsLive (state_at r.arena y) → IsLive (state_at left y) ⊎ ((j : ℕ) × (slice_get agents j ≡ Some (record { 0 = y })))
    there_still y live = go (listed_or y)
      where
        live_after : (x : State) → IsLive x → IsLive (moved (λ z. z) number x)
        live_after Vacant h = h
        live_after Leased h = h
        live_after (Live w es) h = tt

        go : Listed y → IsLive (state_at left y) ⊎ ((j : ℕ) × (slice_get agents j ≡ Some (record { 0 = y })))
        go (inl at) = inr (at.0, at.2 ∙ ap (λ (z : ℕ). Some (record { 0 = z })) at.3)
        go (inr out) = inl (subst IsLive (sym (stays y out)) (live_after (state_at r.arena y) live))
