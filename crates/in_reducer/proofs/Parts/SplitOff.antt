-- A part that was split off, by the slices that were lent for it and the result of each call on them.
use Rattle.std.proofs.Common.{◌≡◌, ◌+◌, ℕ, List, count_by, take, sym, subst, ◌∙◌, arith}
use Rattle.in_arena.specs.Arenas.{ArenaView, state_at}
use Rattle.in_arena.specs.Classes.{each, holds}
use Rattle.in_arena.specs.States.{State, Vacant, Leased, Live, IsLive}
use Rattle.in_arena.specs.declared.content.CellNo.{CellNo}
use Rattle.in_arena.specs.declared.content.End.{End}
use Rattle.in_cells.specs.Copying.{ArePart, IsCopied, is_for, moved, moved_end, name_in, number_in}
use Rattle.in_cells.specs.TakingOut.{AreNumberedAnew, AreRetired}
use Rattle.in_cells.proofs.Public.{numbered_places, numbered_taken_out}
use Rattle.in_reducer.specs.declared.body.Body.{Body}
use Rattle.in_reducer.specs.declared.body.OwnEnd.{OwnEnd}
use Rattle.in_reducer.specs.declared.fresh.Fresh.{Fresh}
use Rattle.in_reducer.specs.declared.splitting.SplitLists.{SplitLists}
use Rattle.in_reducer.specs.Laying.{IsFresh}
use Rattle.in_reducer.specs.Parting.{place_of_two}
use Rattle.in_reducer.specs.Splitting.{AreListsFor, ArePicked, ArePickedWithRoom, LosesPart}
use Rattle.in_reducer.proofs.Parts.SplitNets.{ArePieces, Pieces}

-- agents that are retired, after the free ends got other numbers
pub loses : (number : ℕ → ℕ) (old mid new : ArenaView) (agents : List CellNo) → AreNumberedAnew number old mid → AreRetired agents mid new → LosesPart agents number old new
loses number old mid new agents first second = record {
  out = numbered_taken_out number old mid first agents new second;
  free = λ d. (
      let same : count_by (is_for mid d) agents ≡ count_by (is_for old d) agents = (λ i. count_by (λ c. holds d (numbered_places number old mid first c.0 i)) agents) in
      let e = second.free d in
      let f = first.free d in
      omega (arith, same, e, f)
      );
  memory = second.memory ∙ first.memory;
  cells = second.cells ∙ first.cells;
  many = second.many ∙ first.many;
}

still_live : (number : ℕ → ℕ) (x : State) → IsLive x → IsLive (moved (λ z. z) number x)
still_live number Vacant h = h
still_live number Leased h = h
still_live number (Live word ends) h = h

-- agents stay in their cells when free ends get other numbers
pub stay_part : (number : ℕ → ℕ) (old mid : ArenaView) (agents : List CellNo) → AreNumberedAnew number old mid → ArePart old agents → ArePart mid agents
stay_part number old mid agents anew part = record { live = λ k c s. subst IsLive (sym (anew.each c.0)) (still_live number (state_at old c.0) (part.live k c s)); once = part.once }

-- the results of the calls, for these slices
pub record ArePiecesBy (r : Body) (agents : List CellNo) (own cuts : ℕ) (f : Fresh) (l : SplitLists) (of_part of_rest : List ℕ) (free : List OwnEnd) (ends : List End) (mid : ArenaView) (x : Pieces) : Type 0 where
  pub is_part : of_part ≡ l.part.numbers.items
  pub is_rest : of_rest ≡ l.rest.numbers.items
  pub is_free : free ≡ r.free.items
  pub is_ends : ends ≡ take (own + (cuts + cuts)) r.ends.items
  pub copied : IsCopied r.arena agents of_part x.names f.arena x.new
  pub anew : AreNumberedAnew (number_in of_rest) r.arena mid
  pub retired : AreRetired agents mid x.left
  pub rest_free : ArePicked (λ y. y) (place_of_two own 0) (own + cuts) free x.rest_free
  pub part_free : ArePicked (λ y. y) (place_of_two own 1) cuts free x.part_free
  pub rest_ends : ArePickedWithRoom (moved_end (λ y. y) (number_in l.rest.numbers.items)) (place_of_two own 0) (own + cuts) ends x.rest_ends
  pub part_ends : ArePickedWithRoom (moved_end (name_in x.names) (number_in l.part.numbers.items)) (place_of_two own 1) cuts ends x.part_ends

-- the pieces of lists and cells that were taken for a part with so many cells of each class
abbrev pub pieces : Fresh → SplitLists → ℕ → List CellNo → ArenaView → ArenaView → List OwnEnd → List OwnEnd → List End → List End → Pieces
pieces f l size names new left part_free rest_free part_ends rest_ends = record {
  size = size;
  numbers = l.part.numbers.items;
  rest_numbers = l.rest.numbers.items;
  names = names;
  first = f.arena;
  new = new;
  left = left;
  part_free = part_free;
  rest_free = rest_free;
  part_ends = part_ends;
  rest_ends = rest_ends;
}

pub known : (r : Body) (agents : List CellNo) (own cuts size : ℕ) (f : Fresh) (l : SplitLists) → IsFresh (each size) f → AreListsFor own cuts l →
    (of_part of_rest : List ℕ) (free : List OwnEnd) (ends : List End) (mid : ArenaView) (names : List CellNo) (new left : ArenaView) (part_free rest_free : List OwnEnd) (part_ends rest_ends : List End) →
    ArePiecesBy r agents own cuts f l of_part of_rest free ends mid (pieces f l size names new left part_free rest_free part_ends rest_ends) →
    ArePieces r agents own cuts (pieces f l size names new left part_free rest_free part_ends rest_ends)
known r agents own cuts size f l fresh lists of_part of_rest free ends mid names new left part_free rest_free part_ends rest_ends h = record {
  same = fresh.cells;
  empty = fresh.empty;
  copied = subst (λ (z : List ℕ). IsCopied r.arena agents z names f.arena new) h.is_part h.copied;
  lost = subst (λ (z : List ℕ). LosesPart agents (number_in z) r.arena left) h.is_rest (loses (number_in of_rest) r.arena mid left agents h.anew h.retired);
  rest_numbered = lists.rest_numbers;
  part_numbered = lists.part_numbers;
  rest_free = subst (λ (z : List OwnEnd). ArePicked (λ y. y) (place_of_two own 0) (own + cuts) z rest_free) h.is_free h.rest_free;
  part_free = subst (λ (z : List OwnEnd). ArePicked (λ y. y) (place_of_two own 1) cuts z part_free) h.is_free h.part_free;
  rest_ends = subst (λ (z : List End). ArePickedWithRoom (moved_end (λ y. y) (number_in l.rest.numbers.items)) (place_of_two own 0) (own + cuts) z rest_ends) h.is_ends h.rest_ends;
  part_ends = subst (λ (z : List End). ArePickedWithRoom (moved_end (name_in names) (number_in l.part.numbers.items)) (place_of_two own 1) cuts z part_ends) h.is_ends h.part_ends;
}
