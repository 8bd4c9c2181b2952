-- Where the row of an arena begins, while the arena is changed.
use Rattle.std.proofs.Common.{◌≡◌, ◌∙◌, List, map, get_or, refl, sym, ap}
use denote.RawPtr.{Ptr, null_ptr}
use Rattle.in_arena.specs.Arenas.{ArenaView, memory_of}
use Rattle.in_arena.specs.Classes.{class_no, classes}
use Rattle.in_arena.specs.Inside.{arena_view}
use Rattle.in_arena.specs.RowStarts.{IsRowStart}
use Rattle.in_arena.specs.declared.arena.Arena.TheInside.{Inside}
use Rattle.in_arena.specs.declared.arena.RowStart.{RowStart}
use Rattle.in_arena.specs.declared.content.CellClass.{CellClass}
use Rattle.in_arena.specs.declared.content.CellClass.TheVariants.{Small, Large, Wide}

of_class : (at : Ptr) (c : CellClass) → get_or (map (λ (d : CellClass). at) classes) (class_no c) null_ptr ≡ at
of_class at Small = refl
of_class at Large = refl
of_class at Wide = refl

module _ (a : Inside) (v : ArenaView) (e : arena_view a ≡ v) (row : RowStart) where
  pub row_of : row.base.ptr ≡ a.words.at → IsRowStart row v
  row_of is c = ap (λ (w : ArenaView). memory_of w c) (sym e) ∙ of_class a.words.at c ∙ sym is

  pub row_at : IsRowStart row v → row.base.ptr ≡ a.words.at
  row_at is = sym (is Small) ∙ ap (λ (w : ArenaView). memory_of w Small) (sym e)

-- it stays where it is
pub row_still : (row : RowStart) (old new : ArenaView) → new.memory ≡ old.memory → IsRowStart row old → IsRowStart row new
row_still row old new same is c = ap (λ (m : List Ptr). get_or m (class_no c) null_ptr) same ∙ is c

pub row_starts_one : (row other : RowStart) (a : ArenaView) → IsRowStart row a → IsRowStart other a → row ≡ other
row_starts_one row other a is of = let e = sym (is Small) ∙ of Small in λ z. record { base = record { ptr = e z } }
