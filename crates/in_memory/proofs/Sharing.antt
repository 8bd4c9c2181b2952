-- The claim of a `&` to an owner of cells can be made of a borrow, copied, and used for a shorter time. Assumes `Logic`.
use Prim.Native.Nat.{ℕ, ◌+◌}
use Rattle.std.specs.Prelude.{List, [], ◌∷◌, Option, Some, None}
use Rattle.std.specs.Mem.{type_size}
use seplogic.Ra.Ura.{Ura}
use base.Fml.{Lft, Incl, ftrue, ffalse}
use types.Logic.{Logic}
use denote.RattleType.{RattleType, RowLaws}
use denote.Param.Laws.{Laws}
use denote.RawPtr.{Ptr, block_ptr, null_ptr}
use denote.Sharing.{ShrLaws, said}
use denote.SharingLaws.{beside_shr_laws, nothing_shr_laws, said_shr_laws}
use denote.Shares.{Shares-less}
use denote.Struct.Lending.{Lends, Lends-both, Lends-nothing, Lends-said, Lends-false}
use Rattle.in_memory.specs.Ownership.{cell, row, cell_lent, row_lent, fit, cells_own, cells_lent}

module _ (R : RattleType) (L : RowLaws R) where
  cell_laws : (b o : ℕ) (c : Option (Option R.Denot)) → ShrLaws (cell_lent R b o c)
  cell_laws b o None = nothing_shr_laws
  cell_laws b o (Some None) = nothing_shr_laws
  cell_laws b o (Some (Some x)) = L x b o

  row_laws : (b o : ℕ) (cs : List (Option (Option R.Denot))) → ShrLaws (row_lent R b o cs)
  row_laws b o [] = nothing_shr_laws
  row_laws b o (c ∷ cs) = beside_shr_laws _ _ (cell_laws b o c) (row_laws b (o + type_size R) cs)

  pub cells_laws : (p : Ptr) (cs : List (Option (Option R.Denot))) → ShrLaws (cells_lent R p cs)
  cells_laws (block_ptr b o) cs = beside_shr_laws _ _ (said_shr_laws (fit R cs) tt) (row_laws b o cs)
  cells_laws null_ptr cs = said_shr_laws ffalse tt

module _ {M : Type 1} {𝓤 : Ura M} (𝓛 : Logic 𝓤) (l : Lft) (R : RattleType) (L : Laws R) (inc : Incl l R.lives) where
  lends_cell : (b o : ℕ) (c : Option (Option R.Denot)) → Lends 𝓛 (cell R b o c) (cell_lent R b o c) l
  lends_cell b o None = Lends-nothing 𝓛 ftrue l
  lends_cell b o (Some None) = Lends-nothing 𝓛 (cell R b o (Some None)) l
  lends_cell b o (Some (Some x)) = λ κ ts. Shares-less 𝓛 R R.lives l inc (L.shares 𝓛) x κ ts b o

  lends_row : (b o : ℕ) (cs : List (Option (Option R.Denot))) → Lends 𝓛 (row R b o cs) (row_lent R b o cs) l
  lends_row b o [] = Lends-nothing 𝓛 ftrue l
  lends_row b o (c ∷ cs) =
      let next = o + type_size R in
      Lends-both 𝓛 (cell R b o c) (row R b next cs) (cell_lent R b o c) (row_lent R b next cs) l (lends_cell b o c) (lends_row b next cs)

  pub lends_cells : (p : Ptr) (cs : List (Option (Option R.Denot))) → Lends 𝓛 (cells_own R p cs) (cells_lent R p cs) l
  lends_cells (block_ptr b o) cs = Lends-both 𝓛 (fit R cs) (row R b o cs) (said (fit R cs)) (row_lent R b o cs) l (Lends-said 𝓛 (fit R cs) tt l) (lends_row b o cs)
  lends_cells null_ptr cs = Lends-false 𝓛 (said ffalse) l
