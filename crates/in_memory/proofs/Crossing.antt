-- Owners of cells may cross threads if the contents of a cell may, and the right to free the block if its allocator may.
use Rattle.std.specs.Prelude.{ℕ, ◌+◌, List, [], ◌∷◌, Option, Some, None}
use Rattle.std.specs.Mem.{type_size}
use base.Fraction.{full_share}
use base.Shift.{Keyless}
use denote.RattleType.{RattleType}
use denote.RawPtr.{Ptr, block_ptr, null_ptr}
use denote.Struct.Struct.{exits_of}
use denote.Struct.Owning.{shape, fields, to}
use denote.Param.Send.{IsSend, IsSync, Common, AllSend, part_keyless, owning_send, struct_send, struct_sync, sendable}
use Rattle.core.specs.declared.alloc.Allocator.{Ghosts}
use Rattle.std_alloc.proofs.SendSync.{FreesAnywhere, quiet}
use Rattle.in_memory.specs.Ownership.{row, row_lent, cells_own, cells_lent}
use Rattle.in_memory.specs.contracts.cells.Cells as cells
use Rattle.in_memory.specs.contracts.cells.Deed as deed

module _ (R : RattleType) where
  row_keyless : IsSend R → (b o : ℕ) (cs : List (Option (Option R.Denot))) → Keyless (row R b o cs)
  row_keyless s b o [] = tt
  row_keyless s b o (None ∷ cs) = (tt, row_keyless s b (o + type_size R) cs)
  row_keyless s b o (Some None ∷ cs) = (tt, row_keyless s b (o + type_size R) cs)
  row_keyless s b o (Some (Some x) ∷ cs) = (part_keyless R s full_share x b o, row_keyless s b (o + type_size R) cs)

  row_common : IsSync R → (b o : ℕ) (cs : List (Option (Option R.Denot))) → Common (row_lent R b o cs)
  row_common y b o [] κ = tt
  row_common y b o (None ∷ cs) κ = (tt, row_common y b (o + type_size R) cs κ)
  row_common y b o (Some None ∷ cs) κ = (tt, row_common y b (o + type_size R) cs κ)
  row_common y b o (Some (Some x) ∷ cs) κ = (y.shared x b o κ, row_common y b (o + type_size R) cs κ)

  own_keyless : IsSend R → (p : Ptr) (cs : List (Option (Option R.Denot))) → Keyless (cells_own R p cs)
  own_keyless s (block_ptr b o) cs = (tt, row_keyless s b o cs)
  own_keyless s null_ptr cs = tt

  lent_common : IsSync R → (p : Ptr) (cs : List (Option (Option R.Denot))) → Common (cells_lent R p cs)
  lent_common y (block_ptr b o) cs κ = (tt, row_common y b o cs κ)
  lent_common y null_ptr cs κ = tt

  pub cells_send : IsSend R → IsSend (cells.the_row R)
  cells_send s =
      let O = cells.the_type R in let all : AllSend (fields O) = (search sendable, tt) in
      owning_send O all (λ d. own_keyless s d.at d.slots) (λ k. quiet (to O) (exits_of k (fields O)) ((struct_send (shape O) all).leaving k))

  pub cells_sync : IsSync R → IsSync (cells.the_row R)
  cells_sync y =
      let O = cells.the_type R in
      record { shared = λ d b o κ. ((struct_sync (shape O) (search sendable, tt)).shared (to O d) b o κ, lent_common y d.at d.slots κ) }

  module _ (A : RattleType) (g : Ghosts A.Denot) where
    pub deed_send : FreesAnywhere A.Denot g → IsSend (deed.the_row R A g)
    deed_send f =
        let O = deed.the_type R A g in let all : AllSend (fields O) = (search sendable, tt) in
        owning_send O all (λ d. f.frees d.alloc _ d.at) (λ k. quiet (to O) (exits_of k (fields O)) ((struct_send (shape O) all).leaving k))

    pub deed_sync : IsSync (deed.the_row R A g)
    deed_sync = let O = deed.the_type R A g in record { shared = λ d b o κ. ((struct_sync (shape O) (search sendable, tt)).shared (to O d) b o κ, tt) }
