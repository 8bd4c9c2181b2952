-- A `&` to an owner of cells reaches their contents. Assumes `Logic`.
use mathlib.Core.List.{[], ◌++◌}
use base.Fml.{Incl-trans}
use contract.BorrowLft.{meet_⊑_left}
use denote.RattleType.{RattleType}
use denote.RawPtr.{RawPtr}
use denote.Param.Laws.{Laws}
use denote.Param.Shared.{copy_shared}
use denote.Struct.Laws.{field_copy}
use denote.Struct.Lending.{of_Lends}
use Rattle.core.specs.contracts.marker.PhantomData as marker
use Rattle.in_memory.specs.contracts.cells.Cells as cells
use Rattle.in_memory.proofs.cells.Cells.TheLaw.Statement as stated
use Rattle.in_memory.proofs.Sharing.{cells_laws, lends_cells}

pub shares : (R : RattleType) (L : Laws R) → stated.statement R L
shares R L =
    let inside = Incl-trans (meet_⊑_left (R.lives ++ []) _) (meet_⊑_left R.lives []) in
    of_Lends (cells.struct R) (cells.the_codes R.Denot R.coded (marker.the_row RawPtr).coded) (cells.the_heap R) (cells.the_lent R) (λ d p. cells_laws R L.shr_laws d.at d.slots)
    (copy_shared (marker.the_field RawPtr) (field_copy (marker.the_type RawPtr) tt), tt) (λ M 𝓤 𝓛 d p. lends_cells 𝓛 (cells.the_row R).lives R L inside d.at d.slots)
