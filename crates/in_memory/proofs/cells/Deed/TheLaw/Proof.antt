-- A `&` to the right to free a row holds nothing. Assumes `Logic`.
use denote.RattleType.{RattleType}
use denote.RawPtr.{RawPtr}
use denote.Param.Laws.{Laws}
use denote.Param.Shared.{copy_shared}
use denote.SharingLaws.{nothing_shr_laws}
use denote.Struct.Laws.{field_copy}
use denote.Struct.Lending.{of_Lends, Lends-nothing}
use Rattle.core.specs.declared.alloc.Allocator.{Ghosts}
use Rattle.core.specs.contracts.marker.PhantomData as marker
use Rattle.in_memory.specs.contracts.cells.Deed as deed
use Rattle.in_memory.proofs.cells.Deed.TheLaw.Statement as stated

pub shares : (K A : RattleType) (g : Ghosts A.Denot) (L : Laws K) (P : Laws A) → stated.statement K A g L P
shares K A g L P =
    of_Lends (deed.struct K A g) (deed.the_codes K.Denot A.Denot K.coded A.coded (marker.the_row RawPtr).coded) (deed.the_heap K A g) (deed.the_lent K A g) (λ d p. nothing_shr_laws)
    (copy_shared (marker.the_field RawPtr) (field_copy (marker.the_type RawPtr) tt), tt) (λ M 𝓤 𝓛 d p. Lends-nothing 𝓛 (deed.the_heap K A g d) (deed.the_row K A g).lives)
