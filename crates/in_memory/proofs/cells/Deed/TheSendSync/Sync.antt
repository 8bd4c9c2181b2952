use denote.RattleType.{RattleType}
use denote.Param.Send.{IsSync}
use Rattle.core.specs.declared.alloc.Allocator.{Ghosts}
use Rattle.in_memory.proofs.Crossing.{deed_sync}
use Rattle.in_memory.specs.contracts.cells.Deed.{the_row}

pub sync : (R A : RattleType) (g : Ghosts A.Denot) → IsSync (the_row R A g)
sync = deed_sync
