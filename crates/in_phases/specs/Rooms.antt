-- Room in which parts are gathered and moved. This project's own choice.
use Rattle.std.specs.Prelude.{◌≡◌, ◌≤◌, length}
use Rattle.in_phases.specs.declared.room.Room.{Room}

-- it has room for no number
abbrev pub HasNoRoom : Room → Type 0
HasNoRoom r = (length r.branch.marks.items ≡ 0) × (length r.names.items ≡ 0)

-- the second room has room for at least as many numbers as the first
abbrev pub KeepsRoom : Room → Room → Type 0
KeepsRoom r s = (length r.branch.marks.items ≤ length s.branch.marks.items) × (length r.names.items ≤ length s.names.items)
