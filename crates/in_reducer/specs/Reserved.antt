-- Lists with room that was taken before it is used. This project's own choice.
use Rattle.std.specs.Prelude.{◌≡◌, ◌≤◌, ℕ, [], vec_capacity}
use Rattle.std.specs.declared.vec.Vec.{Vec}

-- the list is empty, and has room for `many` elements
abbrev pub IsReserved : {X Z : Type 0} → ℕ → Vec X Z → Type 0
IsReserved many v = (v.items ≡ []) × (many ≤ vec_capacity v)
