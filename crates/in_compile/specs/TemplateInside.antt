-- The invariant of a template's fields: its right member is small, its first two agents fit the order in which they take the pair's cells, and its
-- wires are listed.
use Rattle.std.specs.Prelude.{◌≡◌}
use Rattle.in_compile.specs.OwnOrders.{FitsOrder}
use Rattle.in_compile.specs.Storing.{IsSmallMember}
use Rattle.in_compile.specs.Wires.{over_of, within_of}
use Rattle.in_compile.specs.declared.template.Template.TheInside.{Inside}

pub record IsTemplate (t : Inside) : Type 0 where
  pub small : IsSmallMember t.member
  pub own : FitsOrder t.own t.member t.classes
  pub over : t.over ≡ over_of t.member
  pub within : t.within ≡ within_of t.member
