-- The view of a member, and the invariant of its fields.
use Rattle.std.specs.Prelude.{take}
use Rattle.in_compile.specs.Members.{MemberParts, IsSoundMember}
use Rattle.in_compile.specs.Storing.{agents_from, IsLaidOut}
use Rattle.in_compile.specs.declared.member.Member.TheInside.{Inside}

abbrev pub member_view : Inside → MemberParts
member_view m = record { agents = agents_from m.joints m.agents; joints = take m.boundary m.joints; pairs = m.pairs; need = m.need }

pub record IsMember (m : Inside) : Type 0 where
  pub laid : IsLaidOut m.agents m.joints m.boundary m.pairs
  pub sound : IsSoundMember (member_view m)
