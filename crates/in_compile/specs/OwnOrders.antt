-- How the first two agents of a right member take the cells of the pair. That they take them is this project's own choice.
use Rattle.std.specs.Prelude.{◌≡◌, ◌<◌, ℕ, Bool, true, false, IsTrue, length, Some}
use Rattle.in_arena.specs.declared.content.CellClass.{CellClass}
use Rattle.in_compile.specs.Members.{MemberParts, class_at}
use Rattle.in_compile.specs.declared.template.OwnOrder.{OwnOrder}

-- the classes of the pair's cells, as they are or exchanged
abbrev pub in_order : Bool → CellClass × CellClass → CellClass × CellClass
in_order false classes = classes
in_order true classes = (classes.1, classes.0)

-- there is an agent of this number, and it takes a cell of this class
abbrev pub Takes : MemberParts → ℕ → CellClass → Type 0
Takes m k class = (k < length m.agents) × (class_at m k ≡ Some class)

-- the first two agents take cells of these classes
abbrev pub BothTake : MemberParts → CellClass × CellClass → Type 0
BothTake m classes = Takes m 0 classes.0 × Takes m 1 classes.1

-- if both agents are to have cells of their classes in this order, the pair's cells are of these
abbrev pub FitsOrder : OwnOrder → MemberParts → CellClass × CellClass → Type 0
FitsOrder own m classes = IsTrue own.both → BothTake m (in_order own.turned classes)
