-- Sets of nodes: lists of tests, node by node, and how they are kept.
use Rattle.std.specs.Prelude.{◌≡◌, ℕ, ◌+◌, ◌<◌, ◌≤◌, ◌^◌, Bool, true, false, cond, ◌||◌, nat_eq, List, [], ◌∷◌, length, map, replicate, slice_set, slice_index_or}

-- a set of nodes, by a test for each in turn
abbrev pub NodeBits : Type 0
NodeBits = List Bool

abbrev pub nodes_in : NodeBits → ℕ → Bool
nodes_in bits n = slice_index_or bits n false

-- how many nodes are not in the set
abbrev pub missing : NodeBits → ℕ
missing [] = 0
missing (b ∷ bs) = cond b 0 1 + missing bs

-- c has the members of a and of b
abbrev pub IsUnion : NodeBits → NodeBits → NodeBits → Type 0
IsUnion a b c = (n : ℕ) → nodes_in c n ≡ (nodes_in a n || nodes_in b n)

-- ---- by marks, and by members

-- the members are those with the last mark
abbrev pub marked : ℕ → List ℕ → NodeBits
marked last marks = map (λ m. nat_eq m last) marks

-- no mark is past the last one, and `out` numbers are no members
pub record AreMarks (marks : List ℕ) (last out : ℕ) : Type 0 where
  pub some : 0 < last
  pub most : (n : ℕ) → slice_index_or marks n 0 ≤ last
  pub absent : out ≡ missing (marked last marks)
  pub few : length marks < 2 ^ 64

-- the tests of `count` nodes of which these are members
abbrev pub tests_of : ℕ → List ℕ → NodeBits
tests_of count [] = replicate count false
tests_of count (n ∷ ns) = slice_set (tests_of count ns) n true
