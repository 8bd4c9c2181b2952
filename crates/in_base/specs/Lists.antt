-- Properties of the elements of a list. That each of them has a property is `AllByRecursion` of the standard library.
use Rattle.std.specs.Prelude.{◌≡◌, ◌⊎◌, List, [], ◌∷◌}
use Rattle.std.specs.List.{AllByRecursion}

-- an element of the list has the property
abbrev pub AnyByRecursion : {X : Type 0} → (X → Type 0) → List X → Type 0
AnyByRecursion P [] = ⊥
AnyByRecursion P (x ∷ xs) = P x ⊎ AnyByRecursion P xs

-- x is an element of the list
abbrev pub IsAmong : {X : Type 0} → X → List X → Type 0
IsAmong x = AnyByRecursion (λ y. y ≡ x)

-- each two elements of the list have the relation, the earlier one first
abbrev pub Pairwise : {X : Type 0} → (X → X → Type 0) → List X → Type 0
Pairwise R [] = Unit {0}
Pairwise R (x ∷ xs) = AllByRecursion (R x) xs × Pairwise R xs
