-- The texts of JSON values.
use Rattle.std.specs.Prelude.{ℕ, zero, suc, ◌+◌, Bool, true, false, List, [], ◌∷◌, ◌++◌, length, codes, decimal, slice_index_or}

-- a name between two quotation marks; it holds no character that JSON writes in another way
abbrev pub name_text : List ℕ → List ℕ
name_text name = 34 ∷ [] ++ (name ++ 34 ∷ [])

abbrev pub bool_text : Bool → List ℕ
bool_text true = codes "true"
bool_text false = codes "false"

-- the name of a member of an object, and a colon
abbrev pub key : List ℕ → List ℕ
key name = 34 ∷ [] ++ (name ++ (34 ∷ 58 ∷ []))

-- a comma, except before number 0
abbrev pub comma : ℕ → List ℕ
comma zero = []
comma (suc k) = codes ","

-- the texts of a given count of numbers, from k on, each after its comma
abbrev pub elements : (ℕ → List ℕ) → ℕ → ℕ → List ℕ
elements text k zero = []
elements text k (suc n) = (comma k ++ text k) ++ elements text (k + 1) n

-- an array of the texts of the first n numbers 0, 1 ..
abbrev pub array : (ℕ → List ℕ) → ℕ → List ℕ
array text n = codes "[" ++ (elements text 0 n ++ codes "]")

-- an array of numbers
abbrev pub numbers_text : List ℕ → List ℕ
numbers_text numbers = array (λ k. decimal (slice_index_or numbers k 0)) (length numbers)
