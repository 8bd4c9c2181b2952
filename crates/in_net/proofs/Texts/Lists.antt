-- The reading of a list at an index, and which indices are in range.
use Rattle.std.proofs.Common.{◌≡◌, ◌<◌, ℕ, true, false, Option, Some, None, is_some, List, length, slice_get, get_or, refl, ◌∙◌}
use Rattle.std.specs.Prelude.{option_and_then}
use Rattle.std.proofs.lemmas.Option.{slice_get_read, slice_get_within, get_or_from_slice_get}
use Rattle.in_net.specs.declared.nets.Cell.{Cell}

-- the reading at an index is nothing
pub none_read : {X : Type 0} (xs : List (Option X)) (i : ℕ) (o : Option X) → i < length xs → o ≡ get_or xs i o → is_some o ≡ false → slice_get xs i ≡ Some None
none_read xs i None h e is = slice_get_read xs (length xs) i None refl h e
none_read xs i (Some x) h e is = cc

pub some_read : {X : Type 0} (xs : List (Option X)) (i : ℕ) (o : Option X) → i < length xs → o ≡ get_or xs i o → is_some o ≡ true → (x : X) × (slice_get xs i ≡ Some (Some x))
some_read xs i None h e is = cc
some_read xs i (Some x) h e is = (x, slice_get_read xs (length xs) i (Some x) refl h e)

-- the reading at an index that has something
pub there_read : {X : Type 0} (xs : List (Option X)) (i : ℕ) (o : Option X) (x : X) → option_and_then (λ (o : Option X). o) (slice_get xs i) ≡ Some x → o ≡ get_or xs i o → o ≡ Some x
there_read {X} xs i o x e is = go (slice_get xs i) refl e
  where
    go : (p : Option (Option X)) → slice_get xs i ≡ p → option_and_then (λ (o : Option X). o) p ≡ Some x → o ≡ Some x
    go None f e = cc
    go (Some p) f e = is ∙ get_or_from_slice_get xs i p o f ∙ e

-- a cell that is there has a number in range
pub cell_within : (cs : List (Option Cell)) (x : ℕ) (c : Cell) → option_and_then (λ (c : Option Cell). c) (slice_get cs x) ≡ Some c → x < length cs
cell_within cs x c e = go (slice_get cs x) refl e
  where
    go : (o : Option (Option Cell)) → slice_get cs x ≡ o → option_and_then (λ (c : Option Cell). c) o ≡ Some c → x < length cs
    go None is e = cc
    go (Some d) is e = slice_get_within cs x d is
