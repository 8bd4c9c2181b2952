-- A list that is made one by one.
use Rattle.std.proofs.Common.{◌≡◌, ◌+◌, ℕ, Some, List, [], ◌∷◌, ◌++◌, map, take, slice_get, append_assoc, ap, sym, ◌∙◌}
use Rattle.std.proofs.lemmas.List.{map-append, take_more}
use Rattle.std.proofs.lemmas.Option.{slice_get_within, get_or_from_slice_get}

pub mapped_more : {X Y : Type 0} (f : X → Y) (xs : List X) (k : ℕ) (x : X) (before ys zs : List Y) → slice_get xs k ≡ Some x → ys ≡ before ++ map f (take k xs) → zs ≡ ys ++ f x ∷ [] → zs ≡ before ++ map f (take (k + 1) xs)
mapped_more {X} {Y} f xs k x before ys zs stands e last =
    let more : take (k + 1) xs ≡ take k xs ++ x ∷ [] = take_more xs k x (slice_get_within xs k x stands) ∙ ap (λ (z : X). take k xs ++ z ∷ []) (get_or_from_slice_get xs k x x stands) in
    last ∙ ap (λ (z : List Y). z ++ f x ∷ []) e ∙ append_assoc before (map f (take k xs)) (f x ∷ [])
    ∙ ap (λ (z : List Y). before ++ z) (sym (map-append f (take k xs) (x ∷ [])) ∙ ap (map f) (sym more))
