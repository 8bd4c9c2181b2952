-- Lists that are glued: the first elements of one list, a given number of them, and then by turns an element of the other and of this one.
use Rattle.std.proofs.Common.{◌≡◌, ◌<◌, ◌≤◌, ◌+◌, ◌-◌, ℕ, zero, suc, Option, Some, None, List, [], ◌∷◌, ◌++◌, length, map, take, drop, get_or, slice_get, refl, sym, ap, ◌∙◌, length-append, length-drop, append_assoc, arith}
use Rattle.std.proofs.lemmas.List.{drop-map, length-map, length-take-le, map-append, map_more, take-map, take_more, take_rest}
use Rattle.std.proofs.lemmas.Option.{same_Some}
use Rattle.in_cells.specs.Laws.{ends_of}
use Rattle.in_reducer.specs.Gluing.{glued, in_turn}
use Rattle.in_reducer.specs.Parting.{by_turns, ends_of_two}

-- ---- lists by turns

in_turn_push : {X : Type 0} (ys xs : List X) (y x : X) → length xs ≡ length ys → in_turn (ys ++ y ∷ []) (xs ++ x ∷ []) ≡ (in_turn ys xs ++ y ∷ []) ++ x ∷ []
in_turn_push [] [] y x e = refl
in_turn_push [] (z ∷ xs) y x e = absurd (omega (arith, e))
in_turn_push (v ∷ ys) [] y x e = absurd (omega (arith, e))
in_turn_push (v ∷ ys) (z ∷ xs) y x e = ap (λ zs. v ∷ z ∷ zs) (in_turn_push ys xs y x (omega (arith, e)))

-- one more of each, at the end of a list
pub one_more_turn : {X : Type 0} (front list ys xs : List X) (y x : X) → length xs ≡ length ys → list ≡ front ++ in_turn ys xs → (list ++ y ∷ []) ++ x ∷ [] ≡ front ++ in_turn (ys ++ y ∷ []) (xs ++ x ∷ [])
one_more_turn front list ys xs y x same is =
    ap (λ zs. (zs ++ y ∷ []) ++ x ∷ []) is ∙ ap (λ zs. zs ++ x ∷ []) (append_assoc front (in_turn ys xs) (y ∷ [])) ∙ append_assoc front (in_turn ys xs ++ y ∷ []) (x ∷ [])
    ∙ ap (λ zs. front ++ zs) (sym (in_turn_push ys xs y x same))

pub turn_done : {X : Type 0} (front list once twice ys xs : List X) (i : ℕ) (d e : X) → i < length ys → i < length xs → list ≡ front ++ in_turn (take i ys) (take i xs) → once ≡ list ++ get_or ys i d ∷ [] → twice ≡ once ++ get_or xs i e ∷ [] →
    twice ≡ front ++ in_turn (take (i + 1) ys) (take (i + 1) xs)
turn_done front list once twice ys xs i d e low_y low_x is first second =
    second ∙ ap (λ zs. zs ++ get_or xs i e ∷ []) first
    ∙ one_more_turn front list (take i ys) (take i xs) (get_or ys i d) (get_or xs i e) (length-take-le i xs (omega (arith, low_x)) ∙ sym (length-take-le i ys (omega (arith, low_y)))) is
    ∙ ap (λ zs. front ++ in_turn zs (take i xs ++ get_or xs i e ∷ [])) (sym (take_more ys i d low_y)) ∙ ap (λ zs. front ++ in_turn (take (i + 1) ys) zs) (sym (take_more xs i e low_x))

-- .. of their images
pub mapped_turn_done : {X Y : Type 0} (g f : X → Y) (front list once twice : List Y) (ys xs : List X) (i : ℕ) (d e : X) (y x : Y) → i < length ys → i < length xs → list ≡ front ++ in_turn (map g (take i ys)) (map f (take i xs)) →
    once ≡ list ++ y ∷ [] → y ≡ g (get_or ys i d) → twice ≡ once ++ x ∷ [] → x ≡ f (get_or xs i e) → twice ≡ front ++ in_turn (map g (take (i + 1) ys)) (map f (take (i + 1) xs))
mapped_turn_done g f front list once twice ys xs i d e y x low_y low_x is first is_y second is_x =
    second ∙ ap (λ zs. zs ++ x ∷ []) first
    ∙ one_more_turn front list (map g (take i ys)) (map f (take i xs)) y x
    (length-map (take i xs) f ∙ length-take-le i xs (omega (arith, low_x)) ∙ sym (length-map (take i ys) g ∙ length-take-le i ys (omega (arith, low_y)))) is
    ∙ ap (λ z. front ++ in_turn (map g (take i ys) ++ z ∷ []) (map f (take i xs) ++ x ∷ [])) is_y ∙ ap (λ z. front ++ in_turn (map g (take i ys) ++ g (get_or ys i d) ∷ []) (map f (take i xs) ++ z ∷ [])) is_x
    ∙ ap (λ zs. front ++ in_turn zs (map f (take i xs) ++ f (get_or xs i e) ∷ [])) (sym (map_more g ys i d low_y)) ∙ ap (λ zs. front ++ in_turn (map g (take (i + 1) ys)) zs) (sym (map_more f xs i e low_x))

-- two lists are glued by their parts
pub glued_by : {X Y : Type 0} (g f : X → Y) (front first all : List Y) (ys xs : List X) (k own : ℕ) → k ≡ own → front ≡ [] → first ≡ front ++ map f (take k xs) →
    all ≡ first ++ in_turn (map g ys) (map f (take (length xs - k) (drop k xs))) → all ≡ glued own (map f xs) (map g ys)
glued_by g f front first all ys xs k own same none is_first is_all =
    is_all ∙ ap (λ zs. zs ++ in_turn (map g ys) (map f (take (length xs - k) (drop k xs)))) (is_first ∙ ap (λ zs. zs ++ map f (take k xs)) none)
    ∙ ap (λ zs. map f (take k xs) ++ in_turn (map g ys) (map f zs)) (take_rest xs k) ∙ ap (λ (z : ℕ). map f (take z xs) ++ in_turn (map g ys) (map f (drop z xs))) same
    ∙ ap (λ zs. zs ++ in_turn (map g ys) (map f (drop own xs))) (sym (take-map f own xs)) ∙ ap (λ zs. take own (map f xs) ++ in_turn (map g ys) zs) (sym (drop-map f own xs))

pub length-in_turn : {X : Type 0} (ys xs : List X) → length xs ≡ length ys → length (in_turn ys xs) ≡ length ys + length xs
length-in_turn [] [] e = refl
length-in_turn [] (x ∷ xs) e = absurd (omega (arith, e))
length-in_turn (y ∷ ys) [] e = absurd (omega (arith, e))
length-in_turn (y ∷ ys) (x ∷ xs) e = let h = length-in_turn ys xs (omega (arith, e)) in omega (arith, h)

in_turn-map : {X Y : Type 0} (f : X → Y) (ys xs : List X) → map f (in_turn ys xs) ≡ in_turn (map f ys) (map f xs)
in_turn-map f [] xs = refl
in_turn-map f (y ∷ ys) [] = refl
in_turn-map f (y ∷ ys) (x ∷ xs) = ap (λ zs. f y ∷ f x ∷ zs) (in_turn-map f ys xs)

-- ---- glued lists

pub glued-map : {X Y : Type 0} (f : X → Y) (own : ℕ) (xs ys : List X) → map f (glued own xs ys) ≡ glued own (map f xs) (map f ys)
glued-map f own xs ys =
    map-append f (take own xs) (in_turn ys (drop own xs)) ∙ ap (λ zs. zs ++ map f (in_turn ys (drop own xs))) (sym (take-map f own xs))
    ∙ ap (λ zs. take own (map f xs) ++ zs) (in_turn-map f ys (drop own xs) ∙ ap (in_turn (map f ys)) (sym (drop-map f own xs)))

pub length-glued : {X : Type 0} (own : ℕ) (xs ys : List X) → length xs ≡ own + length ys → length (glued own xs ys) ≡ length xs + length ys
length-glued own xs ys e =
    let a = length-append (take own xs) (in_turn ys (drop own xs)) in
    let b = length-take-le own xs (omega (arith, e)) in
    let c : length (drop own xs) ≡ length ys = (let d = length-drop own xs in omega (arith, d, e)) in
    let d = length-in_turn ys (drop own xs) c in
    omega (arith, a, b, c, d, e)

-- all elements of a list, which a function has from a number on
first_are : {X : Type 0} (f : ℕ × ℕ → Option X) (i k n : ℕ) (xs : List X) → n ≤ length xs → ((j : ℕ) → f (i, k + j) ≡ slice_get xs j) → map (λ t. Some t) (take n xs) ≡ map f (ends_of i k n)
first_are f i k zero xs low h = refl
first_are f i k (suc n) [] low h = absurd (omega (arith, low))
first_are {X} f i k (suc n) (x ∷ xs) low h =
    let one : Some x ≡ f (i, k) = sym (ap (λ (z : ℕ). f (i, z)) (let e : k ≡ k + 0 = omega arith in e) ∙ h 0) in
    let rest = first_are f i (suc k) n xs (omega (arith, low)) (λ j. ap (λ (z : ℕ). f (i, z)) (let e : suc k + j ≡ k + suc j = omega arith in e) ∙ h (suc j)) in
    ap (λ (z : Option X). z ∷ map (λ t. Some t) (take n xs)) one ∙ ap (λ zs. f (i, k) ∷ zs) rest

turns_are : {X : Type 0} (f : ℕ × ℕ → Option X) (own j w : ℕ) (ys xs : List X) → length ys ≡ w → length xs ≡ w → ((i : ℕ) → f (1, j + i) ≡ slice_get ys i) → ((i : ℕ) → f (0, own + (j + i)) ≡ slice_get xs i) →
    map (λ t. Some t) (in_turn ys xs) ≡ map f (by_turns own j w)
turns_are f own j zero [] xs many_y many_x hy hx = refl
turns_are f own j zero (y ∷ ys) xs many_y many_x hy hx = absurd (omega (arith, many_y))
turns_are f own j (suc w) [] xs many_y many_x hy hx = absurd (omega (arith, many_y))
turns_are f own j (suc w) (y ∷ ys) [] many_y many_x hy hx = absurd (omega (arith, many_x))
turns_are {X} f own j (suc w) (y ∷ ys) (x ∷ xs) many_y many_x hy hx =
    let one : Some y ≡ f (1, j) = sym (ap (λ (z : ℕ). f (1, z)) (let e : j ≡ j + 0 = omega arith in e) ∙ hy 0) in
    let two : Some x ≡ f (0, own + j) = sym (ap (λ (z : ℕ). f (0, z)) (let e : own + j ≡ own + (j + 0) = omega arith in e) ∙ hx 0) in
    let rest =
    turns_are f own (suc j) w ys xs (omega (arith, many_y)) (omega (arith, many_x)) (λ i. ap (λ (z : ℕ). f (1, z)) (let e : suc j + i ≡ j + suc i = omega arith in e) ∙ hy (suc i))
    (λ i. ap (λ (z : ℕ). f (0, z)) (let e : own + (suc j + i) ≡ own + (j + suc i) = omega arith in e) ∙ hx (suc i)) in
    ap (λ (z : Option X). z ∷ Some x ∷ map (λ t. Some t) (in_turn ys xs)) one ∙ ap (λ (z : Option X). f (1, j) ∷ z ∷ map (λ t. Some t) (in_turn ys xs)) two ∙ ap (λ zs. f (1, j) ∷ f (0, own + j) ∷ zs) rest

dropped : {X : Type 0} (own : ℕ) (xs : List X) (i : ℕ) → slice_get (drop own xs) i ≡ slice_get xs (own + i)
dropped zero xs i = ap (slice_get xs) (let e : i ≡ 0 + i = omega arith in e)
dropped (suc own) [] i = refl
dropped (suc own) (x ∷ xs) i = dropped own xs i ∙ ap (slice_get (x ∷ xs)) (let e : suc (own + i) ≡ suc own + i = omega arith in e)

-- two lists glued are both, in the order of the free ends of two
pub glued_are : {X : Type 0} (f : ℕ × ℕ → Option X) (own w : ℕ) (xs ys : List X) → length xs ≡ own + w → length ys ≡ w → ((e : ℕ) → f (0, e) ≡ slice_get xs e) → ((e : ℕ) → f (1, e) ≡ slice_get ys e) →
    map (λ t. Some t) (glued own xs ys) ≡ map f (ends_of_two own w)
glued_are f own w xs ys many_x many_y hx hy =
    let first = first_are f 0 0 own xs (omega (arith, many_x)) (λ j. ap (λ (z : ℕ). f (0, z)) (let e : 0 + j ≡ j = omega arith in e) ∙ hx j) in
    let turns =
    turns_are f own 0 w ys (drop own xs) many_y (let e = length-drop own xs in omega (arith, e, many_x)) (λ i. ap (λ (z : ℕ). f (1, z)) (let e : 0 + i ≡ i = omega arith in e) ∙ hy i)
    (λ i. ap (λ (z : ℕ). f (0, z)) (let e : own + (0 + i) ≡ own + i = omega arith in e) ∙ hx (own + i) ∙ sym (dropped own xs i)) in
    map-append (λ t. Some t) (take own xs) (in_turn ys (drop own xs)) ∙ ap (λ zs. zs ++ map (λ t. Some t) (in_turn ys (drop own xs))) first
    ∙ ap (λ zs. map f (ends_of 0 0 own) ++ zs) turns ∙ sym (map-append f (ends_of 0 0 own) (by_turns own 0 w))

-- the elements of a list that are determined by those of another one
pub told_at : {X : Type 0} (f : ℕ × ℕ → Option X) (xs : List X) (ends : List (ℕ × ℕ)) (k : ℕ) (p : ℕ × ℕ) → map (λ t. Some t) xs ≡ map f ends → slice_get ends k ≡ Some p → slice_get xs k ≡ f p
told_at {X} f [] [] k p same at = absurd (let g : None ≡ Some p = at in cc)
told_at {X} f [] (q ∷ ends) k p same at = absurd (let g : ◌≡◌ {A = List (Option X)} [] (f q ∷ map f ends) = same in cc)
told_at {X} f (x ∷ xs) [] k p same at = absurd (let g : None ≡ Some p = at in cc)
told_at {X} f (x ∷ xs) (q ∷ ends) zero p same at = (let g : ◌≡◌ {A = List (Option X)} (Some x ∷ map (λ t. Some t) xs) (f q ∷ map f ends) = same in let h : Some x ≡ f q = cc in h) ∙ ap f (same_Some q p at)
told_at {X} f (x ∷ xs) (q ∷ ends) (suc k) p same at = told_at f xs ends k p (let g : ◌≡◌ {A = List (Option X)} (Some x ∷ map (λ t. Some t) xs) (f q ∷ map f ends) = same in cc) at
