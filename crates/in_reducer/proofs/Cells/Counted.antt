-- If no cell is on lease, and each live one is of the class of its agent's symbol, free cells and agents of a class make up its cells.
use Rattle.std.proofs.Common.{◌≡◌, ◌⊎◌, inl, inr, ◌<◌, ◌≤◌, ◌+◌, ℕ, zero, suc, Bool, true, false, cond, Option, Some, List, [], ◌∷◌, length, map, take, drop, get_or, count_by, refl, sym, ap, subst, ◌∙◌, length-drop, arith}
use Rattle.std.proofs.lemmas.Bool.{cases_lt}
use Rattle.std.proofs.lemmas.List.{get_or-drop}
use Rattle.std.proofs.lemmas.List.Sums.{sum_by-cons}
use Rattle.in_arena.specs.Arenas.{ArenaView, free_of, state_at}
use Rattle.in_arena.specs.Classes.{IsNumberOf, amount, first_of}
use Rattle.in_arena.specs.States.{State, Vacant, Leased, Live, IsLeased, is_vacant, word_of}
use Rattle.in_arena.specs.declared.content.CellClass.{CellClass}
use Rattle.in_symbols.specs.Tables.{Tables}
use Rattle.in_net.specs.declared.nets.Cell.{Cell}
use Rattle.in_arena.proofs.Public.{class_of_number, class_within}
use Rattle.in_symbols.specs.Tables.{arity_of}
use Rattle.in_compile.proofs.Public.{counted_by, one_class}
use Rattle.in_compile.specs.Cells.{is_of, takes, agents_of, count_of}
use Rattle.in_reducer.specs.Standing.{agent_in, agents_in, at_rest, vacant_in, IsNetIn}
use Rattle.in_reducer.proofs.Cells.AtRest.{agents_same}

-- ---- states that only a part of a list has

module _ (P : State → Bool) where
  abbrev one : State → ℕ
  one y = cond (P y) 1 0

  none : (xs : List State) → ((i : ℕ) → P (get_or xs i Leased) ≡ false) → count_by P xs ≡ 0
  none [] h = refl
  none (x ∷ xs) h =
      let e = sum_by-cons one x xs in
      let f = none xs (λ i. h (suc i)) in
      let g : one x ≡ 0 = ap (λ (b : Bool). cond b 1 0) (h 0) in
      omega (arith, e, f, g)

  in_part : (s n : ℕ) (xs : List State) → ((i : ℕ) → i < s → P (get_or xs i Leased) ≡ false) → ((i : ℕ) → s + n ≤ i → P (get_or xs i Leased) ≡ false) → count_by P xs ≡ count_by P (take n (drop s xs))
  in_part zero zero xs before after = none xs (λ i. after i (omega arith))
  in_part zero (suc n) [] before after = refl
  in_part zero (suc n) (x ∷ xs) before after =
      let rest = in_part zero n xs (λ i l. absurd (omega (arith, l))) (λ i l. after (suc i) (omega (arith, l))) in
      let e = sum_by-cons one x xs in
      let f = sum_by-cons one x (take n xs) in
      omega (arith, rest, e, f)
  in_part (suc s) zero [] before after = refl
  in_part (suc s) (suc n) [] before after = refl
  in_part (suc s) n (x ∷ xs) before after =
      let rest = in_part s n xs (λ i l. before (suc i) (omega (arith, l))) (λ i l. after (suc i) (omega (arith, l))) in
      let e = sum_by-cons one x xs in
      let g : one x ≡ 0 = ap (λ (b : Bool). cond b 1 0) (before 0 (omega arith)) in
      omega (arith, rest, e, g)

  -- each element has one of two properties
  abbrev OneOf : State → Type 0
  OneOf x = ((is_vacant x ≡ true) × (P x ≡ false)) ⊎ ((is_vacant x ≡ false) × (P x ≡ true))

  sums : (a b : Bool) → ((a ≡ true) × (b ≡ false)) ⊎ ((a ≡ false) × (b ≡ true)) → cond a 1 0 + cond b 1 0 ≡ 1
  sums true true h = elim h [ inl f ↦ absurd (let z : true ≡ false = f.1 in cc) | inr f ↦ absurd (let z : true ≡ false = f.0 in cc) ]
  sums true false h = refl
  sums false true h = refl
  sums false false h = elim h [ inl f ↦ absurd (let z : false ≡ true = f.0 in cc) | inr f ↦ absurd (let z : false ≡ true = f.1 in cc) ]

  all_one : (xs : List State) → ((i : ℕ) → i < length xs → OneOf (get_or xs i Leased)) → count_by is_vacant xs + count_by P xs ≡ length xs
  all_one [] h = refl
  all_one (x ∷ xs) h =
      let rest = all_one xs (λ i l. h (suc i) (omega (arith, l))) in
      let e = sum_by-cons (λ (y : State). cond (is_vacant y) 1 0) x xs in
      let f = sum_by-cons one x xs in
      let g = sums (is_vacant x) (P x) (h 0 (omega arith)) in
      omega (arith, rest, e, f, g)

get_or-take : (n : ℕ) (xs : List State) (i : ℕ) → i < n → get_or (take n xs) i Leased ≡ get_or xs i Leased
get_or-take zero xs i l = absurd (omega (arith, l))
get_or-take (suc n) [] i l = refl
get_or-take (suc n) (x ∷ xs) zero l = refl
get_or-take (suc n) (x ∷ xs) (suc i) l = get_or-take n xs i (omega (arith, l))

get_or-past : (xs : List State) (i : ℕ) (d : State) → length xs ≤ i → get_or xs i d ≡ d
get_or-past [] i d l = refl
get_or-past (x ∷ xs) zero d l = absurd (omega (arith, l))
get_or-past (x ∷ xs) (suc i) d l = get_or-past xs i d (omega (arith, l))

-- ---- the part of a class

length_of_part : (n : ℕ) (xs : List State) → n ≤ length xs → length (take n xs) ≡ n
length_of_part zero xs l = refl
length_of_part (suc n) [] l = absurd (omega (arith, l))
length_of_part (suc n) (x ∷ xs) l = ap suc (length_of_part n xs (omega (arith, l)))

-- ---- agents

counted_map : {X Y : Type 0} (P : Y → Bool) (f : X → Y) (xs : List X) → count_by P (map f xs) ≡ count_by (λ x. P (f x)) xs
counted_map P f [] = refl
counted_map P f (x ∷ xs) = sum_by-cons (λ y. cond (P y) 1 0) (f x) (map f xs) ∙ ap (λ (k : ℕ). cond (P (f x)) 1 0 + k) (counted_map P f xs) ∙ sym (sum_by-cons (λ y. cond (P (f y)) 1 0) x xs)

module _ (t : Tables) (a : ArenaView) (h : IsNetIn t a) where
  -- an agent takes a cell of the class of its cell's number
  taken : CellClass → State → Bool
  taken c x = takes t c (agent_in x)

  -- no cell of another class does
  elsewhere : (c d : CellClass) (x : State) → (c ≡ d → ⊥) → ((s : ℕ) → word_of x ≡ Some s → is_of t d s ≡ true) → taken c x ≡ false
  unfolding taken
  elsewhere c d Vacant other of = refl
  elsewhere c d Leased other of = refl
  elsewhere c d (Live s es) other of = go (is_of t c s) refl
    where
      go : (b : Bool) → is_of t c s ≡ b → is_of t c s ≡ false
      go true e = absurd (other (one_class (arity_of t s + 1) c d e (of s refl)))
      go false e = e

  -- a cell of the class is free, or taken
  here : (c : CellClass) (x : State) → (IsLeased x → ⊥) → ((s : ℕ) → word_of x ≡ Some s → is_of t c s ≡ true) → OneOf (taken c) x
  unfolding taken
  here c Vacant out of = inl (refl, refl)
  here c Leased out of = absurd (out tt)
  here c (Live s es) out of = inr (refl, of s refl)

  past : (c : CellClass) (i : ℕ) → length a.states ≤ i → taken c (state_at a i) ≡ false
  unfolding taken
  past c i l = ap (λ (x : State). takes t c (agent_in x)) (get_or-past a.states i Leased l)

  not_taken : (c : CellClass) (i : ℕ) → (IsNumberOf a.cells c i → ⊥) → taken c (state_at a i) ≡ false
  not_taken c i out = go (cases_lt i (length a.states))
    where
      go : (i < length a.states) ⊎ (length a.states ≤ i) → taken c (state_at a i) ≡ false
      go (inr l) = past c i l
      go (inl l) =
          let d = class_of_number a.cells i (let e = h.all in omega (arith, l, e)) in
          elsewhere c d.0 (state_at a i) (λ e. out (subst (λ (z : CellClass). IsNumberOf a.cells z i) (sym e) d.1)) (λ s w. h.classed d.0 i s d.1 w)

  pub all_cells : (c : CellClass) → free_of a c + agents_of t c (agents_in a) ≡ amount a.cells c
  unfolding taken
  all_cells c =
      let s = first_of a.cells c in let n = amount a.cells c in
      let long : s + n ≤ length a.states = (let l = class_within a.cells c in let total = h.all in omega (arith, l, total)) in
      let counted : agents_of t c (agents_in a) ≡ count_by (taken c) a.states = counted_map (takes t c) agent_in a.states in
      let part : count_by (taken c) a.states ≡ count_by (taken c) (take n (drop s a.states)) =
      in_part (taken c) s n a.states (λ i l. not_taken c i (λ k. (let b = k.0 in omega (arith, b, l)))) (λ i l. not_taken c i (λ k. (let b = k.1 in omega (arith, b, l)))) in
      let length_is : length (take n (drop s a.states)) ≡ n = length_of_part n (drop s a.states) (let e = length-drop s a.states in omega (arith, e, long)) in
      let each = all_one (taken c) (take n (drop s a.states)) (λ i l. inside long i (subst (λ (z : ℕ). i < z) length_is l)) in
      omega (arith, counted, part, length_is, each)
    where
      inside : first_of a.cells c + amount a.cells c ≤ length a.states → (i : ℕ) → i < amount a.cells c → OneOf (taken c) (get_or (take (amount a.cells c) (drop (first_of a.cells c) a.states)) i Leased)
      inside long i l =
          let s = first_of a.cells c in let n = amount a.cells c in
          let number : IsNumberOf a.cells c (s + i) = (omega arith, omega (arith, l)) in
          let at : state_at a (s + i) ≡ get_or (take n (drop s a.states)) i Leased = sym (get_or-take n (drop s a.states) i l ∙ get_or-drop s a.states i Leased) in
          subst (OneOf (taken c)) at (here c (state_at a (s + i)) (h.none (s + i) (omega (arith, long, l))) (λ w e. h.classed c (s + i) w number e))

  pub has_cells : (c : CellClass) → count_of (vacant_in a) c + agents_of t c (agents_in a) ≡ amount a.cells c
  has_cells c = ap (λ (k : ℕ). k + agents_of t c (agents_in a)) (counted_by (free_of a) c) ∙ all_cells c

-- .. if a leased cell counts as free
pub cells_at_rest : (t : Tables) (a : ArenaView) → IsNetIn t (at_rest a) → (c : CellClass) → count_of (vacant_in (at_rest a)) c + agents_of t c (agents_in a) ≡ amount a.cells c
cells_at_rest t a net c = subst (λ (xs : List (Option Cell)). count_of (vacant_in (at_rest a)) c + agents_of t c xs ≡ amount a.cells c) (agents_same a) (has_cells t (at_rest a) net c)
