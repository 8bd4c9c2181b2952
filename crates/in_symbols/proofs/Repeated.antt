-- Names that are declared one by one: the declared ones, and those declared before.
use Rattle.std.proofs.Common.{◌≡◌, ◌⊎◌, ℕ, ◌≤◌, Bool, true, false, List, [], ◌∷◌, ◌++◌, map, Some, None, is_some, if◌then◌else◌, refl, sym, ◌∙◌, ap, subst, inl, inr, arith, append_assoc, append-nil}
use Rattle.in_syntax.specs.declared.places.Place.{Place}
use Rattle.in_syntax.specs.declared.tree.Name.{Name}
use Rattle.in_symbols.specs.declared.declaring.Declared.{Declared}
use Rattle.in_base.specs.Lists.{AnyByRecursion}
use Rattle.in_symbols.specs.Faults.{IsRepeatedAt}
use Rattle.in_symbols.specs.Names.{number_in, has_name}
use Rattle.in_symbols.specs.Searching.{undeclared, repeats, declares, declares_all, declares_free, declares_all_free}
use Rattle.in_syntax.proofs.Public.{IsLeast, least_same, least_earlier, earlier_none}
use Rattle.in_symbols.proofs.Named.{IsIn, there, not_there, has_number, no_number}
use Rattle.in_base.proofs.Each.{any_of, any_either, any_in_end, any_in_front, any_before_end}

-- a name that must not be declared
abbrev IsRefusedAt : List (List ℕ) → Name → Place → Type 0
IsRefusedAt seen n q = IsIn seen n.text × (n.place ≡ q)

at_place : (p q : Place) → p ≡ q → p.from ≤ q.from
at_place p q e = omega (arith, ap (λ (r : Place). r.from) e)

refuses : (d : Declared) (n : Name) (P : Place → Type 0) (R : Type 0) → R → IsLeast P d.repeat → IsLeast (λ q. P q ⊎ (R × (n.place ≡ q))) (repeats d n).repeat
refuses d n P R r least = least_earlier P (λ q. R × (n.place ≡ q)) d.repeat (Some n.place) least ((r, refl), λ q h. at_place n.place q h.1)

accepts : (d : Declared) (n : Name) (P : Place → Type 0) (R : Type 0) → (R → ⊥) → IsLeast P d.repeat → IsLeast (λ q. P q ⊎ (R × (n.place ≡ q))) d.repeat
accepts d n P R none least = least_same P (λ q. P q ⊎ (R × (n.place ≡ q))) d.repeat (λ q h. inl h) (λ q h. only (P q) (n.place ≡ q) h) least
  where
    only : (A B : Type 0) → A ⊎ (R × B) → A
    only A B (inl a) = a
    only A B (inr h) = absurd (none h.0)

-- one more name is declared
one_more : (d : Declared) (n : Name) (P : Place → Type 0) → IsLeast P d.repeat → (b : Bool) → has_name n.text d.names ≡ b →
    let new : Declared = (if b then repeats d n else record { names = d.names ++ n.text ∷ []; repeat = d.repeat }) in
    IsLeast (λ q. P q ⊎ IsRefusedAt d.names n q) new.repeat
one_more d n P least true is = refuses d n P (IsIn d.names n.text) (there d.names n.text is) least
one_more d n P least false is = accepts d n P (IsIn d.names n.text) (not_there d.names n.text is) least

pub declares_least : (d : Declared) (n : Name) (P : Place → Type 0) → IsLeast P d.repeat → IsLeast (λ q. P q ⊎ IsRefusedAt d.names n q) (declares d n).repeat
declares_least d n P least = one_more d n P least (has_name n.text d.names) refl

names_by : (d : Declared) (n : Name) (m : List ℕ) (b : Bool) → has_name n.text d.names ≡ b →
    let new : Declared = (if b then repeats d n else record { names = d.names ++ n.text ∷ []; repeat = d.repeat }) in
    (IsIn new.names m → IsIn d.names m ⊎ (n.text ≡ m)) × (IsIn d.names m ⊎ (n.text ≡ m) → IsIn new.names m)
names_by d n m true is = ((λ h. inl h), λ h. back h)
  where
    back : IsIn d.names m ⊎ (n.text ≡ m) → IsIn d.names m
    back (inl h) = h
    back (inr e) = subst (λ x. IsIn d.names x) e (there d.names n.text is)
names_by d n m false is = ((λ h. any_before_end (λ x. x ≡ m) d.names n.text h), λ h. back h)
  where
    back : IsIn d.names m ⊎ (n.text ≡ m) → IsIn (d.names ++ n.text ∷ []) m
    back (inl h) = any_in_front (λ x. x ≡ m) d.names n.text h
    back (inr e) = any_in_end (λ x. x ≡ m) d.names n.text e

-- the names declared then
pub declares_names : (d : Declared) (n : Name) (m : List ℕ) → (IsIn (declares d n).names m → IsIn d.names m ⊎ (n.text ≡ m)) × (IsIn d.names m ⊎ (n.text ≡ m) → IsIn (declares d n).names m)
declares_names d n m = names_by d n m (has_name n.text d.names) refl

pub all_names : (ns : List Name) (d : Declared) (m : List ℕ) →
    (IsIn (declares_all d ns).names m → IsIn d.names m ⊎ AnyByRecursion (λ n. n.text ≡ m) ns) × (IsIn d.names m ⊎ AnyByRecursion (λ n. n.text ≡ m) ns → IsIn (declares_all d ns).names m)
all_names [] d m = ((λ h. inl h), λ h. back h)
  where
    back : IsIn d.names m ⊎ ⊥ → IsIn d.names m
    back (inl h) = h
    back (inr h) = absurd h
all_names (n ∷ ns) d m = ((λ h. to ((all_names ns (declares d n) m).0 h)), λ h. (all_names ns (declares d n) m).1 (back h))
  where
    first : IsIn d.names m ⊎ (n.text ≡ m) → IsIn d.names m ⊎ AnyByRecursion (λ k. k.text ≡ m) (n ∷ ns)
    first (inl h) = inl h
    first (inr h) = inr (inl h)

    to : IsIn (declares d n).names m ⊎ AnyByRecursion (λ k. k.text ≡ m) ns → IsIn d.names m ⊎ AnyByRecursion (λ k. k.text ≡ m) (n ∷ ns)
    to (inl h) = first ((declares_names d n m).0 h)
    to (inr h) = inr (inr h)

    back : IsIn d.names m ⊎ AnyByRecursion (λ k. k.text ≡ m) (n ∷ ns) → IsIn (declares d n).names m ⊎ AnyByRecursion (λ k. k.text ≡ m) ns
    back (inl h) = inl ((declares_names d n m).1 (inl h))
    back (inr (inl h)) = inl ((declares_names d n m).1 (inr h))
    back (inr (inr h)) = inr h

-- ---- the first place

-- the names of the list that are declared already or are earlier in it
abbrev RepeatsFrom : List (List ℕ) → List Name → Place → Type 0
RepeatsFrom seen ns q = AnyByRecursion (λ m. IsRefusedAt seen m q) ns ⊎ IsRepeatedAt ns q

-- the second list has the names of the first one, and this name
abbrev Turns : List (List ℕ) → List (List ℕ) → Name → Type 0
Turns seen new n = (m : List ℕ) → (IsIn new m → IsIn seen m ⊎ (n.text ≡ m)) × (IsIn seen m ⊎ (n.text ≡ m) → IsIn new m)

sorted : (seen : List (List ℕ)) (n m : Name) (q : Place) → (IsIn seen m.text ⊎ (n.text ≡ m.text)) × (m.place ≡ q) → IsRefusedAt seen m q ⊎ ((m.text ≡ n.text) × (m.place ≡ q))
sorted seen n m q (inl h, e) = inl (h, e)
sorted seen n m q (inr h, e) = inr (sym h, e)

further : (seen new : List (List ℕ)) (n : Name) → Turns seen new n → (ns : List Name) (q : Place) → RepeatsFrom new ns q → RepeatsFrom seen (n ∷ ns) q
further seen new n turns ns q (inr h) = inr (inr h)
further seen new n turns ns q (inl h) =
    let split = any_either (λ m. IsRefusedAt seen m q) (λ m. (m.text ≡ n.text) × (m.place ≡ q)) ns
    (any_of (λ m. IsRefusedAt new m q) (λ m. IsRefusedAt seen m q ⊎ ((m.text ≡ n.text) × (m.place ≡ q))) (λ m a. sorted seen n m q ((turns m.text).0 a.0, a.1)) ns h) in
    elim split [ inl a ↦ inl (inr a) | inr b ↦ inr (inl b) ]

nearer : (seen new : List (List ℕ)) (n : Name) → Turns seen new n → (ns : List Name) (q : Place) → RepeatsFrom seen (n ∷ ns) q → IsRefusedAt seen n q ⊎ RepeatsFrom new ns q
nearer seen new n turns ns q (inl (inl h)) = inl h
nearer seen new n turns ns q (inl (inr h)) = inr (inl (any_of (λ m. IsRefusedAt seen m q) (λ m. IsRefusedAt new m q) (λ m a. ((turns m.text).1 (inl a.0), a.1)) ns h))
nearer seen new n turns ns q (inr (inl h)) = inr (inl (any_of (λ m. (m.text ≡ n.text) × (m.place ≡ q)) (λ m. IsRefusedAt new m q) (λ m a. ((turns m.text).1 (inr (sym a.0)), a.1)) ns h))
nearer seen new n turns ns q (inr (inr h)) = inr (inr h)

to_all : (P : Place → Type 0) (seen new : List (List ℕ)) (n : Name) → Turns seen new n → (ns : List Name) (q : Place) → (P q ⊎ IsRefusedAt seen n q) ⊎ RepeatsFrom new ns q → P q ⊎ RepeatsFrom seen (n ∷ ns) q
to_all P seen new n turns ns q (inl (inl h)) = inl h
to_all P seen new n turns ns q (inl (inr h)) = inr (inl (inl h))
to_all P seen new n turns ns q (inr h) = inr (further seen new n turns ns q h)

of_all : (P : Place → Type 0) (seen new : List (List ℕ)) (n : Name) → Turns seen new n → (ns : List Name) (q : Place) → P q ⊎ RepeatsFrom seen (n ∷ ns) q → (P q ⊎ IsRefusedAt seen n q) ⊎ RepeatsFrom new ns q
of_all P seen new n turns ns q (inl h) = inl (inl h)
of_all P seen new n turns ns q (inr h) = elim (nearer seen new n turns ns q h) [ inl a ↦ inl (inr a) | inr b ↦ inr b ]

nothing_more : (A : Type 0) → A ⊎ (⊥ ⊎ ⊥) → A
nothing_more A (inl a) = a
nothing_more A (inr (inl h)) = absurd h
nothing_more A (inr (inr h)) = absurd h

repeats_from : (ns : List Name) (d : Declared) (P : Place → Type 0) → IsLeast P d.repeat → IsLeast (λ q. P q ⊎ RepeatsFrom d.names ns q) (declares_all d ns).repeat
repeats_from [] d P least = least_same P (λ q. P q ⊎ (⊥ ⊎ ⊥)) d.repeat (λ q h. inl h) (λ q h. nothing_more (P q) h) least
repeats_from (n ∷ ns) d P least =
    least_same (λ q. (P q ⊎ IsRefusedAt d.names n q) ⊎ RepeatsFrom (declares d n).names ns q) (λ q. P q ⊎ RepeatsFrom d.names (n ∷ ns) q) (declares_all (declares d n) ns).repeat
    (λ q h. to_all P d.names (declares d n).names n (declares_names d n) ns q h)
    (λ q h. of_all P d.names (declares d n).names n (declares_names d n) ns q h)
    (repeats_from ns (declares d n) (λ q. P q ⊎ IsRefusedAt d.names n q) (declares_least d n P least))

none_seen : (ns : List Name) (q : Place) → AnyByRecursion (λ m. IsRefusedAt [] m q) ns → ⊥
none_seen [] q h = h
none_seen (n ∷ ns) q (inl h) = h.0
none_seen (n ∷ ns) q (inr h) = none_seen ns q h

only_repeated : (ns : List Name) (q : Place) → ⊥ ⊎ RepeatsFrom [] ns q → IsRepeatedAt ns q
only_repeated ns q (inl h) = absurd h
only_repeated ns q (inr (inl h)) = absurd (none_seen ns q h)
only_repeated ns q (inr (inr h)) = h

-- the first place of a name that is also earlier in the list
pub repeats_least : (ns : List Name) → IsLeast (IsRepeatedAt ns) (declares_all undeclared ns).repeat
repeats_least ns =
    least_same (λ q. ⊥ ⊎ RepeatsFrom [] ns q) (IsRepeatedAt ns) (declares_all undeclared ns).repeat
    (λ q h. only_repeated ns q h) (λ q h. inr (inr h))
    (repeats_from ns undeclared (λ q. ⊥) (λ q h. h))

-- ---- names without a repeat

kept_by : (d : Declared) (n : Name) (b : Bool) →
    let new : Declared = (if b then repeats d n else record { names = d.names ++ n.text ∷ []; repeat = d.repeat }) in
    new.repeat ≡ None → (d.repeat ≡ None) × (new.names ≡ d.names ++ n.text ∷ [])
kept_by d n true e =
    let h = (earlier_none d.repeat (Some n.place) e).1 in cc
kept_by d n false e = (e, refl)

pub all_kept : (ns : List Name) (d : Declared) → (declares_all d ns).repeat ≡ None → (d.repeat ≡ None) × ((declares_all d ns).names ≡ d.names ++ map (λ n. n.text) ns)
all_kept [] d e = (e, sym (append-nil d.names))
all_kept (n ∷ ns) d e =
    let rest = all_kept ns (declares d n) e in
    let this = kept_by d n (has_name n.text d.names) rest.0 in
    (this.0, rest.1 ∙ ap (λ z. z ++ map (λ k. k.text) ns) this.1 ∙ append_assoc d.names (n.text ∷ []) (map (λ k. k.text) ns))

-- ---- free names

-- names that are symbols', names that are declared already, and names that are earlier in the list
abbrev FreeFrom : List (List ℕ) → List (List ℕ) → List Name → Place → Type 0
FreeFrom symbols seen ns q = AnyByRecursion (λ m. IsRefusedAt symbols m q) ns ⊎ RepeatsFrom seen ns q

-- the names declared then, apart from symbols'
abbrev TurnsFree : List (List ℕ) → List (List ℕ) → List (List ℕ) → Name → Type 0
TurnsFree symbols seen new n = (m : List ℕ) → (IsIn new m → IsIn seen m ⊎ (n.text ≡ m)) × (IsIn seen m → IsIn new m) × (n.text ≡ m → IsIn symbols m ⊎ IsIn new m)

abbrev IsFreeRefusedAt : List (List ℕ) → List (List ℕ) → Name → Place → Type 0
IsFreeRefusedAt symbols seen n q = IsRefusedAt symbols n q ⊎ IsRefusedAt seen n q

-- one more free name is declared
one_more_free : (symbols : List (List ℕ)) (d : Declared) (n : Name) (P : Place → Type 0) → IsLeast P d.repeat → (b : Bool) → is_some (number_in n.text symbols) ≡ b →
    let new : Declared = (if b then repeats d n else declares d n) in
    IsLeast (λ q. P q ⊎ IsFreeRefusedAt symbols d.names n q) new.repeat × TurnsFree symbols d.names new.names n
one_more_free symbols d n P least true is =
    let here = has_number symbols n.text is in (
      least_same (λ q. P q ⊎ (IsIn symbols n.text × (n.place ≡ q))) (λ q. P q ⊎ IsFreeRefusedAt symbols d.names n q) (repeats d n).repeat (λ q h. to q h) (λ q h. back here q h) (refuses d n P (IsIn symbols n.text) here least),
      λ m. ((λ h. inl h), (λ h. h), λ e. inl (subst (λ x. IsIn symbols x) e here)),
    )
  where
    to : (q : Place) → P q ⊎ (IsIn symbols n.text × (n.place ≡ q)) → P q ⊎ IsFreeRefusedAt symbols d.names n q
    to q (inl h) = inl h
    to q (inr h) = inr (inl h)

    back : IsIn symbols n.text → (q : Place) → P q ⊎ IsFreeRefusedAt symbols d.names n q → P q ⊎ (IsIn symbols n.text × (n.place ≡ q))
    back s q (inl h) = inl h
    back s q (inr (inl h)) = inr h
    back s q (inr (inr h)) = inr (s, h.1)
one_more_free symbols d n P least false is = (
  least_same (λ q. P q ⊎ IsRefusedAt d.names n q) (λ q. P q ⊎ IsFreeRefusedAt symbols d.names n q) (declares d n).repeat (λ q h. to q h) (λ q h. back q h) (declares_least d n P least),
  λ m. ((declares_names d n m).0, (λ h. (declares_names d n m).1 (inl h)), λ e. inr ((declares_names d n m).1 (inr e))),
)
  where
    to : (q : Place) → P q ⊎ IsRefusedAt d.names n q → P q ⊎ IsFreeRefusedAt symbols d.names n q
    to q (inl h) = inl h
    to q (inr h) = inr (inr h)

    back : (q : Place) → P q ⊎ IsFreeRefusedAt symbols d.names n q → P q ⊎ IsRefusedAt d.names n q
    back q (inl h) = inl h
    back q (inr (inl h)) = absurd (no_number symbols n.text is h.0)
    back q (inr (inr h)) = inr h

sorted_free : (symbols new : List (List ℕ)) (n m : Name) (q : Place) → IsIn symbols m.text ⊎ IsIn new m.text → m.place ≡ q → IsRefusedAt symbols m q ⊎ IsRefusedAt new m q
sorted_free symbols new n m q (inl h) e = inl (h, e)
sorted_free symbols new n m q (inr h) e = inr (h, e)

further_free : (symbols seen new : List (List ℕ)) (n : Name) → TurnsFree symbols seen new n → (ns : List Name) (q : Place) → RepeatsFrom new ns q → RepeatsFrom seen (n ∷ ns) q
further_free symbols seen new n turns ns q (inr h) = inr (inr h)
further_free symbols seen new n turns ns q (inl h) =
    let split = any_either (λ m. IsRefusedAt seen m q) (λ m. (m.text ≡ n.text) × (m.place ≡ q)) ns
    (any_of (λ m. IsRefusedAt new m q) (λ m. IsRefusedAt seen m q ⊎ ((m.text ≡ n.text) × (m.place ≡ q))) (λ m a. sorted seen n m q ((turns m.text).0 a.0, a.1)) ns h) in
    elim split [ inl a ↦ inl (inr a) | inr b ↦ inr (inl b) ]

to_free : (P : Place → Type 0) (symbols seen new : List (List ℕ)) (n : Name) → TurnsFree symbols seen new n → (ns : List Name) (q : Place) →
    (P q ⊎ IsFreeRefusedAt symbols seen n q) ⊎ FreeFrom symbols new ns q → P q ⊎ FreeFrom symbols seen (n ∷ ns) q
to_free P symbols seen new n turns ns q (inl (inl h)) = inl h
to_free P symbols seen new n turns ns q (inl (inr (inl h))) = inr (inl (inl h))
to_free P symbols seen new n turns ns q (inl (inr (inr h))) = inr (inr (inl (inl h)))
to_free P symbols seen new n turns ns q (inr (inl h)) = inr (inl (inr h))
to_free P symbols seen new n turns ns q (inr (inr h)) = inr (inr (further_free symbols seen new n turns ns q h))

split_free : (symbols new : List (List ℕ)) (ns : List Name) (q : Place) → AnyByRecursion (λ m. IsRefusedAt symbols m q) ns ⊎ AnyByRecursion (λ m. IsRefusedAt new m q) ns → FreeFrom symbols new ns q
split_free symbols new ns q (inl h) = inl h
split_free symbols new ns q (inr h) = inr (inl h)

of_free : (P : Place → Type 0) (symbols seen new : List (List ℕ)) (n : Name) → TurnsFree symbols seen new n → (ns : List Name) (q : Place) →
    P q ⊎ FreeFrom symbols seen (n ∷ ns) q → (P q ⊎ IsFreeRefusedAt symbols seen n q) ⊎ FreeFrom symbols new ns q
of_free P symbols seen new n turns ns q (inl h) = inl (inl h)
of_free P symbols seen new n turns ns q (inr (inl (inl h))) = inl (inr (inl h))
of_free P symbols seen new n turns ns q (inr (inl (inr h))) = inr (inl h)
of_free P symbols seen new n turns ns q (inr (inr (inl (inl h)))) = inl (inr (inr h))
of_free P symbols seen new n turns ns q (inr (inr (inl (inr h)))) =
    inr (inr (inl (any_of (λ m. IsRefusedAt seen m q) (λ m. IsRefusedAt new m q) (λ m a. ((turns m.text).1 a.0, a.1)) ns h)))
of_free P symbols seen new n turns ns q (inr (inr (inr (inl h)))) =
    inr (split_free symbols new ns q (any_either (λ m. IsRefusedAt symbols m q) (λ m. IsRefusedAt new m q) ns
    (any_of (λ m. (m.text ≡ n.text) × (m.place ≡ q)) (λ m. IsRefusedAt symbols m q ⊎ IsRefusedAt new m q) (λ m a. sorted_free symbols new n m q ((turns m.text).2 (sym a.0)) a.1) ns h)))
of_free P symbols seen new n turns ns q (inr (inr (inr (inr h)))) = inr (inr (inr h))

no_free : (A : Type 0) → A ⊎ (⊥ ⊎ (⊥ ⊎ ⊥)) → A
no_free A (inl a) = a
no_free A (inr (inl h)) = absurd h
no_free A (inr (inr (inl h))) = absurd h
no_free A (inr (inr (inr h))) = absurd h

free_from : (symbols : List (List ℕ)) (ns : List Name) (d : Declared) (P : Place → Type 0) → IsLeast P d.repeat → IsLeast (λ q. P q ⊎ FreeFrom symbols d.names ns q) (declares_all_free symbols d ns).repeat
free_from symbols [] d P least = least_same P (λ q. P q ⊎ (⊥ ⊎ (⊥ ⊎ ⊥))) d.repeat (λ q h. inl h) (λ q h. no_free (P q) h) least
free_from symbols (n ∷ ns) d P least =
    let new = declares_free symbols d n in
    let more = one_more_free symbols d n P least (is_some (number_in n.text symbols)) refl in
    least_same (λ q. (P q ⊎ IsFreeRefusedAt symbols d.names n q) ⊎ FreeFrom symbols new.names ns q) (λ q. P q ⊎ FreeFrom symbols d.names (n ∷ ns) q) (declares_all_free symbols new ns).repeat
    (λ q h. to_free P symbols d.names new.names n more.1 ns q h)
    (λ q h. of_free P symbols d.names new.names n more.1 ns q h)
    (free_from symbols ns new (λ q. P q ⊎ IsFreeRefusedAt symbols d.names n q) more.0)

only_free : (symbols : List (List ℕ)) (ns : List Name) (q : Place) → ⊥ ⊎ FreeFrom symbols [] ns q → AnyByRecursion (λ m. IsIn symbols m.text × (m.place ≡ q)) ns ⊎ IsRepeatedAt ns q
only_free symbols ns q (inl h) = absurd h
only_free symbols ns q (inr (inl h)) = inl h
only_free symbols ns q (inr (inr (inl h))) = absurd (none_seen ns q h)
only_free symbols ns q (inr (inr (inr h))) = inr h

as_free : (symbols : List (List ℕ)) (ns : List Name) (q : Place) → AnyByRecursion (λ m. IsIn symbols m.text × (m.place ≡ q)) ns ⊎ IsRepeatedAt ns q → ⊥ ⊎ FreeFrom symbols [] ns q
as_free symbols ns q (inl h) = inr (inl h)
as_free symbols ns q (inr h) = inr (inr (inr h))

-- the first place of a free name that is a symbol's, or is also earlier in the list
pub free_least : (symbols : List (List ℕ)) (ns : List Name) → IsLeast (λ q. AnyByRecursion (λ m. IsIn symbols m.text × (m.place ≡ q)) ns ⊎ IsRepeatedAt ns q) (declares_all_free symbols undeclared ns).repeat
free_least symbols ns =
    least_same (λ q. ⊥ ⊎ FreeFrom symbols [] ns q) (λ q. AnyByRecursion (λ m. IsIn symbols m.text × (m.place ≡ q)) ns ⊎ IsRepeatedAt ns q) (declares_all_free symbols undeclared ns).repeat
    (λ q h. only_free symbols ns q h) (λ q h. as_free symbols ns q h)
    (free_from symbols ns undeclared (λ q. ⊥) (λ q h. h))
