-- The tables of a program number the classes of a symbol from 1, and the principal port is the one place of class 0.
use Rattle.std.proofs.Common.{◌≡◌, ◌↔◌, ◌<◌, ◌≤◌, ◌+◌, ◌-◌, ℕ, zero, suc, Option, Some, None, List, [], ◌∷◌, ◌++◌, length, length-append, map, slice_get, get_or, refl, sym, subst, inl, inr, ◌∙◌, arith}
use Rattle.std.proofs.Math.ListN.{replicate, get_or-append}
use Rattle.std.specs.List.{flat_map}
use Rattle.std.proofs.lemmas.List.{length-replicate, length-map, get_or-replicate, get_or-append_right}
use Rattle.in_syntax.specs.declared.tree.Source.{Source}
use Rattle.in_syntax.specs.declared.tree.SourcePort.{SourcePort}
use Rattle.in_syntax.specs.declared.tree.SourceSymbol.{SourceSymbol}
use Rattle.in_symbols.specs.declared.symbols.Shape.{Shape}
use Rattle.in_symbols.specs.Tables.{Tables, IsTabled, tables_of, type_names, port_of, classes_from, shape_of, arity_in, class_in, classes_in}
use Rattle.in_symbols.proofs.Public.{length-classes_from}
use Rattle.in_open_nets_of_programs.specs.Opening.{AreNumbered}
use Rattle.in_open_nets.proofs.Public.{at_most}

-- the classes that are counted from k on
pub class_between : (k : ℕ) (cs : List (List SourcePort)) (j : ℕ) → j < length (classes_from k cs) → (k ≤ get_or (classes_from k cs) j 1) × (get_or (classes_from k cs) j 1 < k + length cs)
class_between k [] j h = absurd (omega arith)
class_between k (c ∷ cs) j h = elim (at_most (length c) j) [
  | inr l ↦
      let size : length (replicate (length c) k) ≡ length c = length-replicate (length c) k in
      let e : get_or (replicate (length c) k ++ classes_from (k + 1) cs) j 1 ≡ k = get_or-append (replicate (length c) k) (classes_from (k + 1) cs) 1 j (omega arith) ∙ get_or-replicate (length c) j k 1 l in
      (omega arith, omega arith)
  | inl l ↦
      let size : length (replicate (length c) k) ≡ length c = length-replicate (length c) k in
      let all : length (replicate (length c) k ++ classes_from (k + 1) cs) ≡ length (replicate (length c) k) + length (classes_from (k + 1) cs) = length-append (replicate (length c) k) (classes_from (k + 1) cs) in
      let e : get_or (replicate (length c) k ++ classes_from (k + 1) cs) j 1 ≡ get_or (classes_from (k + 1) cs) (j - length c) 1 = get_or-append_right (replicate (length c) k) (classes_from (k + 1) cs) (length c) j 1 size l in
      let r = class_between (k + 1) cs (j - length c) (omega arith) in
      let low = r.0 in
      let high = r.1 in
      (omega arith, omega arith)
]

pub of_map : {X Y : Type 0} (f : X → Y) (xs : List X) (i : ℕ) (y : Y) → slice_get (map f xs) i ≡ Some y → (x : X) × (f x ≡ y)
of_map f [] i y e = cc
of_map {X} {Y} f (x ∷ xs) zero y e = (x, same (f x) y e)
  where
    same : (a b : Y) → ◌≡◌ {A = Option Y} (Some a) (Some b) → a ≡ b
    same a b e = cc
of_map f (x ∷ xs) (suc i) y e = of_map f xs i y e

-- they rise
class_rises : (k : ℕ) (cs : List (List SourcePort)) (i j : ℕ) → i ≤ j → j < length (classes_from k cs) → get_or (classes_from k cs) i 1 ≤ get_or (classes_from k cs) j 1
class_rises k [] i j l h = absurd (omega arith)
class_rises k (c ∷ cs) i j l h = elim (at_most (length c) i) [
  | inr u ↦
      let size : length (replicate (length c) k) ≡ length c = length-replicate (length c) k in
      let e : get_or (replicate (length c) k ++ classes_from (k + 1) cs) i 1 ≡ k = get_or-append (replicate (length c) k) (classes_from (k + 1) cs) 1 i (omega arith) ∙ get_or-replicate (length c) i k 1 u in
      let r = class_between k (c ∷ cs) j h in
      let low = r.0 in
      omega arith
  | inl u ↦
      let size : length (replicate (length c) k) ≡ length c = length-replicate (length c) k in
      let all : length (replicate (length c) k ++ classes_from (k + 1) cs) ≡ length (replicate (length c) k) + length (classes_from (k + 1) cs) = length-append (replicate (length c) k) (classes_from (k + 1) cs) in
      let e : get_or (replicate (length c) k ++ classes_from (k + 1) cs) i 1 ≡ get_or (classes_from (k + 1) cs) (i - length c) 1 = get_or-append_right (replicate (length c) k) (classes_from (k + 1) cs) (length c) i 1 size u in
      let f : get_or (replicate (length c) k ++ classes_from (k + 1) cs) j 1 ≡ get_or (classes_from (k + 1) cs) (j - length c) 1 = get_or-append_right (replicate (length c) k) (classes_from (k + 1) cs) (length c) j 1 size (omega arith) in
      let r = class_rises (k + 1) cs (i - length c) (j - length c) (omega arith) (omega arith) in
      omega arith
]

-- a shape's classes are numbered so
record IsNumbered (d : Option Shape) : Type 0 where
  pub principal : (i : ℕ) → i ≤ arity_in d → (class_in d i ≡ 0) ↔ (i ≡ 0)
  pub most : (i : ℕ) → i ≤ arity_in d → class_in d i ≤ classes_in d
  pub ordered : (i j : ℕ) → 0 < i → i ≤ j → j ≤ arity_in d → class_in d i ≤ class_in d j

shape_numbered : (types : List (List ℕ)) (s : SourceSymbol) → IsNumbered (Some (shape_of types s))
shape_numbered types s = record { principal = λ i h. (place i h).0; most = λ i h. (place i h).1; ordered = λ i j. rises i j }
  where
    count : (j : ℕ) → suc j ≤ arity_in (Some (shape_of types s)) → j < length (classes_from 1 s.classes)
    count j h =
        let e : length (map (port_of types) (flat_map (λ c. c) s.classes)) ≡ length (flat_map (λ c. c) s.classes) = length-map (flat_map (λ c. c) s.classes) (port_of types) in
        let f = length-classes_from 1 s.classes in
        omega arith

    place : (i : ℕ) → i ≤ arity_in (Some (shape_of types s)) → ((class_in (Some (shape_of types s)) i ≡ 0) ↔ (i ≡ 0)) × (class_in (Some (shape_of types s)) i ≤ classes_in (Some (shape_of types s)))
    place zero h = (((λ e. refl), λ e. refl), omega arith)
    place (suc j) h =
        let r = class_between 1 s.classes j (count j h) in
        let low = r.0 in
        let high = r.1 in
        (((λ e. absurd (omega arith)), λ e. absurd (omega arith)), omega arith)

    rises : (i j : ℕ) → 0 < i → i ≤ j → j ≤ arity_in (Some (shape_of types s)) → class_in (Some (shape_of types s)) i ≤ class_in (Some (shape_of types s)) j
    rises zero j z l h = absurd (omega arith)
    rises (suc i) zero z l h = absurd (omega arith)
    rises (suc i) (suc j) z l h = class_rises 1 s.classes i j (omega arith) (count j h)

nothing_numbered : IsNumbered None
nothing_numbered = record { principal = λ i h. place i h; most = λ i h. most i h; ordered = λ i j z l h. absurd (omega arith) }
  where
    place : (i : ℕ) → i ≤ 0 → (class_in None i ≡ 0) ↔ (i ≡ 0)
    place zero h = ((λ e. refl), λ e. refl)
    place (suc i) h = absurd (omega arith)

    most : (i : ℕ) → i ≤ 0 → class_in None i ≤ 0
    most zero h = omega arith
    most (suc i) h = absurd (omega arith)

pub tables_numbered : (source : Source) (t : Tables) → IsTabled source t → AreNumbered t
tables_numbered source t h = subst AreNumbered (sym h.tables) (record { principal = λ s. (at s).principal; most = λ s. (at s).most; ordered = λ s. (at s).ordered })
  where
    go : (s : ℕ) (d : Option Shape) → slice_get (tables_of source).shapes s ≡ d → IsNumbered d
    go s None e = nothing_numbered
    go s (Some d) e =
        let x = of_map (shape_of (type_names source)) source.symbols s d e in
        subst (λ (z : Shape). IsNumbered (Some z)) x.1 (shape_numbered (type_names source) x.0)

    at : (s : ℕ) → IsNumbered (slice_get (tables_of source).shapes s)
    at s = go s (slice_get (tables_of source).shapes s) refl
