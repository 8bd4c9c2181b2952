-- The declaration of each symbol has at most `max_ports` auxiliary places and a class for each place.
use Rattle.std.proofs.Common.{◌≡◌, ℕ, ◌+◌, List, [], ◌∷◌, length, map, refl, sym, ◌∙◌, ap, arith, length-append}
use Rattle.std.proofs.Math.ListN.{replicate}
use Rattle.std.proofs.lemmas.List.{length-replicate, length-map}
use Rattle.std.specs.List.{flat_map, AllByRecursion}
use Rattle.in_syntax.specs.Sizes.{IsSizedSymbol}
use Rattle.in_syntax.specs.declared.tree.SourcePort.{SourcePort}
use Rattle.in_syntax.specs.declared.tree.SourceSymbol.{SourceSymbol}
use Rattle.in_symbols.specs.Tables.{port_of, classes_from, shape_of, IsShape, AreShapes}

pub length-classes_from : (k : ℕ) (cs : List (List SourcePort)) → length (classes_from k cs) ≡ length (flat_map (λ c. c) cs)
length-classes_from k [] = refl
length-classes_from k (c ∷ cs) =
    length-append (replicate (length c) k) (classes_from (k + 1) cs)
    ∙ ap (λ n. n + length (classes_from (k + 1) cs)) (length-replicate (length c) k)
    ∙ ap (λ n. length c + n) (length-classes_from (k + 1) cs)
    ∙ sym (length-append c (flat_map (λ c. c) cs))

pub is_shape : (types : List (List ℕ)) (s : SourceSymbol) → IsSizedSymbol s → IsShape (shape_of types s)
is_shape types s sized =
    let count : length (map (port_of types) (flat_map (λ c. c) s.classes)) ≡ length (flat_map (λ c. c) s.classes) = length-map (flat_map (λ c. c) s.classes) (port_of types) in
    let few = sized.ports in
    let classes = length-classes_from 1 s.classes in
    record { some = omega (arith, count); few = omega (arith, count, few); classed = omega (arith, count, classes) }

pub are_shapes : (types : List (List ℕ)) (ss : List SourceSymbol) → AllByRecursion IsSizedSymbol ss → AreShapes (map (shape_of types) ss)
are_shapes types [] h = tt
are_shapes types (s ∷ ss) h = (is_shape types s h.0, are_shapes types ss h.1)
