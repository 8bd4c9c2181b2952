-- One element more in the lists that a net is built of.
use Rattle.std.proofs.Common.{◌≡◌, ℕ, suc, ◌+◌, ◌-◌, ◌<◌, ◌≤◌, List, [], ◌∷◌, ◌++◌, length, Option, Some, sym, ◌∙◌, ap, subst, arith, append_assoc, get_or, drop}
use Rattle.std.specs.Prelude.{option_to_list}
use Rattle.in_syntax.specs.declared.tree.SourceFree.{SourceFree}
use Rattle.in_symbols.specs.Tables.{Tables, arity_of}
use Rattle.in_syntax.specs.declared.symbol_no.SymbolNo.{SymbolNo}
use Rattle.in_net.specs.declared.reading.TextSpot.{TextSpot}
use Rattle.in_net.specs.declared.reading.Agent.{Agent}
use Rattle.in_net.specs.declared.joining.Link.{Link}
use Rattle.in_net.specs.declared.nets.Point.{Point}
use Rattle.in_net.specs.declared.nets.Cell.{Cell}
use Rattle.in_net.specs.declared.nets.FreeEnd.{FreeEnd}
use Rattle.in_net.specs.declared.nets.Wire.{Wire}
use Rattle.in_net.specs.Building.{partner_of, ends_from, cell_of, cells_of, free_end_of, free_ends_from, wire_of, wires_from}
use Rattle.in_net.proofs.Wiring.Links.{from_place}

-- some elements, one more, and the rest
one_of : {X : Type 0} (xs new rest all : List X) (x : X) → new ≡ xs ++ x ∷ [] → xs ++ x ∷ rest ≡ all → new ++ rest ≡ all
one_of xs new rest all x pushed e = ap (λ z. z ++ rest) pushed ∙ append_assoc xs (x ∷ []) rest ∙ e

pub one_end : (spots : List TextSpot) (links : List Link) (first port arity : ℕ) (ends new all : List Point) → port ≤ arity → new ≡ ends ++ partner_of spots links (first + port) ∷ [] →
    ends ++ ends_from spots links (first + port) (arity + 1 - port) ≡ all → new ++ ends_from spots links (first + (port + 1)) (arity + 1 - (port + 1)) ≡ all
one_end spots links first port arity ends new all le pushed e =
    let size : arity + 1 - port ≡ suc (arity + 1 - (port + 1)) = omega arith in
    let next : first + (port + 1) ≡ first + port + 1 = omega arith in
    one_of ends new (ends_from spots links (first + (port + 1)) (arity + 1 - (port + 1))) all (partner_of spots links (first + port)) pushed
    (ap (λ k. ends ++ partner_of spots links (first + port) ∷ ends_from spots links k (arity + 1 - (port + 1))) next ∙ sym (ap (λ k. ends ++ ends_from spots links (first + port) k) size) ∙ e)

pub one_cell : (t : Tables) (spots : List TextSpot) (links : List Link) (agents : List Agent) (i : ℕ) (d : Agent) (c : Cell) (cells new all : List (Option Cell)) → i < length agents →
    c ≡ cell_of t spots links (get_or agents i d) → new ≡ cells ++ Some c ∷ [] → cells ++ cells_of t spots links (drop i agents) ≡ all → new ++ cells_of t spots links (drop (i + 1) agents) ≡ all
one_cell t spots links agents i d c cells new all lt is pushed e =
    one_of cells new (cells_of t spots links (drop (i + 1) agents)) all (Some c) pushed
    (ap (λ z. cells ++ Some z ∷ cells_of t spots links (drop (i + 1) agents)) is ∙ sym (ap (λ z. cells ++ cells_of t spots links z) (from_place agents i d lt)) ∙ e)

pub one_free : (t : Tables) (spots : List TextSpot) (links : List Link) (fs : List SourceFree) (i : ℕ) (d : SourceFree) (f : FreeEnd) (ends new all : List FreeEnd) → i < length fs →
    f ≡ free_end_of t spots links i (get_or fs i d) → new ≡ ends ++ f ∷ [] → ends ++ free_ends_from t spots links i (drop i fs) ≡ all → new ++ free_ends_from t spots links (i + 1) (drop (i + 1) fs) ≡ all
one_free t spots links fs i d f ends new all lt is pushed e =
    one_of ends new (free_ends_from t spots links (i + 1) (drop (i + 1) fs)) all f pushed
    (ap (λ z. ends ++ z ∷ free_ends_from t spots links (i + 1) (drop (i + 1) fs)) is ∙ sym (ap (λ z. ends ++ free_ends_from t spots links i z) (from_place fs i d lt)) ∙ e)

pub one_wire : (spots : List TextSpot) (links : List Link) (at count : ℕ) (o : Option Wire) (wires new all : List Wire) → at < count → o ≡ wire_of spots links at → new ≡ wires ++ option_to_list o →
    wires ++ wires_from spots links at (count - at) ≡ all → new ++ wires_from spots links (at + 1) (count - (at + 1)) ≡ all
one_wire spots links at count o wires new all lt is pushed e =
    let size : count - at ≡ suc (count - (at + 1)) = omega arith in
    ap (λ z. z ++ wires_from spots links (at + 1) (count - (at + 1))) (pushed ∙ ap (λ z. wires ++ option_to_list z) is)
    ∙ append_assoc wires (option_to_list (wire_of spots links at)) (wires_from spots links (at + 1) (count - (at + 1)))
    ∙ sym (ap (λ k. wires ++ wires_from spots links at k) size) ∙ e

pub cell_is : (t : Tables) (spots : List TextSpot) (links : List Link) (a : Agent) (c : Cell) (arity : ℕ) → arity ≡ arity_of t a.symbol.0 → (c.symbol ≡ a.symbol) × (c.ends ≡ ends_from spots links a.first (arity + 1)) → c ≡ cell_of t spots links a
cell_is t spots links a c arity fits is =
    let P : ℕ → Type 0 = λ n. c.ends ≡ ends_from spots links a.first (n + 1) in
    let ends : c.ends ≡ ends_from spots links a.first (arity_of t a.symbol.0 + 1) = subst P fits is.1 in
    ap (λ (s : SymbolNo). let z : Cell = record { symbol = s; ends = c.ends } in z) is.0 ∙ ap (λ (e : List Point). let z : Cell = record { symbol = a.symbol; ends = e } in z) ends
