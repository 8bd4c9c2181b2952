-- The agents of a typed net's active pair.
use Rattle.std.proofs.Common.{◌≡◌, inl, inr, ℕ, Bool, true, false, not, Option, Some, None, option_map, option_and_then, slice_get, refl, sym, ◌∙◌, ap}
use Rattle.std.proofs.lemmas.Option.{same_Some}
use Rattle.in_symbols.specs.declared.symbols.PortType.{PortType}
use Rattle.in_syntax.specs.declared.symbol_no.SymbolNo.{SymbolNo}
use Rattle.in_symbols.specs.Tables.{Tables, port_at}
use Rattle.in_net.specs.declared.nets.AgentNo.{AgentNo}
use Rattle.in_net.specs.declared.nets.Cell.{Cell}
use Rattle.in_net.specs.declared.nets.Point.{Point}
use Rattle.in_net.specs.declared.nets.Point.TheVariants.{Port}
use Rattle.in_net.specs.Parts.{Parts, IsWhole, IsWireBetween, cell_in, symbol_in}
use Rattle.in_typing.specs.Typed.{opposite, type_at, IsTyped}
use Rattle.in_typing.specs.Laws.{AreActivePair, AreOpposite}

-- an agent with a partner has a symbol
has_symbol : (n : Parts) (x i : ℕ) (q : Point) (o : Option Cell) → cell_in n x ≡ o → option_and_then (λ c. slice_get c.ends i) o ≡ Some q → (s : SymbolNo) × (symbol_in n x ≡ Some s)
has_symbol n x i q None is e = cc
has_symbol n x i q (Some c) is e = (c.symbol, ap (option_map {T = Cell} {U = SymbolNo} (λ c. c.symbol)) is)

type_is : (t : Tables) (n : Parts) (x : AgentNo) (s : SymbolNo) → symbol_in n x.0 ≡ Some s → type_at t n (Port x 0) ≡ Some (port_at t s.0 0)
type_is t n x s is = ap (option_map {T = SymbolNo} {U = PortType} (λ s. port_at t s.0 0)) is

not_not : (a b : Bool) → b ≡ not a → a ≡ not b
not_not true true e = cc
not_not true false e = refl
not_not false true e = refl
not_not false false e = cc

pub pairs_match : (t : Tables) (n : Parts) (x y : AgentNo) → IsWhole n → IsTyped t n → AreActivePair n x y → AreOpposite t n x y
pairs_match t n x y whole typed pair =
    let one = has_symbol n x.0 0 (Port y 0) (cell_in n x.0) refl pair in
    let other = has_symbol n y.0 0 (Port x 0) (cell_in n y.0) refl (whole.back (Port x 0) (Port y 0) pair) in
    let listed = whole.listed (Port x 0) (Port y 0) pair in
    by_side one.0 other.0 one.1 other.1 listed.0 listed.1
  where
    by_side : (a b : SymbolNo) → symbol_in n x.0 ≡ Some a → symbol_in n y.0 ≡ Some b → (w : ℕ) → IsWireBetween n w (Port x 0) (Port y 0) → AreOpposite t n x y
    by_side a b a_is b_is w (inl wire) =
        let fits = typed w (Port x 0) (Port y 0) wire in
        let same : port_at t a.0 0 ≡ opposite (port_at t b.0 0) =
        same_Some (port_at t a.0 0) (opposite (port_at t b.0 0)) (sym (type_is t n x a a_is) ∙ fits ∙ ap (option_map opposite) (type_is t n y b b_is)) in
        record { one = a; other = b; one_is = a_is; other_is = b_is; kind = ap (λ (p : PortType). p.kind) same; sign = ap (λ (p : PortType). p.output) same }
    by_side a b a_is b_is w (inr wire) =
        let fits = typed w (Port y 0) (Port x 0) wire in
        let same : port_at t b.0 0 ≡ opposite (port_at t a.0 0) =
        same_Some (port_at t b.0 0) (opposite (port_at t a.0 0)) (sym (type_is t n y b b_is) ∙ fits ∙ ap (option_map opposite) (type_is t n x a a_is)) in
        record { one = a; other = b; one_is = a_is; other_is = b_is; kind = sym (ap (λ (p : PortType). p.kind) same); sign = not_not (port_at t a.0 0).output (port_at t b.0 0).output (ap (λ (p : PortType). p.output) same) }
