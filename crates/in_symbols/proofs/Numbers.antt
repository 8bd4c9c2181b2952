-- A symbol is its number.
use Rattle.std.proofs.Common.{◌≡◌, ℕ, ap}
use Rattle.in_syntax.specs.declared.symbol_no.SymbolNo.{SymbolNo}

pub same_symbol : (x y : SymbolNo) → x.0 ≡ y.0 → x ≡ y
same_symbol x y e = ap (λ (z : ℕ). record { 0 = z }) e
