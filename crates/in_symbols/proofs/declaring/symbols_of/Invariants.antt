use Rattle.std.proofs.Common.{◌≡◌, drop, map}
use Rattle.in_symbols.specs.Searching.{undeclared, declares_all}
use Rattle.in_symbols.proofs.declaring.symbols_of.Given as goal

abbrev pub invariant-loop-symbol : goal.invariant-loop-symbol
invariant-loop-symbol l = declares_all l.declared (map (λ d. d.name) (drop l.symbol-index l.source.symbols)) ≡ declares_all undeclared (map (λ d. d.name) l.source.symbols)
