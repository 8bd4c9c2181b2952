use Rattle.std.proofs.Common.{◌≡◌, drop, map}
use Rattle.in_symbols.specs.Searching.{undeclared, declares_all_free}
use Rattle.in_symbols.proofs.declaring.free_names_of.Given as goal

abbrev pub invariant-loop-free : goal.invariant-loop-free
invariant-loop-free l = declares_all_free l.symbols l.declared (map (λ f. f.name) (drop l.free-index l.source.net.free)) ≡ declares_all_free l.symbols undeclared (map (λ f. f.name) l.source.net.free)
