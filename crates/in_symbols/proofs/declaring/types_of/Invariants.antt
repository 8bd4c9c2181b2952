use Rattle.std.proofs.Common.{◌≡◌, drop}
use Rattle.in_symbols.specs.Searching.{undeclared, declares_all}
use Rattle.in_symbols.proofs.declaring.types_of.Given as goal

abbrev pub invariant-loop-name : goal.invariant-loop-name
invariant-loop-name l = declares_all l.declared (drop l.name-index l.source.types) ≡ declares_all undeclared l.source.types
