-- A program's symbols have few auxiliary ports.
use Rattle.std.proofs.Common.{ℕ, zero, suc, ◌≤◌, List, [], ◌∷◌, arith, subst, sym, slice_get}
use Rattle.in_syntax.specs.declared.tree.Source.{Source}
use Rattle.in_syntax.specs.Sizes.{IsSized}
use Rattle.in_symbols.specs.declared.symbols.Shape.{Shape}
use Rattle.in_symbols.specs.Tables.{Tables, AreShapes, arity_in, arity_of, type_names, IsTabled}
use Rattle.in_symbols.proofs.Public.{are_shapes}
use Rattle.in_net.specs.Built.{HaveFewPorts}
use Rattle.in_syntax.specs.Grammar.{max_ports}

few : (ss : List Shape) (s : ℕ) → AreShapes ss → arity_in (slice_get ss s) ≤ max_ports
few [] s all = omega arith
few (x ∷ xs) zero all = let h = all.0.few in omega (arith, h)
few (x ∷ xs) (suc s) all = few xs s all.1

pub are_small : (source : Source) (t : Tables) → IsSized source → IsTabled source t → HaveFewPorts t
are_small source t sized tabled s = subst (λ (t : Tables). arity_of t s ≤ max_ports) (sym tabled.tables) (few _ s (are_shapes (type_names source) source.symbols sized.ports))
