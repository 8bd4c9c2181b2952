-- Numbers of arguments. Lafont 1990: a symbol has a number of auxiliary ports, its arity, and a term of its agents as many arguments.
use Rattle.std.specs.Prelude.{ℕ, Bool, true, ◌&&◌, ◌==◌, length, Option, Some, None}
use Rattle.std.specs.List.{list_all}
use Rattle.in_syntax.specs.declared.tree.Term.{Term}
use Rattle.in_syntax.specs.declared.tree.Term.TheFolds.{fold-Term}
use Rattle.in_syntax.specs.declared.tree.Equation.{Equation}
use Rattle.in_symbols.specs.Names.{number_in}
use Rattle.in_symbols.specs.Tables.{Tables, arity_of, all_true}
use Rattle.in_net.specs.TextNet.{Body, LeftHead}

abbrev pub fits_arity : Tables → Option ℕ → ℕ → Bool
fits_arity t None n = true
fits_arity t (Some s) n = n == arity_of t s

-- each agent of the term has as many arguments as its symbol has auxiliary ports
abbrev pub arities_fit : Tables → Term → Bool
arities_fit t = fold-Term Bool (λ f. fits_arity t (number_in f.name.text t.names) (length f.args) && all_true f.args)

-- the head has as many terms as its symbol has auxiliary places
abbrev pub head_fits : Tables → LeftHead → Bool
head_fits t h = fits_arity t (number_in h.head.name.text t.names) (length h.head.terms) && list_all (arities_fit t) h.head.terms

abbrev pub equation_fits : Tables → Equation → Bool
equation_fits t e = arities_fit t e.left && arities_fit t e.right

abbrev pub all_arities_fit : Tables → Body → Bool
all_arities_fit t b = list_all (head_fits t) b.heads && list_all (equation_fits t) b.equations
