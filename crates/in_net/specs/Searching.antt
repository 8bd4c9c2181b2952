-- How the code searches for the first fault of a net's agents and names. No public contract names this.
use Rattle.std.specs.Prelude.{ℕ, ◌==◌, cond, List, length, map, Option, Some, None, option_map, slice_get}
use Rattle.in_syntax.specs.declared.faults.Code.TheVariants.{E03, E07, E08}
use Rattle.in_syntax.specs.declared.faults.Refusal.{Refusal}
use Rattle.in_syntax.specs.declared.places.Place.{Place}
use Rattle.in_syntax.specs.declared.tree.Equation.{Equation}
use Rattle.in_syntax.specs.declared.tree.Head.{Head}
use Rattle.in_syntax.specs.declared.tree.SourceFree.{SourceFree}
use Rattle.in_syntax.specs.declared.tree.Term.{Term}
use Rattle.in_syntax.specs.declared.tree.Term.TheFolds.{fold-Term}
use Rattle.in_symbols.specs.Names.{number_in}
use Rattle.in_syntax.specs.Refusals.{earlier, earliest, refused, earlier_refusal}
use Rattle.in_symbols.specs.Tables.{Tables, arity_of}
use Rattle.in_net.specs.declared.reading.Agent.{Agent}
use Rattle.in_net.specs.declared.reading.Reading.{Reading}
use Rattle.in_net.specs.Counting.{miscounted}
use Rattle.in_net.specs.TextNet.{Body, LeftHead}

abbrev pub too_many : ℕ → List Agent → Option Place
too_many most agents = option_map (λ a. a.place) (slice_get agents most)

-- the misfit of an agent of that symbol with n arguments, at the place
abbrev pub misfit_here : Tables → Option ℕ → ℕ → Place → Option Place
misfit_here t None n p = None
misfit_here t (Some s) n p = cond (n == arity_of t s) None (Some p)

abbrev pub misfit : Tables → Term → Option Place
misfit t = fold-Term (Option Place) (λ f. earliest (misfit_here t (number_in f.name.text t.names) (length f.args) f.name.place) f.args)

abbrev pub misfit_in_equation : Tables → Equation → Option Place
misfit_in_equation t e = earlier (misfit t e.left) (misfit t e.right)

-- the misfit of a head with its symbol and its number of terms, at its place, or that of its terms
abbrev pub misfit_in_head : Tables → Head → Option Place
misfit_in_head t h = earliest (misfit_here t (number_in h.name.text t.names) (length h.terms) h.name.place) (map (misfit t) h.terms)

abbrev pub misfit_in_equations : Tables → List Equation → Option Place
misfit_in_equations t es = earliest None (map (misfit_in_equation t) es)

abbrev pub misfit_in_heads : Tables → List LeftHead → Option Place
misfit_in_heads t hs = earliest None (map (λ h. misfit_in_head t h.head) hs)

abbrev pub misfit_in_body : Tables → Body → Option Place
misfit_in_body t b = earlier (misfit_in_heads t b.heads) (misfit_in_equations t b.equations)

-- the first fault, if `most` agents are allowed and this is the first misfit
abbrev pub fault_of : ℕ → Option Place → List SourceFree → Reading → Option Refusal
fault_of most misfit free r =
    earlier_refusal (earlier_refusal (refused E03 (too_many most r.agents)) (refused E07 misfit)) (refused E08 (miscounted (length r.names) r.spots free))

abbrev pub first_fault : ℕ → Tables → Body → Reading → Option Refusal
first_fault most t b r = fault_of most (misfit_in_body t b) b.free r
