-- The agents that are read of a net are those of its text, in their order.
use Rattle.std.proofs.Common.{◌≡◌, ℕ, zero, suc, ◌+◌, ◌<◌, List, [], ◌∷◌, ◌++◌, length, map, Option, Some, None, refl, sym, ◌∙◌, ap, subst, append_assoc, append-nil}
use Rattle.std.proofs.lemmas.List.{map-append}
use Rattle.std.specs.List.{AllByRecursion, flat_map}
use Rattle.in_syntax.specs.declared.places.Place.{Place}
use Rattle.in_syntax.specs.declared.tree.Term.{Term, out-Term}
use Rattle.in_syntax.specs.declared.tree.Term.TheFolds.{fold_out-Term}
use Rattle.in_syntax.specs.declared.tree.Equation.{Equation}
use Rattle.in_syntax.specs.declared.tree.Name.{Name}
use Rattle.in_net.specs.declared.nets.Cell.{Cell}
use Rattle.in_syntax.specs.declared.tree.SourceFree.{SourceFree}
use Rattle.in_net.specs.declared.reading.TextSpot.{TextSpot}
use Rattle.in_net.specs.declared.joining.Link.{Link}
use Rattle.in_net.specs.declared.reading.Agent.{Agent}
use Rattle.in_net.specs.declared.reading.Reading.{Reading}
use Rattle.in_symbols.specs.Names.{number_in}
use Rattle.in_symbols.specs.Tables.{Tables, arity_of}
use Rattle.in_net.specs.Reading.{with_named, with_joint, with_ends, reader_of, reads_arguments, reads_equation, reads_equations, reads_heads, reads_free, reads_free_from, reads_free_end, nothing_read, ends_of, reading_of}
use Rattle.in_net.specs.Building.{ends_from, cells_of, free_ends_from}
use Rattle.in_net.specs.Built.{IsCellOver}
use Rattle.in_net.specs.TextNet.{Body, LeftHead, Written, written_by, agents_of, agents_of_heads, agents_of_equations, agents_of_body, AreCellsFor, AreFreeOf}
use Rattle.in_net.proofs.Texts.Folds.{read_named}
use Rattle.in_syntax.proofs.Public.{term_by_arguments, terms_by_arguments}

pub length-ends : (spots : List TextSpot) (links : List Link) (first n : ℕ) → length (ends_from spots links first n) ≡ n
length-ends spots links first zero = refl
length-ends spots links first (suc n) = ap suc (length-ends spots links (first + 1) n)

abbrev pub as_written : List Agent → List Written
as_written = map (λ a. record { symbol = a.symbol.0; place = a.place })

pub agents_out : (t : Tables) (u : Term) → agents_of t u ≡ written_by (number_in (out-Term u).name.text t.names) (out-Term u).name.place ++ flat_map (λ a. a) (map (agents_of t) (out-Term u).args)
agents_out t = fold_out-Term (List Written) (λ f. written_by (number_in f.name.text t.names) f.name.place ++ flat_map (λ a. a) f.args)

named_written : (t : Tables) (r : Reading) (n : Name) (o : Option ℕ) → as_written (with_named t r n o).agents ≡ as_written r.agents ++ written_by o n.place
named_written t r n None = sym (append-nil (as_written r.agents))
named_written t r n (Some s) =
    map-append (λ (a : Agent). let v : Written = record { symbol = a.symbol.0; place = a.place } in v) r.agents (record { symbol = record { 0 = s }; place = n.place; first = length r.spots } ∷ [])

abbrev AgentsRead : Tables → Term → Type 0
AgentsRead t u = (r : Reading) → as_written ((reader_of t u).reads r).0.agents ≡ as_written r.agents ++ agents_of t u

arguments_read : (t : Tables) (us : List Term) → AllByRecursion (AgentsRead t) us → (first port : ℕ) (r : Reading) →
    as_written (reads_arguments first (map (reader_of t) us) port r).agents ≡ as_written r.agents ++ flat_map (λ a. a) (map (agents_of t) us)
arguments_read t [] all first port r = sym (append-nil (as_written r.agents))
arguments_read t (u ∷ us) all first port r =
    let there : Reading × ℕ = (reader_of t u).reads r in
    arguments_read t us all.1 first (port + 1) (with_joint there.0 first port there.1 (reader_of t u).place)
    ∙ ap (λ z. z ++ flat_map (λ a. a) (map (agents_of t) us)) (all.0 r)
    ∙ append_assoc (as_written r.agents) (agents_of t u) (flat_map (λ a. a) (map (agents_of t) us))

of_arguments : (t : Tables) (u : Term) → AllByRecursion (AgentsRead t) (out-Term u).args → AgentsRead t u
of_arguments t u all r =
    let name = (out-Term u).name in
    let o = number_in name.text t.names in
    let rest : List Written = flat_map (λ a. a) (map (agents_of t) (out-Term u).args) in
    ap (λ (p : Reading × ℕ). as_written p.0.agents) (read_named t u r)
    ∙ arguments_read t (out-Term u).args all (length r.spots) 1 (with_named t r name o)
    ∙ ap (λ z. z ++ rest) (named_written t r name o)
    ∙ append_assoc (as_written r.agents) (written_by o name.place) rest
    ∙ ap (λ z. as_written r.agents ++ z) (sym (agents_out t u))

agents_read : (t : Tables) (u : Term) → AgentsRead t u
agents_read t = term_by_arguments (AgentsRead t) (of_arguments t)

equations_read : (t : Tables) (es : List Equation) (r : Reading) → as_written (reads_equations t es r).agents ≡ as_written r.agents ++ agents_of_equations t es
equations_read t [] r = sym (append-nil (as_written r.agents))
equations_read t (e ∷ es) r =
    equations_read t es (reads_equation t e r)
    ∙ ap (λ z. z ++ flat_map (λ e. agents_of t e.left ++ agents_of t e.right) es)
    (agents_read t e.right ((reader_of t e.left).reads r).0 ∙ ap (λ z. z ++ agents_of t e.right) (agents_read t e.left r)
    ∙ append_assoc (as_written r.agents) (agents_of t e.left) (agents_of t e.right))
    ∙ append_assoc (as_written r.agents) (agents_of t e.left ++ agents_of t e.right) (flat_map (λ e. agents_of t e.left ++ agents_of t e.right) es)

free_agents : (k : ℕ) (fs : List SourceFree) (r : Reading) → (reads_free_from k fs r).agents ≡ r.agents
free_agents k [] r = refl
free_agents k (f ∷ fs) r = free_agents (k + 1) fs (reads_free_end k f r)

all_agents : (t : Tables) (us : List Term) → flat_map (λ a. a) (map (agents_of t) us) ≡ flat_map (agents_of t) us
all_agents t [] = refl
all_agents t (u ∷ us) = ap (λ z. agents_of t u ++ z) (all_agents t us)

heads_read : (t : Tables) (hs : List LeftHead) (r : Reading) → as_written (reads_heads t hs r).agents ≡ as_written r.agents ++ agents_of_heads t hs
heads_read t [] r = sym (append-nil (as_written r.agents))
heads_read t (h ∷ hs) r =
    heads_read t hs (reads_arguments h.first (map (reader_of t) h.head.terms) 0 r)
    ∙ ap (λ z. z ++ agents_of_heads t hs)
    (arguments_read t h.head.terms (terms_by_arguments (AgentsRead t) (of_arguments t) h.head.terms) h.first 0 r ∙ ap (λ z. as_written r.agents ++ z) (all_agents t h.head.terms))
    ∙ append_assoc (as_written r.agents) (flat_map (agents_of t) h.head.terms) (agents_of_heads t hs)

ends_agents : (r : Reading) (n : ℕ) → (with_ends r n).agents ≡ r.agents
ends_agents r zero = refl
ends_agents r (suc n) = refl

-- the agents that are read of a body
pub body_agents : (t : Tables) (b : Body) → as_written (reading_of t b).agents ≡ agents_of_body t b
body_agents t b =
    let ends : Reading = with_ends (reads_free b.free) (ends_of t b.heads) in
    equations_read t b.equations (reads_heads t b.heads ends)
    ∙ ap (λ z. z ++ agents_of_equations t b.equations) (heads_read t b.heads ends ∙ ap (λ z. as_written z ++ agents_of_heads t b.heads) (ends_agents (reads_free b.free) (ends_of t b.heads) ∙ free_agents 0 b.free nothing_read))

cells_written : (t : Tables) (spots : List TextSpot) (links : List Link) (as_ : List Agent) → AreCellsFor t (as_written as_) (cells_of t spots links as_)
cells_written t spots links [] = tt
cells_written t spots links (a ∷ as_) = (record { symbol = refl; ends = length-ends spots links a.first (arity_of t a.symbol.0 + 1) }, cells_written t spots links as_)

pub cells_for : (t : Tables) (b : Body) (r : Reading) (links : List Link) (cs : List (Option Cell)) → r ≡ reading_of t b → cs ≡ cells_of t r.spots links r.agents → AreCellsFor t (agents_of_body t b) cs
cells_for t b r links cs is all =
    subst (λ ws. AreCellsFor t ws cs) (ap (λ (q : Reading). as_written q.agents) is ∙ body_agents t b) (subst (AreCellsFor t (as_written r.agents)) (sym all) (cells_written t r.spots links r.agents))

pub cells_over : (t : Tables) (spots : List TextSpot) (links : List Link) (as_ : List Agent) → AllByRecursion (λ a. a.symbol.0 < length t.names) as_ → AllByRecursion (IsCellOver t) (cells_of t spots links as_)
cells_over t spots links [] h = tt
cells_over t spots links (a ∷ as_) h = ((h.0, length-ends spots links a.first (arity_of t a.symbol.0 + 1)), cells_over t spots links as_ h.1)

pub free_for : (t : Tables) (spots : List TextSpot) (links : List Link) (k : ℕ) (fs : List SourceFree) → AreFreeOf t fs (free_ends_from t spots links k fs)
free_for t spots links k [] = tt
free_for t spots links k (f ∷ fs) = ((refl, refl), free_for t spots links (k + 1) fs)

places_written : (as_ : List Agent) → map (λ a. a.place) as_ ≡ map (λ w. w.place) (as_written as_)
places_written [] = refl
places_written (a ∷ as_) = ap (λ z. a.place ∷ z) (places_written as_)

pub places_for : (t : Tables) (b : Body) (r : Reading) (places : List Place) → r ≡ reading_of t b → places ≡ map (λ a. a.place) r.agents → places ≡ map (λ w. w.place) (agents_of_body t b)
places_for t b r places is at = at ∙ places_written r.agents ∙ ap (map (λ w. w.place)) (ap (λ (q : Reading). as_written q.agents) is ∙ body_agents t b)
