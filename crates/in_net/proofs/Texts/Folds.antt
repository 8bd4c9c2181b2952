-- A fold over terms, at one term.
use Rattle.std.proofs.Common.{◌≡◌, ℕ, Bool, true, ◌&&◌, [], length, map, Option, Some, None, sym, ◌∙◌, ap, subst}
use Rattle.std.proofs.lemmas.Bool.{eqb-true, and_parts}
use Rattle.std.proofs.lemmas.List.{length-map}
use Rattle.in_syntax.specs.declared.tree.Term.{Term, out-Term}
use Rattle.in_syntax.specs.declared.tree.Term.TheFolds.{fold_out-Term}
use Rattle.in_syntax.specs.declared.symbol_no.SymbolNo.{SymbolNo}
use Rattle.in_symbols.specs.Names.{number_in}
use Rattle.in_symbols.specs.Tables.{Tables, arity_of, all_true}
use Rattle.in_net.specs.Arities.{fits_arity, arities_fit}
use Rattle.in_net.specs.declared.reading.Reading.{Reading}
use Rattle.in_net.specs.Reading.{TermReader, reader_step, reads_arguments, with_named, with_agent, with_occurrence, reader_of}

pub fits_out : (t : Tables) (u : Term) →
    arities_fit t u ≡ (fits_arity t (number_in (out-Term u).name.text t.names) (length (map (arities_fit t) (out-Term u).args)) && all_true (map (arities_fit t) (out-Term u).args))
fits_out t = fold_out-Term Bool (λ f. fits_arity t (number_in f.name.text t.names) (length f.args) && all_true f.args)

-- an agent has as many arguments as auxiliary ports, and so have those in it
pub fits_agent : (t : Tables) (u : Term) (s : SymbolNo) → number_in (out-Term u).name.text t.names ≡ Some s.0 → arities_fit t u ≡ true →
    (length (out-Term u).args ≡ arity_of t s.0) × (all_true (map (arities_fit t) (out-Term u).args) ≡ true)
fits_agent t u s is fit =
    let parts = and_parts (fits_arity t (number_in (out-Term u).name.text t.names) (length (map (arities_fit t) (out-Term u).args))) (all_true (map (arities_fit t) (out-Term u).args)) (sym (fits_out t u) ∙ fit) in
    let here : fits_arity t (Some s.0) (length (map (arities_fit t) (out-Term u).args)) ≡ true = subst (λ o. fits_arity t o (length (map (arities_fit t) (out-Term u).args)) ≡ true) is parts.0 in
    (sym (length-map (out-Term u).args (arities_fit t)) ∙ eqb-true _ _ here, parts.1)

module _ (t : Tables) (u : Term) (r : Reading) where
  out : reader_of t u ≡ reader_step t (record { name = (out-Term u).name; args = map (reader_of t) (out-Term u).args })
  out = fold_out-Term TermReader (reader_step t) u

  pub place_read : (reader_of t u).place ≡ (out-Term u).name.place
  place_read = ap (λ (x : TermReader). x.place) out

  abbrev with_arguments : Option ℕ → Reading
  with_arguments o = reads_arguments (length r.spots) (map (reader_of t) (out-Term u).args) 1 (with_named t r (out-Term u).name o)

  pub read_named : (reader_of t u).reads r ≡ (with_arguments (number_in (out-Term u).name.text t.names), length r.spots)
  read_named = ap (λ (x : TermReader). x.reads r) out

  pub read_by : (o : Option ℕ) → number_in (out-Term u).name.text t.names ≡ o → (reader_of t u).reads r ≡ (with_arguments o, length r.spots)
  read_by o is = read_named ∙ ap (λ o. (with_arguments o, length r.spots)) is

  pub read_occurrence : number_in (out-Term u).name.text t.names ≡ None → (out-Term u).args ≡ [] → (reader_of t u).reads r ≡ (with_occurrence r (out-Term u).name, length r.spots)
  read_occurrence is none = read_by None is ∙ ap (λ us. (reads_arguments (length r.spots) (map (reader_of t) us) 1 (with_occurrence r (out-Term u).name), length r.spots)) none

  pub read_agent : (s : SymbolNo) → number_in (out-Term u).name.text t.names ≡ Some s.0 →
      (reader_of t u).reads r ≡ (reads_arguments (length r.spots) (map (reader_of t) (out-Term u).args) 1 (with_agent r s (arity_of t s.0) (out-Term u).name.place), length r.spots)
  read_agent s is = read_by (Some s.0) is
