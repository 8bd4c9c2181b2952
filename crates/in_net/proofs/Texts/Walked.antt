-- The reading of a walk.
use Rattle.std.proofs.Common.{◌≡◌, ◌+◌, ℕ, Bool, true, false, List, [], ◌∷◌, length, map, if◌then◌else◌, refl, sym, ap, ◌∙◌}
use Rattle.std.specs.List.{AllByRecursion}
use Rattle.in_syntax.specs.declared.tree.Equation.{Equation}
use Rattle.in_syntax.specs.declared.tree.Term.{Term, out-Term}
use Rattle.in_syntax.specs.Walks.{walks_from, walks_term, walks_terms, walks_equations}
use Rattle.in_syntax.proofs.Public.{term_by_arguments, terms_by_arguments, walk_out}
use Rattle.in_symbols.specs.Names.{number_in}
use Rattle.in_net.specs.declared.reading.NetReader.{NetReader}
use Rattle.in_net.specs.declared.reading.ReadTerm.{ReadTerm}
use Rattle.in_net.specs.declared.reading.Reading.{Reading}
use Rattle.in_net.specs.Reading.{reader_of, reads_arguments, reads_equation, reads_equations, reads_on, with_named, with_joint, port_of, read_at, reading_names}
use Rattle.in_net.proofs.Texts.Folds.{place_read, read_named}

-- the reading of a term, and its properties
abbrev read_so : NetReader → Reading × ℕ → Term → NetReader × ReadTerm
read_so n there u = (reads_on n there.0, read_at there.1 (out-Term u).name.place)

abbrev IsRead : Term → Type 0
IsRead u = (n : NetReader) → walks_term reading_names u n ≡ read_so n ((reader_of n.symbols.now u).reads n.reading) u

-- the next argument is at the next port
next_port : (of : ReadTerm) (head : Bool) (k : ℕ) → of.is_head ≡ head → port_of of (k + 1) ≡ port_of of k + 1
next_port of true k is = ap (λ b. if b then k + 1 else (k + 1) + 1) is ∙ sym (ap (λ b. (if b then k else k + 1) + 1) is)
next_port of false k is = ap (λ b. if b then k + 1 else (k + 1) + 1) is ∙ sym (ap (λ b. (if b then k else k + 1) + 1) is)

from_read : (ts : List Term) → AllByRecursion IsRead ts → (n : NetReader) (of : ReadTerm) (k : ℕ) →
    walks_from reading_names of k (map (walks_term reading_names) ts) n ≡ reads_on n (reads_arguments of.spot (map (reader_of n.symbols.now) ts) (port_of of k) n.reading)
from_read [] all n of k = refl
from_read (u ∷ ts) all n of k =
    let t = n.symbols.now in
    let there = (reader_of t u).reads n.reading in
    let joined = with_joint there.0 of.spot (port_of of k) there.1 (out-Term u).name.place in
    ap (λ (w : NetReader × ReadTerm). walks_from reading_names of (k + 1) (map (walks_term reading_names) ts) (reading_names.argument w.0 of k w.1)) (all.0 n)
    ∙ from_read ts all.1 (reads_on n joined) of (k + 1)
    ∙ ap (λ p. reads_on n (reads_arguments of.spot (map (reader_of t) ts) p joined)) (next_port of of.is_head k refl)
    ∙ sym (ap (λ at. reads_on n (reads_arguments of.spot (map (reader_of t) ts) (port_of of k + 1) (with_joint there.0 of.spot (port_of of k) there.1 at))) (place_read t u n.reading))

of_arguments : (u : Term) → AllByRecursion IsRead (out-Term u).args → IsRead u
of_arguments u all n =
    let name = (out-Term u).name in
    let at = read_at (length n.reading.spots) name.place in
    walk_out reading_names u n
    ∙ ap (λ (w : NetReader). (w, at)) (from_read (out-Term u).args all (reads_on n (with_named n.symbols.now n.reading name (number_in name.text n.symbols.now.names))) at 0)
    ∙ sym (ap (λ there. read_so n there u) (read_named n.symbols.now u n.reading))

pub term_walked : (u : Term) → IsRead u
term_walked = term_by_arguments IsRead of_arguments

pub terms_walked : (ts : List Term) (n : NetReader) (of : ReadTerm) →
    walks_terms reading_names of ts n ≡ reads_on n (reads_arguments of.spot (map (reader_of n.symbols.now) ts) (port_of of 0) n.reading)
terms_walked ts n of = from_read ts (terms_by_arguments IsRead of_arguments ts) n of 0

pub equations_walked : (es : List Equation) (n : NetReader) → walks_equations reading_names es n ≡ reads_on n (reads_equations n.symbols.now es n.reading)
equations_walked [] n = refl
equations_walked (e ∷ es) n =
    let t = n.symbols.now in
    let left = (reader_of t e.left).reads n.reading in
    ap (λ (w : NetReader × ReadTerm). walks_equations reading_names es (reading_names.equation (walks_term reading_names e.right w.0).0 w.1 (walks_term reading_names e.right w.0).1 e.tilde)) (term_walked e.left n)
    ∙ ap (λ (w : NetReader × ReadTerm). walks_equations reading_names es (reading_names.equation w.0 (read_at left.1 (out-Term e.left).name.place) w.1 e.tilde)) (term_walked e.right (reads_on n left.0))
    ∙ equations_walked es (reads_on n (reads_equation t e n.reading))
