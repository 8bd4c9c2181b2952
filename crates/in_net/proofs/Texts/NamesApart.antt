-- No name is read twice into the names of a net.
use Rattle.std.proofs.Common.{◌≡◌, ◌≢◌, ◌⊎◌, inl, inr, ℕ, zero, suc, ◌+◌, ◌<◌, true, false, List, [], ◌∷◌, ◌++◌, length, length-append, map, Option, Some, None, refl, sym, ◌∙◌, ap, subst, arith, get_or, is_some, cond}
use Rattle.std.specs.List.{AllByRecursion, list_any}
use Rattle.std.specs.Str.{bytes_eq}
use Rattle.std.proofs.lemmas.Slice.Eq.{bytes_eq-Decides}
use Rattle.in_syntax.specs.declared.tree.Term.{Term, out-Term}
use Rattle.in_syntax.specs.declared.tree.Equation.{Equation}
use Rattle.in_syntax.specs.declared.tree.SourceFree.{SourceFree}
use Rattle.in_syntax.specs.declared.tree.Name.{Name}
use Rattle.in_symbols.specs.Names.{number_in, name_in}
use Rattle.in_symbols.specs.Tables.{Tables}
use Rattle.in_symbols.proofs.Public.{absent}
use Rattle.in_net.specs.declared.reading.Reading.{Reading}
use Rattle.in_net.specs.Reading.{with_named, with_joint, with_name, reader_of, reads_arguments, reads_equation, reads_equations, reads_heads, with_ends, ends_of, reads_free, reads_free_from, reads_free_end, nothing_read, reading_of}
use Rattle.in_net.specs.TextNet.{Body, LeftHead}
use Rattle.in_net.proofs.Texts.Folds.{read_named}
use Rattle.in_net.proofs.Wiring.Linked.{front_or_back, at_front, at_back}
use Rattle.std.proofs.lemmas.Bool.{or_parts}
use Rattle.in_syntax.proofs.Public.{term_by_arguments, terms_by_arguments}

abbrev pub AreApart : List (List ℕ) → Type 0
AreApart names = (m n : ℕ) → m < length names → n < length names → name_in m names ≡ name_in n names → m ≡ n

not_there : (name : List ℕ) (names : List (List ℕ)) (m : ℕ) → list_any (bytes_eq name) names ≡ false → m < length names → name_in m names ≢ name
not_there name [] m none lt e = absurd (omega (arith, lt))
not_there name (x ∷ names) zero none lt e =
    let same : bytes_eq name x ≡ true = (bytes_eq-Decides name x).1 (sym e) in
    absurd (let wrong : true ≡ false = sym same ∙ (or_parts (bytes_eq name x) (list_any (bytes_eq name) names) none).0 in cc)
not_there name (x ∷ names) (suc m) none lt e = not_there name names m (or_parts (bytes_eq name x) (list_any (bytes_eq name) names) none).1 (omega (arith, lt)) e

one_apart : (names : List (List ℕ)) (name : List ℕ) → AreApart names → list_any (bytes_eq name) names ≡ false → AreApart (names ++ name ∷ [])
one_apart names name apart none m n m_in n_in e = by_side (front_or_back (length names) m) (front_or_back (length names) n)
  where
    count : length (names ++ name ∷ []) ≡ length names + 1
    count = length-append names (name ∷ [])

    last : (k j : ℕ) → k < length (names ++ name ∷ []) → k ≡ length names + j → name_in k (names ++ name ∷ []) ≡ name
    last k j lt f = let zero_on : j ≡ 0 = omega (arith, lt, f, count) in ap (λ k. get_or (names ++ name ∷ []) k []) (f ∙ ap (λ j. length names + j) zero_on) ∙ at_back names (name ∷ []) 0 []

    by_side : (m < length names) ⊎ ((j : ℕ) × (m ≡ length names + j)) → (n < length names) ⊎ ((j : ℕ) × (n ≡ length names + j)) → m ≡ n
    by_side (inl x) (inl y) = apart m n x y (sym (at_front names (name ∷ []) m [] x) ∙ e ∙ at_front names (name ∷ []) n [] y)
    by_side (inl x) (inr (j, y)) = absurd (not_there name names m none x (sym (at_front names (name ∷ []) m [] x) ∙ e ∙ last n j n_in y))
    by_side (inr (j, x)) (inl y) = absurd (not_there name names n none y (sym (at_front names (name ∷ []) n [] y) ∙ sym e ∙ last m j m_in x))
    by_side (inr (j, x)) (inr (k, y)) = omega (arith, x, y, m_in, n_in, count)

with_name_by : (names : List (List ℕ)) (name : List ℕ) (o : Option ℕ) → number_in name names ≡ o → AreApart names → AreApart (with_name names name)
with_name_by names name None is apart =
    let grown : with_name names name ≡ names ++ name ∷ [] = ap (λ (o : Option ℕ). cond (is_some o) names (names ++ name ∷ [])) is in
    subst (λ z. (m n : ℕ) → m < length z → n < length z → name_in m z ≡ name_in n z → m ≡ n) (sym grown) (one_apart names name apart (absent (bytes_eq name) names is))
with_name_by names name (Some k) is apart =
    let same : with_name names name ≡ names = ap (λ (o : Option ℕ). cond (is_some o) names (names ++ name ∷ [])) is in
    subst (λ z. (m n : ℕ) → m < length z → n < length z → name_in m z ≡ name_in n z → m ≡ n) (sym same) apart

with_name_apart : (names : List (List ℕ)) (name : List ℕ) → AreApart names → AreApart (with_name names name)
with_name_apart names name apart = with_name_by names name (number_in name names) refl apart

named_apart : (t : Tables) (r : Reading) (n : Name) (o : Option ℕ) → AreApart r.names → AreApart (with_named t r n o).names
named_apart t r n None apart = with_name_apart r.names n.text apart
named_apart t r n (Some s) apart = apart

abbrev NamesRead : Tables → Term → Type 0
NamesRead t u = (r : Reading) → AreApart r.names → AreApart ((reader_of t u).reads r).0.names

arguments_apart : (t : Tables) (us : List Term) → AllByRecursion (NamesRead t) us → (first port : ℕ) (r : Reading) → AreApart r.names → AreApart (reads_arguments first (map (reader_of t) us) port r).names
arguments_apart t [] all first port r apart = apart
arguments_apart t (u ∷ us) all first port r apart =
    let there : Reading × ℕ = (reader_of t u).reads r in
    arguments_apart t us all.1 first (port + 1) (with_joint there.0 first port there.1 (reader_of t u).place) (all.0 r apart)

of_arguments : (t : Tables) (u : Term) → AllByRecursion (NamesRead t) (out-Term u).args → NamesRead t u
of_arguments t u all r apart =
    let name = (out-Term u).name in
    let o = number_in name.text t.names in
    subst (λ (p : Reading × ℕ). AreApart p.0.names) (sym (read_named t u r)) (arguments_apart t (out-Term u).args all (length r.spots) 1 (with_named t r name o) (named_apart t r name o apart))

terms_apart : (t : Tables) (u : Term) → NamesRead t u
terms_apart t = term_by_arguments (NamesRead t) (of_arguments t)

equations_apart : (t : Tables) (es : List Equation) (r : Reading) → AreApart r.names → AreApart (reads_equations t es r).names
equations_apart t [] r apart = apart
equations_apart t (e ∷ es) r apart = equations_apart t es (reads_equation t e r) (terms_apart t e.right ((reader_of t e.left).reads r).0 (terms_apart t e.left r apart))

free_apart : (k : ℕ) (fs : List SourceFree) (r : Reading) → AreApart r.names → AreApart (reads_free_from k fs r).names
free_apart k [] r apart = apart
free_apart k (f ∷ fs) r apart = free_apart (k + 1) fs (reads_free_end k f r) (with_name_apart r.names f.name.text apart)

heads_apart : (t : Tables) (hs : List LeftHead) (r : Reading) → AreApart r.names → AreApart (reads_heads t hs r).names
heads_apart t [] r apart = apart
heads_apart t (h ∷ hs) r apart =
    heads_apart t hs (reads_arguments h.first (map (reader_of t) h.head.terms) 0 r) (arguments_apart t h.head.terms (terms_by_arguments (NamesRead t) (of_arguments t) h.head.terms) h.first 0 r apart)

ends_apart : (r : Reading) (n : ℕ) → AreApart r.names → AreApart (with_ends r n).names
ends_apart r zero apart = apart
ends_apart r (suc n) apart = apart

pub names_apart : (t : Tables) (b : Body) → AreApart (reading_of t b).names
names_apart t b =
    equations_apart t b.equations (reads_heads t b.heads (with_ends (reads_free b.free) (ends_of t b.heads)))
    (heads_apart t b.heads (with_ends (reads_free b.free) (ends_of t b.heads)) (ends_apart (reads_free b.free) (ends_of t b.heads) (free_apart 0 b.free nothing_read (λ m n lt. absurd (omega (arith, lt))))))
