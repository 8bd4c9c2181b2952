-- The spots of names are in the order of the text.
use Rattle.std.proofs.Common.{◌≡◌, ◌≢◌, ◌⊎◌, inl, inr, ℕ, zero, suc, ◌+◌, ◌<◌, ◌≤◌, List, [], ◌∷◌, ◌++◌, length, map, Option, Some, None, refl, sym, ◌∙◌, ap, subst, arith, append_assoc, append-nil}
use Rattle.std.specs.List.{AllByRecursion, flat_map}
use Rattle.in_syntax.specs.declared.places.Place.{Place}
use Rattle.in_syntax.specs.declared.tree.Term.{Term, out-Term}
use Rattle.in_syntax.specs.declared.tree.Equation.{Equation}
use Rattle.in_syntax.specs.declared.tree.SourceFree.{SourceFree}
use Rattle.in_syntax.specs.declared.tree.Name.{Name}
use Rattle.in_syntax.specs.declared.tree.SourceRule.{SourceRule}
use Rattle.in_syntax.specs.declared.tree.SourceNet.{SourceNet}
use Rattle.in_syntax.proofs.Public.{places_out, back_rises, term_by_arguments, terms_by_arguments}
use Rattle.in_syntax.specs.Order.{Rises, term_places, equation_places, IsInOrder, IsRuleInOrder, head_places}
use Rattle.in_net.specs.declared.reading.TextSpot.{TextSpot}
use Rattle.in_net.specs.declared.reading.TextSpot.TheVariants.{Port, Free, End, Occurrence}
use Rattle.in_net.specs.declared.reading.Reading.{Reading}
use Rattle.in_symbols.specs.Names.{number_in}
use Rattle.in_symbols.specs.Tables.{Tables, arity_of}
use Rattle.in_net.specs.Building.{nth_spot}
use Rattle.in_net.specs.Reading.{with_named, with_joint, with_ends, boundary_spots, number_with, ports_from, reader_of, reads_arguments, reads_equation, reads_equations, reads_heads, reads_free_from, reads_free, reads_free_end, nothing_read, ends_of, reading_of}
use Rattle.in_net.specs.TextNet.{Body, LeftHead, body_of, heads_at}
use Rattle.in_net.proofs.Texts.Folds.{read_named}
use Rattle.std.proofs.lemmas.Bool.{cases_eq, cases_lt}
use Rattle.in_base.proofs.Each.{all_left, all_right, all_append}

-- the place of a name, at the spot of its occurrence or of its agent's principal port
abbrev pub root_place : TextSpot → List Place
root_place (Port a zero p) = p ∷ []
root_place (Port a (suc i) p) = []
root_place (Free k m) = []
root_place (End k) = []
root_place (Occurrence m p) = p ∷ []

abbrev pub root_places : List TextSpot → List Place
root_places = flat_map root_place

roots_append : (xs ys : List TextSpot) → root_places (xs ++ ys) ≡ root_places xs ++ root_places ys
roots_append [] ys = refl
roots_append (x ∷ xs) ys = ap (λ z. root_place x ++ z) (roots_append xs ys) ∙ sym (append_assoc (root_place x) (root_places xs) (root_places ys))

no_roots : (agent : ℕ) (at : Place) (port n : ℕ) → root_places (ports_from agent at (port + 1) n) ≡ []
no_roots agent at port zero = refl
no_roots agent at port (suc n) =
    let e : port + 1 ≡ suc port = omega arith in
    ap (λ i. root_place (Port agent i at) ++ root_places (ports_from agent at (port + 1 + 1) n)) e ∙ no_roots agent at (port + 1) n

one_root : (agent : ℕ) (at : Place) (n : ℕ) → root_places (ports_from agent at 0 (n + 1)) ≡ at ∷ []
one_root agent at n =
    let e : n + 1 ≡ suc n = omega arith in
    ap (λ k. root_places (ports_from agent at 0 k)) e ∙ ap (λ z. at ∷ z) (no_roots agent at 0 n)

named_roots : (t : Tables) (r : Reading) (n : Name) (o : Option ℕ) → root_places (with_named t r n o).spots ≡ root_places r.spots ++ n.place ∷ []
named_roots t r n None = roots_append r.spots (Occurrence (number_with r.names n.text) n.place ∷ [])
named_roots t r n (Some s) =
    roots_append r.spots (ports_from (length r.agents) n.place 0 (arity_of t s + 1)) ∙ ap (λ z. root_places r.spots ++ z) (one_root (length r.agents) n.place (arity_of t s))

abbrev RootsRead : Tables → Term → Type 0
RootsRead t u = (r : Reading) → root_places ((reader_of t u).reads r).0.spots ≡ root_places r.spots ++ term_places u

arguments_roots : (t : Tables) (us : List Term) → AllByRecursion (RootsRead t) us → (first port : ℕ) (r : Reading) →
    root_places (reads_arguments first (map (reader_of t) us) port r).spots ≡ root_places r.spots ++ flat_map (λ ps. ps) (map term_places us)
arguments_roots t [] all first port r = sym (append-nil (root_places r.spots))
arguments_roots t (u ∷ us) all first port r =
    let there : Reading × ℕ = (reader_of t u).reads r in
    arguments_roots t us all.1 first (port + 1) (with_joint there.0 first port there.1 (reader_of t u).place)
    ∙ ap (λ z. z ++ flat_map (λ ps. ps) (map term_places us)) (all.0 r)
    ∙ append_assoc (root_places r.spots) (term_places u) (flat_map (λ ps. ps) (map term_places us))

of_arguments : (t : Tables) (u : Term) → AllByRecursion (RootsRead t) (out-Term u).args → RootsRead t u
of_arguments t u all r =
    let name = (out-Term u).name in
    let o = number_in name.text t.names in
    let rest : List Place = flat_map (λ ps. ps) (map term_places (out-Term u).args) in
    ap (λ (p : Reading × ℕ). root_places p.0.spots) (read_named t u r)
    ∙ arguments_roots t (out-Term u).args all (length r.spots) 1 (with_named t r name o)
    ∙ ap (λ z. z ++ rest) (named_roots t r name o)
    ∙ append_assoc (root_places r.spots) (name.place ∷ []) rest
    ∙ ap (λ z. root_places r.spots ++ z) (sym (places_out u))

roots_read : (t : Tables) (u : Term) → RootsRead t u
roots_read t = term_by_arguments (RootsRead t) (of_arguments t)

-- without the ~
abbrev pub name_places : List Equation → List Place
name_places = flat_map (λ e. term_places e.left ++ term_places e.right)

equations_roots : (t : Tables) (es : List Equation) (r : Reading) → root_places (reads_equations t es r).spots ≡ root_places r.spots ++ name_places es
equations_roots t [] r = sym (append-nil (root_places r.spots))
equations_roots t (e ∷ es) r =
    equations_roots t es (reads_equation t e r)
    ∙ ap (λ z. z ++ name_places es)
    (roots_read t e.right ((reader_of t e.left).reads r).0 ∙ ap (λ z. z ++ term_places e.right) (roots_read t e.left r)
    ∙ append_assoc (root_places r.spots) (term_places e.left) (term_places e.right))
    ∙ append_assoc (root_places r.spots) (term_places e.left ++ term_places e.right) (name_places es)

free_roots : (k : ℕ) (fs : List SourceFree) (r : Reading) → root_places (reads_free_from k fs r).spots ≡ root_places r.spots
free_roots k [] r = refl
free_roots k (f ∷ fs) r = free_roots (k + 1) fs (reads_free_end k f r) ∙ roots_append r.spots (Free k (number_with r.names f.name.text) ∷ []) ∙ append-nil (root_places r.spots)

-- ---- places that rise still rise without some of them

without_middle : (xs ys : List Place) (y : Place) → Rises (xs ++ y ∷ ys) → Rises (xs ++ ys)
without_middle [] ys y h = h.1
without_middle (x ∷ xs) ys y h = (all_append (λ q. x.from < q.from) xs ys (all_left (λ q. x.from < q.from) xs (y ∷ ys) h.0) (all_right (λ q. x.from < q.from) xs (y ∷ ys) h.0).1, without_middle xs ys y h.1)

all_names : (P : Place → Type 0) (es : List Equation) → AllByRecursion P (flat_map equation_places es) → AllByRecursion P (name_places es)
all_names P [] h = tt
all_names P (e ∷ es) h =
    let here = all_left P (equation_places e) (flat_map equation_places es) h in
    all_append P (term_places e.left ++ term_places e.right) (name_places es)
    (all_append P (term_places e.left) (term_places e.right) (all_left P (term_places e.left) (e.tilde ∷ term_places e.right) here) (all_right P (term_places e.left) (e.tilde ∷ term_places e.right) here).1)
    (all_names P es (all_right P (equation_places e) (flat_map equation_places es) h))

-- the first list is the same, and the second one's places are among those that came after it
rises_on : (xs ys zs : List Place) → ((P : Place → Type 0) → AllByRecursion P ys → AllByRecursion P zs) → Rises zs → Rises (xs ++ ys) → Rises (xs ++ zs)
rises_on [] ys zs less up h = up
rises_on (x ∷ xs) ys zs less up h =
    (all_append (λ q. x.from < q.from) xs zs (all_left (λ q. x.from < q.from) xs ys h.0) (less (λ q. x.from < q.from) (all_right (λ q. x.from < q.from) xs ys h.0)), rises_on xs ys zs less up h.1)

names_rise : (es : List Equation) → Rises (flat_map equation_places es) → Rises (name_places es)
names_rise [] h = tt
names_rise (e ∷ es) h =
    let rest = names_rise es (back_rises (equation_places e) (flat_map equation_places es) h) in
    let names : Rises (equation_places e ++ name_places es) = rises_on (equation_places e) (flat_map equation_places es) (name_places es) (λ P k. all_names P es k) rest h in
    subst Rises (sym (append_assoc (term_places e.left) (term_places e.right) (name_places es)))
    (without_middle (term_places e.left) (term_places e.right ++ name_places es) e.tilde (subst Rises (append_assoc (term_places e.left) (e.tilde ∷ term_places e.right) (name_places es)) names))

-- without the heads' own names
abbrev pub name_places_in : List LeftHead → List Place
name_places_in = flat_map (λ h. flat_map term_places h.head.terms)

all_places : (us : List Term) → flat_map (λ ps. ps) (map term_places us) ≡ flat_map term_places us
all_places [] = refl
all_places (u ∷ us) = ap (λ z. term_places u ++ z) (all_places us)

heads_roots : (t : Tables) (hs : List LeftHead) (r : Reading) → root_places (reads_heads t hs r).spots ≡ root_places r.spots ++ name_places_in hs
heads_roots t [] r = sym (append-nil (root_places r.spots))
heads_roots t (h ∷ hs) r =
    heads_roots t hs (reads_arguments h.first (map (reader_of t) h.head.terms) 0 r)
    ∙ ap (λ z. z ++ name_places_in hs)
    (arguments_roots t h.head.terms (terms_by_arguments (RootsRead t) (of_arguments t) h.head.terms) h.first 0 r ∙ ap (λ z. root_places r.spots ++ z) (all_places h.head.terms))
    ∙ append_assoc (root_places r.spots) (flat_map term_places h.head.terms) (name_places_in hs)

ends_rootless : (k n : ℕ) → root_places (boundary_spots k n) ≡ []
ends_rootless k zero = refl
ends_rootless k (suc n) = ends_rootless (k + 1) n

roots_ends : (r : Reading) (n : ℕ) → root_places (with_ends r n).spots ≡ root_places r.spots
roots_ends r zero = refl
roots_ends r (suc n) = roots_append r.spots (boundary_spots (length r.spots) (suc n)) ∙ ap (λ z. root_places r.spots ++ z) (ends_rootless (length r.spots) (suc n)) ∙ append-nil (root_places r.spots)

-- the places of all names of a body except those of heads
abbrev pub body_places : Body → List Place
body_places b = name_places_in b.heads ++ name_places b.equations

-- the reading of a body is in the order of its text
pub roots_rise : (t : Tables) (b : Body) → Rises (body_places b) → Rises (root_places (reading_of t b).spots)
roots_rise t b order =
    let ends : Reading = with_ends (reads_free b.free) (ends_of t b.heads) in
    let none : root_places (with_ends (reads_free b.free) (ends_of t b.heads)).spots ≡ [] = roots_ends (reads_free b.free) (ends_of t b.heads) ∙ free_roots 0 b.free nothing_read in
    subst Rises (sym (equations_roots t b.equations (reads_heads t b.heads ends) ∙ ap (λ z. z ++ name_places b.equations) (heads_roots t b.heads ends ∙ ap (λ z. z ++ name_places_in b.heads) none))) order

pub net_rises : (n : SourceNet) → IsInOrder n → Rises (body_places (body_of n))
net_rises n order = names_rise n.equations order

regrouped : (a b c : List Place) → a ++ (b ++ c) ≡ (a ++ (b ++ [])) ++ c
regrouped a b c = simp (append_assoc, append-nil)

pub rule_rises : (r : SourceRule) (first second : ℕ) → IsRuleInOrder r → Rises (body_places (record { free = []; heads = heads_at r first second; equations = r.equations }))
rule_rises r first second order =
    let rest : Rises (name_places r.equations) = names_rise r.equations (back_rises (head_places r.first ++ head_places r.second) (flat_map equation_places r.equations) order) in
    let names : Rises ((head_places r.first ++ head_places r.second) ++ name_places r.equations) =
    rises_on (head_places r.first ++ head_places r.second) (flat_map equation_places r.equations) (name_places r.equations) (λ P k. all_names P r.equations k) rest order in
    let all : Rises (flat_map term_places r.first.terms ++ (flat_map term_places r.second.terms ++ name_places r.equations)) =
    without_middle (flat_map term_places r.first.terms) (flat_map term_places r.second.terms ++ name_places r.equations) r.second.name.place
    (subst Rises (append_assoc (flat_map term_places r.first.terms) (head_places r.second) (name_places r.equations)) names.1) in
    subst Rises (regrouped (flat_map term_places r.first.terms) (flat_map term_places r.second.terms) (name_places r.equations)) all

-- .. and with the ~ of its equations
pub rule_order : (r : SourceRule) → IsRuleInOrder r → Rises ((flat_map term_places r.first.terms ++ (flat_map term_places r.second.terms ++ [])) ++ flat_map equation_places r.equations)
rule_order r order =
    subst Rises (regrouped (flat_map term_places r.first.terms) (flat_map term_places r.second.terms) (flat_map equation_places r.equations))
    (without_middle (flat_map term_places r.first.terms) (flat_map term_places r.second.terms ++ flat_map equation_places r.equations) r.second.name.place
    (subst Rises (append_assoc (flat_map term_places r.first.terms) (head_places r.second) (flat_map equation_places r.equations)) order.1))

-- ---- and so two names have different places

later_place : (P : Place → Type 0) (spots : List TextSpot) (j : ℕ) (q : Place) → AllByRecursion P (root_places spots) → j < length spots → root_place (nth_spot spots j) ≡ q ∷ [] → P q
later_place P [] j q all lt is = absurd (omega (arith, lt))
later_place P (s ∷ spots) zero q all lt is =
    let here : AllByRecursion P (root_place s) = all_left P (root_place s) (root_places spots) all in
    (subst (AllByRecursion P) is here).0
later_place P (s ∷ spots) (suc j) q all lt is = later_place P spots j q (all_right P (root_place s) (root_places spots) all) (omega (arith, lt)) is

pub place_before : (spots : List TextSpot) (i j : ℕ) (p q : Place) → Rises (root_places spots) → i < j → j < length spots → root_place (nth_spot spots i) ≡ p ∷ [] → root_place (nth_spot spots j) ≡ q ∷ [] → p.from < q.from
place_before [] i j p q up lt in_ is at = absurd (omega (arith, in_))
place_before (s ∷ spots) zero zero p q up lt in_ is at = absurd (omega (arith, lt))
place_before (s ∷ spots) zero (suc j) p q up lt in_ is at =
    let first : Rises ((p ∷ []) ++ root_places spots) = subst (λ z. Rises (z ++ root_places spots)) is up in
    later_place (λ q. p.from < q.from) spots j q first.0 (omega (arith, in_)) at
place_before (s ∷ spots) (suc i) zero p q up lt in_ is at = absurd (omega (arith, lt))
place_before (s ∷ spots) (suc i) (suc j) p q up lt in_ is at = place_before spots i j p q (back_rises (root_place s) (root_places spots) up) (omega (arith, lt)) (omega (arith, in_)) is at

pub root_before : (spots : List TextSpot) (i j m n : ℕ) (p q : Place) → Rises (root_places spots) → i < j → j < length spots → nth_spot spots i ≡ Occurrence m p → nth_spot spots j ≡ Occurrence n q → p.from < q.from
root_before spots i j m n p q up lt in_ is at = place_before spots i j p q up lt in_ (ap root_place is) (ap root_place at)

-- one place, one spot
pub same_root : (spots : List TextSpot) (i j : ℕ) (p : Place) → Rises (root_places spots) → i < length spots → j < length spots → root_place (nth_spot spots i) ≡ p ∷ [] → root_place (nth_spot spots j) ≡ p ∷ [] → i ≡ j
same_root spots i j p up i_in j_in is at = by_order (cases_eq i j) (cases_lt i j)
  where
    by_order : (i ≡ j) ⊎ (i ≢ j) → (i < j) ⊎ (j ≤ i) → i ≡ j
    by_order (inl x) y = x
    by_order (inr x) (inl y) = absurd (let less = place_before spots i j p p up y j_in is at in omega (arith, less))
    by_order (inr x) (inr y) = absurd (let less = place_before spots j i p p up (omega (arith, x, y)) i_in at is in omega (arith, less))
