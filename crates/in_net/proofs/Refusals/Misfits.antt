-- The first agent of a net with another number of arguments than auxiliary ports, and the first one too many.
use Rattle.std.proofs.Common.{◌≡◌, ◌≢◌, ◌⊎◌, inl, inr, ℕ, zero, suc, ◌≤◌, ◌==◌, Bool, true, false, cond, List, [], ◌∷◌, length, map, Option, Some, None, option_map, slice_get, refl, sym, ◌∙◌, ap, subst, arith}
use Rattle.std.specs.List.{AllByRecursion, list_all}
use Rattle.std.proofs.lemmas.Bool.{eqb-true, eqb-false, and_from}
use Rattle.std.proofs.lemmas.List.{length-map}
use Rattle.in_syntax.specs.declared.places.Place.{Place}
use Rattle.in_syntax.specs.declared.tree.Equation.{Equation}
use Rattle.in_syntax.specs.declared.tree.Term.{Term, out-Term}
use Rattle.in_syntax.specs.declared.tree.Term.TheFolds.{fold_out-Term}
use Rattle.in_syntax.specs.Sizes.{total, names_in}
use Rattle.in_base.specs.Lists.{AnyByRecursion}
use Rattle.in_symbols.specs.Names.{number_in}
use Rattle.in_syntax.specs.Refusals.{earlier, earliest}
use Rattle.in_symbols.specs.Tables.{Tables, arity_of, all_true}
use Rattle.in_symbols.proofs.Public.{any_among}
use Rattle.in_syntax.proofs.Public.{IsLeast, least_same, least_earlier, least_of_all, earlier_none, earliest_none, names_out}
use Rattle.in_net.specs.declared.reading.Agent.{Agent}
use Rattle.in_net.specs.Arities.{fits_arity, arities_fit, head_fits, equation_fits, all_arities_fit}
use Rattle.in_net.specs.NetFaults.{IsTooManyAt, IsMisfitAt}
use Rattle.in_net.specs.Reading.{reading_of}
use Rattle.in_net.specs.Searching.{too_many, misfit_here, misfit, misfit_in_equation, misfit_in_equations, misfit_in_head, misfit_in_heads, misfit_in_body}
use Rattle.in_base.specs.Lists.{IsAmong}
use Rattle.in_net.specs.TextNet.{Body, LeftHead, IsTermOf, IsPartOf, IsAgentOfTerm, place_of, Written, agents_of_body}
use Rattle.in_net.proofs.Texts.Agents.{as_written, body_agents}
use Rattle.in_net.proofs.Texts.Folds.{fits_out}

-- ---- too many agents

written_place : Written → Place
written_place w = w.place

too_many_by : (most : ℕ) (t : Tables) (b : Body) (o : Option Written) → slice_get (agents_of_body t b) most ≡ o → IsLeast (IsTooManyAt most t b) (option_map (λ w. w.place) o)
too_many_by most t b None is = λ q h. absurd (let wrong : None ≡ Some h.0 = sym is ∙ h.1 in cc)
too_many_by most t b (Some w) is = ((w, is, refl), λ q h. let same : Some w ≡ Some h.0 = sym is ∙ h.1 in let one : w ≡ h.0 = cc in omega (arith, ap (λ (w : Written). w.place.from) one, ap (λ (p : Place). p.from) h.2))

places_same : (as_ : List Agent) (k : ℕ) → option_map (λ (a : Agent). a.place) (slice_get as_ k) ≡ option_map (λ (w : Written). w.place) (slice_get (as_written as_) k)
places_same [] k = refl
places_same (a ∷ as_) zero = refl
places_same (a ∷ as_) (suc k) = places_same as_ k

pub agents_least : (most : ℕ) (t : Tables) (b : Body) → IsLeast (IsTooManyAt most t b) (too_many most (reading_of t b).agents)
agents_least most t b =
    subst (IsLeast (IsTooManyAt most t b)) (sym (places_same (reading_of t b).agents most ∙ ap (λ ws. option_map (λ (w : Written). w.place) (slice_get ws most)) (body_agents t b)))
    (too_many_by most t b (slice_get (agents_of_body t b) most) refl)

-- ---- numbers of arguments

-- the term has another number of arguments, and is there
pub record IsMisfit (t : Tables) (q : Place) (u : Term) : Type 0 where
  pub symbol : ℕ
  pub agent : IsAgentOfTerm t u symbol
  pub apart : length (out-Term u).args ≢ arity_of t symbol
  pub place : place_of u ≡ q

-- a part of the term has
abbrev HasMisfit : Tables → Term → Place → Type 0
HasMisfit t u q = (v : Term) × IsPartOf v u × IsMisfit t q v

misfit_out : (t : Tables) (u : Term) → misfit t u ≡ earliest (misfit_here t (number_in (out-Term u).name.text t.names) (length (map (misfit t) (out-Term u).args)) (out-Term u).name.place) (map (misfit t) (out-Term u).args)
misfit_out t = fold_out-Term (Option Place) (λ f. earliest (misfit_here t (number_in f.name.text t.names) (length f.args) f.name.place) f.args)

here_by : (t : Tables) (u : Term) (o : Option ℕ) → number_in (out-Term u).name.text t.names ≡ o → IsLeast (λ q. IsMisfit t q u) (misfit_here t o (length (out-Term u).args) (out-Term u).name.place)
here_by t u None is = λ q h. absurd (let wrong : None ≡ Some h.symbol = sym is ∙ h.agent in cc)
here_by t u (Some s) is = by_test (length (out-Term u).args == arity_of t s) refl
  where
    symbol_is : {q : Place} (h : IsMisfit t q u) → s ≡ h.symbol
    symbol_is h = let same : Some s ≡ Some h.symbol = sym is ∙ h.agent in cc

    by_test : (b : Bool) → (length (out-Term u).args == arity_of t s) ≡ b → IsLeast (λ q. IsMisfit t q u) (cond b None (Some (out-Term u).name.place))
    by_test true fits = λ q h. h.apart (eqb-true _ _ fits ∙ ap (arity_of t) (symbol_is h))
    by_test false fits = (record { symbol = s; agent = is; apart = eqb-false _ _ fits; place = refl }, λ q h. omega (arith, ap (λ (p : Place). p.from) h.place))

abbrev AnyMisfit : Tables → List Term → Place → Type 0
AnyMisfit t us q = (u : Term) × IsAmong u us × HasMisfit t u q

abbrev TermsLeast : Tables → ℕ → Type 0
TermsLeast t h = (u : Term) → names_in u ≤ h → IsLeast (HasMisfit t u) (misfit t u)

arguments_least : (t : Tables) (h : ℕ) → TermsLeast t h → (Q : Place → Type 0) (found : Option Place) → IsLeast Q found → (us : List Term) → total (map names_in us) ≤ h → IsLeast (λ q. Q q ⊎ AnyMisfit t us q) (earliest found (map (misfit t) us))
arguments_least t h ih Q found least [] short = least_same Q (λ q. Q q ⊎ AnyMisfit t [] q) found (λ q k. inl k) (λ q k. left q k) least
  where
    left : (q : Place) → Q q ⊎ AnyMisfit t [] q → Q q
    left q (inl x) = x
    left q (inr (u, among, k)) = absurd among
arguments_least t h ih Q found least (u ∷ us) short =
    least_same (λ q. (Q q ⊎ HasMisfit t u q) ⊎ AnyMisfit t us q) (λ q. Q q ⊎ AnyMisfit t (u ∷ us) q) (earliest (earlier found (misfit t u)) (map (misfit t) us)) to back
    (arguments_least t h ih (λ q. Q q ⊎ HasMisfit t u q) (earlier found (misfit t u)) (least_earlier Q (HasMisfit t u) found (misfit t u) least (ih u (omega (arith, short)))) us (omega (arith, short)))
  where
    to : (q : Place) → (Q q ⊎ HasMisfit t u q) ⊎ AnyMisfit t us q → Q q ⊎ AnyMisfit t (u ∷ us) q
    to q (inl (inl x)) = inl x
    to q (inl (inr x)) = inr (u, inl refl, x)
    to q (inr (v, among, x)) = inr (v, inr among, x)

    back : (q : Place) → Q q ⊎ AnyMisfit t (u ∷ us) q → (Q q ⊎ HasMisfit t u q) ⊎ AnyMisfit t us q
    back q (inl x) = inl (inl x)
    back q (inr (v, inl e, x)) = inl (inr (subst (λ v. HasMisfit t v q) (sym e) x))
    back q (inr (v, inr among, x)) = inr (v, among, x)

terms_least : (t : Tables) (h : ℕ) → TermsLeast t h
terms_least t zero u short = absurd (omega (arith, names_out u, short))
terms_least t (suc h) u short =
    let all = arguments_least t h (terms_least t h) (λ q. IsMisfit t q u) (misfit_here t (number_in (out-Term u).name.text t.names) (length (out-Term u).args) (out-Term u).name.place)
    (here_by t u (number_in (out-Term u).name.text t.names) refl) (out-Term u).args (omega (arith, names_out u, short)) in
    subst (IsLeast (HasMisfit t u))
    (ap (λ k. earliest (misfit_here t (number_in (out-Term u).name.text t.names) k (out-Term u).name.place) (map (misfit t) (out-Term u).args)) (sym (length-map (out-Term u).args (misfit t))) ∙ sym (misfit_out t u))
    (least_same (λ q. IsMisfit t q u ⊎ AnyMisfit t (out-Term u).args q) (HasMisfit t u) (earliest (misfit_here t (number_in (out-Term u).name.text t.names) (length (out-Term u).args) (out-Term u).name.place) (map (misfit t) (out-Term u).args)) to (λ q x. back q x.0 x.1 x.2) all)
  where
    to : (q : Place) → IsMisfit t q u ⊎ AnyMisfit t (out-Term u).args q → HasMisfit t u q
    to q (inl x) = (u, IsPartOf.itself u, x)
    to q (inr (v, among, (w, part, x))) = (w, IsPartOf.deeper w v u among part, x)

    back : (q : Place) (v : Term) → IsPartOf v u → IsMisfit t q v → IsMisfit t q u ⊎ AnyMisfit t (out-Term u).args q
    back q _ (IsPartOf.itself _) x = inl x
    back q v (IsPartOf.deeper _ w _ among part) x = inr (w, among, (v, part, x))

equation_least : (t : Tables) (e : Equation) → IsLeast (λ q. HasMisfit t e.left q ⊎ HasMisfit t e.right q) (misfit_in_equation t e)
equation_least t e = least_earlier (HasMisfit t e.left) (HasMisfit t e.right) (misfit t e.left) (misfit t e.right) (terms_least t (names_in e.left) e.left (omega arith)) (terms_least t (names_in e.right) e.right (omega arith))

among_any : {X : Type 0} (P : X → Type 0) (xs : List X) (x : X) → IsAmong x xs → P x → AnyByRecursion P xs
among_any P [] x among h = absurd among
among_any P (y ∷ xs) x (inl same) h = inl (subst P (sym same) h)
among_any P (y ∷ xs) x (inr among) h = inr (among_any P xs x among h)

-- the head itself
pub record IsHeadMisfit (t : Tables) (q : Place) (h : LeftHead) : Type 0 where
  pub symbol : ℕ
  pub named : number_in h.head.name.text t.names ≡ Some symbol
  pub apart : length h.head.terms ≢ arity_of t symbol
  pub place : h.head.name.place ≡ q

head_by : (t : Tables) (h : LeftHead) (o : Option ℕ) → number_in h.head.name.text t.names ≡ o → IsLeast (λ q. IsHeadMisfit t q h) (misfit_here t o (length h.head.terms) h.head.name.place)
head_by t h None is = λ q x. absurd (let wrong : None ≡ Some x.symbol = sym is ∙ x.named in cc)
head_by t h (Some s) is = by_test (length h.head.terms == arity_of t s) refl
  where
    symbol_is : {q : Place} (x : IsHeadMisfit t q h) → s ≡ x.symbol
    symbol_is x = let same : Some s ≡ Some x.symbol = sym is ∙ x.named in cc

    by_test : (b : Bool) → (length h.head.terms == arity_of t s) ≡ b → IsLeast (λ q. IsHeadMisfit t q h) (cond b None (Some h.head.name.place))
    by_test true fits = λ q x. x.apart (eqb-true _ _ fits ∙ ap (arity_of t) (symbol_is x))
    by_test false fits = (record { symbol = s; named = is; apart = eqb-false _ _ fits; place = refl }, λ q x. omega (arith, ap (λ (p : Place). p.from) x.place))

abbrev InHead : Tables → LeftHead → Place → Type 0
InHead t h q = IsHeadMisfit t q h ⊎ AnyMisfit t h.head.terms q

head_least : (t : Tables) (h : LeftHead) → IsLeast (InHead t h) (misfit_in_head t h.head)
head_least t h =
    arguments_least t (total (map names_in h.head.terms)) (terms_least t (total (map names_in h.head.terms))) (λ q. IsHeadMisfit t q h) (misfit_here t (number_in h.head.name.text t.names) (length h.head.terms) h.head.name.place)
    (head_by t h (number_in h.head.name.text t.names) refl) h.head.terms (omega arith)

abbrev InEquation : Tables → Equation → Place → Type 0
InEquation t e q = HasMisfit t e.left q ⊎ HasMisfit t e.right q

pub arities_least : (t : Tables) (b : Body) → IsLeast (IsMisfitAt t b) (misfit_in_body t b)
arities_least t b =
    least_same (λ q. AnyByRecursion (λ h. InHead t h q) b.heads ⊎ AnyByRecursion (λ e. InEquation t e q) b.equations) (IsMisfitAt t b) (misfit_in_body t b) to back
    (least_earlier (λ q. AnyByRecursion (λ h. InHead t h q) b.heads) (λ q. AnyByRecursion (λ e. InEquation t e q) b.equations) (misfit_in_heads t b.heads) (misfit_in_equations t b.equations)
    (least_of_all (λ h. misfit_in_head t h.head) (InHead t) (head_least t) b.heads)
    (least_of_all (misfit_in_equation t) (InEquation t) (equation_least t) b.equations))
  where
    agent : (q : Place) (v : Term) → IsTermOf b v → IsMisfit t q v → IsMisfitAt t b q
    agent q v there x = inl (record { term = v; there = there; symbol = x.symbol; agent = x.agent; apart = x.apart; place = x.place })

    of_side : (q : Place) (e : Equation) → IsAmong e b.equations → InEquation t e q → IsMisfitAt t b q
    of_side q e among (inl (v, part, x)) = agent q v (IsTermOf.in_left e among part) x
    of_side q e among (inr (v, part, x)) = agent q v (IsTermOf.in_right e among part) x

    of_head : (q : Place) (h : LeftHead) → IsAmong h b.heads → InHead t h q → IsMisfitAt t b q
    of_head q h among (inl x) = inr (record { left = h; there = among; symbol = x.symbol; named = x.named; apart = x.apart; place = x.place })
    of_head q h among (inr (u, inside, (v, part, x))) = agent q v (IsTermOf.in_head h u among inside part) x

    to : (q : Place) → AnyByRecursion (λ h. InHead t h q) b.heads ⊎ AnyByRecursion (λ e. InEquation t e q) b.equations → IsMisfitAt t b q
    to q (inl x) = let at = any_among (λ h. InHead t h q) b.heads x in of_head q at.0 at.1 at.2
    to q (inr x) = let at = any_among (λ e. InEquation t e q) b.equations x in of_side q at.0 at.1 at.2

    by_term : (q : Place) (v : Term) → IsTermOf b v → IsMisfit t q v → AnyByRecursion (λ h. InHead t h q) b.heads ⊎ AnyByRecursion (λ e. InEquation t e q) b.equations
    by_term q v (IsTermOf.in_left e among part) x = inr (among_any (λ e. InEquation t e q) b.equations e among (inl (v, part, x)))
    by_term q v (IsTermOf.in_right e among part) x = inr (among_any (λ e. InEquation t e q) b.equations e among (inr (v, part, x)))
    by_term q v (IsTermOf.in_head h w among inside part) x = inl (among_any (λ h. InHead t h q) b.heads h among (inr (w, inside, (v, part, x))))

    back : (q : Place) → IsMisfitAt t b q → AnyByRecursion (λ h. InHead t h q) b.heads ⊎ AnyByRecursion (λ e. InEquation t e q) b.equations
    back q (inl h) = by_term q h.term h.there (record { symbol = h.symbol; agent = h.agent; apart = h.apart; place = h.place })
    back q (inr h) = inl (among_any (λ h. InHead t h q) b.heads h.left h.there (inl (record { symbol = h.symbol; named = h.named; apart = h.apart; place = h.place })))

-- ---- without a misfit, all fit

here_fits : (t : Tables) (o : Option ℕ) (k : ℕ) (p : Place) → misfit_here t o k p ≡ None → fits_arity t o k ≡ true
here_fits t None k p e = refl
here_fits t (Some s) k p e = by_test (k == arity_of t s) refl e
  where
    by_test : (b : Bool) → (k == arity_of t s) ≡ b → (let o : Option Place = cond b None (Some p) in o ≡ None) → (k == arity_of t s) ≡ true
    by_test true is e = is
    by_test false is e = cc

all_fit : (t : Tables) (us : List Term) → AllByRecursion (λ u. arities_fit t u ≡ true) us → all_true (map (arities_fit t) us) ≡ true
all_fit t [] h = refl
all_fit t (u ∷ us) h = and_from (arities_fit t u) (all_true (map (arities_fit t) us)) h.0 (all_fit t us h.1)

abbrev TermsFit : Tables → ℕ → Type 0
TermsFit t h = (u : Term) → names_in u ≤ h → misfit t u ≡ None → arities_fit t u ≡ true

arguments_fit : (t : Tables) (h : ℕ) → TermsFit t h → (found : Option Place) (us : List Term) → total (map names_in us) ≤ h → earliest found (map (misfit t) us) ≡ None → (found ≡ None) × AllByRecursion (λ u. arities_fit t u ≡ true) us
arguments_fit t h ih found [] short e = (e, tt)
arguments_fit t h ih found (u ∷ us) short e =
    let rest = arguments_fit t h ih (earlier found (misfit t u)) us (omega (arith, short)) e in
    let both = earlier_none found (misfit t u) rest.0 in
    (both.0, (ih u (omega (arith, short)) both.1, rest.1))

terms_fit : (t : Tables) (h : ℕ) → TermsFit t h
terms_fit t zero u short e = absurd (omega (arith, names_out u, short))
terms_fit t (suc h) u short e =
    let all = arguments_fit t h (terms_fit t h) (misfit_here t (number_in (out-Term u).name.text t.names) (length (map (misfit t) (out-Term u).args)) (out-Term u).name.place) (out-Term u).args (omega (arith, names_out u, short)) (sym (misfit_out t u) ∙ e) in
    let here = here_fits t (number_in (out-Term u).name.text t.names) (length (map (misfit t) (out-Term u).args)) (out-Term u).name.place all.0 in
    fits_out t u
    ∙ and_from (fits_arity t (number_in (out-Term u).name.text t.names) (length (map (arities_fit t) (out-Term u).args))) (all_true (map (arities_fit t) (out-Term u).args))
    (ap (fits_arity t (number_in (out-Term u).name.text t.names)) (length-map (out-Term u).args (arities_fit t) ∙ sym (length-map (out-Term u).args (misfit t))) ∙ here) (all_fit t (out-Term u).args all.1)

equation_fit : (t : Tables) (e : Equation) → misfit_in_equation t e ≡ None → equation_fits t e ≡ true
equation_fit t e is =
    let both = earlier_none (misfit t e.left) (misfit t e.right) is in
    and_from (arities_fit t e.left) (arities_fit t e.right) (terms_fit t (names_in e.left) e.left (omega arith) both.0) (terms_fit t (names_in e.right) e.right (omega arith) both.1)

all_of : {X : Type 0} (f : X → Bool) (xs : List X) → AllByRecursion (λ x. f x ≡ true) xs → list_all f xs ≡ true
all_of f [] h = refl
all_of f (x ∷ xs) h = and_from (f x) (list_all f xs) h.0 (all_of f xs h.1)

head_fit : (t : Tables) (h : LeftHead) → misfit_in_head t h.head ≡ None → head_fits t h ≡ true
head_fit t h e =
    let all = arguments_fit t (total (map names_in h.head.terms)) (terms_fit t (total (map names_in h.head.terms))) (misfit_here t (number_in h.head.name.text t.names) (length h.head.terms) h.head.name.place) h.head.terms (omega arith) e in
    and_from (fits_arity t (number_in h.head.name.text t.names) (length h.head.terms)) (list_all (arities_fit t) h.head.terms)
    (here_fits t (number_in h.head.name.text t.names) (length h.head.terms) h.head.name.place all.0) (all_of (arities_fit t) h.head.terms all.1)

pub body_fits : (t : Tables) (b : Body) → misfit_in_body t b ≡ None → all_arities_fit t b ≡ true
body_fits t b e =
    let both = earlier_none (misfit_in_heads t b.heads) (misfit_in_equations t b.equations) e in
    and_from (list_all (head_fits t) b.heads) (list_all (equation_fits t) b.equations)
    (all_of (head_fits t) b.heads (earliest_none (λ (h : LeftHead). misfit_in_head t h.head) (λ h. head_fits t h ≡ true) (head_fit t) None b.heads both.0).1)
    (all_of (equation_fits t) b.equations (earliest_none (misfit_in_equation t) (λ e. equation_fits t e ≡ true) (equation_fit t) None b.equations both.1).1)
