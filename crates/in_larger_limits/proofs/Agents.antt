-- Faults of agents and names where more agents are allowed.
use Rattle.std.proofs.Common.{◌≡◌, ◌≤◌, ◌<◌, ◌⊎◌, inl, inr, ℕ, zero, suc, List, [], ◌∷◌, ◌++◌, map, Option, Some, None, slice_get, refl, sym, ◌∙◌, subst, arith, append-nil}
use Rattle.std.specs.List.{AllByRecursion, flat_map}
use Rattle.std.proofs.lemmas.Bool.{cases_lt}
use Rattle.std.proofs.lemmas.List.{map-append}
use Rattle.std.proofs.lemmas.Option.{none-some, same_Some, slice_get_within}
use Rattle.in_base.proofs.Each.{at_index}
use Rattle.in_syntax.specs.declared.faults.Code.{Code}
use Rattle.in_syntax.specs.declared.faults.Code.TheVariants.{E03}
use Rattle.in_syntax.specs.declared.places.Place.{Place}
use Rattle.in_syntax.specs.declared.tree.Equation.{Equation}
use Rattle.in_syntax.specs.declared.tree.SourceNet.{SourceNet}
use Rattle.in_syntax.specs.declared.tree.SourceRule.{SourceRule}
use Rattle.in_syntax.specs.declared.tree.Term.{Term, out-Term}
use Rattle.in_syntax.specs.declared.tree.Term.TheFolds.{fold_out-Term}
use Rattle.in_syntax.specs.Order.{IsInOrder, IsRuleInOrder, Rises, equation_places, head_places, term_places}
use Rattle.in_syntax.specs.Refusals.{IsNoLater}
use Rattle.in_syntax.proofs.Public.{places_out, term_by_arguments}
use Rattle.in_symbols.specs.Names.{number_in}
use Rattle.in_symbols.specs.Tables.{Tables}
use Rattle.in_net.specs.NetFaults.{HasNoNetFault, IsFirstNameFault, IsFirstNetFault, IsNetFaultAt, too_many, misfit, miscounted, of_names, of_wires}
use Rattle.in_net.specs.Rules.{body_of_rule}
use Rattle.in_net.specs.TextNet.{Body, Written, agents_of, agents_of_body, agents_of_equations, body_of, written_by}

-- ---- agents are in the order of the text

abbrev places_of : List Written → List Place
places_of = map (λ w. w.place)

-- some of these places, in their order
data AreSome : List Place → List Place → Type 0 where
  no_more : AreSome [] []
  taken : {p : Place} {ps qs : List Place} → AreSome ps qs → AreSome (p ∷ ps) (p ∷ qs)
  left : {q : Place} {ps qs : List Place} → AreSome ps qs → AreSome ps (q ∷ qs)

some_none : (qs : List Place) → AreSome [] qs
some_none [] = no_more
some_none (q ∷ qs) = left (some_none qs)

some_append : {ps qs xs ys : List Place} → AreSome ps qs → AreSome xs ys → AreSome (ps ++ xs) (qs ++ ys)
some_append no_more k = k
some_append (taken h) k = taken (some_append h k)
some_append (left h) k = left (some_append h k)

all_some : (P : Place → Type 0) {ps qs : List Place} → AreSome ps qs → AllByRecursion P qs → AllByRecursion P ps
all_some P no_more all = tt
all_some P (taken h) all = (all.0, all_some P h all.1)
all_some P (left h) all = all_some P h all.1

some_rise : {ps qs : List Place} → AreSome ps qs → Rises qs → Rises ps
some_rise no_more up = tt
some_rise (taken {p} h) up = (all_some (λ q. p.from < q.from) h up.0, some_rise h up.1)
some_rise (left h) up = some_rise h up.1

module _ (t : Tables) where
  one_written : (o : Option ℕ) (p : Place) → AreSome (places_of (written_by o p)) (p ∷ [])
  one_written None p = left no_more
  one_written (Some s) p = taken no_more

  abbrev IsPlaced : Term → Type 0
  IsPlaced u = AreSome (places_of (agents_of t u)) (term_places u)

  joined : (xs ys : List Written) (ps qs : List Place) → AreSome (places_of xs) ps → AreSome (places_of ys) qs → AreSome (places_of (xs ++ ys)) (ps ++ qs)
  joined xs ys ps qs h k = subst (λ z. AreSome z (ps ++ qs)) (sym (map-append (λ (w : Written). w.place) xs ys)) (some_append h k)

  arguments_placed : (us : List Term) → AllByRecursion IsPlaced us → AreSome (places_of (flat_map (λ ws. ws) (map (agents_of t) us))) (flat_map (λ ps. ps) (map term_places us))
  arguments_placed [] all = no_more
  arguments_placed (u ∷ us) all = joined (agents_of t u) (flat_map (λ ws. ws) (map (agents_of t) us)) (term_places u) (flat_map (λ ps. ps) (map term_places us)) all.0 (arguments_placed us all.1)

  agents_out : (u : Term) → agents_of t u ≡ written_by (number_in (out-Term u).name.text t.names) (out-Term u).name.place ++ flat_map (λ ws. ws) (map (agents_of t) (out-Term u).args)
  agents_out = fold_out-Term (List Written) (λ f. written_by (number_in f.name.text t.names) f.name.place ++ flat_map (λ ws. ws) f.args)

  placed_by_arguments : (u : Term) → AllByRecursion IsPlaced (out-Term u).args → IsPlaced u
  placed_by_arguments u all =
      let here = joined (written_by (number_in (out-Term u).name.text t.names) (out-Term u).name.place) (flat_map (λ ws. ws) (map (agents_of t) (out-Term u).args))
      ((out-Term u).name.place ∷ []) (flat_map (λ ps. ps) (map term_places (out-Term u).args))
      (one_written (number_in (out-Term u).name.text t.names) (out-Term u).name.place) (arguments_placed (out-Term u).args all) in
      subst (λ z. AreSome (places_of z) (term_places u)) (sym (agents_out u)) (subst (AreSome (places_of (written_by (number_in (out-Term u).name.text t.names) (out-Term u).name.place ++ flat_map (λ ws. ws) (map (agents_of t) (out-Term u).args)))) (sym (places_out u)) here)

  placed : (u : Term) → IsPlaced u
  placed = term_by_arguments IsPlaced placed_by_arguments

  terms_placed : (us : List Term) → AreSome (places_of (flat_map (agents_of t) us)) (flat_map term_places us)
  terms_placed [] = no_more
  terms_placed (u ∷ us) = joined (agents_of t u) (flat_map (agents_of t) us) (term_places u) (flat_map term_places us) (placed u) (terms_placed us)

  equations_placed : (es : List Equation) → AreSome (places_of (agents_of_equations t es)) (flat_map equation_places es)
  equations_placed [] = no_more
  equations_placed (e ∷ es) =
      joined (agents_of t e.left ++ agents_of t e.right) (agents_of_equations t es) (equation_places e) (flat_map equation_places es)
      (joined (agents_of t e.left) (agents_of t e.right) (term_places e.left) (e.tilde ∷ term_places e.right) (placed e.left) (left (placed e.right)))
      (equations_placed es)

  pub net_rises : (n : SourceNet) → IsInOrder n → Rises (places_of (agents_of_body t (body_of n)))
  net_rises n order = some_rise (equations_placed n.equations) order

  pub member_rises : (r : SourceRule) → IsRuleInOrder r → Rises (places_of (agents_of_body t (body_of_rule t r)))
  member_rises r order =
      let first = left {q = r.first.name.place} (terms_placed r.first.terms) in
      let second = left {q = r.second.name.place} (terms_placed r.second.terms) in
      let last = subst (λ z. AreSome (places_of z) (head_places r.second)) (sym (append-nil (flat_map (agents_of t) r.second.terms))) second in
      some_rise (joined (flat_map (agents_of t) r.first.terms ++ (flat_map (agents_of t) r.second.terms ++ [])) (agents_of_equations t r.equations) (head_places r.first ++ head_places r.second) (flat_map equation_places r.equations)
      (joined (flat_map (agents_of t) r.first.terms) (flat_map (agents_of t) r.second.terms ++ []) (head_places r.first) (head_places r.second) first last)
      (equations_placed r.equations)) order

-- ---- more agents are allowed

earlier_there : {X : Type 0} (xs : List X) (m n : ℕ) (x : X) → m ≤ n → slice_get xs n ≡ Some x → (y : X) × (slice_get xs m ≡ Some y)
earlier_there xs m n x le e = let within = slice_get_within xs n x e in at_index xs m (omega (arith, within, le))

rises_at : (ws : List Written) (m n : ℕ) (v w : Written) → Rises (places_of ws) → m ≤ n → slice_get ws m ≡ Some v → slice_get ws n ≡ Some w → v.place.from ≤ w.place.from
rises_at [] m n v w up le e f = absurd (none-some v e)
rises_at (x ∷ ws) zero zero v w up le e f = let same : v ≡ w = sym (same_Some x v e) ∙ same_Some x w f in subst (λ z. v.place.from ≤ z.place.from) same (omega arith)
rises_at (x ∷ ws) zero (suc n) v w up le e f =
    let below : x.place.from < w.place.from = later ws n w up.0 f in
    let same : x ≡ v = same_Some x v e in
    subst (λ z. z.place.from ≤ w.place.from) same (omega (arith, below))
  where
    later : (ws : List Written) (n : ℕ) (w : Written) → AllByRecursion (λ q. x.place.from < q.from) (places_of ws) → slice_get ws n ≡ Some w → x.place.from < w.place.from
    later [] n w all f = absurd (none-some w f)
    later (y ∷ ys) zero w all f = subst (λ z. x.place.from < z.place.from) (same_Some y w f) all.0
    later (y ∷ ys) (suc n) w all f = later ys n w all.1 f
rises_at (x ∷ ws) (suc m) zero v w up le e f = absurd (omega (arith, le))
rises_at (x ∷ ws) (suc m) (suc n) v w up le e f = rises_at ws m n v w up.1 (omega (arith, le)) e f

no_later_than : (c : Code) (p q r : Place) → q.from ≤ r.from → IsNoLater c p E03 q → IsNoLater c p E03 r
no_later_than c p q r le (inl lt) = inl (omega (arith, le, lt))
no_later_than c p q r le (inr h) = at_or_before (cases_lt q.from r.from)
  where
    at_or_before : (q.from < r.from) ⊎ (r.from ≤ q.from) → IsNoLater c p E03 r
    at_or_before (inl lt) = inl (omega (arith, lt, h.0))
    at_or_before (inr ge) = inr (omega (arith, le, ge, h.0), h.1)

module _ (few most : ℕ) (t : Tables) (b : Body) (le : few ≤ most) where
  pub none_still : HasNoNetFault few t b → HasNoNetFault most t b
  none_still none c p h = go c p h
    where
      go : (c : Code) (p : Place) → IsNetFaultAt most t b c p → ⊥
      go c p (too_many q h) = let v = earlier_there (agents_of_body t b) few most h.0 le h.1 in none E03 v.0.place (too_many v.0.place (v.0, v.1, refl))
      go c p (misfit q h) = none c p (misfit q h)
      go c p (miscounted q h) = none c p (miscounted q h)

  module _ (up : Rises (places_of (agents_of_body t b))) where
    stands_still : (c : Code) (p : Place) → (c ≡ E03 → ⊥) → IsNetFaultAt few t b c p → IsNetFaultAt most t b c p
    stands_still c p other (too_many q h) = absurd (other refl)
    stands_still c p other (misfit q h) = misfit q h
    stands_still c p other (miscounted q h) = miscounted q h

    first_among : (c : Code) (p : Place) → IsFirstNameFault few t b c p → (d : Code) (q : Place) → IsNetFaultAt most t b d q → IsNoLater c p d q
    first_among c p h d q (too_many r k) =
        let v = earlier_there (agents_of_body t b) few most k.0 le k.1 in
        let before : v.0.place.from ≤ r.from = subst (λ z. v.0.place.from ≤ z.from) k.2 (rises_at (agents_of_body t b) few most v.0 k.0 up le v.1 k.1) in
        no_later_than c p v.0.place r before (h.first E03 v.0.place (too_many v.0.place (v.0, v.1, refl)))
    first_among c p h d q (misfit r k) = h.first d q (misfit r k)
    first_among c p h d q (miscounted r k) = h.first d q (miscounted r k)

    pub first_still : (c : Code) (p : Place) → (c ≡ E03 → ⊥) → IsFirstNetFault few t b c p → IsFirstNetFault most t b c p
    first_still c p other (of_names d q h) = of_names d q (record { stands = stands_still d q other h.stands; first = first_among d q h })
    first_still c p other (of_wires q none closed least) = of_wires q (none_still none) closed least
