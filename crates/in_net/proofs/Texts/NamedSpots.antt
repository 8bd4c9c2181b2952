-- The spots of names are those of the text's variables and free names, for any numbers of arguments.
use Rattle.std.proofs.Common.{◌≡◌, ◌⊎◌, inl, inr, ℕ, zero, suc, ◌+◌, ◌<◌, List, [], ◌∷◌, ◌++◌, length, length-append, map, Option, Some, None, refl, sym, ◌∙◌, ap, subst, arith, append_assoc, append-nil}
use Rattle.std.specs.List.{AllByRecursion}
use Rattle.in_syntax.specs.declared.places.Place.{Place}
use Rattle.in_syntax.specs.declared.tree.Term.{Term, out-Term}
use Rattle.in_syntax.specs.declared.tree.Equation.{Equation}
use Rattle.in_syntax.specs.declared.tree.SourceFree.{SourceFree}
use Rattle.in_syntax.specs.declared.symbol_no.SymbolNo.{SymbolNo}
use Rattle.in_symbols.specs.Names.{number_in, name_in}
use Rattle.in_symbols.specs.Tables.{Tables, arity_of}
use Rattle.in_net.specs.declared.reading.TextSpot.{TextSpot}
use Rattle.in_net.specs.declared.reading.TextSpot.TheVariants.{Port, Free, End, Occurrence}
use Rattle.in_net.specs.declared.reading.Reading.{Reading}
use Rattle.in_net.specs.Reading.{with_agent, with_joint, with_named, with_occurrence, number_with, ports_from, reader_of, reads_arguments, reads_equation, reads_equations, reads_heads, with_ends, boundary_spots, ends_of, reads_free, reads_free_from, reads_free_end, nothing_read, reading_of}
use Rattle.in_net.specs.Building.{no_spot, nth_spot}
use Rattle.in_net.specs.Built.{IsEnd}
use Rattle.in_base.specs.Lists.{IsAmong}
use Rattle.in_net.specs.TextNet.{Body, LeftHead, IsTermOf, IsPartOf, IsVariable}
use Rattle.in_net.proofs.Texts.Folds.{read_by}
use Rattle.in_net.proofs.Texts.Kept.{IsHeldAt}
use Rattle.in_net.proofs.Wiring.Linked.{front_or_back, at_front, at_back}
use Rattle.in_net.proofs.Wiring.Links.{all_at}
use Rattle.in_net.proofs.Texts.NetRead.{nothing, free_read}
use Rattle.in_net.proofs.Texts.Read.{IsNamed, name_there, grows_by, all_still_named, ports_named}
use Rattle.in_base.proofs.Each.{all_append}
use Rattle.in_syntax.proofs.Public.{term_by_arguments, terms_by_arguments}

abbrev pub IsBound : TextSpot → Type 0
IsBound (Port a i p) = Unit {0}
IsBound (Free k m) = ⊥
IsBound (End k) = Unit {0}
IsBound (Occurrence m p) = Unit {0}

abbrev IsFreeSpot : TextSpot → Type 0
IsFreeSpot (Port a i p) = ⊥
IsFreeSpot (Free k m) = Unit {0}
IsFreeSpot (End k) = ⊥
IsFreeSpot (Occurrence m p) = ⊥

free_spots : (k : ℕ) (fs : List SourceFree) (r : Reading) → AllByRecursion IsFreeSpot r.spots → AllByRecursion IsFreeSpot (reads_free_from k fs r).spots
free_spots k [] r all = all
free_spots k (f ∷ fs) r all = free_spots (k + 1) fs (reads_free_end k f r) (all_append IsFreeSpot r.spots (Free k (number_with r.names f.name.text) ∷ []) all (tt, tt))

-- the spots that further reading adds
pub record Adds (t : Tables) (b : Body) (before after : Reading) : Type 0 where
  pub more : List TextSpot
  pub spots : after.spots ≡ before.spots ++ more
  pub more_names : List (List ℕ)
  pub names_on : after.names ≡ before.names ++ more_names
  pub bound : AllByRecursion IsBound more
  pub named_as : AllByRecursion (IsNamed t b before.names) before.spots → AllByRecursion (IsNamed t b after.names) after.spots

adds_nothing : (t : Tables) (b : Body) (r : Reading) → Adds t b r r
adds_nothing t b r = record { more = []; spots = sym (append-nil r.spots); more_names = []; names_on = sym (append-nil r.names); bound = tt; named_as = λ h. h }

adds_both : (t : Tables) (b : Body) (p q r : Reading) → Adds t b p q → Adds t b q r → Adds t b p r
adds_both t b p q r h k = record {
  more = h.more ++ k.more;
  spots = k.spots ∙ ap (λ z. z ++ k.more) h.spots ∙ append_assoc p.spots h.more k.more;
  more_names = h.more_names ++ k.more_names;
  names_on = k.names_on ∙ ap (λ z. z ++ k.more_names) h.names_on ∙ append_assoc p.names h.more_names k.more_names;
  bound = all_append IsBound h.more k.more h.bound k.bound;
  named_as = λ x. k.named_as (h.named_as x);
}

-- a variable that is at a spot stays there
pub held_on : (t : Tables) (b : Body) (p q : Reading) (v : Term) → Adds t b p q → IsHeldAt p v → IsHeldAt q v
held_on t b p q v h s = record {
  spot = s.spot;
  number = s.number;
  inside = let e = ap length h.spots in let f = length-append p.spots h.more in let k = s.inside in omega (arith, e, f, k);
  is = ap (λ z. nth_spot z s.spot) h.spots ∙ at_front p.spots h.more s.spot no_spot s.inside ∙ s.is;
  known = let e = ap length h.names_on in let f = length-append p.names h.more_names in let k = s.known in omega (arith, e, f, k);
  name = ap (λ z. name_in s.number z) h.names_on ∙ at_front p.names h.more_names s.number [] s.known ∙ s.name;
}

ports_bound : (agent : ℕ) (at : Place) (port n : ℕ) → AllByRecursion IsBound (ports_from agent at port n)
ports_bound agent at port zero = tt
ports_bound agent at port (suc n) = (tt, ports_bound agent at (port + 1) n)

adds_agent : (t : Tables) (b : Body) (r : Reading) (s : SymbolNo) (place : Place) → Adds t b r (with_agent r s (arity_of t s.0) place)
adds_agent t b r s place = record {
  more = ports_from (length r.agents) place 0 (arity_of t s.0 + 1);
  spots = refl;
  more_names = [];
  names_on = sym (append-nil r.names);
  bound = ports_bound (length r.agents) place 0 (arity_of t s.0 + 1);
  named_as = λ h. all_append _ r.spots (ports_from (length r.agents) place 0 (arity_of t s.0 + 1)) h (ports_named t b r.names (length r.agents) place 0 (arity_of t s.0 + 1));
}

-- a term, and its variables
pub record TermAdds (t : Tables) (b : Body) (u : Term) (before after : Reading) : Type 0 where
  pub adds : Adds t b before after
  pub held : (v : Term) → IsPartOf v u → IsVariable t v → IsHeldAt after v

abbrev TermsAdd : Tables → Body → Term → Type 0
TermsAdd t b u = (r : Reading) → ((v : Term) → IsPartOf v u → IsTermOf b v) → TermAdds t b u r ((reader_of t u).reads r).0

pub record ArgumentsAdd (t : Tables) (b : Body) (us : List Term) (before after : Reading) : Type 0 where
  pub adds : Adds t b before after
  pub held : (u v : Term) → IsAmong u us → IsPartOf v u → IsVariable t v → IsHeldAt after v

arguments_add : (t : Tables) (b : Body) (us : List Term) → AllByRecursion (TermsAdd t b) us → (first port : ℕ) (r : Reading) → ((u v : Term) → IsAmong u us → IsPartOf v u → IsTermOf b v) →
    ArgumentsAdd t b us r (reads_arguments first (map (reader_of t) us) port r)
arguments_add t b [] all first port r terms = record { adds = adds_nothing t b r; held = λ u v among. absurd among }
arguments_add t b (u ∷ us) all first port r terms =
    let joined : Reading = with_joint ((reader_of t u).reads r).0 first port ((reader_of t u).reads r).1 (reader_of t u).place in
    let one = all.0 r (λ v part. terms u v (inl refl) part) in
    let rest = arguments_add t b us all.1 first (port + 1) joined (λ x v among part. terms x v (inr among) part) in
    let same : Adds t b r joined = record { more = one.adds.more; spots = one.adds.spots; more_names = one.adds.more_names; names_on = one.adds.names_on; bound = one.adds.bound; named_as = one.adds.named_as } in
    record {
      adds = adds_both t b r joined _ same rest.adds;
      held = λ x v among part variable. by_place x v among part variable one.held rest.adds rest.held;
    }
  where
    joined : Reading
    joined = with_joint ((reader_of t u).reads r).0 first port ((reader_of t u).reads r).1 (reader_of t u).place

    after : Reading
    after = reads_arguments first (map (reader_of t) us) (port + 1) (with_joint ((reader_of t u).reads r).0 first port ((reader_of t u).reads r).1 (reader_of t u).place)

    by_place : (x v : Term) → IsAmong x (u ∷ us) → IsPartOf v x → IsVariable t v → ((v : Term) → IsPartOf v u → IsVariable t v → IsHeldAt ((reader_of t u).reads r).0 v) →
        Adds t b joined after → ((u v : Term) → IsAmong u us → IsPartOf v u → IsVariable t v → IsHeldAt after v) → IsHeldAt after v
    by_place x v (inl e) part variable here adds others =
        let at = here v (subst (IsPartOf v) (sym e) part) variable in
        held_on t b joined after v adds (record { spot = at.spot; number = at.number; inside = at.inside; is = at.is; known = at.known; name = at.name })
    by_place x v (inr among) part variable here adds others = others x v among part variable

-- a name that is no symbol's
module _ (t : Tables) (b : Body) (u : Term) (r : Reading) (is : number_in (out-Term u).name.text t.names ≡ None) where
  abbrev spot : TextSpot
  spot = Occurrence (number_with r.names (out-Term u).name.text) (out-Term u).name.place

  adds_occurrence : IsTermOf b u → Adds t b r (with_occurrence r (out-Term u).name)
  adds_occurrence there =
      let grown = grows_by r.names (out-Term u).name.text (number_in (out-Term u).name.text r.names) refl in
      let at = name_there r.names (out-Term u).name.text (number_in (out-Term u).name.text r.names) refl in
      record {
        more = spot ∷ [];
        spots = refl;
        more_names = grown.0;
        names_on = grown.1;
        bound = (tt, tt);
        named_as = λ named.
            all_append _ r.spots (spot ∷ []) (all_still_named t b r.names (out-Term u).name.text r.spots named) (record { term = u; there = there; variable = is; place = refl; name = at.1; inside = at.0 }, tt);
      }

  held_there : IsHeldAt (with_occurrence r (out-Term u).name) u
  held_there =
      let at = name_there r.names (out-Term u).name.text (number_in (out-Term u).name.text r.names) refl in
      let zero_on : length r.spots ≡ length r.spots + 0 = omega arith in
      let last : nth_spot (r.spots ++ spot ∷ []) (length r.spots) ≡ spot = ap (nth_spot (r.spots ++ spot ∷ [])) zero_on ∙ at_back r.spots (spot ∷ []) 0 no_spot in
      record { spot = length r.spots; number = number_with r.names (out-Term u).name.text; inside = let e = length-append r.spots (spot ∷ []) in omega (arith, e); is = last; known = at.0; name = at.1 }

of_arguments : (t : Tables) (b : Body) (u : Term) → AllByRecursion (TermsAdd t b) (out-Term u).args → TermsAdd t b u
of_arguments t b u all r terms = by_number (number_in (out-Term u).name.text t.names) refl
  where
    begun : Option ℕ → Reading
    begun o = with_named t r (out-Term u).name o

    after : Option ℕ → Reading
    after o = reads_arguments (length r.spots) (map (reader_of t) (out-Term u).args) 1 (with_named t r (out-Term u).name o)

    adds_name : (o : Option ℕ) → number_in (out-Term u).name.text t.names ≡ o → Adds t b r (begun o)
    adds_name None is = adds_occurrence t b u r is (terms u (IsPartOf.itself u))
    adds_name (Some s) is = adds_agent t b r (record { 0 = s }) (out-Term u).name.place

    held_by : (o : Option ℕ) → number_in (out-Term u).name.text t.names ≡ o → (v : Term) → IsPartOf v u → IsVariable t v → ArgumentsAdd t b (out-Term u).args (begun o) (after o) → IsHeldAt (after o) v
    held_by None is _ (IsPartOf.itself _) variable rest = held_on t b (begun None) (after None) u rest.adds (held_there t b u r is)
    held_by (Some s) is _ (IsPartOf.itself _) variable rest = absurd (let wrong : None ≡ Some s = sym variable ∙ is in cc)
    held_by o is v (IsPartOf.deeper _ x _ among part) variable rest = rest.held x v among part variable

    by_number : (o : Option ℕ) → number_in (out-Term u).name.text t.names ≡ o → TermAdds t b u r ((reader_of t u).reads r).0
    by_number o is =
        let rest = arguments_add t b (out-Term u).args all (length r.spots) 1 (begun o) (λ x v among part. terms v (IsPartOf.deeper v x u among part)) in
        subst (λ (p : Reading × ℕ). TermAdds t b u r p.0) (sym (read_by t u r o is))
        (record { adds = adds_both t b r (begun o) (after o) (adds_name o is) rest.adds; held = λ v part variable. held_by o is v part variable rest })

terms_add : (t : Tables) (b : Body) (u : Term) → TermsAdd t b u
terms_add t b = term_by_arguments (TermsAdd t b) (of_arguments t b)

-- equations, and a net
pub record EquationsAdd (t : Tables) (b : Body) (es : List Equation) (before after : Reading) : Type 0 where
  pub adds : Adds t b before after
  pub held : (e : Equation) (v : Term) → IsAmong e es → IsPartOf v e.left ⊎ IsPartOf v e.right → IsVariable t v → IsHeldAt after v

equations_add : (t : Tables) (b : Body) (es : List Equation) (r : Reading) → ((e : Equation) → IsAmong e es → IsAmong e b.equations) → EquationsAdd t b es r (reads_equations t es r)
equations_add t b [] r among = record { adds = adds_nothing t b r; held = λ e v h. absurd h }
equations_add t b (e ∷ es) r among =
    let r1 : Reading = ((reader_of t e.left).reads r).0 in
    let r2 : Reading = ((reader_of t e.right).reads ((reader_of t e.left).reads r).0).0 in
    let one = terms_add t b e.left r (λ v part. IsTermOf.in_left e (among e (inl refl)) part) in
    let other = terms_add t b e.right r1 (λ v part. IsTermOf.in_right e (among e (inl refl)) part) in
    let both = adds_both t b r r1 r2 one.adds other.adds in
    let here : Adds t b r (reads_equation t e r) = record { more = both.more; spots = both.spots; more_names = both.more_names; names_on = both.names_on; bound = both.bound; named_as = both.named_as } in
    let rest = equations_add t b es (reads_equation t e r) (λ x h. among x (inr h)) in
    record {
      adds = adds_both t b r (reads_equation t e r) _ here rest.adds;
      held = λ x v h part variable. by_place x v h part variable one.held other.adds other.held rest.adds rest.held;
    }
  where
    r1 : Reading
    r1 = ((reader_of t e.left).reads r).0

    r2 : Reading
    r2 = ((reader_of t e.right).reads ((reader_of t e.left).reads r).0).0

    after : Reading
    after = reads_equations t es (reads_equation t e r)

    joined : (v : Term) → IsHeldAt r2 v → IsHeldAt (reads_equation t e r) v
    joined v at = record { spot = at.spot; number = at.number; inside = at.inside; is = at.is; known = at.known; name = at.name }

    by_place : (x : Equation) (v : Term) → IsAmong x (e ∷ es) → IsPartOf v x.left ⊎ IsPartOf v x.right → IsVariable t v → ((v : Term) → IsPartOf v e.left → IsVariable t v → IsHeldAt r1 v) → Adds t b r1 r2 →
        ((v : Term) → IsPartOf v e.right → IsVariable t v → IsHeldAt r2 v) → Adds t b (reads_equation t e r) after →
        ((x : Equation) (v : Term) → IsAmong x es → IsPartOf v x.left ⊎ IsPartOf v x.right → IsVariable t v → IsHeldAt after v) → IsHeldAt after v
    by_place x v (inl same) (inl part) variable left on right adds others = held_on t b (reads_equation t e r) after v adds (joined v (held_on t b r1 r2 v on (left v (subst (λ x. IsPartOf v x.left) (sym same) part) variable)))
    by_place x v (inl same) (inr part) variable left on right adds others = held_on t b (reads_equation t e r) after v adds (joined v (right v (subst (λ x. IsPartOf v x.right) (sym same) part) variable))
    by_place x v (inr h) part variable left on right adds others = others x v h part variable

-- heads, and boundary ends
pub record HeadsAdd (t : Tables) (b : Body) (hs : List LeftHead) (before after : Reading) : Type 0 where
  pub adds : Adds t b before after
  pub held : (h : LeftHead) (u v : Term) → IsAmong h hs → IsAmong u h.head.terms → IsPartOf v u → IsVariable t v → IsHeldAt after v

heads_add : (t : Tables) (b : Body) (hs : List LeftHead) (r : Reading) → ((h : LeftHead) → IsAmong h hs → IsAmong h b.heads) → HeadsAdd t b hs r (reads_heads t hs r)
heads_add t b [] r among = record { adds = adds_nothing t b r; held = λ h u v x. absurd x }
heads_add t b (h ∷ hs) r among =
    let one = arguments_add t b h.head.terms (terms_by_arguments (TermsAdd t b) (of_arguments t b) h.head.terms) h.first 0 r (λ u v x part. IsTermOf.in_head h u (among h (inl refl)) x part) in
    let more = heads_add t b hs (reads_arguments h.first (map (reader_of t) h.head.terms) 0 r) (λ g x. among g (inr x)) in
    record {
      adds = adds_both t b r _ _ one.adds more.adds;
      held = λ g u v x inside part variable. by_place g u v x inside part variable one.held more.adds more.held;
    }
  where
    q : Reading
    q = reads_arguments h.first (map (reader_of t) h.head.terms) 0 r

    by_place : (g : LeftHead) (u v : Term) → IsAmong g (h ∷ hs) → IsAmong u g.head.terms → IsPartOf v u → IsVariable t v →
        ((u v : Term) → IsAmong u h.head.terms → IsPartOf v u → IsVariable t v → IsHeldAt q v) → Adds t b q (reads_heads t hs q) →
        ((g : LeftHead) (u v : Term) → IsAmong g hs → IsAmong u g.head.terms → IsPartOf v u → IsVariable t v → IsHeldAt (reads_heads t hs q) v) → IsHeldAt (reads_heads t hs q) v
    by_place g u v (inl e) inside part variable here adds others =
        held_on t b q (reads_heads t hs q) v adds (here u v (subst (λ g. IsAmong u g.head.terms) (sym e) inside) part variable)
    by_place g u v (inr x) inside part variable here adds others = others g u v x inside part variable

ends_bound : (k n : ℕ) → AllByRecursion IsBound (boundary_spots k n)
ends_bound k zero = tt
ends_bound k (suc n) = (tt, ends_bound (k + 1) n)

ends_named : (t : Tables) (b : Body) (names : List (List ℕ)) (k n : ℕ) → AllByRecursion (IsNamed t b names) (boundary_spots k n)
ends_named t b names k zero = tt
ends_named t b names k (suc n) = (tt, ends_named t b names (k + 1) n)

adds_ends : (t : Tables) (b : Body) (r : Reading) (n : ℕ) → Adds t b r (with_ends r n)
adds_ends t b r zero = adds_nothing t b r
adds_ends t b r (suc n) = record {
  more = boundary_spots (length r.spots) (suc n);
  spots = refl;
  more_names = [];
  names_on = sym (append-nil r.names);
  bound = ends_bound (length r.spots) (suc n);
  named_as = λ h. all_append _ r.spots (boundary_spots (length r.spots) (suc n)) h (ends_named t b r.names (length r.spots) (suc n));
}

-- the names that are read of a body: each variable is at a spot, and the free ends are the first spots
pub record AreNamesRead (t : Tables) (b : Body) (r : Reading) : Type 0 where
  pub named_as : AllByRecursion (IsNamed t b r.names) r.spots
  pub held : (u : Term) → IsTermOf b u → IsVariable t u → IsHeldAt r u
  pub ends : (k : ℕ) → k < length b.free → (k < length r.spots) × ((m : ℕ) × (nth_spot r.spots k ≡ Free k m))
  pub end : (i k m : ℕ) → i < length r.spots → nth_spot r.spots i ≡ Free k m → (k ≡ i) × (i < length b.free)

free_spot : (t : Tables) (b : Body) (names : List (List ℕ)) (s : TextSpot) (k : ℕ) → IsEnd s k → IsFreeSpot s → (m : ℕ) × (s ≡ Free k m)
free_spot t b names (Port a i p) k h f = absurd f
free_spot t b names (Free j m) k h f = (m, ap (λ j. Free j m) h)
free_spot t b names (End j) k h f = absurd f
free_spot t b names (Occurrence m p) k h f = absurd f

pub names_read : (t : Tables) (b : Body) → AreNamesRead t b (reading_of t b)
names_read t b =
    let free = free_read t b [] b.free nothing_read refl (nothing t b) in
    let start : Reading = with_ends (reads_free b.free) (ends_of t b.heads) in
    let heads = heads_add t b b.heads (with_ends (reads_free b.free) (ends_of t b.heads)) (λ h x. x) in
    let equations = equations_add t b b.equations (reads_heads t b.heads (with_ends (reads_free b.free) (ends_of t b.heads))) (λ e h. h) in
    let all = adds_both t b (reads_free b.free) (with_ends (reads_free b.free) (ends_of t b.heads)) (reading_of t b) (adds_ends t b (reads_free b.free) (ends_of t b.heads))
    (adds_both t b (with_ends (reads_free b.free) (ends_of t b.heads)) (reads_heads t b.heads (with_ends (reads_free b.free) (ends_of t b.heads))) (reading_of t b) heads.adds equations.adds) in
    let frees = free_spots 0 b.free nothing_read tt in
    record {
      named_as = all.named_as free.read.named_as;
      held = λ u there variable. by_term u there variable heads.held equations.adds equations.held;
      ends = λ k lt.
          let old = free.read.numbered.ends k lt in
          let spot = free_spot t b (reads_free b.free).names (nth_spot (reads_free b.free).spots k) k old.1 (all_at IsFreeSpot (reads_free b.free).spots k no_spot frees old.0) in (
            let e = ap length all.spots in let f = length-append (reads_free b.free).spots all.more in omega (arith, e, f, old.0),
            (spot.0, ap (λ z. nth_spot z k) all.spots ∙ at_front (reads_free b.free).spots all.more k no_spot old.0 ∙ spot.1),
          );
      end = λ i k m lt is. by_side i k m lt is all.more all.spots all.bound (free.read.numbered.end) free.size (front_or_back (length (reads_free b.free).spots) i);
    }
  where
    by_term : (u : Term) → IsTermOf b u → IsVariable t u →
        ((h : LeftHead) (w v : Term) → IsAmong h b.heads → IsAmong w h.head.terms → IsPartOf v w → IsVariable t v → IsHeldAt (reads_heads t b.heads (with_ends (reads_free b.free) (ends_of t b.heads))) v) →
        Adds t b (reads_heads t b.heads (with_ends (reads_free b.free) (ends_of t b.heads))) (reading_of t b) →
        ((e : Equation) (v : Term) → IsAmong e b.equations → IsPartOf v e.left ⊎ IsPartOf v e.right → IsVariable t v → IsHeldAt (reading_of t b) v) → IsHeldAt (reading_of t b) u
    by_term u (IsTermOf.in_left e among part) variable heads adds held = held e u among (inl part) variable
    by_term u (IsTermOf.in_right e among part) variable heads adds held = held e u among (inr part) variable
    by_term u (IsTermOf.in_head h v among inside part) variable heads adds held = held_on t b (reads_heads t b.heads (with_ends (reads_free b.free) (ends_of t b.heads))) (reading_of t b) u adds (heads h v u among inside part variable)

    by_side : (i k m : ℕ) → i < length (reading_of t b).spots → nth_spot (reading_of t b).spots i ≡ Free k m → (more : List TextSpot) → (reading_of t b).spots ≡ (reads_free b.free).spots ++ more → AllByRecursion IsBound more →
        ((i k : ℕ) → i < length (reads_free b.free).spots → IsEnd (nth_spot (reads_free b.free).spots i) k → (k ≡ i) × (k < length b.free)) → length (reads_free b.free).spots ≡ length b.free →
        (i < length (reads_free b.free).spots) ⊎ ((j : ℕ) × (i ≡ length (reads_free b.free).spots + j)) → (k ≡ i) × (i < length b.free)
    by_side i k m lt is more grown bound old size (inl front) =
        let here = old i k front (subst (λ s. IsEnd s k) (sym (sym (at_front (reads_free b.free).spots more i no_spot front) ∙ sym (ap (λ z. nth_spot z i) grown) ∙ is)) refl) in
        (here.0, omega (arith, here.0, here.1))
    by_side i k m lt is more grown bound old size (inr (j, e)) =
        let count = ap length grown ∙ length-append (reads_free b.free).spots more in
        let there : nth_spot more j ≡ Free k m = sym (at_back (reads_free b.free).spots more j no_spot) ∙ sym (ap (nth_spot ((reads_free b.free).spots ++ more)) e) ∙ sym (ap (λ z. nth_spot z i) grown) ∙ is in
        absurd (subst IsBound there (all_at IsBound more j no_spot bound (omega (arith, lt, e, count))))
