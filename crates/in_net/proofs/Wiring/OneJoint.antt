-- Each place of a text has one joint.
use Rattle.std.proofs.Common.{◌≡◌, ◌≢◌, ◌⊎◌, inl, inr, ℕ, ◌<◌, ◌≤◌, List, [], ◌∷◌, ◌++◌, length, Option, Some, None, refl, sym, ◌∙◌, ap, subst, arith}
use Rattle.std.specs.List.{flat_map}
use Rattle.std.proofs.lemmas.Bool.{cases_eq, cases_lt}
use Rattle.in_syntax.specs.declared.places.Place.{Place}
use Rattle.in_syntax.specs.declared.tree.Equation.{Equation}
use Rattle.in_syntax.specs.declared.tree.Term.{Term, out-Term}
use Rattle.in_base.specs.Lists.{IsAmong}
use Rattle.in_syntax.specs.Order.{Rises, term_places, equation_places}
use Rattle.in_base.proofs.Among.{among_left, among_right, among_at, among_all, in_flat}
use Rattle.in_syntax.proofs.Public.{front_rises, back_rises}
use Rattle.in_symbols.specs.Names.{number_in}
use Rattle.in_symbols.specs.Tables.{Tables}
use Rattle.in_net.specs.declared.reading.Reading.{Reading}
use Rattle.in_net.specs.declared.reading.TextSpot.{TextSpot}
use Rattle.in_net.specs.declared.reading.TextSpot.TheVariants.{Port, Free, End, Occurrence}
use Rattle.in_net.specs.Building.{nth_link, nth_spot}
use Rattle.in_net.specs.Joining.{links_of}
use Rattle.in_net.specs.TextNet as text
use Rattle.in_net.specs.TextNet.{Body, LeftHead, IsTermOf, PlacedJoint, of_equation, of_argument, of_head, turned, spot_by, spot_of, name_of, place_of}
use Rattle.in_net.proofs.Texts.Order.{root_place, place_before}
use Rattle.in_net.proofs.Wiring.Single.{IsReadWhole, one_spot, settled_of, one_placed_joint}
use Rattle.in_net.proofs.Wiring.Sound.{named}
use Rattle.in_net.proofs.Texts.TextPlaces.{text_places, argument_of, part_place}

-- ---- places in two parts of a list that rises

-- a place in the first part is before one in the second part
rises_between : (xs ys : List Place) (p q : Place) → Rises (xs ++ ys) → IsAmong p xs → IsAmong q ys → p.from < q.from
rises_between [] ys p q up h k = absurd h
rises_between (x ∷ xs) ys p q up (inl e) k = subst (λ p. p.from < q.from) e (among_all (λ q. x.from < q.from) (xs ++ ys) q up.0 (among_right q xs ys k))
rises_between (x ∷ xs) ys p q up (inr h) k = rises_between xs ys p q up.1 h k

-- ---- the ~

tilde_in : (e : Equation) → IsAmong e.tilde (equation_places e)
tilde_in e = among_right e.tilde (term_places e.left) (e.tilde ∷ term_places e.right) (inl refl)

one_tilde : (es : List Equation) (e f : Equation) → Rises (flat_map equation_places es) → IsAmong e es → IsAmong f es → e.tilde.from ≡ f.tilde.from → e ≡ f
one_tilde [] e f up h k same = absurd h
one_tilde (g ∷ es) e f up (inl a) (inl b) same = sym a ∙ b
one_tilde (g ∷ es) e f up (inl a) (inr k) same =
    let lt = rises_between (equation_places g) (flat_map equation_places es) e.tilde f.tilde up (subst (λ g. IsAmong e.tilde (equation_places g)) (sym a) (tilde_in e)) (in_flat equation_places es f f.tilde k (tilde_in f)) in
    absurd (omega (arith, lt, same))
one_tilde (g ∷ es) e f up (inr h) (inl b) same =
    let lt = rises_between (equation_places g) (flat_map equation_places es) f.tilde e.tilde up (subst (λ g. IsAmong f.tilde (equation_places g)) (sym b) (tilde_in f)) (in_flat equation_places es e e.tilde h (tilde_in e)) in
    absurd (omega (arith, lt, same))
one_tilde (g ∷ es) e f up (inr h) (inr k) same = one_tilde es e f (back_rises (equation_places g) (flat_map equation_places es) up) h k same

-- the place is that of a name in the equation
abbrev IsNameIn : Equation → Place → Type 0
IsNameIn f p = IsAmong p (term_places f.left) ⊎ IsAmong p (term_places f.right)

name_in_equation : (f : Equation) (p : Place) → IsNameIn f p → IsAmong p (equation_places f)
name_in_equation f p (inl h) = among_left p (term_places f.left) (f.tilde ∷ term_places f.right) h
name_in_equation f p (inr h) = among_right p (term_places f.left) (f.tilde ∷ term_places f.right) (inr h)

no_name_here : (f : Equation) (p : Place) → Rises (equation_places f) → IsNameIn f p → f.tilde.from ≢ p.from
no_name_here f p up (inl h) same = let lt = rises_between (term_places f.left) (f.tilde ∷ term_places f.right) p f.tilde up h (inl refl) in absurd (omega (arith, lt, same))
no_name_here f p up (inr h) same =
    let on : Rises (f.tilde ∷ term_places f.right) = back_rises (term_places f.left) (f.tilde ∷ term_places f.right) up in
    let lt = among_all (λ q. f.tilde.from < q.from) (term_places f.right) p on.0 h in
    absurd (omega (arith, lt, same))

-- a place of a ~ isn't that of a name
no_name : (es : List Equation) (e f : Equation) (p : Place) → Rises (flat_map equation_places es) → IsAmong e es → IsAmong f es → IsNameIn f p → e.tilde.from ≢ p.from
no_name [] e f p up h k in_ same = absurd h
no_name (g ∷ es) e f p up (inl a) (inl b) in_ same =
    no_name_here f p (subst (λ g. Rises (equation_places g)) b (front_rises (equation_places g) (flat_map equation_places es) up)) in_ (ap (λ (x : Equation). x.tilde.from) (sym b ∙ a) ∙ same)
no_name (g ∷ es) e f p up (inl a) (inr k) in_ same =
    let lt = rises_between (equation_places g) (flat_map equation_places es) e.tilde p up (subst (λ g. IsAmong e.tilde (equation_places g)) (sym a) (tilde_in e)) (in_flat equation_places es f p k (name_in_equation f p in_)) in
    absurd (omega (arith, lt, same))
no_name (g ∷ es) e f p up (inr h) (inl b) in_ same =
    let lt = rises_between (equation_places g) (flat_map equation_places es) p e.tilde up (subst (λ g. IsAmong p (equation_places g)) (sym b) (name_in_equation f p in_)) (in_flat equation_places es e e.tilde h (tilde_in e)) in
    absurd (omega (arith, lt, same))
no_name (g ∷ es) e f p up (inr h) (inr k) in_ same = no_name es e f p (back_rises (equation_places g) (flat_map equation_places es) up) h k in_ same

abbrev head_names : Body → List Place
head_names b = flat_map (λ h. flat_map term_places h.head.terms) b.heads

-- .. of any term of the body
no_term : (b : Body) (e : Equation) (v : Term) → Rises (text_places b) → IsAmong e b.equations → IsTermOf b v → e.tilde.from ≢ (place_of v).from
no_term b e v up among (IsTermOf.in_left f there part) same =
    no_name b.equations e f (place_of v) (back_rises (head_names b) (flat_map equation_places b.equations) up) among there (inl (part_place v f.left part)) same
no_term b e v up among (IsTermOf.in_right f there part) same =
    no_name b.equations e f (place_of v) (back_rises (head_names b) (flat_map equation_places b.equations) up) among there (inr (part_place v f.right part)) same
no_term b e v up among (IsTermOf.in_head g w there inside part) same =
    let here : IsAmong (place_of v) (head_names b) =
    in_flat (λ (h : LeftHead). flat_map term_places h.head.terms) b.heads g (place_of v) there (in_flat term_places g.head.terms w (place_of v) inside (part_place v w part)) in
    let lt = rises_between (head_names b) (flat_map equation_places b.equations) (place_of v) e.tilde up here (in_flat equation_places b.equations e e.tilde among (tilde_in e)) in
    absurd (omega (arith, lt, same))

-- ---- the kinds of joints

-- the joint of an equation at its ~
record IsEqual (t : Tables) (b : Body) (x y : text.TextSpot) (p : Place) : Type 0 where
  equation : Equation
  among : IsAmong equation b.equations
  one : x ≡ spot_of t equation.left
  other : y ≡ spot_of t equation.right
  place : p ≡ equation.tilde

-- a joint that leads to a term, at its first token
record LeadsToTerm (t : Tables) (b : Body) (y : text.TextSpot) (p : Place) : Type 0 where
  term : Term
  there : IsTermOf b term
  spot : y ≡ spot_of t term
  place : p ≡ place_of term

data Sort (t : Tables) (b : Body) (x y : text.TextSpot) (p : Place) : Type 0 where
  equal : IsEqual t b x y p → Sort t b x y p
  equal_back : IsEqual t b y x p → Sort t b x y p
  leads : LeadsToTerm t b y p → Sort t b x y p
  leads_back : LeadsToTerm t b x p → Sort t b x y p

turn_sort : (t : Tables) (b : Body) (x y : text.TextSpot) (p : Place) → Sort t b x y p → Sort t b y x p
turn_sort t b x y p (equal h) = equal_back h
turn_sort t b x y p (equal_back h) = equal h
turn_sort t b x y p (leads h) = leads_back h
turn_sort t b x y p (leads_back h) = leads h

sort_of : (t : Tables) (b : Body) (x y : text.TextSpot) (p : Place) → PlacedJoint t b x y p → Sort t b x y p
sort_of t b _ _ _ (of_equation e among) = equal (record { equation = e; among = among; one = refl; other = refl; place = refl })
sort_of t b _ _ _ (of_argument u v i there symbol is) = leads (record { term = v; there = argument_of b u v there (among_at (out-Term u).args i v is); spot = refl; place = refl })
sort_of t b _ _ _ (of_head h v i among is) = leads (record { term = v; there = IsTermOf.in_head h v among (among_at h.head.terms i v is) (text.itself v); spot = refl; place = refl })
sort_of t b _ _ _ (turned x y p joint) = turn_sort t b x y p (sort_of t b x y p joint)

-- the root of a term
root_of : (s : TextSpot) (o : Option ℕ) (p : Place) → named s ≡ spot_by o p → root_place s ≡ p ∷ []
root_of (Port a i q) None p e = cc
root_of (Port a i q) (Some n) p e =
    let port : i ≡ 0 = cc in
    let place : q ≡ p = cc in
    ap (λ i. root_place (Port a i q)) port ∙ ap (λ q. q ∷ []) place
root_of (Free k m) None p e = cc
root_of (Free k m) (Some n) p e = cc
root_of (End k) None p e = cc
root_of (End k) (Some n) p e = cc
root_of (Occurrence m q) None p e = let place : q ≡ p = cc in ap (λ q. q ∷ []) place
root_of (Occurrence m q) (Some n) p e = cc

-- the same joint, with its spots in either order
abbrev pub AreOne : text.TextSpot → text.TextSpot → text.TextSpot → text.TextSpot → Type 0
AreOne x y u v = ((x ≡ u) × (y ≡ v)) ⊎ ((x ≡ v) × (y ≡ u))

module _ (t : Tables) (b : Body) (r : Reading) (h : IsReadWhole t b r) (up : Rises (text_places b)) where
  -- spots of terms whose first tokens are at one byte are equal
  one_root : (x y z w : text.TextSpot) (p q : Place) → PlacedJoint t b x y p → PlacedJoint t b z w q → LeadsToTerm t b y p → LeadsToTerm t b w q → p.from ≡ q.from → y ≡ w
  one_root x y z w p q j k a c same =
      let s = settled_of t b r h x y p j in
      let u = settled_of t b r h z w q k in
      let i : ℕ = (nth_link (links_of r) s.spot).to in
      let l : ℕ = (nth_link (links_of r) u.spot).to in
      let one = root_of (nth_spot r.spots (nth_link (links_of r) s.spot).to) (number_in (name_of a.term) t.names) (place_of a.term) (s.other ∙ a.spot) in
      let other = root_of (nth_spot r.spots (nth_link (links_of r) u.spot).to) (number_in (name_of c.term) t.names) (place_of c.term) (u.other ∙ c.spot) in
      let from : (place_of a.term).from ≡ (place_of c.term).from = ap (λ (p : Place). p.from) (sym a.place) ∙ same ∙ ap (λ (p : Place). p.from) c.place in
      sym s.other ∙ ap (λ i. named (nth_spot r.spots i)) (by_order i l (place_of a.term) (place_of c.term) s.to_inside u.to_inside one other from (cases_eq i l) (cases_lt i l)) ∙ u.other
    where
      by_order : (i l : ℕ) (p q : Place) → i < length r.spots → l < length r.spots → root_place (nth_spot r.spots i) ≡ p ∷ [] → root_place (nth_spot r.spots l) ≡ q ∷ [] → p.from ≡ q.from → (i ≡ l) ⊎ (i ≢ l) → (i < l) ⊎ (l ≤ i) → i ≡ l
      by_order i l p q i_in l_in e f from (inl x) y = x
      by_order i l p q i_in l_in e f from (inr x) (inl y) = absurd (let less = place_before r.spots i l p q h.rises y l_in e f in omega (arith, less, from))
      by_order i l p q i_in l_in e f from (inr x) (inr y) = absurd (let less = place_before r.spots l i q p h.rises (omega (arith, x, y)) i_in f e in omega (arith, less, from))

  both_lead : (x y z w : text.TextSpot) (p q : Place) → PlacedJoint t b x y p → PlacedJoint t b z w q → LeadsToTerm t b y p → LeadsToTerm t b w q → p.from ≡ q.from → (x ≡ z) × (y ≡ w)
  both_lead x y z w p q j k a c same =
      let to = one_root x y z w p q j k a c same in
      ((one_placed_joint t b r h y x z p q (turned x y p j) (subst (λ y. PlacedJoint t b y z q) (sym to) (turned z w q k))).0, to)

  both_equal : (x y z w : text.TextSpot) (p q : Place) → IsEqual t b x y p → IsEqual t b z w q → p.from ≡ q.from → (x ≡ z) × (y ≡ w)
  both_equal x y z w p q a c same =
      let from : a.equation.tilde.from ≡ c.equation.tilde.from = ap (λ (p : Place). p.from) (sym a.place) ∙ same ∙ ap (λ (p : Place). p.from) c.place in
      let one = one_tilde b.equations a.equation c.equation (back_rises (head_names b) (flat_map equation_places b.equations) up) a.among c.among from in
      (a.one ∙ ap (λ (e : Equation). spot_of t e.left) one ∙ sym c.one, a.other ∙ ap (λ (e : Equation). spot_of t e.right) one ∙ sym c.other)

  not_both : (x y w : text.TextSpot) (p q : Place) → IsEqual t b x y p → LeadsToTerm t b w q → p.from ≡ q.from → ⊥
  not_both x y w p q a c same = no_term b a.equation c.term up a.among c.there (ap (λ (p : Place). p.from) (sym a.place) ∙ same ∙ ap (λ (p : Place). p.from) c.place)

  by_sorts : (x y z w : text.TextSpot) (p q : Place) → PlacedJoint t b x y p → PlacedJoint t b z w q → p.from ≡ q.from → Sort t b x y p → Sort t b z w q → AreOne x y z w
  by_sorts x y z w p q j k same (equal a) (equal c) = inl (both_equal x y z w p q a c same)
  by_sorts x y z w p q j k same (equal a) (equal_back c) = inr (both_equal x y w z p q a c same)
  by_sorts x y z w p q j k same (equal a) (leads c) = absurd (not_both x y w p q a c same)
  by_sorts x y z w p q j k same (equal a) (leads_back c) = absurd (not_both x y z p q a c same)
  by_sorts x y z w p q j k same (equal_back a) (equal c) = let e = both_equal y x z w p q a c same in inr (e.1, e.0)
  by_sorts x y z w p q j k same (equal_back a) (equal_back c) = let e = both_equal y x w z p q a c same in inl (e.1, e.0)
  by_sorts x y z w p q j k same (equal_back a) (leads c) = absurd (not_both y x w p q a c same)
  by_sorts x y z w p q j k same (equal_back a) (leads_back c) = absurd (not_both y x z p q a c same)
  by_sorts x y z w p q j k same (leads a) (equal c) = absurd (not_both z w y q p c a (sym same))
  by_sorts x y z w p q j k same (leads a) (equal_back c) = absurd (not_both w z y q p c a (sym same))
  by_sorts x y z w p q j k same (leads a) (leads c) = inl (both_lead x y z w p q j k a c same)
  by_sorts x y z w p q j k same (leads a) (leads_back c) = inr (both_lead x y w z p q j (turned z w q k) a c same)
  by_sorts x y z w p q j k same (leads_back a) (equal c) = absurd (not_both z w x q p c a (sym same))
  by_sorts x y z w p q j k same (leads_back a) (equal_back c) = absurd (not_both w z x q p c a (sym same))
  by_sorts x y z w p q j k same (leads_back a) (leads c) = let e = both_lead y x z w p q (turned x y p j) k a c same in inr (e.1, e.0)
  by_sorts x y z w p q j k same (leads_back a) (leads_back c) = let e = both_lead y x w z p q (turned x y p j) (turned z w q k) a c same in inl (e.1, e.0)

  -- two joints at one place are equal
  pub one_joint : (x y z w : text.TextSpot) (p q : Place) → PlacedJoint t b x y p → PlacedJoint t b z w q → p.from ≡ q.from → AreOne x y z w
  one_joint x y z w p q j k same = by_sorts x y z w p q j k same (sort_of t b x y p j) (sort_of t b z w q k)

  -- so links of two spots are at one place only if they are one link
  pub links_apart : (i j : ℕ) → i < length r.spots → j < length r.spots → (nth_link (links_of r) i).to ≢ i → (nth_link (links_of r) j).to ≢ j → (nth_link (links_of r) i).place.from ≡ (nth_link (links_of r) j).place.from →
      (i ≡ j) ⊎ ((nth_link (links_of r) i).to ≡ j)
  links_apart i j i_in j_in i_to j_to same =
      let linked = h.body.net.read.linked in
      by_one (one_joint _ _ _ _ (nth_link (links_of r) i).place (nth_link (links_of r) j).place (linked.sound i i_in i_to) (linked.sound j j_in j_to) same)
    where
      by_one : AreOne (named (nth_spot r.spots i)) (named (nth_spot r.spots (nth_link (links_of r) i).to)) (named (nth_spot r.spots j)) (named (nth_spot r.spots (nth_link (links_of r) j).to)) → (i ≡ j) ⊎ ((nth_link (links_of r) i).to ≡ j)
      by_one (inl e) = inl (one_spot t b r h i j i_in j_in e.0)
      by_one (inr e) = inr (one_spot t b r h (nth_link (links_of r) i).to j (h.body.net.read.linked.inside i i_in) j_in e.1)
