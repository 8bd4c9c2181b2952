-- The miscounted names among the spots are those of the text.
use Rattle.std.proofs.Common.{◌≡◌, ◌≢◌, ◌⊎◌, inl, inr, ℕ, zero, suc, ◌<◌, ◌≤◌, List, [], ◌∷◌, length, Some, None, option_map, slice_get, refl, sym, ◌∙◌, ap, subst, arith}
use Rattle.std.proofs.lemmas.Option.{slice_get-get_or, slice_get_within, same_Some}
use Rattle.std.proofs.lemmas.Bool.{cases_eq, cases_lt}
use Rattle.in_syntax.specs.declared.places.Place.{Place}
use Rattle.in_syntax.specs.declared.tree.Term.{Term}
use Rattle.in_syntax.specs.declared.tree.SourceFree.{SourceFree}
use Rattle.in_syntax.specs.Order.{Rises}
use Rattle.in_symbols.specs.Names.{name_in}
use Rattle.in_symbols.specs.Tables.{Tables}
use Rattle.in_syntax.proofs.Public.{IsLeast, least_same}
use Rattle.in_net.specs.declared.reading.TextSpot.{TextSpot}
use Rattle.in_net.specs.declared.reading.TextSpot.TheVariants.{Free, Occurrence}
use Rattle.in_net.specs.declared.reading.Reading.{Reading}
use Rattle.in_net.specs.Counting as counting
use Rattle.in_net.specs.Counting.{none_seen, counted_from, nothing_counted, counts_from, place_at, miscounted}
use Rattle.in_net.specs.Building.{AreTwice, no_spot, nth_spot}
use Rattle.in_net.specs.NetFaults.{Occurs, IsFreeName, IsBefore, IsMiscountedAt}
use Rattle.in_base.specs.Lists.{IsAmong}
use Rattle.in_net.specs.TextNet.{Body, IsVariable, name_of, place_of}
use Rattle.in_net.proofs.Texts.Kept.{IsHeldAt}
use Rattle.in_net.proofs.Wiring.Links.{all_at}
use Rattle.in_net.proofs.Refusals.Miscounts.{IsThirdAt, IsOnlyAt, done, same_seen, miscounted_least}
use Rattle.in_net.proofs.Refusals.Standing.{Has, IsStanding}
use Rattle.in_net.specs.declared.counting.Seen.{Seen}
use Rattle.in_net.specs.declared.counting.Seen.TheVariants.{Never, Once, Twice, Often}
use Rattle.in_net.proofs.Texts.NamedSpots.{AreNamesRead}
use Rattle.in_net.proofs.Texts.Order.{root_place, root_places, root_before, same_root}
use Rattle.in_net.proofs.Texts.Read.{IsNamed, IsVariableAt, IsFreeAt, name_known}
use Rattle.in_net.proofs.Wiring.Ways.{nth_seen, spot_named}

among_at : (fs : List SourceFree) (f : SourceFree) → IsAmong f fs → (k : ℕ) × (slice_get fs k ≡ Some f)
among_at [] f h = absurd h
among_at (x ∷ fs) f (inl e) = (0, ap Some e)
among_at (x ∷ fs) f (inr h) = let there = among_at fs f h in (suc there.0, there.1)

at_among : (fs : List SourceFree) (k : ℕ) (f : SourceFree) → slice_get fs k ≡ Some f → IsAmong f fs
at_among [] k f e = absurd (let wrong : None ≡ Some f = e in cc)
at_among (x ∷ fs) zero f e = inl (let same : x ≡ f = cc in same)
at_among (x ∷ fs) (suc k) f e = inr (at_among fs k f e)

module _ (t : Tables) (body : Body) (r : Reading) (names : AreNamesRead t body r) (up : Rises (root_places r.spots))
    (apart : (m k : ℕ) → m < length r.names → k < length r.names → name_in m r.names ≡ name_in k r.names → m ≡ k)
    (differ : (k l : ℕ) (f g : SourceFree) → slice_get body.free k ≡ Some f → slice_get body.free l ≡ Some g → f.name.text ≡ g.name.text → k ≡ l) where
  abbrev spots : List TextSpot
  spots = r.spots

  fact : (i : ℕ) → i < length r.spots → IsNamed t body r.names (nth_spot r.spots i)
  fact i lt = all_at (IsNamed t body r.names) r.spots i no_spot names.named_as lt

  pub inside : (i m : ℕ) → i < length r.spots → Has r.spots m i → m < length r.names
  inside i m lt e = name_known t body r.names (nth_spot r.spots i) m (fact i lt) e

  -- the variable at a spot
  variable_at : (i m : ℕ) (p : Place) → i < length r.spots → nth_spot r.spots i ≡ Occurrence m p → IsVariableAt t body r.names m p
  variable_at i m p lt is = subst (IsNamed t body r.names) is (fact i lt)

  occurs : (i m : ℕ) (p : Place) (name : List ℕ) (lt : i < length r.spots) (is : nth_spot r.spots i ≡ Occurrence m p) → name_in m r.names ≡ name → Occurs t body name (variable_at i m p lt is).term
  occurs i m p name lt is e = let v = variable_at i m p lt is in (v.there, v.variable, sym v.name ∙ e)

  -- the spot of a variable has its name's number
  held_at : (u : Term) (name : List ℕ) → Occurs t body name u → IsHeldAt r u
  held_at u name o = names.held u o.0 o.1

  number_is : (u : Term) (m : ℕ) → m < length r.names → (o : Occurs t body (name_in m r.names) u) → (held_at u (name_in m r.names) o).number ≡ m
  number_is u m lt o = let h = held_at u (name_in m r.names) o in apart h.number m h.known lt (h.name ∙ o.2)

  has_held : (u : Term) (m : ℕ) → m < length r.names → (o : Occurs t body (name_in m r.names) u) → Has r.spots m (held_at u (name_in m r.names) o).spot
  has_held u m lt o = ap counting.name_of (held_at u (name_in m r.names) o).is ∙ ap Some (number_is u m lt o)

  -- a spot of a name that is a free name's: the free end, or an occurrence
  free_number : (f : SourceFree) (k : ℕ) → slice_get body.free k ≡ Some f → (m : ℕ) × (nth_spot r.spots k ≡ Free k m) × (name_in m r.names ≡ f.name.text) × (k < length r.spots) × (m < length r.names)
  free_number f k is =
      let lt = slice_get_within body.free k f is in
      let end = names.ends k lt in
      let at : IsFreeAt body r.names k end.1.0 = subst (IsNamed t body r.names) end.1.1 (fact k end.0) in
      let same : at.end ≡ f = let e : Some at.end ≡ Some f = sym at.declared ∙ is in cc in
      (end.1.0, end.1.1, at.name ∙ ap (λ (f : SourceFree). f.name.text) same, end.0, at.inside)

  free_end : (i k m : ℕ) → i < length r.spots → nth_spot r.spots i ≡ Free k m → (f : SourceFree) × (slice_get body.free k ≡ Some f) × (name_in m r.names ≡ f.name.text) × (m < length r.names)
  free_end i k m lt is = let at : IsFreeAt body r.names k m = subst (IsNamed t body r.names) is (fact i lt) in (at.end, at.declared, at.name, at.inside)

  -- occurrences in the order of their places
  before_place : (i j m l : ℕ) (p q : Place) → i < length r.spots → j < length r.spots → nth_spot r.spots i ≡ Occurrence m p → nth_spot r.spots j ≡ Occurrence l q → p.from < q.from → i < j
  before_place i j m l p q i_in j_in is_i is_j less = part (cases_eq i j) (cases_lt i j)
    where
      part : (i ≡ j) ⊎ (i ≢ j) → (i < j) ⊎ (j ≤ i) → i < j
      part x (inl y) = y
      part (inl x) (inr y) = absurd (let same : Occurrence m p ≡ Occurrence l q = sym is_i ∙ ap (nth_spot r.spots) x ∙ is_j in let place : p ≡ q = cc in omega (arith, less, ap (λ (x : Place). x.from) place))
      part (inr x) (inr y) = absurd (let back = root_before r.spots j i l m q p up (omega (arith, x, y)) i_in is_j is_i in omega (arith, less, back))

  same_place : (i j m l : ℕ) (p q : Place) → i < length r.spots → j < length r.spots → nth_spot r.spots i ≡ Occurrence m p → nth_spot r.spots j ≡ Occurrence l q → p ≡ q → i ≡ j
  same_place i j m l p q i_in j_in is_i is_j e = same_root r.spots i j q up i_in j_in (ap root_place is_i ∙ ap (λ (x : Place). x ∷ []) e) (ap root_place is_j)

  -- free ends come before occurrences
  free_before : (i j k m l : ℕ) (p : Place) → i < length r.spots → j < length r.spots → nth_spot r.spots i ≡ Free k m → nth_spot r.spots j ≡ Occurrence l p → i < j
  free_before i j k m l p i_in j_in is_i is_j = part (cases_lt i j)
    where
      part : (i < j) ⊎ (j ≤ i) → i < j
      part (inl x) = x
      part (inr x) =
          let end = names.end i k m i_in is_i in
          let there = names.ends j (omega (arith, x, end.1)) in
          absurd (let wrong : Free j there.1.0 ≡ Occurrence l p = sym there.1.1 ∙ is_j in cc)

  one_free : (i j k l m : ℕ) → i < length r.spots → j < length r.spots → nth_spot r.spots i ≡ Free k m → nth_spot r.spots j ≡ Free l m → i ≡ j
  one_free i j k l m i_in j_in is_i is_j =
      let f = free_end i k m i_in is_i in
      let g = free_end j l m j_in is_j in
      let same = differ k l f.0 g.0 f.1 g.1 (sym f.2 ∙ g.2) in
      omega (arith, same, (names.end i k m i_in is_i).0, (names.end j l m j_in is_j).0)

  slice_spot : (i : ℕ) → i < length r.spots → slice_get r.spots i ≡ Some (nth_spot r.spots i)
  slice_spot i lt = slice_get-get_or r.spots i no_spot lt

  -- the name of an occurrence that is a free name's has its free end among the spots
  free_of : (m : ℕ) → m < length r.names → IsFreeName body (name_in m r.names) → (k : ℕ) × (k < length r.spots) × (nth_spot r.spots k ≡ Free k m)
  free_of m lt h =
      let at = among_at body.free h.0 h.1 in
      let end = free_number h.0 at.0 at.1 in
      (at.0, end.3, end.1 ∙ ap (Free at.0) (apart end.0 m end.4 lt (end.2 ∙ h.2)))

  -- ---- from the spots to the text

  only_text : (q : Place) → IsOnlyAt r.spots body.free q → IsMiscountedAt t body q
  only_text q h = by_spot (spot_named (nth_spot r.spots h.one) h.name h.has)
    where
      by_spot : ((p : Place) × (nth_spot r.spots h.one ≡ Occurrence h.name p)) ⊎ ((k : ℕ) × (nth_spot r.spots h.one ≡ Free k h.name)) → IsMiscountedAt t body q
      by_spot (inl (p, is)) =
          let v = variable_at h.one h.name p h.inside is in
          let place : p ≡ q = same_Some p q (sym (ap (place_at body.free) (slice_spot h.one h.inside ∙ ap Some is)) ∙ h.stands) in
          let lonely : (w : Term) → Occurs t body (name_of v.term) w → place_of w ≡ place_of v.term =
          λ w o.
          (let ow : Occurs t body (name_in h.name r.names) w = (o.0, o.1, o.2 ∙ sym v.name) in
          let g = held_at w (name_in h.name r.names) ow in
          let one = h.only g.spot g.inside (has_held w h.name v.inside ow) in
          let same : Occurrence g.number (place_of w) ≡ Occurrence h.name p = sym g.is ∙ ap (nth_spot r.spots) one ∙ is in
          let at : place_of w ≡ p = cc in at ∙ sym v.place) in
          let unfree : IsFreeName body (name_of v.term) → ⊥ =
          λ f.
          (let end = free_of h.name v.inside (f.0, f.1, f.2 ∙ sym v.name) in
          let one = h.only end.0 end.1 (ap counting.name_of end.2) in
          let wrong : Free end.0 h.name ≡ Occurrence h.name p = sym end.2 ∙ ap (nth_spot r.spots) one ∙ is in cc) in
          subst (IsMiscountedAt t body) (v.place ∙ place) (IsMiscountedAt.only v.term (v.there, v.variable, refl) unfree lonely)
      by_spot (inr (k, is)) =
          let end = free_end h.one k h.name h.inside is in
          let place : end.0.name.place ≡ q = same_Some end.0.name.place q (sym (ap (option_map {T = SourceFree} {U = Place} (λ f. f.name.place)) end.1) ∙ sym (ap (place_at body.free) (slice_spot h.one h.inside ∙ ap Some is)) ∙ h.stands) in
          let none : (u : Term) → Occurs t body end.0.name.text u → ⊥ =
          λ u o.
          (let ou : Occurs t body (name_in h.name r.names) u = (o.0, o.1, o.2 ∙ sym end.2) in
          let g = held_at u (name_in h.name r.names) ou in
          let one = h.only g.spot g.inside (has_held u h.name end.3 ou) in
          let wrong : Occurrence g.number (place_of u) ≡ Free k h.name = sym g.is ∙ ap (nth_spot r.spots) one ∙ is in cc) in
          subst (IsMiscountedAt t body) place (IsMiscountedAt.missing end.0 (at_among body.free k end.0 end.1) none)

  -- an occurrence before the third spot is one of the first two
  third_text : (q : Place) → IsThirdAt r.spots (length r.spots) q → IsMiscountedAt t body q
  third_text q h = by_spots (spot_named (nth_spot r.spots h.one) h.name h.has_one) (spot_named (nth_spot r.spots h.two) h.name h.has_two)
    where
      one_in : h.one < length r.spots
      one_in = let a = h.first in let b = h.next in let c = h.inside in omega (arith, a, b, c)

      two_in : h.two < length r.spots
      two_in = let b = h.next in let c = h.inside in omega (arith, b, c)

      w : IsVariableAt t body r.names h.name q
      w = variable_at h.three h.name q h.inside h.stands

      -- the spot of an occurrence of the name before the third one
      earlier_one : (x : Term) → Occurs t body (name_of w.term) x → IsBefore x w.term → (g : IsHeldAt r x) × (((g.spot ≡ h.one) ⊎ (g.spot ≡ h.two)))
      earlier_one x o less =
          let ox : Occurs t body (name_in h.name r.names) x = (o.0, o.1, o.2 ∙ sym w.name) in
          let g = held_at x (name_in h.name r.names) ox in
          let before = before_place g.spot h.three g.number h.name (place_of x) q g.inside h.inside g.is h.stands (omega (arith, less, ap (λ (p : Place). p.from) w.place)) in
          (g, h.only g.spot before (has_held x h.name w.inside ox))

      by_spots : ((p : Place) × (nth_spot r.spots h.one ≡ Occurrence h.name p)) ⊎ ((k : ℕ) × (nth_spot r.spots h.one ≡ Free k h.name)) → ((p : Place) × (nth_spot r.spots h.two ≡ Occurrence h.name p)) ⊎ ((k : ℕ) × (nth_spot r.spots h.two ≡ Free k h.name)) →
          IsMiscountedAt t body q
      by_spots (inl (p, is_one)) (inr (k, is_two)) = absurd (let less = free_before h.two h.one k h.name h.name p two_in one_in is_two is_one in let a = h.first in omega (arith, less, a))
      by_spots (inr (k, is_one)) (inr (l, is_two)) = absurd (let same = one_free h.one h.two k l h.name one_in two_in is_one is_two in let a = h.first in omega (arith, same, a))
      by_spots (inl (p, is_one)) (inl (p2, is_two)) =
          let u = variable_at h.one h.name p one_in is_one in
          let v = variable_at h.two h.name p2 two_in is_two in
          let first = root_before r.spots h.one h.two h.name h.name p p2 up h.first two_in is_one is_two in
          let next = root_before r.spots h.two h.three h.name h.name p2 q up h.next h.inside is_two h.stands in
          let unfree : IsFreeName body (name_of w.term) → ⊥ =
          λ f.
          (let end = free_of h.name w.inside (f.0, f.1, f.2 ∙ sym w.name) in
          not_free end.0 end.1 end.2 p p2 is_one is_two) in
          subst (IsMiscountedAt t body) w.place
          (IsMiscountedAt.third u.term v.term w.term (u.there, u.variable, sym u.name ∙ w.name) (v.there, v.variable, sym v.name ∙ w.name) (w.there, w.variable, refl) unfree
          (omega (arith, first, ap (λ (p : Place). p.from) u.place, ap (λ (p : Place). p.from) v.place)) (omega (arith, next, ap (λ (p : Place). p.from) v.place, ap (λ (p : Place). p.from) w.place))
          (λ x o less. placed u.term v.term x (earlier_one x o less) p p2 is_one is_two u.place v.place))
        where
          not_free : (k : ℕ) → k < length r.spots → nth_spot r.spots k ≡ Free k h.name → (p p2 : Place) → nth_spot r.spots h.one ≡ Occurrence h.name p → nth_spot r.spots h.two ≡ Occurrence h.name p2 → ⊥
          not_free k k_in is p p2 is_one is_two = one_or_two (h.only k (free_before k h.three k h.name h.name q k_in h.inside is h.stands) (ap counting.name_of is))
            where
              one_or_two : (k ≡ h.one) ⊎ (k ≡ h.two) → ⊥
              one_or_two (inl e) = let wrong : Free k h.name ≡ Occurrence h.name p = sym is ∙ ap (nth_spot r.spots) e ∙ is_one in cc
              one_or_two (inr e) = let wrong : Free k h.name ≡ Occurrence h.name p2 = sym is ∙ ap (nth_spot r.spots) e ∙ is_two in cc

          placed : (a b x : Term) → (g : IsHeldAt r x) × ((g.spot ≡ h.one) ⊎ (g.spot ≡ h.two)) → (p p2 : Place) → nth_spot r.spots h.one ≡ Occurrence h.name p → nth_spot r.spots h.two ≡ Occurrence h.name p2 →
              place_of a ≡ p → place_of b ≡ p2 → (place_of x ≡ place_of a) ⊎ (place_of x ≡ place_of b)
          placed a b x (g, inl e) p p2 is_one is_two a_is b_is = let same : Occurrence g.number (place_of x) ≡ Occurrence h.name p = sym g.is ∙ ap (nth_spot r.spots) e ∙ is_one in let at : place_of x ≡ p = cc in inl (at ∙ sym a_is)
          placed a b x (g, inr e) p p2 is_one is_two a_is b_is = let same : Occurrence g.number (place_of x) ≡ Occurrence h.name p2 = sym g.is ∙ ap (nth_spot r.spots) e ∙ is_two in let at : place_of x ≡ p2 = cc in inr (at ∙ sym b_is)
      by_spots (inr (k, is_one)) (inl (p2, is_two)) =
          let end = free_end h.one k h.name one_in is_one in
          let v = variable_at h.two h.name p2 two_in is_two in
          let next = root_before r.spots h.two h.three h.name h.name p2 q up h.next h.inside is_two h.stands in
          subst (IsMiscountedAt t body) w.place
          (IsMiscountedAt.second end.0 v.term w.term (at_among body.free k end.0 end.1) (v.there, v.variable, sym v.name ∙ end.2) (w.there, w.variable, sym w.name ∙ end.2)
          (omega (arith, next, ap (λ (p : Place). p.from) v.place, ap (λ (p : Place). p.from) w.place))
          (λ x o less. placed v.term x (earlier_one x (o.0, o.1, o.2 ∙ sym end.2 ∙ w.name) less) v.place))
        where
          placed : (b x : Term) → (g : IsHeldAt r x) × ((g.spot ≡ h.one) ⊎ (g.spot ≡ h.two)) → place_of b ≡ p2 → place_of x ≡ place_of b
          placed b x (g, inl e) b_is = absurd (let wrong : Occurrence g.number (place_of x) ≡ Free k h.name = sym g.is ∙ ap (nth_spot r.spots) e ∙ is_one in cc)
          placed b x (g, inr e) b_is = let same : Occurrence g.number (place_of x) ≡ Occurrence h.name p2 = sym g.is ∙ ap (nth_spot r.spots) e ∙ is_two in let at : place_of x ≡ p2 = cc in at ∙ sym b_is

  -- ---- from the text to the spots

  abbrev Miscounts : Place → Type 0
  Miscounts q = IsThirdAt r.spots (length r.spots) q ⊎ IsOnlyAt r.spots body.free q

  -- a spot of the name of a term: an occurrence of it, or its free end
  spot_of_name : (j : ℕ) (u : Term) (g : IsHeldAt r u) → IsVariable t u → j < length r.spots → Has r.spots g.number j →
      ((v : Term) × Occurs t body (name_of u) v × (nth_spot r.spots j ≡ Occurrence g.number (place_of v))) ⊎ (IsFreeName body (name_of u) × ((k : ℕ) × (nth_spot r.spots j ≡ Free k g.number)))
  spot_of_name j u g variable lt has = by_spot (spot_named (nth_spot r.spots j) g.number has)
    where
      by_spot : ((p : Place) × (nth_spot r.spots j ≡ Occurrence g.number p)) ⊎ ((k : ℕ) × (nth_spot r.spots j ≡ Free k g.number)) →
          ((v : Term) × Occurs t body (name_of u) v × (nth_spot r.spots j ≡ Occurrence g.number (place_of v))) ⊎ (IsFreeName body (name_of u) × ((k : ℕ) × (nth_spot r.spots j ≡ Free k g.number)))
      by_spot (inl (p, is)) = let v = variable_at j g.number p lt is in inl (v.term, (v.there, v.variable, sym v.name ∙ g.name), is ∙ ap (Occurrence g.number) (sym v.place))
      by_spot (inr (k, is)) = let end = free_end j k g.number lt is in inr ((end.0, at_among body.free k end.0 end.1, sym end.2 ∙ g.name), (k, is))

  number_same : (u v : Term) (g : IsHeldAt r u) (h : IsHeldAt r v) → name_of u ≡ name_of v → g.number ≡ h.number
  number_same u v g h e = apart g.number h.number g.known h.known (g.name ∙ e ∙ sym h.name)

  stands_at : (i : ℕ) (m : ℕ) (p : Place) → i < length r.spots → nth_spot r.spots i ≡ Occurrence m p → place_at body.free (slice_get r.spots i) ≡ Some p
  stands_at i m p lt is = ap (place_at body.free) (slice_spot i lt ∙ ap Some is)

  of_only : (u : Term) → Occurs t body (name_of u) u → (IsFreeName body (name_of u) → ⊥) → ((v : Term) → Occurs t body (name_of u) v → place_of v ≡ place_of u) → IsOnlyAt r.spots body.free (place_of u)
  of_only u o unfree lonely =
      let g = names.held u o.0 o.1 in
      record {
        name = g.number;
        one = g.spot;
        inside = g.inside;
        has = ap counting.name_of g.is;
        only = λ j lt has. by_spot j lt g (spot_of_name j u g o.1 lt has);
        stands = stands_at g.spot g.number (place_of u) g.inside g.is;
      }
    where
      by_spot : (j : ℕ) → j < length r.spots → (g : IsHeldAt r u) → ((v : Term) × Occurs t body (name_of u) v × (nth_spot r.spots j ≡ Occurrence g.number (place_of v))) ⊎ (IsFreeName body (name_of u) × ((k : ℕ) × (nth_spot r.spots j ≡ Free k g.number))) → j ≡ g.spot
      by_spot j lt g (inl (v, ov, is)) = same_place j g.spot g.number g.number (place_of v) (place_of u) lt g.inside is g.is (lonely v ov)
      by_spot j lt g (inr (f, k)) = absurd (unfree f)

  of_third : (u v w : Term) → Occurs t body (name_of w) u → Occurs t body (name_of w) v → Occurs t body (name_of w) w → (IsFreeName body (name_of w) → ⊥) → IsBefore u v → IsBefore v w →
      ((x : Term) → Occurs t body (name_of w) x → IsBefore x w → (place_of x ≡ place_of u) ⊎ (place_of x ≡ place_of v)) → IsThirdAt r.spots (length r.spots) (place_of w)
  of_third u v w ou ov ow unfree first next only =
      let a = names.held u ou.0 ou.1 in
      let b = names.held v ov.0 ov.1 in
      let c = names.held w ow.0 ow.1 in
      let a_is = number_same u w a c ou.2 in
      let b_is = number_same v w b c ov.2 in
      record {
        name = c.number;
        one = a.spot;
        two = b.spot;
        three = c.spot;
        first = before_place a.spot b.spot a.number b.number (place_of u) (place_of v) a.inside b.inside a.is b.is first;
        next = before_place b.spot c.spot b.number c.number (place_of v) (place_of w) b.inside c.inside b.is c.is next;
        inside = c.inside;
        has_one = ap counting.name_of a.is ∙ ap Some a_is;
        has_two = ap counting.name_of b.is ∙ ap Some b_is;
        stands = c.is;
        only = λ j lt has. by_spot j a b c lt (spot_of_name j w c ow.1 (let l = c.inside in omega (arith, lt, l)) has);
      }
    where
      by_place : (j : ℕ) (x : Term) (a : IsHeldAt r u) (b : IsHeldAt r v) (c : IsHeldAt r w) → j < length r.spots → nth_spot r.spots j ≡ Occurrence c.number (place_of x) → (place_of x ≡ place_of u) ⊎ (place_of x ≡ place_of v) → (j ≡ a.spot) ⊎ (j ≡ b.spot)
      by_place j x a b c lt is (inl e) = inl (same_place j a.spot c.number a.number (place_of x) (place_of u) lt a.inside is a.is e)
      by_place j x a b c lt is (inr e) = inr (same_place j b.spot c.number b.number (place_of x) (place_of v) lt b.inside is b.is e)

      by_spot : (j : ℕ) (a : IsHeldAt r u) (b : IsHeldAt r v) (c : IsHeldAt r w) → j < c.spot → ((x : Term) × Occurs t body (name_of w) x × (nth_spot r.spots j ≡ Occurrence c.number (place_of x))) ⊎ (IsFreeName body (name_of w) × ((k : ℕ) × (nth_spot r.spots j ≡ Free k c.number))) →
          (j ≡ a.spot) ⊎ (j ≡ b.spot)
      by_spot j a b c lt (inl (x, ox, is)) =
          let j_in : j < length r.spots = let l = c.inside in omega (arith, lt, l) in
          by_place j x a b c j_in is (only x ox (root_before r.spots j c.spot c.number c.number (place_of x) (place_of w) up lt c.inside is c.is))
      by_spot j a b c lt (inr (f, k)) = absurd (unfree f)

  of_missing : (f : SourceFree) → IsAmong f body.free → ((u : Term) → Occurs t body f.name.text u → ⊥) → IsOnlyAt r.spots body.free f.name.place
  of_missing f among none =
      let at = among_at body.free f among in
      let end = free_number f at.0 at.1 in
      record {
        name = end.0;
        one = at.0;
        inside = end.3;
        has = ap counting.name_of end.1;
        only = λ j lt has. by_spot j lt end.0 at.0 end.1 end.2 end.3 (spot_named (nth_spot r.spots j) end.0 has);
        stands = ap (place_at body.free) (slice_spot at.0 end.3 ∙ ap Some end.1) ∙ ap (option_map {T = SourceFree} {U = Place} (λ f. f.name.place)) at.1;
      }
    where
      by_spot : (j : ℕ) → j < length r.spots → (m k : ℕ) → nth_spot r.spots k ≡ Free k m → name_in m r.names ≡ f.name.text → k < length r.spots → ((p : Place) × (nth_spot r.spots j ≡ Occurrence m p)) ⊎ ((l : ℕ) × (nth_spot r.spots j ≡ Free l m)) → j ≡ k
      by_spot j lt m k is_k name k_in (inl (p, is)) = absurd (none (variable_at j m p lt is).term (occurs j m p f.name.text lt is name))
      by_spot j lt m k is_k name k_in (inr (l, is)) = one_free j k l k m lt k_in is is_k

  of_second : (f : SourceFree) (u v : Term) → IsAmong f body.free → Occurs t body f.name.text u → Occurs t body f.name.text v → IsBefore u v → ((x : Term) → Occurs t body f.name.text x → IsBefore x v → place_of x ≡ place_of u) →
      IsThirdAt r.spots (length r.spots) (place_of v)
  of_second f u v among ou ov first only =
      let at = among_at body.free f among in
      let end = free_number f at.0 at.1 in
      let a = names.held u ou.0 ou.1 in
      let b = names.held v ov.0 ov.1 in
      let end_is : end.0 ≡ b.number = apart end.0 b.number end.4 b.known (end.2 ∙ sym ov.2 ∙ sym b.name) in
      let a_is = number_same u v a b (ou.2 ∙ sym ov.2) in
      let end_at : nth_spot r.spots at.0 ≡ Free at.0 b.number = end.1 ∙ ap (Free at.0) end_is in
      record {
        name = b.number;
        one = at.0;
        two = a.spot;
        three = b.spot;
        first = free_before at.0 a.spot at.0 end.0 a.number (place_of u) end.3 a.inside end.1 a.is;
        next = before_place a.spot b.spot a.number b.number (place_of u) (place_of v) a.inside b.inside a.is b.is first;
        inside = b.inside;
        has_one = ap counting.name_of end_at;
        has_two = ap counting.name_of a.is ∙ ap Some a_is;
        stands = b.is;
        only = λ j lt has. by_spot j a b at.0 end.3 end_at lt (spot_of_name j v b ov.1 (let l = b.inside in omega (arith, lt, l)) has);
      }
    where
      by_spot : (j : ℕ) (a : IsHeldAt r u) (b : IsHeldAt r v) (k : ℕ) → k < length r.spots → nth_spot r.spots k ≡ Free k b.number → j < b.spot →
          ((x : Term) × Occurs t body (name_of v) x × (nth_spot r.spots j ≡ Occurrence b.number (place_of x))) ⊎ (IsFreeName body (name_of v) × ((l : ℕ) × (nth_spot r.spots j ≡ Free l b.number))) → (j ≡ k) ⊎ (j ≡ a.spot)
      by_spot j a b k k_in is_k lt (inl (x, ox, is)) =
          let j_in : j < length r.spots = let l = b.inside in omega (arith, lt, l) in
          inr (same_place j a.spot b.number a.number (place_of x) (place_of u) j_in a.inside is a.is (only x (ox.0, ox.1, ox.2 ∙ ov.2) (root_before r.spots j b.spot b.number b.number (place_of x) (place_of v) up lt b.inside is b.is)))
      by_spot j a b k k_in is_k lt (inr (f_, (l, is))) = inl (one_free j k l k b.number (let l_ = b.inside in omega (arith, lt, l_)) k_in is is_k)

  to_text : (q : Place) → Miscounts q → IsMiscountedAt t body q
  to_text q (inl h) = third_text q h
  to_text q (inr h) = only_text q h

  of_text : (q : Place) → IsMiscountedAt t body q → Miscounts q
  of_text _ (IsMiscountedAt.only u o unfree lonely) = inr (of_only u o unfree lonely)
  of_text _ (IsMiscountedAt.third u v w a b c unfree first next only) = inl (of_third u v w a b c unfree first next only)
  of_text _ (IsMiscountedAt.missing f among none) = inr (of_missing f among none)
  of_text _ (IsMiscountedAt.second f u v among a b first only) = inl (of_second f u v among a b first only)

  -- the first name of the text that occurs once or too often
  pub names_least : IsLeast (IsMiscountedAt t body) (miscounted (length r.names) r.spots body.free)
  names_least = least_same Miscounts (IsMiscountedAt t body) (miscounted (length r.names) r.spots body.free) to_text of_text (miscounted_least r.spots (length r.names) body.free inside)

  -- ---- if no name is miscounted, each name occurs twice

  lonely_none : miscounted (length r.names) r.spots body.free ≡ None → (q : Place) → Miscounts q → ⊥
  lonely_none none q h = (subst (IsLeast Miscounts) none (miscounted_least r.spots (length r.names) body.free inside)) q h

  place_there : (i m : ℕ) → i < length r.spots → Has r.spots m i → (q : Place) × (place_at body.free (slice_get r.spots i) ≡ Some q)
  place_there i m lt has = by_spot (spot_named (nth_spot r.spots i) m has)
    where
      by_spot : ((p : Place) × (nth_spot r.spots i ≡ Occurrence m p)) ⊎ ((k : ℕ) × (nth_spot r.spots i ≡ Free k m)) → (q : Place) × (place_at body.free (slice_get r.spots i) ≡ Some q)
      by_spot (inl (p, is)) = (p, stands_at i m p lt is)
      by_spot (inr (k, is)) =
          let end = free_end i k m lt is in
          (end.0.name.place, ap (place_at body.free) (slice_spot i lt ∙ ap Some is) ∙ ap (option_map {T = SourceFree} {U = Place} (λ f. f.name.place)) end.1)

  third_there : (m a b c : ℕ) → a < b → b < c → c < length r.spots → Has r.spots m a → Has r.spots m b → Has r.spots m c → ((i : ℕ) → i < c → Has r.spots m i → (i ≡ a) ⊎ (i ≡ b)) → (q : Place) × IsThirdAt r.spots (length r.spots) q
  third_there m a b c less next lt e f g only = by_spot (spot_named (nth_spot r.spots c) m g) (spot_named (nth_spot r.spots a) m e)
    where
      by_spot : ((p : Place) × (nth_spot r.spots c ≡ Occurrence m p)) ⊎ ((k : ℕ) × (nth_spot r.spots c ≡ Free k m)) → ((p : Place) × (nth_spot r.spots a ≡ Occurrence m p)) ⊎ ((k : ℕ) × (nth_spot r.spots a ≡ Free k m)) → (q : Place) × IsThirdAt r.spots (length r.spots) q
      by_spot (inl (p, is)) other = (p, record { name = m; one = a; two = b; three = c; first = less; next = next; inside = lt; has_one = e; has_two = f; stands = is; only = only })
      by_spot (inr (k, is)) (inl (p, is_a)) = absurd (let x = free_before c a k m m p lt (omega (arith, less, next, lt)) is is_a in omega (arith, x, less, next))
      by_spot (inr (k, is)) (inr (l, is_a)) = absurd (let x = one_free c a k l m lt (omega (arith, less, next, lt)) is is_a in omega (arith, x, less, next))

  stands_twice : (m i : ℕ) (s : Seen) → IsStanding r.spots (length r.spots) m s → i < length r.spots → Has r.spots m i → miscounted (length r.names) r.spots body.free ≡ None → s ≡ Twice
  stands_twice m i Never h lt has none = absurd (h i lt has)
  stands_twice m i (Once a) h lt has none =
      let at = place_there a m h.0 h.1 in
      absurd (lonely_none none at.0 (inr (record { name = m; one = a; inside = h.0; has = h.1; only = h.2; stands = at.1 })))
  stands_twice m i Twice h lt has none = refl
  stands_twice m i Often (a, b, c, less, next, in_, e, f, g, only) lt has none = let third = third_there m a b c less next in_ e f g only in absurd (lonely_none none third.0 (inl third.1))

  pub all_stand_twice : miscounted (length r.names) r.spots body.free ≡ None → AreTwice r.spots (counted_from 0 r.spots (none_seen (length r.names)))
  all_stand_twice none i m lt has =
      ap (λ z. nth_seen z m) (sym (same_seen 0 r.spots (nothing_counted (length r.names))))
      ∙ stands_twice m i (nth_seen (counts_from 0 r.spots (nothing_counted (length r.names))).seen m) ((done r.spots (length r.names) body.free inside).seen m (inside i m lt has)) lt has none
