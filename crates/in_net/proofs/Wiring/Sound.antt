-- Two spots that a reading joins have a joint in the text.
use Rattle.std.proofs.Common.{◌≡◌, ◌≢◌, ◌⊎◌, inl, inr, ℕ, ◌+◌, ◌<◌, ◌≤◌, List, ◌++◌, length, length-append, sym, ◌∙◌, ap, subst, arith}
use Rattle.std.proofs.lemmas.Bool.{cases_eq}
use Rattle.in_syntax.specs.declared.places.Place.{Place}
use Rattle.in_net.specs.declared.joining.Link.{Link}
use Rattle.in_net.specs.declared.reading.TextJoint.{TextJoint}
use Rattle.in_net.specs.declared.reading.TextSpot.{TextSpot}
use Rattle.in_net.specs.declared.reading.TextSpot.TheVariants.{Port, Free, End, Occurrence}
use Rattle.in_symbols.specs.Tables.{Tables}
use Rattle.in_net.specs.Building.{LeadToSpots, LeadBack, nth_link, nth_spot, no_spot}
use Rattle.in_net.specs.Joining.{self_link, self_links, with_link, with_joints, JointsInside}
use Rattle.in_net.specs.TextNet as text
use Rattle.in_net.specs.TextNet.{Body, PlacedJoint}
use Rattle.in_net.proofs.Wiring.Linked.{front_or_back, at_front, at_first, at_second, at_third, stays, added}

-- the spot of the text
abbrev pub named : TextSpot → text.TextSpot
named (Port a i p) = text.port_at p i
named (Free k m) = text.free_end k
named (End k) = text.free_end k
named (Occurrence m p) = text.occurrence p

abbrev pub joined : List TextSpot → List TextJoint → List Link
joined spots js = with_joints (self_links 0 (length spots)) js

-- the partner of a spot leads back, and the text joins them at that place
pub record IsLinked (t : Tables) (b : Body) (spots : List TextSpot) (links : List Link) : Type 0 where
  pub inside : LeadToSpots spots links
  pub back : LeadBack spots links
  pub sound : (i : ℕ) → i < length spots → (nth_link links i).to ≢ i → PlacedJoint t b (named (nth_spot spots i)) (named (nth_spot spots (nth_link links i).to)) (nth_link links i).place

module _ (t : Tables) (b : Body) (spots more : List TextSpot) (js : List TextJoint) (all : JointsInside (length spots) js) (linked : IsLinked t b spots (joined spots js)) where
  abbrev old : List Link
  old = joined spots js

  abbrev new : List Link
  new = joined (spots ++ more) js

  wider : length spots ≤ length (spots ++ more)
  wider = omega (arith, length-append spots more)

  behind : (j i : ℕ) → i < length (spots ++ more) → i ≡ length spots + j → nth_link new i ≡ self_link i
  behind j i lt e =
      subst (λ i. nth_link (joined (spots ++ more) js) i ≡ self_link i) (sym e) (added spots more js all j (omega (arith, lt, e, length-append spots more)))

  more_inside : (i : ℕ) → i < length (spots ++ more) → (i < length spots) ⊎ ((j : ℕ) × (i ≡ length spots + j)) → (nth_link new i).to < length (spots ++ more)
  more_inside i lt (inl front) = let here = ap (λ (l : Link). l.to) (stays spots more js all i front) in omega (arith, here, linked.inside i front, wider)
  more_inside i lt (inr (j, e)) = let here = ap (λ (l : Link). l.to) (behind j i lt e) in omega (arith, here, lt)

  more_back : (i : ℕ) → i < length (spots ++ more) → (i < length spots) ⊎ ((j : ℕ) × (i ≡ length spots + j)) → nth_link new (nth_link new i).to ≡ record { to = i; place = (nth_link new i).place }
  more_back i lt (inl front) =
      let here : nth_link (joined (spots ++ more) js) i ≡ nth_link (joined spots js) i = stays spots more js all i front in
      ap (λ (l : Link). nth_link (joined (spots ++ more) js) l.to) here
      ∙ stays spots more js all (nth_link (joined spots js) i).to (linked.inside i front)
      ∙ linked.back i front
      ∙ ap (λ (l : Link). let k : Link = record { to = i; place = l.place } in k) (sym here)
  more_back i lt (inr (j, e)) =
      let here : nth_link (joined (spots ++ more) js) i ≡ self_link i = behind j i lt e in
      ap (λ (l : Link). nth_link (joined (spots ++ more) js) l.to) here ∙ here ∙ ap (λ (l : Link). let k : Link = record { to = i; place = l.place } in k) (sym here)

  more_sound : (i : ℕ) → i < length (spots ++ more) → (i < length spots) ⊎ ((j : ℕ) × (i ≡ length spots + j)) → (nth_link new i).to ≢ i →
      PlacedJoint t b (named (nth_spot (spots ++ more) i)) (named (nth_spot (spots ++ more) (nth_link new i).to)) (nth_link new i).place
  more_sound i lt (inl front) apart =
      let here : nth_link (joined (spots ++ more) js) i ≡ nth_link (joined spots js) i = stays spots more js all i front in
      let to_apart : (nth_link (joined spots js) i).to ≢ i = λ e. apart (ap (λ (l : Link). l.to) here ∙ e) in
      let there : nth_spot (spots ++ more) (nth_link (joined spots js) i).to ≡ nth_spot spots (nth_link (joined spots js) i).to = at_front spots more (nth_link (joined spots js) i).to no_spot (linked.inside i front) in
      let P : Link → Type 0 = λ l. PlacedJoint t b (named (nth_spot (spots ++ more) i)) (named (nth_spot (spots ++ more) l.to)) l.place in
      subst P (sym here)
      (subst (λ s. PlacedJoint t b (named (nth_spot (spots ++ more) i)) (named s) (nth_link (joined spots js) i).place) (sym there)
      (subst (λ s. PlacedJoint t b (named s) (named (nth_spot spots (nth_link (joined spots js) i).to)) (nth_link (joined spots js) i).place) (sym (at_front spots more i no_spot front)) (linked.sound i front to_apart)))
  more_sound i lt (inr (j, e)) apart = absurd (apart (ap (λ (l : Link). l.to) (behind j i lt e)))

  -- spots that are added are joined to none
  pub linked_more : IsLinked t b (spots ++ more) (joined (spots ++ more) js)
  linked_more = record {
    inside = λ i lt. more_inside i lt (front_or_back (length spots) i);
    back = λ i lt. more_back i lt (front_or_back (length spots) i);
    sound = λ i lt apart. more_sound i lt (front_or_back (length spots) i) apart;
  }

module _ (t : Tables) (b : Body) (spots : List TextSpot) (links : List Link) (count : length links ≡ length spots) (linked : IsLinked t b spots links)
    (one other : ℕ) (place : Place) (a : one < length spots) (c : other < length spots) (apart : one ≢ other) (one_alone : (nth_link links one).to ≡ one) (other_alone : (nth_link links other).to ≡ other)
    (joint : PlacedJoint t b (named (nth_spot spots one)) (named (nth_spot spots other)) place) where
  abbrev then_ : List Link
  then_ = with_link links one other place

  first : nth_link then_ one ≡ record { to = other; place = place }
  first = at_first links one other place (omega (arith, a, count)) (omega (arith, c, count)) apart

  second : nth_link then_ other ≡ record { to = one; place = place }
  second = at_second links one other place (omega (arith, a, count)) (omega (arith, c, count))

  -- which of them a spot is
  data Which (i : ℕ) : Type 0 where
    is_one : i ≡ one → Which i
    is_other : i ≡ other → Which i
    is_third : i ≢ one → i ≢ other → Which i

  which : (i : ℕ) → Which i
  which i = go (cases_eq i one) (cases_eq i other)
    where
      go : (i ≡ one) ⊎ (i ≢ one) → (i ≡ other) ⊎ (i ≢ other) → Which i
      go (inl e) f = is_one e
      go (inr e) (inl f) = is_other f
      go (inr e) (inr f) = is_third e f

  -- the partner of a third spot isn't one of the two
  not_to : (k i : ℕ) → i < length spots → (nth_link links k).to ≡ k → i ≢ k → (nth_link links i).to ≢ k
  not_to k i lt alone differs e =
      differs (sym (ap (λ (l : Link). l.to) (sym (ap (λ j. nth_link links j) e) ∙ linked.back i lt)) ∙ alone)

  third : (i : ℕ) → i ≢ one → i ≢ other → nth_link then_ i ≡ nth_link links i
  third i x y = at_third links one other place i x y

  link_inside : (i : ℕ) → i < length spots → Which i → (nth_link then_ i).to < length spots
  link_inside i lt (is_one e) = subst (λ k. (nth_link (with_link links one other place) k).to < length spots) (sym e) (let here = ap (λ (l : Link). l.to) first in omega (arith, here, c))
  link_inside i lt (is_other e) = subst (λ k. (nth_link (with_link links one other place) k).to < length spots) (sym e) (let here = ap (λ (l : Link). l.to) second in omega (arith, here, a))
  link_inside i lt (is_third x y) = let here = ap (λ (l : Link). l.to) (third i x y) in omega (arith, here, linked.inside i lt)

  abbrev Leads : ℕ → Type 0
  Leads i = nth_link (with_link links one other place) (nth_link (with_link links one other place) i).to ≡ record { to = i; place = (nth_link (with_link links one other place) i).place }

  link_back : (i : ℕ) → i < length spots → Which i → Leads i
  link_back i lt (is_one e) =
      subst Leads (sym e) (ap (λ (l : Link). nth_link (with_link links one other place) l.to) first ∙ second ∙ ap (λ (l : Link). let k : Link = record { to = one; place = l.place } in k) (sym first))
  link_back i lt (is_other e) =
      subst Leads (sym e) (ap (λ (l : Link). nth_link (with_link links one other place) l.to) second ∙ first ∙ ap (λ (l : Link). let k : Link = record { to = other; place = l.place } in k) (sym second))
  link_back i lt (is_third x y) =
      ap (λ (l : Link). nth_link (with_link links one other place) l.to) (third i x y)
      ∙ third (nth_link links i).to (not_to one i lt one_alone x) (not_to other i lt other_alone y)
      ∙ linked.back i lt
      ∙ ap (λ (l : Link). let k : Link = record { to = i; place = l.place } in k) (sym (third i x y))

  abbrev Stands : ℕ → Link → Type 0
  Stands i l = PlacedJoint t b (named (nth_spot spots i)) (named (nth_spot spots l.to)) l.place

  link_sound : (i : ℕ) → i < length spots → Which i → (nth_link then_ i).to ≢ i → Stands i (nth_link then_ i)
  link_sound i lt (is_one e) differs = subst (λ k. Stands k (nth_link (with_link links one other place) k)) (sym e) (subst (Stands one) (sym first) joint)
  link_sound i lt (is_other e) differs =
      subst (λ k. Stands k (nth_link (with_link links one other place) k)) (sym e) (subst (Stands other) (sym second) (PlacedJoint.turned (named (nth_spot spots one)) (named (nth_spot spots other)) place joint))
  link_sound i lt (is_third x y) differs =
      let here = third i x y in
      subst (Stands i) (sym here) (linked.sound i lt (λ e. differs (ap (λ (l : Link). l.to) here ∙ e)))

  -- two spots that were joined to none are joined
  pub linked_joint : IsLinked t b spots (with_link links one other place)
  linked_joint = record {
    inside = λ i lt. link_inside i lt (which i);
    back = λ i lt. link_back i lt (which i);
    sound = λ i lt differs. link_sound i lt (which i) differs;
  }
