-- The wires of a text that are joined so far, as the spots of a reading lead to each other.
use Rattle.std.proofs.Common.{◌≡◌, ◌≢◌, ◌⊎◌, inl, inr, ℕ, ◌<◌, Bool, true, false, cond, nat_lt, List, ◌++◌, length, Some, refl, sym, ◌∙◌, ap, subst, arith, get_or, ltb-true}
use Rattle.in_syntax.specs.declared.places.Place.{Place}
use Rattle.in_symbols.specs.Tables.{Tables}
use Rattle.in_net.specs.declared.reading.TextSpot.{TextSpot}
use Rattle.in_net.specs.declared.reading.TextSpot.TheVariants.{Port, Free, End, Occurrence}
use Rattle.in_net.specs.declared.joining.Joining.{Joining}
use Rattle.in_net.specs.declared.counting.Seen.{Seen}
use Rattle.in_net.specs.declared.counting.Seen.TheVariants.{Never, Once, Twice, Often}
use Rattle.in_net.specs.Counting as counting
use Rattle.in_net.specs.Building.{LeadToSpots, LeadBack, nth_link, nth_spot}
use Rattle.in_net.specs.Joining.{self_link, later_of}
use Rattle.in_net.specs.TextNet as text
use Rattle.in_net.specs.TextNet.{Body, Kind, placed, of_name, NameJoint, IsOccurrence, Chain, IsLastOf, IsClosedWireOf, name_of, place_of}
use Rattle.in_net.proofs.Wiring.Sound.{named}
use Rattle.in_net.proofs.Texts.Read.{IsNamed}
use Rattle.in_net.proofs.Refusals.Standing.{IsStanding}
use Rattle.in_net.proofs.Wiring.Chains.{through, to_name, later_last, later_first}

abbrev pub nth_seen : List Seen → ℕ → Seen
nth_seen seen m = get_or seen m Never

-- both spots of the name were met
abbrev pub IsMet : Seen → Type 0
IsMet Never = ⊥
IsMet (Once a) = ⊥
IsMet Twice = Unit {0}
IsMet Often = Unit {0}

abbrev pub kind_of : TextSpot → Kind
kind_of (Port a i p) = placed
kind_of (Free k m) = of_name
kind_of (End k) = placed
kind_of (Occurrence m p) = placed

-- a spot is an end of the joints so far: a port, a boundary end, a free end whose name was met, or an occurrence whose name wasn't
abbrev pub IsOpen : List Seen → TextSpot → Type 0
IsOpen seen (Port a i p) = Unit {0}
IsOpen seen (Free k m) = IsMet (nth_seen seen m)
IsOpen seen (End k) = Unit {0}
IsOpen seen (Occurrence m p) = IsMet (nth_seen seen m) → ⊥

-- a chain of the text leads from one to the other, and is at that place
pub record IsWay (t : Tables) (b : Body) (s u : TextSpot) (place : Place) : Type 0 where
  pub places : List Place
  pub chain : Chain t b (kind_of s) (kind_of u) (named s) (named u) places
  pub last : IsLastOf place places

-- the joints before a spot
pub record IsJoiningAt (t : Tables) (b : Body) (spots : List TextSpot) (names at : ℕ) (j : Joining) : Type 0 where
  pub size : length j.links ≡ length spots
  pub count : length j.seen ≡ names
  pub inside : LeadToSpots spots j.links
  pub back : LeadBack spots j.links
  pub apart : (i : ℕ) → i < length spots → IsOpen j.seen (nth_spot spots i) → (nth_link j.links i).to ≢ i
  pub way : (i : ℕ) → i < length spots → IsOpen j.seen (nth_spot spots i) → IsWay t b (nth_spot spots i) (nth_spot spots (nth_link j.links i).to) (nth_link j.links i).place
  pub used : (i m : ℕ) (p : Place) → i < length spots → nth_spot spots i ≡ Occurrence m p → IsMet (nth_seen j.seen m) → (nth_link j.links i).to ≡ i
  pub fresh : (i k m : ℕ) → i < length spots → nth_spot spots i ≡ Free k m → (IsMet (nth_seen j.seen m) → ⊥) → nth_link j.links i ≡ self_link i
  pub seen : (m : ℕ) → m < names → IsStanding spots at m (nth_seen j.seen m)
  pub closed : (p : Place) → j.closed ≡ Some p → IsClosedWireOf t b p

-- a spot with a name is an occurrence or a free end
pub spot_named : (s : TextSpot) (m : ℕ) → counting.name_of s ≡ Some m → ((p : Place) × (s ≡ Occurrence m p)) ⊎ ((k : ℕ) × (s ≡ Free k m))
spot_named (Port a i p) m e = cc
spot_named (End k) m e = cc
spot_named (Free k n) m e = inr (k, (let same : n ≡ m = cc in ap (λ n. Free k n) same))
spot_named (Occurrence n p) m e = inl (p, (let same : n ≡ m = cc in ap (λ n. Occurrence n p) same))

pub no_place_before : (p q : Place) → p.from ≡ 0 → later_of p q ≡ q
no_place_before p q zero_on = by_test (nat_lt q.from p.from) refl
  where
    by_test : (c : Bool) → nat_lt q.from p.from ≡ c → cond c p q ≡ q
    by_test true is = absurd (omega (arith, ltb-true q.from p.from is, zero_on))
    by_test false is = refl

-- two occurrences of one name, at different places
pub name_joint : (t : Tables) (b : Body) (names : List (List ℕ)) (m : ℕ) (p q : Place) → IsNamed t b names (Occurrence m p) → IsNamed t b names (Occurrence m q) → p ≢ q → NameJoint t b (text.occurrence p) (text.occurrence q)
name_joint t b names m p q h k differ =
    let apart : place_of h.term ≢ place_of k.term = λ e. differ (sym h.place ∙ e ∙ k.place) in
    subst (λ x. NameJoint t b (text.occurrence x) (text.occurrence q)) h.place
    (subst (λ y. NameJoint t b (text.occurrence (place_of h.term)) (text.occurrence y)) k.place (NameJoint.of_variable h.term k.term h.there k.there h.variable (sym h.name ∙ k.name) apart))

pub free_joint : (t : Tables) (b : Body) (names : List (List ℕ)) (j m : ℕ) (q : Place) → IsNamed t b names (Free j m) → IsNamed t b names (Occurrence m q) → NameJoint t b (text.free_end j) (text.occurrence q)
free_joint t b names j m q h k =
    subst (λ y. NameJoint t b (text.free_end j) (text.occurrence y)) k.place (NameJoint.of_free j h.end k.term h.declared k.there k.variable (sym k.name ∙ h.name))

module _ (t : Tables) (b : Body) (s u x y : TextSpot) (m : ℕ) (q : Place) (pa pb : Place) (y_is : y ≡ Occurrence m q) where
  -- x and y are the spots of the name, s and u their partners
  pub on_through : (p : Place) → x ≡ Occurrence m p → NameJoint t b (named x) (named y) → IsWay t b s x pa → IsWay t b y u pb → IsWay t b s u (later_of pa pb)
  on_through p x_is joint before after =
      let before_chain : Chain t b (kind_of s) placed (named s) (text.occurrence p) before.places = subst (λ z. Chain t b (kind_of s) (kind_of z) (named s) (named z) before.places) x_is before.chain in
      let after_chain : Chain t b placed (kind_of u) (text.occurrence q) (named u) after.places = subst (λ z. Chain t b (kind_of z) (kind_of u) (named z) (named u) after.places) y_is after.chain in
      let name : NameJoint t b (text.occurrence p) (text.occurrence q) = subst (λ z. NameJoint t b (text.occurrence p) (named z)) y_is (subst (λ z. NameJoint t b (named z) (named y)) x_is joint) in
      record {
        places = before.places ++ after.places;
        chain = through t b (kind_of s) (kind_of u) (named s) (text.occurrence p) (text.occurrence q) (named u) before.places after.places before_chain tt name tt after_chain;
        last = later_last pa pb before.places after.places before.last after.last;
      }

  pub back_through : (p : Place) → x ≡ Occurrence m p → NameJoint t b (named x) (named y) → IsWay t b x s pa → IsWay t b u y pb → IsWay t b u s (later_of pa pb)
  back_through p x_is joint after before =
      let before_chain : Chain t b (kind_of u) placed (named u) (text.occurrence q) before.places = subst (λ z. Chain t b (kind_of u) (kind_of z) (named u) (named z) before.places) y_is before.chain in
      let after_chain : Chain t b placed (kind_of s) (text.occurrence p) (named s) after.places = subst (λ z. Chain t b (kind_of z) (kind_of s) (named z) (named s) after.places) x_is after.chain in
      let name : NameJoint t b (text.occurrence q) (text.occurrence p) =
      NameJoint.turned_name (text.occurrence p) (text.occurrence q) (subst (λ z. NameJoint t b (text.occurrence p) (named z)) y_is (subst (λ z. NameJoint t b (named z) (named y)) x_is joint)) in
      record {
        places = before.places ++ after.places;
        chain = through t b (kind_of u) (kind_of s) (named u) (text.occurrence q) (text.occurrence p) (named s) before.places after.places before_chain tt name tt after_chain;
        last = later_first pa pb after.places before.places after.last before.last;
      }

  -- from a free end, and to one
  pub from_free : (k : ℕ) → x ≡ Free k m → NameJoint t b (named x) (named y) → pa.from ≡ 0 → IsWay t b y u pb → IsWay t b x u (later_of pa pb)
  from_free k x_is joint none after =
      let after_chain : Chain t b placed (kind_of u) (text.occurrence q) (named u) after.places = subst (λ z. Chain t b (kind_of z) (kind_of u) (named z) (named u) after.places) y_is after.chain in
      let name : NameJoint t b (text.free_end k) (text.occurrence q) = subst (λ z. NameJoint t b (text.free_end k) (named z)) y_is (subst (λ z. NameJoint t b (named z) (named y)) x_is joint) in
      record {
        places = after.places;
        chain = subst (λ z. Chain t b (kind_of z) (kind_of u) (named z) (named u) after.places) (sym x_is) (Chain.then_placed (kind_of u) (text.free_end k) (text.occurrence q) (named u) after.places name tt after_chain);
        last = subst (λ p. IsLastOf p after.places) (sym (no_place_before pa pb none)) after.last;
      }

  pub to_free : (k : ℕ) → x ≡ Free k m → NameJoint t b (named x) (named y) → pa.from ≡ 0 → IsWay t b u y pb → IsWay t b u x (later_of pa pb)
  to_free k x_is joint none before =
      let before_chain : Chain t b (kind_of u) placed (named u) (text.occurrence q) before.places = subst (λ z. Chain t b (kind_of u) (kind_of z) (named u) (named z) before.places) y_is before.chain in
      let name : NameJoint t b (text.occurrence q) (text.free_end k) =
      NameJoint.turned_name (text.free_end k) (text.occurrence q) (subst (λ z. NameJoint t b (text.free_end k) (named z)) y_is (subst (λ z. NameJoint t b (named z) (named y)) x_is joint)) in
      record {
        places = before.places;
        chain = subst (λ z. Chain t b (kind_of u) (kind_of z) (named u) (named z) before.places) (sym x_is) (to_name t b (kind_of u) (named u) (text.occurrence q) (text.free_end k) before.places before_chain tt name);
        last = subst (λ p. IsLastOf p before.places) (sym (no_place_before pa pb none)) before.last;
      }

-- a way from one occurrence of a name to the other is a closed wire
pub closes : (t : Tables) (b : Body) (x y : TextSpot) (m : ℕ) (p q place : Place) → x ≡ Occurrence m p → y ≡ Occurrence m q → NameJoint t b (named x) (named y) → IsWay t b x y place → IsClosedWireOf t b place
closes t b x y m p q place x_is y_is joint way =
    let chain : Chain t b placed placed (text.occurrence p) (text.occurrence q) way.places =
    subst (λ z. Chain t b placed (kind_of z) (text.occurrence p) (named z) way.places) y_is (subst (λ z. Chain t b (kind_of z) (kind_of y) (named z) (named y) way.places) x_is way.chain) in
    let name : NameJoint t b (text.occurrence q) (text.occurrence p) =
    NameJoint.turned_name (text.occurrence p) (text.occurrence q) (subst (λ z. NameJoint t b (text.occurrence p) (named z)) y_is (subst (λ z. NameJoint t b (named z) (named y)) x_is joint)) in
    record { through = text.occurrence p; occurs = tt; places = way.places; chain = to_name t b placed (text.occurrence p) (text.occurrence q) (text.occurrence p) way.places chain tt name; place = way.last }
