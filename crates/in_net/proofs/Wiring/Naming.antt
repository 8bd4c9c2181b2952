-- One spot more is joined at its name.
use Rattle.std.proofs.Common.{if◌then◌else◌, ◌≡◌, ◌≢◌, ◌⊎◌, inl, inr, ℕ, ◌+◌, ◌<◌, ◌≤◌, Bool, true, false, nat_lt, List, length, Option, Some, None, refl, sym, ◌∙◌, ap, subst, arith, set}
use Rattle.std.proofs.lemmas.List.{length-set, get_or-set_same, get_or-set_other}
use Rattle.std.proofs.lemmas.Option.{none-some, same_Some}
use Rattle.std.proofs.lemmas.Bool.{cases_eq, cases_lt}
use Rattle.in_syntax.specs.declared.places.Place.{Place}
use Rattle.in_syntax.specs.Refusals.{earlier}
use Rattle.in_symbols.specs.Tables.{Tables}
use Rattle.in_net.specs.declared.reading.TextSpot.{TextSpot}
use Rattle.in_net.specs.declared.reading.TextSpot.TheVariants.{Port, Free, End, Occurrence}
use Rattle.in_net.specs.declared.joining.Link.{Link}
use Rattle.in_net.specs.declared.joining.Joining.{Joining}
use Rattle.in_net.specs.declared.counting.Seen.{Seen}
use Rattle.in_net.specs.declared.counting.Seen.TheVariants.{Never, Once, Twice, Often}
use Rattle.in_net.specs.Counting as counting
use Rattle.in_net.specs.Building.{nth_link, nth_spot}
use Rattle.in_net.specs.Joining.{self_link, later_of, merged, met, joins_named, joins}
use Rattle.in_net.specs.TextNet.{Body, NameJoint, IsClosedWireOf}
use Rattle.in_net.proofs.Wiring.Sound.{named}
use Rattle.in_net.proofs.Texts.Read.{IsNamed}
use Rattle.in_net.proofs.Wiring.Joins.{length-merged}
use Rattle.in_net.proofs.Wiring.Merged.{IsClosed, IsOpened, merges}
use Rattle.in_net.proofs.Refusals.Standing.{IsStanding, standing_on, standing_more}
use Rattle.in_net.proofs.Wiring.Ways.{nth_seen, IsMet, IsOpen, IsWay, IsJoiningAt, spot_named, name_joint, free_joint, on_through, back_through, from_free, to_free, closes}

-- the spots are a text's: each has its name there, free ends come first and have different names, occurrences different places
pub record AreOfText (t : Tables) (b : Body) (names : List (List ℕ)) (spots : List TextSpot) : Type 0 where
  pub facts : (i : ℕ) → i < length spots → IsNamed t b names (nth_spot spots i)
  pub numbers : (i m : ℕ) → i < length spots → counting.name_of (nth_spot spots i) ≡ Some m → m < length names
  pub free_first : (i j k m n : ℕ) (p : Place) → i < j → j < length spots → nth_spot spots i ≡ Occurrence n p → nth_spot spots j ≢ Free k m
  pub free_differ : (i j k l m : ℕ) → i < length spots → j < length spots → nth_spot spots i ≡ Free k m → nth_spot spots j ≡ Free l m → i ≡ j
  pub places_differ : (i j m n : ℕ) (p q : Place) → i < j → j < length spots → nth_spot spots i ≡ Occurrence m p → nth_spot spots j ≡ Occurrence n q → p ≢ q

pub seen_other : (seen : List Seen) (m n : ℕ) (x : Seen) → n ≢ m → nth_seen (set seen m x) n ≡ nth_seen seen n
seen_other seen m n x differ = get_or-set_other seen m n x Never differ

-- a spot of another name is an end as before
open_back : (seen : List Seen) (m : ℕ) (x : Seen) (s : TextSpot) → counting.name_of s ≢ Some m → IsOpen (set seen m x) s → IsOpen seen s
open_back seen m x (Port a i p) other h = tt
open_back seen m x (End k) other h = tt
open_back seen m x (Free k n) other h = subst IsMet (seen_other seen m n x (λ e. other (ap Some e))) h
open_back seen m x (Occurrence n p) other h = λ met. h (subst IsMet (sym (seen_other seen m n x (λ e. other (ap Some e)))) met)

-- the earlier of two places is one of the two
earlier_is : (c d : Option Place) (p : Place) → earlier c d ≡ Some p → (c ≡ Some p) ⊎ (d ≡ Some p)
earlier_is None d p e = inr e
earlier_is (Some q) None p e = inl e
earlier_is (Some q) (Some r) p e = by_test (nat_lt r.from q.from) e
  where
    by_test : (x : Bool) → (if x then Some r else Some q) ≡ Some p → (Some q ≡ Some p) ⊎ (Some r ≡ Some p)
    by_test true e = inr e
    by_test false e = inl e

-- if both places have a property, the earlier one has it
earlier_by : {P : Place → Type 0} (c d : Option Place) → ((x : Place) → c ≡ Some x → P x) → ((x : Place) → d ≡ Some x → P x) → (x : Place) → earlier c d ≡ Some x → P x
earlier_by c d one other x e = elim (earlier_is c d x e) [ inl f ↦ one x f | inr f ↦ other x f ]

-- at is the second spot of a name that was met once, and a the first
pub record IsSecond (t : Tables) (b : Body) (spots : List TextSpot) (j : Joining) (at m a : ℕ) : Type 0 where
  pub first : (a < at) × (counting.name_of (nth_spot spots a) ≡ Some m) × ((i : ℕ) → i < at → counting.name_of (nth_spot spots i) ≡ Some m → i ≡ a)
  pub a_in : a < length spots
  pub differ : a ≢ at
  pub second : (p : Place) × (nth_spot spots at ≡ Occurrence m p)
  pub unmet : IsMet (nth_seen j.seen m) → ⊥
  pub open_at : IsOpen j.seen (nth_spot spots at)
  pub met2 : IsMet (nth_seen (set j.seen m Twice) m)
  -- a spot of that name is one of the two
  pub is_one_of : (i : ℕ) → i < length spots → i ≢ a → i ≢ at → counting.name_of (nth_spot spots i) ≢ Some m
  pub p_not_q : (nth_link j.links a).to ≢ (nth_link j.links at).to
  pub q_not_a : (nth_link j.links a).to ≢ at → (nth_link j.links at).to ≢ a
  pub joint : NameJoint t b (named (nth_spot spots a)) (named (nth_spot spots at))

module _ (t : Tables) (b : Body) (names : List (List ℕ)) (spots : List TextSpot) (of : AreOfText t b names spots) (count at m a : ℕ) (j : Joining) (h : IsJoiningAt t b spots count at j)
    (at_in : at < length spots) (m_in : m < count) (name : counting.name_of (nth_spot spots at) ≡ Some m) (seen_is : nth_seen j.seen m ≡ Once a)
    (only : (i : ℕ) → at < i → i < length spots → counting.name_of (nth_spot spots i) ≢ Some m) where
  abbrev pub links : List Link
  links = j.links

  abbrev pub seen2 : List Seen
  seen2 = set j.seen m Twice

  -- the second one is an occurrence
  second_by : a < at → a < length spots → ((p : Place) × (nth_spot spots at ≡ Occurrence m p)) ⊎ ((k : ℕ) × (nth_spot spots at ≡ Free k m)) →
      ((p : Place) × (nth_spot spots a ≡ Occurrence m p)) ⊎ ((k : ℕ) × (nth_spot spots a ≡ Free k m)) → (p : Place) × (nth_spot spots at ≡ Occurrence m p)
  second_by less a_in (inl x) y = x
  second_by less a_in (inr (k, e)) (inl (p, f)) = absurd (of.free_first a at k m m p less at_in f e)
  second_by less a_in (inr (k, e)) (inr (l, f)) = let same = of.free_differ a at l k m a_in at_in f e in absurd (omega (arith, less, same))

  one_by : ((i : ℕ) → i < at → counting.name_of (nth_spot spots i) ≡ Some m → i ≡ a) → (i : ℕ) → i < length spots → i ≢ a → i ≢ at → counting.name_of (nth_spot spots i) ≡ Some m → (i < at) ⊎ (at ≤ i) → (at < i) ⊎ (i ≤ at) → ⊥
  one_by first i lt x y e (inl z) w = x (first i z e)
  one_by first i lt x y e (inr z) (inl w) = only i w lt e
  one_by first i lt x y e (inr z) (inr w) = y (omega (arith, z, w))

  joint_by : a < at → a < length spots → (q : Place) → nth_spot spots at ≡ Occurrence m q → ((p : Place) × (nth_spot spots a ≡ Occurrence m p)) ⊎ ((k : ℕ) × (nth_spot spots a ≡ Free k m)) →
      NameJoint t b (named (nth_spot spots a)) (named (nth_spot spots at))
  joint_by less a_in q second (inl (x, e)) =
      subst (λ s. NameJoint t b (named s) (named (nth_spot spots at))) (sym e)
      (subst (λ s. NameJoint t b (named (Occurrence m x)) (named s)) (sym second)
      (name_joint t b names m x q (subst (IsNamed t b names) e (of.facts a a_in)) (subst (IsNamed t b names) second (of.facts at at_in)) (of.places_differ a at m m x q less at_in e second)))
  joint_by less a_in q second (inr (k, e)) =
      subst (λ s. NameJoint t b (named s) (named (nth_spot spots at))) (sym e)
      (subst (λ s. NameJoint t b (named (Free k m)) (named s)) (sym second)
      (free_joint t b names k m q (subst (IsNamed t b names) e (of.facts a a_in)) (subst (IsNamed t b names) second (of.facts at at_in))))

  to_of : (i : ℕ) → i < length spots → (nth_link links (nth_link links i).to).to ≡ i
  to_of i lt = ap (λ (l : Link). l.to) (h.back i lt)

  pub two : IsSecond t b spots j at m a
  two =
      let first = subst (IsStanding spots at m) seen_is (h.seen m m_in) in
      let less = first.0 in
      let a_in : a < length spots = omega (arith, less, at_in) in
      let differ : a ≢ at = λ e. absurd (omega (arith, e, less)) in
      let second = second_by less a_in (spot_named (nth_spot spots at) m name) (spot_named (nth_spot spots a) m first.1) in
      let unmet : IsMet (nth_seen j.seen m) → ⊥ = λ x. subst IsMet seen_is x in
      record {
        first = first;
        a_in = a_in;
        differ = differ;
        second = second;
        unmet = unmet;
        open_at = subst (IsOpen j.seen) (sym second.1) unmet;
        met2 = subst IsMet (sym (get_or-set_same j.seen m Twice Never (omega (arith, m_in, h.count)))) tt;
        is_one_of = λ i lt x y e. one_by first.2 i lt x y e (cases_lt i at) (cases_lt at i);
        p_not_q = λ e. differ (sym (to_of a a_in) ∙ ap (λ k. (nth_link links k).to) e ∙ to_of at at_in);
        q_not_a = λ x e. x (sym (ap (λ k. (nth_link links k).to) e) ∙ to_of at at_in);
        joint = joint_by less a_in second.0 second.1 (spot_named (nth_spot spots a) m first.1);
      }

  abbrev pub p : ℕ
  p = (nth_link links a).to

  abbrev pub q : ℕ
  q = (nth_link links at).to

  not_open2 : (i : ℕ) (p : Place) → nth_spot spots i ≡ Occurrence m p → IsOpen seen2 (nth_spot spots i) → ⊥
  not_open2 i p e x = subst (IsOpen seen2) e x two.met2

  q_not_at : q ≢ at
  q_not_at = h.apart at at_in two.open_at

  seen_then : (n : ℕ) → n < count → (n ≡ m) ⊎ (n ≢ m) → IsStanding spots (at + 1) n (nth_seen seen2 n)
  seen_then n lt (inl e) =
      subst (λ n. IsStanding spots (at + 1) n (nth_seen seen2 n)) (sym e)
      (subst (IsStanding spots (at + 1) m) (sym (get_or-set_same j.seen m Twice Never (omega (arith, m_in, h.count))))
      (standing_more spots at m (Once a) name (subst (IsStanding spots at m) seen_is (h.seen m m_in))))
  seen_then n lt (inr e) = subst (IsStanding spots (at + 1) n) (sym (seen_other j.seen m n Twice e)) (standing_on spots at n (nth_seen j.seen n) (λ here. e (same_Some n m (sym here ∙ name))) (h.seen n lt))

  way_here : (i : ℕ) → i < length spots → IsOpen j.seen (nth_spot spots i) → IsWay t b (nth_spot spots i) (nth_spot spots (nth_link links i).to) (nth_link links i).place
  way_here i lt open_ = h.way i lt open_

  abbrev Open2 : ℕ → Type 0
  Open2 i = IsOpen seen2 (nth_spot spots i)

  abbrev Back : List Link → ℕ → Type 0
  Back new i = nth_link new (nth_link new i).to ≡ record { to = i; place = (nth_link new i).place }

  self_back : (new : List Link) (i : ℕ) → (nth_link new i).to ≡ i → Back new i
  self_back new i e = ap (nth_link new) e ∙ ap (λ k. let l : Link = record { to = k; place = (nth_link new i).place } in l) e

  -- the two are joined to nothing now, and a spot that was joined to nothing before is unchanged, apart from the two
  module _ (new : List Link) (one : (n : ℕ) (x : Place) → nth_spot spots a ≡ Occurrence n x → (nth_link new a).to ≡ a) (other : (nth_link new at).to ≡ at)
      (rest : (i : ℕ) → i < length spots → i ≢ a → i ≢ at → (nth_link links i).to ≡ i → nth_link new i ≡ nth_link links i) where
    used_by : (i n : ℕ) (x : Place) → i < length spots → nth_spot spots i ≡ Occurrence n x → IsMet (nth_seen seen2 n) → (i ≡ a) ⊎ (i ≢ a) → (i ≡ at) ⊎ (i ≢ at) → (nth_link new i).to ≡ i
    used_by i n x lt is met (inl e) y = ap (λ k. (nth_link new k).to) e ∙ one n x (sym (ap (nth_spot spots) e) ∙ is) ∙ sym e
    used_by i n x lt is met (inr e) (inl f) = ap (λ k. (nth_link new k).to) f ∙ other ∙ sym f
    used_by i n x lt is met (inr e) (inr f) =
        let another : n ≢ m = λ g. two.is_one_of i lt e f (ap counting.name_of is ∙ ap Some g) in
        let self = h.used i n x lt is (subst IsMet (seen_other j.seen m n Twice another) met) in
        ap (λ (l : Link). l.to) (rest i lt e f self) ∙ self

    fresh_by : (i k n : ℕ) → i < length spots → nth_spot spots i ≡ Free k n → (IsMet (nth_seen seen2 n) → ⊥) → (n ≡ m) ⊎ (n ≢ m) → nth_link new i ≡ self_link i
    fresh_by i k n lt is unmet_ (inl e) = absurd (unmet_ (subst (λ n. IsMet (nth_seen seen2 n)) (sym e) two.met2))
    fresh_by i k n lt is unmet_ (inr e) =
        let named_n : counting.name_of (nth_spot spots i) ≡ Some n = ap counting.name_of is in
        let not_a : i ≢ a = λ f. e (same_Some n m (sym named_n ∙ ap (λ k. counting.name_of (nth_spot spots k)) f ∙ two.first.1)) in
        let not_at : i ≢ at = λ f. e (same_Some n m (sym named_n ∙ ap (λ k. counting.name_of (nth_spot spots k)) f ∙ name)) in
        let self = h.fresh i k n lt is (λ met. unmet_ (subst IsMet (sym (seen_other j.seen m n Twice e)) met)) in
        rest i lt not_a not_at (ap (λ (l : Link). l.to) self) ∙ self

  -- ---- the wire is closed
  module _ (new : List Link) (closed : Option Place) (size : length new ≡ length spots) (shut : IsClosed links new a at closed) where
    abbrev pub after_closed : Joining
    after_closed = record { links = new; seen = seen2; closed = earlier j.closed closed }

    -- if it is closed, the first spot is an occurrence too
    pub first_occurs : (x : Place) × (nth_spot spots a ≡ Occurrence m x)
    first_occurs = by_spot (spot_named (nth_spot spots a) m two.first.1)
      where
        by_spot : ((p : Place) × (nth_spot spots a ≡ Occurrence m p)) ⊎ ((k : ℕ) × (nth_spot spots a ≡ Free k m)) → (x : Place) × (nth_spot spots a ≡ Occurrence m x)
        by_spot (inl x) = x
        by_spot (inr (k, e)) = absurd (two.differ (sym (ap (λ (l : Link). l.to) (h.fresh a k m two.a_in e two.unmet)) ∙ shut.round))

    round_back : q ≡ a
    round_back = ap (λ k. (nth_link links k).to) (sym shut.round) ∙ to_of a two.a_in

    -- the partner of another spot isn't one of the two
    to_other : (i : ℕ) → i < length spots → i ≢ a → i ≢ at → ((nth_link links i).to ≢ a) × ((nth_link links i).to ≢ at)
    to_other i lt x y =
        ((λ e. y (sym (to_of i lt) ∙ ap (λ k. (nth_link links k).to) e ∙ shut.round)), (λ e. x (sym (to_of i lt) ∙ ap (λ k. (nth_link links k).to) e ∙ round_back)))

    inside_by : (i : ℕ) → i < length spots → (i ≡ a) ⊎ (i ≢ a) → (i ≡ at) ⊎ (i ≢ at) → (nth_link new i).to < length spots
    inside_by i lt (inl e) y = subst (λ k. (nth_link new k).to < length spots) (sym e) (let s_ = shut.one in omega (arith, s_, two.a_in))
    inside_by i lt (inr e) (inl f) = subst (λ k. (nth_link new k).to < length spots) (sym f) (let s_ = shut.other in omega (arith, s_, at_in))
    inside_by i lt (inr e) (inr f) = let s_ = ap (λ (l : Link). l.to) (shut.rest i e f) in omega (arith, s_, h.inside i lt)

    back_by : (i : ℕ) → i < length spots → (i ≡ a) ⊎ (i ≢ a) → (i ≡ at) ⊎ (i ≢ at) → Back new i
    back_by i lt (inl e) y = subst (Back new) (sym e) (self_back new a shut.one)
    back_by i lt (inr e) (inl f) = subst (Back new) (sym f) (self_back new at shut.other)
    back_by i lt (inr e) (inr f) =
        let there = to_other i lt e f in
        ap (λ (l : Link). nth_link new l.to) (shut.rest i e f) ∙ shut.rest (nth_link links i).to there.0 there.1 ∙ h.back i lt
        ∙ ap (λ (l : Link). let k : Link = record { to = i; place = l.place } in k) (sym (shut.rest i e f))

    -- an end isn't one of the two
    end_other : (i : ℕ) → Open2 i → (i ≢ a) × (i ≢ at)
    end_other i open_ = ((λ e. not_open2 a first_occurs.0 first_occurs.1 (subst Open2 e open_)), (λ e. not_open2 at two.second.0 two.second.1 (subst Open2 e open_)))

    apart_then : (i : ℕ) → i < length spots → Open2 i → (nth_link new i).to ≢ i
    apart_then i lt open_ e =
        let no_ = end_other i open_ in
        h.apart i lt (open_back j.seen m Twice (nth_spot spots i) (two.is_one_of i lt no_.0 no_.1) open_) (sym (ap (λ (l : Link). l.to) (shut.rest i no_.0 no_.1)) ∙ e)

    way_then : (i : ℕ) → i < length spots → Open2 i → IsWay t b (nth_spot spots i) (nth_spot spots (nth_link new i).to) (nth_link new i).place
    way_then i lt open_ =
        let no_ = end_other i open_ in
        subst (λ (l : Link). IsWay t b (nth_spot spots i) (nth_spot spots l.to) l.place) (sym (shut.rest i no_.0 no_.1)) (h.way i lt (open_back j.seen m Twice (nth_spot spots i) (two.is_one_of i lt no_.0 no_.1) open_))

    closed_here : (x : Place) → closed ≡ Some x → IsClosedWireOf t b x
    closed_here x e =
        let place : (nth_link links a).place ≡ x = same_Some (nth_link links a).place x (sym shut.place ∙ e) in
        let open_a : IsOpen j.seen (nth_spot spots a) = subst (IsOpen j.seen) (sym first_occurs.1) two.unmet in
        let way : IsWay t b (nth_spot spots a) (nth_spot spots at) (nth_link links a).place = subst (λ k. IsWay t b (nth_spot spots a) (nth_spot spots k) (nth_link links a).place) shut.round (h.way a two.a_in open_a) in
        subst (IsClosedWireOf t b) place (closes t b (nth_spot spots a) (nth_spot spots at) m first_occurs.0 two.second.0 (nth_link links a).place first_occurs.1 two.second.1 two.joint way)

    pub closed_on : IsJoiningAt t b spots count (at + 1) after_closed
    closed_on = record {
      size = size;
      count = length-set j.seen m Twice ∙ h.count;
      inside = λ i lt. inside_by i lt (cases_eq i a) (cases_eq i at);
      back = λ i lt. back_by i lt (cases_eq i a) (cases_eq i at);
      apart = apart_then;
      way = way_then;
      used = λ i n x lt is met. used_by new (λ n x is. shut.one) shut.other (λ i lt x y self. shut.rest i x y) i n x lt is met (cases_eq i a) (cases_eq i at);
      fresh = λ i k n lt is unmet_. fresh_by new (λ n x is. shut.one) shut.other (λ i lt x y self. shut.rest i x y) i k n lt is unmet_ (cases_eq n m);
      seen = λ n lt. seen_then n lt (cases_eq n m);
      closed = earlier_by {P = IsClosedWireOf t b} j.closed closed h.closed closed_here;
    }

  -- ---- the wire continues
  module _ (new : List Link) (closed : Option Place) (size : length new ≡ length spots) (on : IsOpened links new a at p q closed) where
    abbrev pub after_opened : Joining
    after_opened = record { links = new; seen = seen2; closed = earlier j.closed closed }

    p_in : p < length spots
    p_in = h.inside a two.a_in

    q_in : q < length spots
    q_in = h.inside at at_in

    -- which of the four a spot is
    data Which4 (i : ℕ) : Type 0 where
      is_q : i ≡ q → Which4 i
      is_p : i ≡ p → Which4 i
      is_at : i ≡ at → Which4 i
      is_a : i ≡ a → a ≢ p → Which4 i
      is_else : i ≢ a → i ≢ at → i ≢ p → i ≢ q → Which4 i

    which4 : (i : ℕ) → Which4 i
    which4 i = go (cases_eq i q) (cases_eq i p) (cases_eq i at) (cases_eq i a)
      where
        go : (i ≡ q) ⊎ (i ≢ q) → (i ≡ p) ⊎ (i ≢ p) → (i ≡ at) ⊎ (i ≢ at) → (i ≡ a) ⊎ (i ≢ a) → Which4 i
        go (inl e) f g k = is_q e
        go (inr e) (inl f) g k = is_p f
        go (inr e) (inr f) (inl g) k = is_at g
        go (inr e) (inr f) (inr g) (inl k) = is_a k (λ x. f (k ∙ x))
        go (inr e) (inr f) (inr g) (inr k) = is_else k g f e

    -- the partner of another spot is another one
    to_else : (i : ℕ) → i < length spots → i ≢ a → i ≢ at → i ≢ p → i ≢ q → ((nth_link links i).to ≢ a) × ((nth_link links i).to ≢ at) × ((nth_link links i).to ≢ p) × ((nth_link links i).to ≢ q)
    to_else i lt x y z w = (
      (λ e. z (sym (to_of i lt) ∙ ap (λ k. (nth_link links k).to) e)),
      (λ e. w (sym (to_of i lt) ∙ ap (λ k. (nth_link links k).to) e)),
      (λ e. x (sym (to_of i lt) ∙ ap (λ k. (nth_link links k).to) e ∙ to_of a two.a_in)),
      (λ e. y (sym (to_of i lt) ∙ ap (λ k. (nth_link links k).to) e ∙ to_of at at_in)),
    )

    inside_4 : (i : ℕ) → i < length spots → Which4 i → (nth_link new i).to < length spots
    inside_4 i lt (is_q e) = subst (λ k. (nth_link new k).to < length spots) (sym e) (let s_ = ap (λ (l : Link). l.to) on.at_q in omega (arith, s_, p_in))
    inside_4 i lt (is_p e) = subst (λ k. (nth_link new k).to < length spots) (sym e) (let s_ = ap (λ (l : Link). l.to) on.at_p in omega (arith, s_, q_in))
    inside_4 i lt (is_at e) = subst (λ k. (nth_link new k).to < length spots) (sym e) (let s_ = on.other in omega (arith, s_, at_in))
    inside_4 i lt (is_a e x) = subst (λ k. (nth_link new k).to < length spots) (sym e) (let s_ = on.one x in omega (arith, s_, two.a_in))
    inside_4 i lt (is_else x y z w) = let s_ = ap (λ (l : Link). l.to) (on.rest i x y z w) in omega (arith, s_, h.inside i lt)

    back_4 : (i : ℕ) → i < length spots → Which4 i → Back new i
    back_4 i lt (is_q e) = subst (Back new) (sym e) (ap (λ (l : Link). nth_link new l.to) on.at_q ∙ on.at_p ∙ ap (λ (l : Link). let k : Link = record { to = q; place = l.place } in k) (sym on.at_q))
    back_4 i lt (is_p e) = subst (Back new) (sym e) (ap (λ (l : Link). nth_link new l.to) on.at_p ∙ on.at_q ∙ ap (λ (l : Link). let k : Link = record { to = p; place = l.place } in k) (sym on.at_p))
    back_4 i lt (is_at e) = subst (Back new) (sym e) (self_back new at on.other)
    back_4 i lt (is_a e x) = subst (Back new) (sym e) (self_back new a (on.one x))
    back_4 i lt (is_else x y z w) =
        let there = to_else i lt x y z w in
        ap (λ (l : Link). nth_link new l.to) (on.rest i x y z w) ∙ on.rest (nth_link links i).to there.0 there.1 there.2 there.3 ∙ h.back i lt
        ∙ ap (λ (l : Link). let k : Link = record { to = i; place = l.place } in k) (sym (on.rest i x y z w))

    -- the first spot is an occurrence, or a free end that was joined to nothing
    data First : Type 0 where
      occurs : (x : Place) → nth_spot spots a ≡ Occurrence m x → First
      is_free : (k : ℕ) → nth_spot spots a ≡ Free k m → p ≡ a → (nth_link links a).place.from ≡ 0 → First

    first_is : First
    first_is = by_spot (spot_named (nth_spot spots a) m two.first.1)
      where
        by_spot : ((p : Place) × (nth_spot spots a ≡ Occurrence m p)) ⊎ ((k : ℕ) × (nth_spot spots a ≡ Free k m)) → First
        by_spot (inl (x, e)) = occurs x e
        by_spot (inr (k, e)) =
            let self = h.fresh a k m two.a_in e two.unmet in
            is_free k e (ap (λ (l : Link). l.to) self) (ap (λ (l : Link). l.place.from) self)

    no_end_at : Open2 at → ⊥
    no_end_at open_ = not_open2 at two.second.0 two.second.1 open_

    no_end_a : a ≢ p → Open2 a → ⊥
    no_end_a x open_ = by_first first_is
      where
        by_first : First → ⊥
        by_first (occurs y e) = not_open2 a y e open_
        by_first (is_free k e f g) = x (sym f)

    old_end : (i : ℕ) → i < length spots → i ≢ a → i ≢ at → Open2 i → IsOpen j.seen (nth_spot spots i)
    old_end i lt x y open_ = open_back j.seen m Twice (nth_spot spots i) (two.is_one_of i lt x y) open_

    apart_4 : (i : ℕ) → i < length spots → Open2 i → Which4 i → (nth_link new i).to ≢ i
    apart_4 i lt open_ (is_q e) f = two.p_not_q (sym (ap (λ (l : Link). l.to) on.at_q) ∙ ap (λ k. (nth_link new k).to) (sym e) ∙ f ∙ e)
    apart_4 i lt open_ (is_p e) f = two.p_not_q (sym (sym (ap (λ (l : Link). l.to) on.at_p) ∙ ap (λ k. (nth_link new k).to) (sym e) ∙ f ∙ e))
    apart_4 i lt open_ (is_at e) f = absurd (no_end_at (subst Open2 e open_))
    apart_4 i lt open_ (is_a e x) f = absurd (no_end_a x (subst Open2 e open_))
    apart_4 i lt open_ (is_else x y z w) f = h.apart i lt (old_end i lt x y open_) (sym (ap (λ (l : Link). l.to) (on.rest i x y z w)) ∙ f)

    abbrev pa : Place
    pa = (nth_link links a).place

    abbrev pb : Place
    pb = (nth_link links at).place

    abbrev Way4 : ℕ → Link → Type 0
    Way4 i l = IsWay t b (nth_spot spots i) (nth_spot spots l.to) l.place

    way_at : IsWay t b (nth_spot spots at) (nth_spot spots q) pb
    way_at = h.way at at_in two.open_at

    -- the partner of an end is an end, apart from the two
    way_from : (i c : ℕ) → c < length spots → i ≡ (nth_link links c).to → IsOpen j.seen (nth_spot spots i) → IsWay t b (nth_spot spots i) (nth_spot spots c) (nth_link links c).place
    way_from i c lt e open_ =
        let there : nth_link links i ≡ record { to = c; place = (nth_link links c).place } = ap (nth_link links) e ∙ h.back c lt in
        subst (Way4 i) there (h.way i (subst (λ k. k < length spots) (sym e) (h.inside c lt)) open_)

    way_p : Open2 p → First → IsWay t b (nth_spot spots p) (nth_spot spots q) (later_of pa pb)
    way_p open_ (occurs x e) =
        let open_a : IsOpen j.seen (nth_spot spots a) = subst (IsOpen j.seen) (sym e) two.unmet in
        let p_not_a : p ≢ a = h.apart a two.a_in open_a in
        on_through t b (nth_spot spots p) (nth_spot spots q) (nth_spot spots a) (nth_spot spots at) m two.second.0 pa pb two.second.1 x e two.joint (way_from p a two.a_in refl (old_end p p_in p_not_a on.on open_)) way_at
    way_p open_ (is_free k e f g) =
        subst (λ i. IsWay t b (nth_spot spots i) (nth_spot spots q) (later_of pa pb)) (sym f) (from_free t b (nth_spot spots q) (nth_spot spots q) (nth_spot spots a) (nth_spot spots at) m two.second.0 pa pb two.second.1 k e two.joint g way_at)

    way_q : Open2 q → First → IsWay t b (nth_spot spots q) (nth_spot spots p) (later_of pa pb)
    way_q open_ (occurs x e) =
        let open_a : IsOpen j.seen (nth_spot spots a) = subst (IsOpen j.seen) (sym e) two.unmet in
        back_through t b (nth_spot spots p) (nth_spot spots q) (nth_spot spots a) (nth_spot spots at) m two.second.0 pa pb two.second.1 x e two.joint (h.way a two.a_in open_a) (way_from q at at_in refl (old_end q q_in (two.q_not_a on.on) q_not_at open_))
    way_q open_ (is_free k e f g) =
        subst (λ i. IsWay t b (nth_spot spots q) (nth_spot spots i) (later_of pa pb)) (sym f)
        (to_free t b (nth_spot spots q) (nth_spot spots q) (nth_spot spots a) (nth_spot spots at) m two.second.0 pa pb two.second.1 k e two.joint g (way_from q at at_in refl (old_end q q_in (two.q_not_a on.on) q_not_at open_)))

    way_4 : (i : ℕ) → i < length spots → Open2 i → Which4 i → Way4 i (nth_link new i)
    way_4 i lt open_ (is_q e) = subst (λ k. Way4 k (nth_link new k)) (sym e) (subst (Way4 q) (sym on.at_q) (way_q (subst Open2 e open_) first_is))
    way_4 i lt open_ (is_p e) = subst (λ k. Way4 k (nth_link new k)) (sym e) (subst (Way4 p) (sym on.at_p) (way_p (subst Open2 e open_) first_is))
    way_4 i lt open_ (is_at e) = absurd (no_end_at (subst Open2 e open_))
    way_4 i lt open_ (is_a e x) = absurd (no_end_a x (subst Open2 e open_))
    way_4 i lt open_ (is_else x y z w) = subst (Way4 i) (sym (on.rest i x y z w)) (h.way i lt (old_end i lt x y open_))

    -- a spot without a partner that isn't one of the two isn't one of the four
    not_joined : (i : ℕ) → i < length spots → i ≢ a → i ≢ at → (nth_link links i).to ≡ i → (i ≢ p) × (i ≢ q)
    not_joined i lt x y self = (
      (λ e. x (sym self ∙ ap (λ k. (nth_link links k).to) e ∙ to_of a two.a_in)),
      (λ e. y (sym self ∙ ap (λ k. (nth_link links k).to) e ∙ to_of at at_in)),
    )

    occurrence_alone : (n : ℕ) (x : Place) → nth_spot spots a ≡ Occurrence n x → (nth_link new a).to ≡ a
    occurrence_alone n x is = on.one (a_not_p first_is)
      where
        a_not_p : First → a ≢ p
        a_not_p (occurs z f) = λ g. h.apart a two.a_in (subst (IsOpen j.seen) (sym f) two.unmet) (sym g)
        a_not_p (is_free k f g z) = absurd (let wrong : Occurrence n x ≡ Free k m = sym is ∙ f in cc)

    still_alone : (i : ℕ) → i < length spots → i ≢ a → i ≢ at → (nth_link links i).to ≡ i → nth_link new i ≡ nth_link links i
    still_alone i lt x y self = let none = not_joined i lt x y self in on.rest i x y none.0 none.1

    pub opened_on : IsJoiningAt t b spots count (at + 1) after_opened
    opened_on = record {
      size = size;
      count = length-set j.seen m Twice ∙ h.count;
      inside = λ i lt. inside_4 i lt (which4 i);
      back = λ i lt. back_4 i lt (which4 i);
      apart = λ i lt open_. apart_4 i lt open_ (which4 i);
      way = λ i lt open_. way_4 i lt open_ (which4 i);
      used = λ i n x lt is met. used_by new occurrence_alone on.other still_alone i n x lt is met (cases_eq i a) (cases_eq i at);
      fresh = λ i k n lt is unmet_. fresh_by new occurrence_alone on.other still_alone i k n lt is unmet_ (cases_eq n m);
      seen = λ n lt. seen_then n lt (cases_eq n m);
      closed = earlier_by {P = IsClosedWireOf t b} j.closed closed h.closed (λ x e. absurd (none-some x (sym on.place ∙ e)));
    }

  -- either way
  pub merged_on : IsJoiningAt t b spots count (at + 1) (record { links = (merged links a at).0; seen = seen2; closed = earlier j.closed (merged links a at).1 })
  merged_on = by_outcome (merges links a at (omega (arith, two.a_in, h.size)) (omega (arith, at_in, h.size)) two.differ (omega (arith, h.inside a two.a_in, h.size)) (omega (arith, h.inside at at_in, h.size)) two.p_not_q two.q_not_a q_not_at)
    where
      by_outcome : IsClosed links (merged links a at).0 a at (merged links a at).1 ⊎ IsOpened links (merged links a at).0 a at p q (merged links a at).1 →
          IsJoiningAt t b spots count (at + 1) (record { links = (merged links a at).0; seen = seen2; closed = earlier j.closed (merged links a at).1 })
      by_outcome (inl x) = closed_on (merged links a at).0 (merged links a at).1 (length-merged links a at ∙ h.size) x
      by_outcome (inr x) = opened_on (merged links a at).0 (merged links a at).1 (length-merged links a at ∙ h.size) x

-- a name's state that replaces another, if both are met or neither is
module _ (seen : List Seen) (m : ℕ) (x : Seen) (there : nth_seen (set seen m x) m ≡ x) (same : IsMet x → IsMet (nth_seen seen m)) (still : IsMet (nth_seen seen m) → IsMet x) where
  pub met_back : (n : ℕ) → IsMet (nth_seen (set seen m x) n) → IsMet (nth_seen seen n)
  met_back n = by_name (cases_eq n m)
    where
      by_name : (n ≡ m) ⊎ (n ≢ m) → IsMet (nth_seen (set seen m x) n) → IsMet (nth_seen seen n)
      by_name (inl e) met = subst (λ n. IsMet (nth_seen seen n)) (sym e) (same (subst IsMet (ap (nth_seen (set seen m x)) e ∙ there) met))
      by_name (inr e) met = subst IsMet (seen_other seen m n x e) met

  pub met_on : (n : ℕ) → IsMet (nth_seen seen n) → IsMet (nth_seen (set seen m x) n)
  met_on n = by_name (cases_eq n m)
    where
      by_name : (n ≡ m) ⊎ (n ≢ m) → IsMet (nth_seen seen n) → IsMet (nth_seen (set seen m x) n)
      by_name (inl e) met = subst IsMet (sym (ap (nth_seen (set seen m x)) e ∙ there)) (still (subst (λ n. IsMet (nth_seen seen n)) e met))
      by_name (inr e) met = subst IsMet (sym (seen_other seen m n x e)) met

-- the first spot of a name, or a third one, joins nothing
module _ (t : Tables) (b : Body) (names : List (List ℕ)) (spots : List TextSpot) (count at m : ℕ) (j : Joining) (h : IsJoiningAt t b spots count at j) (m_in : m < count) (x : Seen)
    (name : counting.name_of (nth_spot spots at) ≡ Some m) (same : IsMet x → IsMet (nth_seen j.seen m)) (still : IsMet (nth_seen j.seen m) → IsMet x) (right : IsStanding spots (at + 1) m x) where
  abbrev seen3 : List Seen
  seen3 = set j.seen m x

  there3 : nth_seen seen3 m ≡ x
  there3 = get_or-set_same j.seen m x Never (omega (arith, m_in, h.count))

  end_back : (s : TextSpot) → IsOpen seen3 s → IsOpen j.seen s
  end_back (Port a i p) o = tt
  end_back (End k) o = tt
  end_back (Free k n) o = met_back j.seen m x there3 same still n o
  end_back (Occurrence n p) o = λ met. o (met_on j.seen m x there3 same still n met)

  seen_3 : (n : ℕ) → n < count → (n ≡ m) ⊎ (n ≢ m) → IsStanding spots (at + 1) n (nth_seen seen3 n)
  seen_3 n lt (inl e) = subst (λ n. IsStanding spots (at + 1) n (nth_seen (set j.seen m x) n)) (sym e) (subst (IsStanding spots (at + 1) m) (sym there3) right)
  seen_3 n lt (inr e) = subst (IsStanding spots (at + 1) n) (sym (seen_other j.seen m n x e)) (standing_on spots at n (nth_seen j.seen n) (λ here. e (same_Some n m (sym here ∙ name))) (h.seen n lt))

  pub counted_on : IsJoiningAt t b spots count (at + 1) (record { links = j.links; seen = seen3; closed = earlier j.closed None })
  counted_on = record {
    size = h.size;
    count = length-set j.seen m x ∙ h.count;
    inside = h.inside;
    back = h.back;
    apart = λ i lt o. h.apart i lt (end_back (nth_spot spots i) o);
    way = λ i lt o. h.way i lt (end_back (nth_spot spots i) o);
    used = λ i n p lt is met. h.used i n p lt is (met_back j.seen m x there3 same still n met);
    fresh = λ i k n lt is unmet. h.fresh i k n lt is (λ met. unmet (met_on j.seen m x there3 same still n met));
    seen = λ n lt. seen_3 n lt (cases_eq n m);
    closed = earlier_by {P = IsClosedWireOf t b} j.closed None h.closed (λ x e. absurd (none-some x e));
  }

-- a spot without a name
unnamed_on : (t : Tables) (b : Body) (spots : List TextSpot) (count at : ℕ) (j : Joining) → IsJoiningAt t b spots count at j → counting.name_of (nth_spot spots at) ≡ None → IsJoiningAt t b spots count (at + 1) j
unnamed_on t b spots count at j h none = record {
  size = h.size;
  count = h.count;
  inside = h.inside;
  back = h.back;
  apart = h.apart;
  way = h.way;
  used = h.used;
  fresh = h.fresh;
  seen = λ n lt. standing_on spots at n (nth_seen j.seen n) (λ here. none-some n (sym none ∙ here)) (h.seen n lt);
  closed = h.closed;
}

-- no later spot has the name of this one, if it was met once before
abbrev pub IsLast : List TextSpot → ℕ → List Seen → Type 0
IsLast spots at seen = (m a : ℕ) → counting.name_of (nth_spot spots at) ≡ Some m → nth_seen seen m ≡ Once a → (i : ℕ) → at < i → i < length spots → counting.name_of (nth_spot spots i) ≢ Some m

module _ (t : Tables) (b : Body) (names : List (List ℕ)) (spots : List TextSpot) (of : AreOfText t b names spots) (at : ℕ) (j : Joining) (h : IsJoiningAt t b spots (length names) at j) (at_in : at < length spots) (last : IsLast spots at j.seen) where
  again : (m : ℕ) (s : Seen) → counting.name_of (nth_spot spots at) ≡ Some m → nth_seen j.seen m ≡ s → IsStanding spots (at + 1) m (counting.seen_again s at)
  again m s name is = standing_more spots at m s name (subst (IsStanding spots at m) is (h.seen m (of.numbers at m at_in name)))

  named_on : (m : ℕ) (s : Seen) → counting.name_of (nth_spot spots at) ≡ Some m → nth_seen j.seen m ≡ s →
      IsJoiningAt t b spots (length names) (at + 1) (record { links = (met j.links s at).0; seen = set j.seen m (counting.seen_again s at); closed = earlier j.closed (met j.links s at).1 })
  named_on m Never name is =
      let m_in = of.numbers at m at_in name in
      counted_on t b names spots (length names) at m j h m_in (Once at) name (λ x. absurd x) (λ x. absurd (subst IsMet is x)) (again m Never name is)
  named_on m (Once a) name is = merged_on t b names spots of (length names) at m a j h at_in (of.numbers at m at_in name) name is (last m a name is)
  named_on m Twice name is = counted_on t b names spots (length names) at m j h (of.numbers at m at_in name) Often name (λ x. subst IsMet (sym is) tt) (λ x. tt) (again m Twice name is)
  named_on m Often name is = counted_on t b names spots (length names) at m j h (of.numbers at m at_in name) Often name (λ x. subst IsMet (sym is) tt) (λ x. tt) (again m Often name is)

  step_by : (o : Option ℕ) → counting.name_of (nth_spot spots at) ≡ o → IsJoiningAt t b spots (length names) (at + 1) (joins_named j at o)
  step_by None is = unnamed_on t b spots (length names) at j h is
  step_by (Some m) is = named_on m (nth_seen j.seen m) is refl

  -- the next spot is joined
  pub step_on : IsJoiningAt t b spots (length names) (at + 1) (joins j at (nth_spot spots at))
  step_on = step_by (counting.name_of (nth_spot spots at)) refl
