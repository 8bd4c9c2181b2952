-- The end of the chain from each occurrence whose name is joined: an end of the joints so far, or round a closed wire.
use Rattle.std.proofs.Common.{if◌then◌else◌, ◌≡◌, ◌≢◌, ◌⊎◌, inl, inr, ℕ, ◌<◌, ◌≤◌, Bool, true, false, nat_lt, ltb-true, ltb-false, List, ◌++◌, length, Option, Some, None, refl, sym, ◌∙◌, ap, subst, arith, set}
use Rattle.std.proofs.lemmas.List.{get_or-set_same}
use Rattle.std.proofs.lemmas.Option.{same_Some}
use Rattle.std.proofs.lemmas.Bool.{cases_eq}
use Rattle.in_syntax.specs.declared.places.Place.{Place}
use Rattle.in_syntax.specs.Refusals.{earlier}
use Rattle.in_symbols.specs.Tables.{Tables}
use Rattle.in_net.specs.declared.reading.TextSpot.{TextSpot}
use Rattle.in_net.specs.declared.reading.TextSpot.TheVariants.{Port, Free, End, Occurrence}
use Rattle.in_net.specs.declared.joining.Link.{Link}
use Rattle.in_net.specs.declared.joining.Joining.{Joining}
use Rattle.in_net.specs.declared.counting.Seen.{Seen}
use Rattle.in_net.specs.declared.counting.Seen.TheVariants.{Never, Once, Twice, Often}
use Rattle.in_net.specs.Counting as counting
use Rattle.in_net.specs.Building.{nth_link, nth_spot}
use Rattle.in_net.specs.Joining.{merged, met, joins_named, joins}
use Rattle.in_net.specs.TextNet as text
use Rattle.in_net.specs.TextNet.{Body, Kind, placed, of_name, NameJoint, IsOccurrence, Chain, IsLastOf}
use Rattle.in_net.proofs.Wiring.Chains.{through, to_name}
use Rattle.in_net.proofs.Wiring.Joins.{length-merged}
use Rattle.in_net.proofs.Wiring.Sound.{named}
use Rattle.in_net.proofs.Wiring.Merged.{IsClosed, IsOpened, merges}
use Rattle.in_net.proofs.Wiring.Ways.{nth_seen, IsMet, kind_of, IsOpen, IsWay, IsJoiningAt, spot_named}
use Rattle.in_net.proofs.Wiring.Naming as naming
use Rattle.in_net.proofs.Wiring.Naming.{AreOfText, IsLast, IsSecond, seen_other, met_back, met_on}

-- a closed wire goes through the spot, and the first known one is no later
pub record IsRound (t : Tables) (b : Body) (closed : Option Place) (s : text.TextSpot) : Type 0 where
  pub places : List Place
  pub loop : Chain t b of_name placed s s places
  pub last : Place
  pub last_is : IsLastOf last places
  pub found : Place
  pub closed_is : closed ≡ Some found
  pub no_later : found.from ≤ last.from

-- a chain that begins with a joint of a place leads to an end, or to a spot on a closed wire
pub record IsOut (t : Tables) (b : Body) (spots : List TextSpot) (seen : List Seen) (closed : Option Place) (s : text.TextSpot) : Type 0 where
  pub spot : ℕ
  pub inside : spot < length spots
  pub places : List Place
  pub chain : Chain t b placed (kind_of (nth_spot spots spot)) s (named (nth_spot spots spot)) places
  pub end : IsOpen seen (nth_spot spots spot) ⊎ IsRound t b closed (named (nth_spot spots spot))

abbrev pub AreOut : Tables → Body → List TextSpot → List Seen → Option Place → Type 0
AreOut t b spots seen closed = (i n : ℕ) (x : Place) → i < length spots → nth_spot spots i ≡ Occurrence n x → IsMet (nth_seen seen n) → IsOut t b spots seen closed (named (nth_spot spots i))

-- ---- the earlier of two places

-- a place is found, and is no later
pub record IsFoundBy (c : Option Place) (p : Place) : Type 0 where
  pub found : Place
  pub is : c ≡ Some found
  pub no_later : found.from ≤ p.from

-- the earlier of two is no later than either
earlier_of : (q r : Place) → (x : Place) × (earlier (Some q) (Some r) ≡ Some x) × (x.from ≤ q.from) × (x.from ≤ r.from)
earlier_of q r = by_test (nat_lt r.from q.from) refl
  where
    by_test : (b : Bool) → nat_lt r.from q.from ≡ b → (x : Place) × ((if b then Some r else Some q) ≡ Some x) × (x.from ≤ q.from) × (x.from ≤ r.from)
    by_test true is = (r, refl, let less = ltb-true r.from q.from is in omega (arith, less), omega arith)
    by_test false is = (q, refl, omega arith, ltb-false r.from q.from is)

earlier_left : (c d : Option Place) (p : Place) → c ≡ Some p → IsFoundBy (earlier c d) p
earlier_left None d p e = cc
earlier_left (Some q) None p e = record { found = p; is = e; no_later = omega arith }
earlier_left (Some q) (Some r) p e = let first = earlier_of q r in record { found = first.0; is = first.1; no_later = subst (λ (x : Place). first.0.from ≤ x.from) (same_Some q p e) first.2 }

earlier_right : (c d : Option Place) (p : Place) → d ≡ Some p → IsFoundBy (earlier c d) p
earlier_right None d p e = record { found = p; is = e; no_later = omega arith }
earlier_right (Some q) None p e = cc
earlier_right (Some q) (Some r) p e = let first = earlier_of q r in record { found = first.0; is = first.1; no_later = subst (λ (x : Place). first.0.from ≤ x.from) (same_Some r p e) first.3 }

round_on : (t : Tables) (b : Body) (c d : Option Place) (s : text.TextSpot) → IsRound t b c s → IsRound t b (earlier c d) s
round_on t b c d s h =
    let early = earlier_left c d h.found h.closed_is in
    record { places = h.places; loop = h.loop; last = h.last; last_is = h.last_is; found = early.found; closed_is = early.is; no_later = let le = early.no_later in omega (arith, h.no_later, le) }

-- ---- chains that are made longer

record IsHeld (x : TextSpot) : Type 0 where
  pub kind : kind_of x ≡ placed
  pub occurs : IsOccurrence (named x)

held : (x : TextSpot) (m : ℕ) (p : Place) → x ≡ Occurrence m p → IsHeld x
held x m p e = record { kind = ap kind_of e; occurs = subst (λ s. IsOccurrence (named s)) (sym e) tt }

module _ (t : Tables) (b : Body) where
  begin : (x u : TextSpot) (place : Place) → IsHeld x → (w : IsWay t b x u place) → Chain t b placed (kind_of u) (named x) (named u) w.places
  begin x u place h w = subst (λ k. Chain t b k (kind_of u) (named x) (named u) w.places) h.kind w.chain

  -- on by the name from x to y, and by the way from there
  onward : (s : text.TextSpot) (x y u : TextSpot) (place : Place) (ps : List Place) → IsHeld x → IsHeld y → NameJoint t b (named x) (named y) → Chain t b placed (kind_of x) s (named x) ps → (w : IsWay t b y u place) →
      Chain t b placed (kind_of u) s (named u) (ps ++ w.places)
  onward s x y u place ps h k joint chain w =
      through t b placed (kind_of u) s (named x) (named y) (named u) ps w.places (subst (λ z. Chain t b placed z s (named x) ps) h.kind chain) h.occurs joint k.occurs (begin y u place k w)

  -- to a free end
  to_end : (s : text.TextSpot) (x y : TextSpot) (ps : List Place) → IsHeld x → kind_of y ≡ of_name → NameJoint t b (named x) (named y) → Chain t b placed (kind_of x) s (named x) ps → Chain t b placed (kind_of y) s (named y) ps
  to_end s x y ps h kind joint chain =
      subst (λ z. Chain t b placed z s (named y) ps) (sym kind) (to_name t b placed s (named x) (named y) ps (subst (λ z. Chain t b placed z s (named x) ps) h.kind chain) h.occurs joint)

  -- round a closed wire
  round_of : (c d : Option Place) (x y : TextSpot) (place : Place) → IsHeld x → IsHeld y → NameJoint t b (named x) (named y) → IsWay t b y x place → d ≡ Some place → IsRound t b (earlier c d) (named x)
  round_of c d x y place h k joint w is =
      let early = earlier_right c d place is in
      record {
        places = w.places;
        loop = Chain.then_placed placed (named x) (named y) (named x) w.places joint k.occurs (subst (λ z. Chain t b placed z (named y) (named x) w.places) h.kind (begin y x place k w));
        last = place;
        last_is = w.last;
        found = early.found;
        closed_is = early.is;
        no_later = early.no_later;
      }

open_on : (seen : List Seen) (m : ℕ) (x : Seen) (s : TextSpot) → counting.name_of s ≢ Some m → IsOpen seen s → IsOpen (set seen m x) s
open_on seen m x (Port a i p) other h = tt
open_on seen m x (End k) other h = tt
open_on seen m x (Free k n) other h = subst IsMet (sym (seen_other seen m n x (λ e. other (ap Some e)))) h
open_on seen m x (Occurrence n p) other h = λ met. h (subst IsMet (seen_other seen m n x (λ e. other (ap Some e))) met)

met_or_not : (s : Seen) → IsMet s ⊎ (IsMet s → ⊥)
met_or_not Never = inr (λ x. x)
met_or_not (Once a) = inr (λ x. x)
met_or_not Twice = inl tt
met_or_not Often = inl tt

-- the partner of an end is an end
linked_open : (t : Tables) (b : Body) (spots : List TextSpot) (count at : ℕ) (j : Joining) → IsJoiningAt t b spots count at j → (i : ℕ) → i < length spots → IsOpen j.seen (nth_spot spots i) → IsOpen j.seen (nth_spot spots (nth_link j.links i).to)
linked_open t b spots count at j h i lt open_ = by_spot (nth_spot spots k) refl
  where
    k : ℕ
    k = (nth_link j.links i).to

    not_self : (nth_link j.links (nth_link j.links i).to).to ≢ (nth_link j.links i).to
    not_self e = h.apart i lt open_ (sym e ∙ ap (λ (l : Link). l.to) (h.back i lt))

    by_spot : (s : TextSpot) → nth_spot spots (nth_link j.links i).to ≡ s → IsOpen j.seen s
    by_spot (Port a l p) is = tt
    by_spot (End l) is = tt
    by_spot (Occurrence n x) is = λ met. not_self (h.used (nth_link j.links i).to n x (h.inside i lt) is met)
    by_spot (Free l n) is = by_met (met_or_not (nth_seen j.seen n))
      where
        by_met : IsMet (nth_seen j.seen n) ⊎ (IsMet (nth_seen j.seen n) → ⊥) → IsMet (nth_seen j.seen n)
        by_met (inl met) = met
        by_met (inr unmet) = absurd (not_self (ap (λ (l : Link). l.to) (h.fresh (nth_link j.links i).to l n (h.inside i lt) is unmet)))

-- ---- the second spot of a name: a is the first
module _ (t : Tables) (b : Body) (names : List (List ℕ)) (spots : List TextSpot) (of : AreOfText t b names spots) (count at m a : ℕ) (j : Joining) (h : IsJoiningAt t b spots count at j)
    (at_in : at < length spots) (m_in : m < count) (name : counting.name_of (nth_spot spots at) ≡ Some m) (seen_is : nth_seen j.seen m ≡ Once a)
    (only : (i : ℕ) → at < i → i < length spots → counting.name_of (nth_spot spots i) ≢ Some m) (outs : AreOut t b spots j.seen j.closed) where
  abbrev links : List Link
  links = j.links

  abbrev seen2 : List Seen
  seen2 = set j.seen m Twice

  abbrev p : ℕ
  p = (nth_link links a).to

  abbrev q : ℕ
  q = (nth_link links at).to

  two : IsSecond t b spots j at m a
  two = naming.two t b names spots of count at m a j h at_in m_in name seen_is only

  held_at : IsHeld (nth_spot spots at)
  held_at = held (nth_spot spots at) m two.second.0 two.second.1

  joint_back : NameJoint t b (named (nth_spot spots at)) (named (nth_spot spots a))
  joint_back = NameJoint.turned_name (named (nth_spot spots a)) (named (nth_spot spots at)) two.joint

  still_open : (i : ℕ) → i < length spots → i ≢ a → i ≢ at → IsOpen j.seen (nth_spot spots i) → IsOpen seen2 (nth_spot spots i)
  still_open i lt x y open_ = open_on j.seen m Twice (nth_spot spots i) (two.is_one_of i lt x y) open_

  -- the ends of chains from the two, if they reached them or begin there
  module _ (closed : Option Place) where
    abbrev Out2 : text.TextSpot → Type 0
    Out2 s = IsOut t b spots seen2 (earlier j.closed closed) s

    abbrev LeadsOn : ℕ → Type 0
    LeadsOn k = (s : text.TextSpot) (ps : List Place) → Chain t b placed (kind_of (nth_spot spots k)) s (named (nth_spot spots k)) ps → IsOpen j.seen (nth_spot spots k) → Out2 s

    abbrev Begins : ℕ → Type 0
    Begins k = (n : ℕ) (x : Place) → nth_spot spots k ≡ Occurrence n x → Out2 (named (nth_spot spots k))

    all_out : LeadsOn a → LeadsOn at → Begins a → Begins at → AreOut t b spots seen2 (earlier j.closed closed)
    all_out on_a on_at new_a new_at i n x lt is met = by_spot (cases_eq i a) (cases_eq i at)
      where
        old_out : IsOut t b spots j.seen j.closed (named (nth_spot spots i)) → Out2 (named (nth_spot spots i))
        old_out o = by_end (cases_eq o.spot a) (cases_eq o.spot at) o.end
          where
            at_spot : (k : ℕ) → o.spot ≡ k → LeadsOn k → IsOpen j.seen (nth_spot spots o.spot) → Out2 (named (nth_spot spots i))
            at_spot k e on open_ =
                on (named (nth_spot spots i)) o.places (subst (λ k. Chain t b placed (kind_of (nth_spot spots k)) (named (nth_spot spots i)) (named (nth_spot spots k)) o.places) e o.chain)
                (subst (λ k. IsOpen j.seen (nth_spot spots k)) e open_)

            by_end : (o.spot ≡ a) ⊎ (o.spot ≢ a) → (o.spot ≡ at) ⊎ (o.spot ≢ at) → IsOpen j.seen (nth_spot spots o.spot) ⊎ IsRound t b j.closed (named (nth_spot spots o.spot)) → Out2 (named (nth_spot spots i))
            by_end e f (inr round) = record { spot = o.spot; inside = o.inside; places = o.places; chain = o.chain; end = inr (round_on t b j.closed closed (named (nth_spot spots o.spot)) round) }
            by_end (inl e) f (inl open_) = at_spot a e on_a open_
            by_end (inr e) (inl f) (inl open_) = at_spot at f on_at open_
            by_end (inr e) (inr f) (inl open_) = record { spot = o.spot; inside = o.inside; places = o.places; chain = o.chain; end = inl (still_open o.spot o.inside e f open_) }

        by_spot : (i ≡ a) ⊎ (i ≢ a) → (i ≡ at) ⊎ (i ≢ at) → Out2 (named (nth_spot spots i))
        by_spot (inl e) f = subst (λ i. Out2 (named (nth_spot spots i))) (sym e) (new_a n x (sym (ap (nth_spot spots) e) ∙ is))
        by_spot (inr e) (inl f) = subst (λ i. Out2 (named (nth_spot spots i))) (sym f) (new_at n x (sym (ap (nth_spot spots) f) ∙ is))
        by_spot (inr e) (inr f) =
            let other : n ≢ m = λ g. two.is_one_of i lt e f (ap counting.name_of is ∙ ap Some g) in
            old_out (outs i n x lt is (subst IsMet (seen_other j.seen m n Twice other) met))

  -- the wire is closed
  closed_out : (new : List Link) (closed : Option Place) → IsClosed links new a at closed → (x : Place) × (nth_spot spots a ≡ Occurrence m x) → AreOut t b spots seen2 (earlier j.closed closed)
  closed_out new closed shut first_occurs =
      all_out closed (λ s ps chain open_. stays_a s ps chain) (λ s ps chain open_. stays_at s ps chain)
      (λ n x is. stays_at (named (nth_spot spots a)) way_a.places (begin t b (nth_spot spots a) (nth_spot spots at) (nth_link links a).place held_a way_a))
      (λ n x is. stays_a (named (nth_spot spots at)) way_at.places (begin t b (nth_spot spots at) (nth_spot spots a) (nth_link links a).place held_at way_at))
    where
      held_a : IsHeld (nth_spot spots a)
      held_a = held (nth_spot spots a) m first_occurs.0 first_occurs.1

      open_a : IsOpen j.seen (nth_spot spots a)
      open_a = subst (IsOpen j.seen) (sym first_occurs.1) two.unmet

      way_a : IsWay t b (nth_spot spots a) (nth_spot spots at) (nth_link links a).place
      way_a = subst (λ k. IsWay t b (nth_spot spots a) (nth_spot spots k) (nth_link links a).place) shut.round (h.way a two.a_in open_a)

      way_at : IsWay t b (nth_spot spots at) (nth_spot spots a) (nth_link links a).place
      way_at = subst (λ (l : Link). IsWay t b (nth_spot spots at) (nth_spot spots l.to) l.place) (ap (nth_link links) (sym shut.round) ∙ h.back a two.a_in) (h.way at at_in two.open_at)

      stays_a : (s : text.TextSpot) (ps : List Place) → Chain t b placed (kind_of (nth_spot spots a)) s (named (nth_spot spots a)) ps → Out2 closed s
      stays_a s ps chain = record {
        spot = a;
        inside = two.a_in;
        places = ps;
        chain = chain;
        end = inr (round_of t b j.closed closed (nth_spot spots a) (nth_spot spots at) (nth_link links a).place held_a held_at two.joint way_at shut.place);
      }

      stays_at : (s : text.TextSpot) (ps : List Place) → Chain t b placed (kind_of (nth_spot spots at)) s (named (nth_spot spots at)) ps → Out2 closed s
      stays_at s ps chain = record {
        spot = at;
        inside = at_in;
        places = ps;
        chain = chain;
        end = inr (round_of t b j.closed closed (nth_spot spots at) (nth_spot spots a) (nth_link links a).place held_at held_a joint_back way_a shut.place);
      }

  -- the wire continues
  opened_out : (closed : Option Place) → p ≢ at → AreOut t b spots seen2 (earlier j.closed closed)
  opened_out closed on = by_first (spot_named (nth_spot spots a) m two.first.1)
    where
      way_at : IsWay t b (nth_spot spots at) (nth_spot spots q) (nth_link links at).place
      way_at = h.way at at_in two.open_at

      open_q : IsOpen seen2 (nth_spot spots q)
      open_q = still_open q (h.inside at at_in) (two.q_not_a on) (h.apart at at_in two.open_at) (linked_open t b spots count at j h at at_in two.open_at)

      to_q : (s : text.TextSpot) (ps : List Place) → Chain t b placed (kind_of (nth_spot spots q)) s (named (nth_spot spots q)) ps → Out2 closed s
      to_q s ps chain = record { spot = q; inside = h.inside at at_in; places = ps; chain = chain; end = inl open_q }

      from_at : Begins closed at
      from_at n x is = to_q (named (nth_spot spots at)) way_at.places (begin t b (nth_spot spots at) (nth_spot spots q) (nth_link links at).place held_at way_at)

      by_first : ((x : Place) × (nth_spot spots a ≡ Occurrence m x)) ⊎ ((k : ℕ) × (nth_spot spots a ≡ Free k m)) → AreOut t b spots seen2 (earlier j.closed closed)
      by_first (inl (x, e)) =
          all_out closed (λ s ps chain open_. to_q s (ps ++ way_at.places) (onward t b s (nth_spot spots a) (nth_spot spots at) (nth_spot spots q) (nth_link links at).place ps held_a held_at two.joint chain way_at))
          (λ s ps chain open_. to_p s (ps ++ way_a.places) (onward t b s (nth_spot spots at) (nth_spot spots a) (nth_spot spots p) (nth_link links a).place ps held_at held_a joint_back chain way_a))
          (λ n y is. to_p (named (nth_spot spots a)) way_a.places (begin t b (nth_spot spots a) (nth_spot spots p) (nth_link links a).place held_a way_a)) from_at
        where
          held_a : IsHeld (nth_spot spots a)
          held_a = held (nth_spot spots a) m x e

          open_a : IsOpen j.seen (nth_spot spots a)
          open_a = subst (IsOpen j.seen) (sym e) two.unmet

          way_a : IsWay t b (nth_spot spots a) (nth_spot spots p) (nth_link links a).place
          way_a = h.way a two.a_in open_a

          open_p : IsOpen seen2 (nth_spot spots p)
          open_p = still_open p (h.inside a two.a_in) (h.apart a two.a_in open_a) on (linked_open t b spots count at j h a two.a_in open_a)

          to_p : (s : text.TextSpot) (ps : List Place) → Chain t b placed (kind_of (nth_spot spots p)) s (named (nth_spot spots p)) ps → Out2 closed s
          to_p s ps chain = record { spot = p; inside = h.inside a two.a_in; places = ps; chain = chain; end = inl open_p }
      by_first (inr (k, e)) =
          all_out closed (λ s ps chain open_. absurd (two.unmet (subst (IsOpen j.seen) e open_)))
          (λ s ps chain open_. let o : Out2 closed s = record {
            spot = a;
            inside = two.a_in;
            places = ps;
            chain = to_end t b s (nth_spot spots at) (nth_spot spots a) ps held_at (ap kind_of e) joint_back chain;
            end = inl (subst (IsOpen seen2) (sym e) two.met2);
          } in o)
          (λ n y is. absurd (let wrong : Occurrence n y ≡ Free k m = sym is ∙ e in cc)) from_at

  merged_out : AreOut t b spots seen2 (earlier j.closed (merged links a at).1)
  merged_out =
      by_outcome (merges links a at (omega (arith, two.a_in, h.size)) (omega (arith, at_in, h.size)) two.differ (omega (arith, h.inside a two.a_in, h.size))
      (omega (arith, h.inside at at_in, h.size)) two.p_not_q two.q_not_a (h.apart at at_in two.open_at))
    where
      by_outcome : IsClosed links (merged links a at).0 a at (merged links a at).1 ⊎ IsOpened links (merged links a at).0 a at p q (merged links a at).1 → AreOut t b spots seen2 (earlier j.closed (merged links a at).1)
      by_outcome (inl x) =
          closed_out (merged links a at).0 (merged links a at).1 x
          (naming.first_occurs t b names spots of count at m a j h at_in m_in name seen_is only (merged links a at).0 (merged links a at).1 (length-merged links a at ∙ h.size) x)
      by_outcome (inr x) = opened_out (merged links a at).1 x.on

-- the first spot of a name, or a third one, joins nothing
counted_out : (t : Tables) (b : Body) (spots : List TextSpot) (seen seen3 : List Seen) (closed : Option Place) → ((n : ℕ) → IsMet (nth_seen seen3 n) → IsMet (nth_seen seen n)) → ((n : ℕ) → IsMet (nth_seen seen n) → IsMet (nth_seen seen3 n)) →
    AreOut t b spots seen closed → AreOut t b spots seen3 (earlier closed None)
counted_out t b spots seen seen3 closed back on outs i n x lt is met = still (outs i n x lt is (back n met))
  where
    open_still : (s : TextSpot) → IsOpen seen s → IsOpen seen3 s
    open_still (Port a l p) o = tt
    open_still (End l) o = tt
    open_still (Free l m) o = on m o
    open_still (Occurrence m p) o = λ met. o (back m met)

    still : IsOut t b spots seen closed (named (nth_spot spots i)) → IsOut t b spots seen3 (earlier closed None) (named (nth_spot spots i))
    still o = record { spot = o.spot; inside = o.inside; places = o.places; chain = o.chain; end = by_end o.end }
      where
        by_end : IsOpen seen (nth_spot spots o.spot) ⊎ IsRound t b closed (named (nth_spot spots o.spot)) → IsOpen seen3 (nth_spot spots o.spot) ⊎ IsRound t b (earlier closed None) (named (nth_spot spots o.spot))
        by_end (inl open_) = inl (open_still (nth_spot spots o.spot) open_)
        by_end (inr round) = inr (round_on t b closed None (named (nth_spot spots o.spot)) round)

module _ (t : Tables) (b : Body) (names : List (List ℕ)) (spots : List TextSpot) (of : AreOfText t b names spots) (at : ℕ) (j : Joining) (h : IsJoiningAt t b spots (length names) at j) (at_in : at < length spots) (last : IsLast spots at j.seen)
    (outs : AreOut t b spots j.seen j.closed) where
  nothing_out : (m : ℕ) (x : Seen) → counting.name_of (nth_spot spots at) ≡ Some m → (IsMet x → IsMet (nth_seen j.seen m)) → (IsMet (nth_seen j.seen m) → IsMet x) → AreOut t b spots (set j.seen m x) (earlier j.closed None)
  nothing_out m x name same still =
      let there : nth_seen (set j.seen m x) m ≡ x = get_or-set_same j.seen m x Never (omega (arith, of.numbers at m at_in name, h.count)) in
      counted_out t b spots j.seen (set j.seen m x) j.closed (met_back j.seen m x there same still) (met_on j.seen m x there same still) outs

  named_out : (m : ℕ) (s : Seen) → counting.name_of (nth_spot spots at) ≡ Some m → nth_seen j.seen m ≡ s → AreOut t b spots (set j.seen m (counting.seen_again s at)) (earlier j.closed (met j.links s at).1)
  named_out m Never name is = nothing_out m (Once at) name (λ x. absurd x) (λ x. absurd (subst IsMet is x))
  named_out m (Once a) name is = merged_out t b names spots of (length names) at m a j h at_in (of.numbers at m at_in name) name is (last m a name is) outs
  named_out m Twice name is = nothing_out m Often name (λ x. subst IsMet (sym is) tt) (λ x. tt)
  named_out m Often name is = nothing_out m Often name (λ x. subst IsMet (sym is) tt) (λ x. tt)

  step_by : (o : Option ℕ) → counting.name_of (nth_spot spots at) ≡ o → AreOut t b spots (joins_named j at o).seen (joins_named j at o).closed
  step_by None is = outs
  step_by (Some m) is = named_out m (nth_seen j.seen m) is refl

  -- the next spot is joined
  pub step_out : AreOut t b spots (joins j at (nth_spot spots at)).seen (joins j at (nth_spot spots at)).closed
  step_out = step_by (counting.name_of (nth_spot spots at)) refl
