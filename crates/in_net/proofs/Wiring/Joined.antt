-- When all names are joined, each point is joined to another by a wire of the text.
use Rattle.std.proofs.Common.{◌≡◌, ◌≢◌, ◌⊎◌, inl, inr, ℕ, zero, suc, ◌+◌, ◌-◌, ◌<◌, ◌≤◌, List, [], ◌∷◌, length, Option, Some, None, refl, sym, ◌∙◌, ap, subst, arith, set}
use Rattle.std.proofs.lemmas.List.{get_or-set_same, get_or-set_other}
use Rattle.std.proofs.lemmas.Bool.{cases_eq, cases_lt}
use Rattle.in_syntax.specs.declared.places.Place.{Place}
use Rattle.in_syntax.specs.Order.{Rises}
use Rattle.in_symbols.specs.Tables.{Tables}
use Rattle.in_net.specs.declared.reading.TextSpot.{TextSpot}
use Rattle.in_net.specs.declared.reading.TextSpot.TheVariants.{Port, Free, End, Occurrence}
use Rattle.in_net.specs.declared.reading.Reading.{Reading}
use Rattle.in_net.specs.declared.joining.Link.{Link}
use Rattle.in_net.specs.declared.joining.Joining.{Joining}
use Rattle.in_net.specs.declared.counting.Seen.{Seen}
use Rattle.in_net.specs.declared.counting.Seen.TheVariants.{Never, Twice, Often}
use Rattle.in_net.specs.Counting as counting
use Rattle.in_net.specs.Counting.{seen_again, none_seen, count_name, counted, counted_from}
use Rattle.in_net.specs.Building.{AreTwice, nth_link, nth_spot, IsPointSpot, IsJoined}
use Rattle.in_net.specs.Joining.{links_of, not_named, joins_named, joins, joins_from, joining_of}
use Rattle.in_net.specs.TextNet.{Body, IsClosedWireOf}
use Rattle.in_net.specs.TextNet as text
use Rattle.in_net.proofs.Wiring.Links.{all_at}
use Rattle.in_net.proofs.Wiring.Linked.{length-links_of}
use Rattle.in_net.proofs.Wiring.Joins.{length-none_seen, length-counted}
use Rattle.in_net.proofs.Wiring.Sound.{named}
use Rattle.in_net.proofs.Texts.Read.{IsNamed, name_known}
use Rattle.in_net.proofs.Texts.Known.{AreDifferent}
use Rattle.in_net.proofs.Texts.NamedSpots.{AreNamesRead}
use Rattle.in_net.proofs.Texts.NetRead.{IsNetRead}
use Rattle.in_net.proofs.Texts.Order.{root_places, root_before}
use Rattle.in_net.proofs.Refusals.Standing.{IsStanding}
use Rattle.in_net.proofs.Wiring.Ways.{nth_seen, IsMet, kind_of, IsOpen, IsWay, IsJoiningAt}
use Rattle.in_net.proofs.Wiring.Naming.{AreOfText, IsLast, step_on}

-- ---- a name that occurs twice doesn't occur a third time

often_named : (seen : List Seen) (at m : ℕ) (o : Option ℕ) → m < length seen → nth_seen seen m ≡ Often → nth_seen (count_name seen at o) m ≡ Often
often_named seen at m None lt is = is
often_named seen at m (Some n) lt is = by_same (cases_eq m n)
  where
    by_same : (m ≡ n) ⊎ (m ≢ n) → nth_seen (set seen n (seen_again (nth_seen seen n) at)) m ≡ Often
    by_same (inl e) =
        ap (nth_seen (set seen n (seen_again (nth_seen seen n) at))) e ∙ get_or-set_same seen n (seen_again (nth_seen seen n) at) Never (omega (arith, lt, e)) ∙ ap (λ s. seen_again s at) (ap (nth_seen seen) (sym e) ∙ is)
    by_same (inr e) = get_or-set_other seen n m (seen_again (nth_seen seen n) at) Never e ∙ is

often_stays : (at : ℕ) (ss : List TextSpot) (seen : List Seen) (m : ℕ) → m < length seen → nth_seen seen m ≡ Often → nth_seen (counted_from at ss seen) m ≡ Often
often_stays at [] seen m lt is = is
often_stays at (s ∷ ss) seen m lt is =
    let count = length-counted seen at s in
    often_stays (at + 1) ss (counted seen at s) m (omega (arith, lt, count)) (often_named seen at m (counting.name_of s) lt is)

-- one spot of that name, or of another
pub named_again : (seen : List Seen) (at m : ℕ) (o : Option ℕ) → m < length seen → o ≡ Some m → nth_seen (count_name seen at o) m ≡ seen_again (nth_seen seen m) at
named_again seen at m None lt e = cc
named_again seen at m (Some n) lt e =
    let same : n ≡ m = cc in
    ap (λ k. nth_seen (set seen k (seen_again (nth_seen seen k) at)) m) same ∙ get_or-set_same seen m (seen_again (nth_seen seen m) at) Never lt

once_over : (seen : List Seen) (at m : ℕ) (o : Option ℕ) → m < length seen → nth_seen seen m ≡ Twice → o ≡ Some m → nth_seen (count_name seen at o) m ≡ Often
once_over seen at m o lt is e = named_again seen at m o lt e ∙ ap (λ s. seen_again s at) is

not_over : (seen : List Seen) (at m : ℕ) (o : Option ℕ) → nth_seen seen m ≡ Twice → o ≢ Some m → nth_seen (count_name seen at o) m ≡ Twice
not_over seen at m None is e = is
not_over seen at m (Some n) is e = get_or-set_other seen n m (seen_again (nth_seen seen n) at) Never (λ f. e (ap Some (sym f))) ∙ is

pub is_named_or_not : (o : Option ℕ) (m : ℕ) → (o ≡ Some m) ⊎ (o ≢ Some m)
is_named_or_not None m = inr (λ e. cc)
is_named_or_not (Some n) m = by_same (cases_eq n m)
  where
    by_same : (n ≡ m) ⊎ (n ≢ m) → (Some n ≡ Some m) ⊎ (Some n ≢ Some m)
    by_same (inl e) = inl (ap Some e)
    by_same (inr e) = inr (λ f. e (some_is f))
      where
        some_is : Some n ≡ Some m → n ≡ m
        some_is f = cc

pub third_time : (at : ℕ) (ss : List TextSpot) (seen : List Seen) (m i : ℕ) → m < length seen → nth_seen seen m ≡ Twice → i < length ss → counting.name_of (nth_spot ss i) ≡ Some m → nth_seen (counted_from at ss seen) m ≡ Often
third_time at [] seen m i lt is in_ e = absurd (omega (arith, in_))
third_time at (s ∷ ss) seen m zero lt is in_ e =
    let count = length-counted seen at s in
    often_stays (at + 1) ss (counted seen at s) m (omega (arith, lt, count)) (once_over seen at m (counting.name_of s) lt is e)
third_time at (s ∷ ss) seen m (suc i) lt is in_ e = by_name (λ x. third_time (at + 1) ss (counted seen at s) m i (let count = length-counted seen at s in omega (arith, lt, count)) x (omega (arith, in_)) e) (is_named_or_not (counting.name_of s) m)
  where
    by_name : (nth_seen (counted seen at s) m ≡ Twice → nth_seen (counted_from (at + 1) ss (counted seen at s)) m ≡ Often) → (counting.name_of s ≡ Some m) ⊎ (counting.name_of s ≢ Some m) →
        nth_seen (counted_from (at + 1) ss (counted seen at s)) m ≡ Often
    by_name next (inl f) = let count = length-counted seen at s in often_stays (at + 1) ss (counted seen at s) m (omega (arith, lt, count)) (once_over seen at m (counting.name_of s) lt is f)
    by_name next (inr f) = next (not_over seen at m (counting.name_of s) is f)

pub length-counted_from : (at : ℕ) (ss : List TextSpot) (seen : List Seen) → length (counted_from at ss seen) ≡ length seen
length-counted_from at [] seen = refl
length-counted_from at (s ∷ ss) seen = length-counted_from (at + 1) ss (counted seen at s) ∙ length-counted seen at s

pub seen_named : (j : Joining) (at : ℕ) (o : Option ℕ) → (joins_named j at o).seen ≡ count_name j.seen at o
seen_named j at None = refl
seen_named j at (Some m) = refl

-- joining counts as counting does
pub seen_joined : (at : ℕ) (ss : List TextSpot) (j : Joining) → (joins_from at ss j).seen ≡ counted_from at ss j.seen
seen_joined at [] j = refl
seen_joined at (s ∷ ss) j = seen_joined (at + 1) ss (joins j at s) ∙ ap (counted_from (at + 1) ss) (seen_named j at (counting.name_of s))

module _ (t : Tables) (b : Body) (names : List (List ℕ)) (spots : List TextSpot) (of : AreOfText t b names spots) where
  pub last_here : (at : ℕ) (s : TextSpot) (ss : List TextSpot) (seen : List Seen) → length seen ≡ length names → at + length (s ∷ ss) ≡ length spots → ((i : ℕ) → i < length (s ∷ ss) → nth_spot (s ∷ ss) i ≡ nth_spot spots (at + i)) →
      AreTwice spots (counted_from at (s ∷ ss) seen) → IsLast spots at seen
  last_here at s ss seen size count same twice m a name once i lt in_ again =
      let zero_on : at + 0 ≡ at = omega arith in
      let here : s ≡ nth_spot spots at = same 0 (omega arith) ∙ ap (nth_spot spots) zero_on in
      let at_in : at < length spots = omega (arith, count) in
      let m_in : m < length seen = omega (arith, of.numbers at m at_in name, size) in
      let k = i - (at + 1) in
      let k_is : at + suc k ≡ i = omega (arith, lt) in
      let k_in : k < length ss = omega (arith, in_, count, lt, k_is) in
      let name_k : counting.name_of (nth_spot ss k) ≡ Some m = ap counting.name_of (same (suc k) (omega (arith, k_in)) ∙ ap (nth_spot spots) k_is) ∙ again in
      let name_s : counting.name_of s ≡ Some m = ap counting.name_of here ∙ name in
      let now : nth_seen (counted seen at s) m ≡ Twice =
      ap (λ o. nth_seen (count_name seen at o) m) name_s ∙ get_or-set_same seen m (seen_again (nth_seen seen m) at) Never m_in ∙ ap (λ x. seen_again x at) once in
      let grown = length-counted seen at s in
      let often = third_time (at + 1) ss (counted seen at s) m k (omega (arith, m_in, grown)) now k_in name_k in
      let all = twice at m at_in name in
      absurd (let wrong : Often ≡ Twice = sym often ∙ all in cc)

  -- all spots from one on
  pub all_on : (at : ℕ) (ss : List TextSpot) (j : Joining) → at + length ss ≡ length spots → ((i : ℕ) → i < length ss → nth_spot ss i ≡ nth_spot spots (at + i)) → AreTwice spots (counted_from at ss j.seen) →
      IsJoiningAt t b spots (length names) at j → IsJoiningAt t b spots (length names) (length spots) (joins_from at ss j)
  all_on at [] j count same twice h = subst (λ n. IsJoiningAt t b spots (length names) n j) (let e : at ≡ length spots = omega (arith, count) in e) h
  all_on at (s ∷ ss) j count same twice h =
      let zero_on : at + 0 ≡ at = omega arith in
      let here : s ≡ nth_spot spots at = same 0 (omega arith) ∙ ap (nth_spot spots) zero_on in
      let last = last_here at s ss j.seen h.count count same twice in
      let next : IsJoiningAt t b spots (length names) (at + 1) (joins j at s) = subst (λ s. IsJoiningAt t b spots (length names) (at + 1) (joins j at s)) (sym here) (step_on t b names spots of at j h (omega (arith, count)) last) in
      all_on (at + 1) ss (joins j at s) (omega (arith, count)) (λ i lt. let e : at + suc i ≡ at + 1 + i = omega arith in same (suc i) (omega (arith, lt)) ∙ ap (nth_spot spots) e)
      (subst (λ z. AreTwice spots (counted_from (at + 1) ss z)) (sym (seen_named j at (counting.name_of s))) twice) next

pub nth_none : (n m : ℕ) → nth_seen (none_seen n) m ≡ Never
nth_none zero zero = refl
nth_none zero (suc m) = refl
nth_none (suc n) zero = refl
nth_none (suc n) (suc m) = nth_none n m

module _ (t : Tables) (b : Body) (free count : ℕ) (r : Reading) (net : IsNetRead t b free count r) (names : AreNamesRead t b r) (differ : AreDifferent b) (up : Rises (root_places r.spots)) where
  abbrev spots : List TextSpot
  spots = r.spots

  fact : (i : ℕ) → i < length spots → IsNamed t b r.names (nth_spot spots i)
  fact i lt = all_at (IsNamed t b r.names) spots i _ net.read.named_as lt

  pub of_text : AreOfText t b r.names spots
  of_text = record {
    facts = fact;
    numbers = λ i m lt e. name_known t b r.names (nth_spot spots i) m (fact i lt) e;
    free_first = λ i j k m n p lt in_ is e.
        let end = names.end j k m in_ e in
        let there = names.ends i (omega (arith, lt, end.0, end.1)) in
        absurd (let wrong : Occurrence n p ≡ Free i there.1.0 = sym is ∙ there.1.1 in cc);
    free_differ = λ i j k l m i_in j_in is_i is_j.
        let f : IsNamed t b r.names (Free k m) = subst (IsNamed t b r.names) is_i (fact i i_in) in
        let g : IsNamed t b r.names (Free l m) = subst (IsNamed t b r.names) is_j (fact j j_in) in
        let same = differ k l f.end g.end f.declared g.declared (sym f.name ∙ g.name) in
        omega (arith, same, (names.end i k m i_in is_i).0, (names.end j l m j_in is_j).0);
    places_differ = λ i j m n p q lt in_ is_i is_j e. absurd (let less = root_before spots i j m n p q up lt in_ is_i is_j in let same = ap (λ (x : Place). x.from) e in omega (arith, less, same));
  }

  -- a spot that isn't a free end is joined
  beyond : (i : ℕ) → i < length spots → ((k m : ℕ) → nth_spot spots i ≢ Free k m) → length b.free ≤ i
  beyond i lt other = part (cases_lt i (length b.free))
    where
      part : (i < length b.free) ⊎ (length b.free ≤ i) → length b.free ≤ i
      part (inl x) = absurd (let there = names.ends i x in other i there.1.0 there.1.1)
      part (inr x) = x

  start_open : (i : ℕ) → i < length spots → (s : TextSpot) → nth_spot spots i ≡ s → IsOpen (none_seen (length r.names)) s → length b.free ≤ i
  start_open i lt (Port a j p) is o = beyond i lt (λ k m e. let wrong : Port a j p ≡ Free k m = sym is ∙ e in cc)
  start_open i lt (End j) is o = beyond i lt (λ k m e. let wrong : End j ≡ Free k m = sym is ∙ e in cc)
  start_open i lt (Free k m) is o = absurd (subst IsMet (nth_none (length r.names) m) o)
  start_open i lt (Occurrence m p) is o = beyond i lt (λ k n e. let wrong : Occurrence m p ≡ Free k n = sym is ∙ e in cc)

  -- and so is its partner
  to_beyond : (i : ℕ) → i < length spots → length b.free ≤ i → length b.free ≤ (nth_link (links_of r) i).to
  to_beyond i lt from = part (cases_lt (nth_link (links_of r) i).to (length b.free))
    where
      part : ((nth_link (links_of r) i).to < length b.free) ⊎ (length b.free ≤ (nth_link (links_of r) i).to) → length b.free ≤ (nth_link (links_of r) i).to
      part (inl x) =
          let self = ap (λ (l : Link). l.to) (net.alone (nth_link (links_of r) i).to x) in
          let back = ap (λ (l : Link). l.to) (net.read.linked.back i lt) in
          absurd (omega (arith, self, back, x, from))
      part (inr x) = x

  placed_kind : (i : ℕ) (s : TextSpot) → i < length spots → nth_spot spots i ≡ s → length b.free ≤ i → kind_of s ≡ text.placed
  placed_kind i (Port a j p) lt is from = refl
  placed_kind i (End k) lt is from = refl
  placed_kind i (Free k m) lt is from = absurd (let end = names.end i k m lt is in omega (arith, end.0, end.1, from))
  placed_kind i (Occurrence m p) lt is from = refl

  start_way : (i : ℕ) → i < length spots → length b.free ≤ i → IsWay t b (nth_spot spots i) (nth_spot spots (nth_link (links_of r) i).to) (nth_link (links_of r) i).place
  start_way i lt from =
      let l : Link = nth_link (links_of r) i in
      let to_in = net.read.linked.inside i lt in
      let joint = net.read.linked.sound i lt (net.joined i from lt) in
      let one : kind_of (nth_spot spots i) ≡ text.placed = placed_kind i (nth_spot spots i) lt refl from in
      let other : kind_of (nth_spot spots (nth_link (links_of r) i).to) ≡ text.placed = placed_kind (nth_link (links_of r) i).to (nth_spot spots (nth_link (links_of r) i).to) to_in refl (to_beyond i lt from) in
      record {
        places = (nth_link (links_of r) i).place ∷ [];
        chain =
            subst (λ k. text.Chain t b k (kind_of (nth_spot spots (nth_link (links_of r) i).to)) (named (nth_spot spots i)) (named (nth_spot spots (nth_link (links_of r) i).to)) ((nth_link (links_of r) i).place ∷ [])) (sym one)
            (subst (λ k. text.Chain t b text.placed k (named (nth_spot spots i)) (named (nth_spot spots (nth_link (links_of r) i).to)) ((nth_link (links_of r) i).place ∷ [])) (sym other)
            (text.one_placed (named (nth_spot spots i)) (named (nth_spot spots (nth_link (links_of r) i).to)) (nth_link (links_of r) i).place joint));
        last = (inl refl, (omega arith, tt));
      }

  pub begun : IsJoiningAt t b spots (length r.names) 0 (not_named (links_of r) (length r.names))
  begun = record {
    size = length-links_of r;
    count = length-none_seen (length r.names);
    inside = net.read.linked.inside;
    back = net.read.linked.back;
    apart = λ i lt o. net.joined i (start_open i lt (nth_spot spots i) refl o) lt;
    way = λ i lt o. start_way i lt (start_open i lt (nth_spot spots i) refl o);
    used = λ i m p lt is met. absurd (subst IsMet (nth_none (length r.names) m) met);
    fresh = λ i k m lt is unmet. let end = names.end i k m lt is in net.alone i end.1;
    seen = λ m lt. subst (IsStanding spots 0 m) (sym (nth_none (length r.names) m)) (λ i x. absurd (omega (arith, x)));
    closed = λ p e. cc;
  }

  module _ (twice : AreTwice r.spots (counted_from 0 r.spots (none_seen (length r.names)))) where
    pub joined_at : IsJoiningAt t b spots (length r.names) (length spots) (joining_of r)
    joined_at = all_on t b r.names spots of_text 0 spots (not_named (links_of r) (length r.names)) (omega arith) (λ i lt. let e : i ≡ 0 + i = omega arith in ap (nth_spot spots) e) twice begun

    pub all_met : (i m : ℕ) → i < length spots → counting.name_of (nth_spot spots i) ≡ Some m → IsMet (nth_seen (joining_of r).seen m)
    all_met i m lt e =
        let is : nth_seen (joining_of r).seen m ≡ Twice = ap (λ z. nth_seen z m) (seen_joined 0 spots (not_named (links_of r) (length r.names))) ∙ twice i m lt e in
        subst IsMet (sym is) tt

    point_open : (i : ℕ) (s : TextSpot) → i < length spots → nth_spot spots i ≡ s → IsPointSpot s → IsOpen (joining_of r).seen s
    point_open i (Port a j p) lt is h = tt
    point_open i (End k) lt is h = tt
    point_open i (Free k m) lt is h = all_met i m lt (ap counting.name_of is)
    point_open i (Occurrence m p) lt is h = absurd h

    no_point : (i : ℕ) (s : TextSpot) → i < length spots → nth_spot spots i ≡ s → (IsPointSpot s → ⊥) → (nth_link (joining_of r).links i).to ≡ i
    no_point i (Port a j p) lt is h = absurd (h tt)
    no_point i (Free k m) lt is h = absurd (h tt)
    no_point i (End k) lt is h = absurd (h tt)
    no_point i (Occurrence m p) lt is h = joined_at.used i m p lt is (all_met i m lt (ap counting.name_of is))

    pub are_joined : IsJoined spots (joining_of r).links
    are_joined = record {
      count = joined_at.size;
      inside = joined_at.inside;
      back = joined_at.back;
      apart = λ i lt h. joined_at.apart i lt (point_open i (nth_spot spots i) lt refl h);
      alone = λ i lt h. no_point i (nth_spot spots i) lt refl h;
    }

    -- the wire of a point
    pub way_of : (i : ℕ) → i < length spots → IsPointSpot (nth_spot spots i) → IsWay t b (nth_spot spots i) (nth_spot spots (nth_link (joining_of r).links i).to) (nth_link (joining_of r).links i).place
    way_of i lt h = joined_at.way i lt (point_open i (nth_spot spots i) lt refl h)

    pub closed_of : (p : Place) → (joining_of r).closed ≡ Some p → IsClosedWireOf t b p
    closed_of = joined_at.closed
