-- Each spot of a text is in at most one joint of each kind, so a point leads to one other by a wire.
use Rattle.std.proofs.Common.{◌≡◌, ◌≢◌, ◌⊎◌, inl, inr, ℕ, suc, ◌+◌, ◌<◌, ◌≤◌, Bool, true, false, cond, nat_lt, ltb-true, ltb-false, List, [], ◌∷◌, length, Some, None, IsSome, slice_get, refl, sym, ◌∙◌, ap, subst, arith}
use Rattle.std.proofs.lemmas.Bool.{cases_lt}
use Rattle.in_syntax.specs.declared.places.Place.{Place}
use Rattle.in_syntax.specs.declared.tree.Term.{Term, out-Term}
use Rattle.in_syntax.specs.declared.tree.SourceFree.{SourceFree}
use Rattle.in_syntax.specs.Order.{Rises}
use Rattle.in_symbols.specs.Names.{number_in, name_in}
use Rattle.in_symbols.specs.Tables.{Tables}
use Rattle.in_net.specs.declared.joining.Link.{Link}
use Rattle.in_net.specs.declared.reading.TextSpot.{TextSpot}
use Rattle.in_net.specs.declared.reading.TextSpot.TheVariants.{Port, Free, End, Occurrence}
use Rattle.in_net.specs.declared.reading.Reading.{Reading}
use Rattle.in_net.specs.Counting as counting
use Rattle.in_net.specs.Counting.{none_seen, counted_from}
use Rattle.in_net.specs.Joining.{links_of}
use Rattle.in_net.specs.Building.{AreTwice, nth_link, nth_spot, nth_agent}
use Rattle.in_net.specs.TextNet as text
use Rattle.in_net.specs.TextNet.{Body, IsTermOf, PlacedJoint, NameJoint, IsOccurrence, Chain, Kind, placed, of_name, IsWireOf, name_of, place_of, spot_of}
use Rattle.std.proofs.lemmas.Option.{slice_get_within, same_Some}
use Rattle.in_net.proofs.Wiring.Links.{all_at}
use Rattle.in_net.proofs.Wiring.Sound.{named}
use Rattle.in_net.proofs.Texts.Kept.{IsSettled}
use Rattle.in_net.proofs.Texts.Read.{IsNamed, name_known}
use Rattle.in_net.specs.Built.{IsEnd}
use Rattle.in_net.proofs.Texts.NamedSpots.{AreNamesRead}
use Rattle.in_net.proofs.Texts.NetRead.{IsBodyRead}
use Rattle.in_net.proofs.Texts.Order.{root_place, root_places, same_root}
use Rattle.in_net.proofs.Refusals.Counts.{other_is_one}

-- the reading of a body, and the properties that make its joints single
pub record IsReadWhole (t : Tables) (b : Body) (r : Reading) : Type 0 where
  pub body : IsBodyRead t b r
  pub names : AreNamesRead t b r
  pub rises : Rises (root_places r.spots)
  pub apart : (m k : ℕ) → m < length r.names → k < length r.names → name_in m r.names ≡ name_in k r.names → m ≡ k
  pub twice : AreTwice r.spots (counted_from 0 r.spots (none_seen (length r.names)))

module _ (t : Tables) (b : Body) (r : Reading) (h : IsReadWhole t b r) where
  to_of : (i : ℕ) → i < length r.spots → (nth_link (links_of r) (nth_link (links_of r) i).to).to ≡ i
  to_of i lt = ap (λ (l : Link). l.to) (h.body.net.read.linked.back i lt)

  -- ---- one spot for each spot of the text

  rising : (i j : ℕ) (p : Place) → i < length r.spots → j < length r.spots → root_place (nth_spot r.spots i) ≡ p ∷ [] → root_place (nth_spot r.spots j) ≡ p ∷ [] → i ≡ j
  rising i j p = same_root r.spots i j p h.rises

  -- agents of one place are equal
  first_of : (k a i : ℕ) (p : Place) → k < length r.spots → nth_spot r.spots k ≡ Port a i p → ((nth_agent r.agents a).first < length r.spots) × (root_place (nth_spot r.spots (nth_agent r.agents a).first) ≡ p ∷ [])
  first_of k a i p lt is =
      let port = h.body.net.read.numbered.port k a i p lt is in
      let root = h.body.net.read.numbered.ports a 0 port.agent (omega arith) in
      let zero_on : (nth_agent r.agents a).first + 0 ≡ (nth_agent r.agents a).first = omega arith in
      (omega (arith, root.0), ap (λ k. root_place (nth_spot r.spots k)) (sym zero_on) ∙ ap root_place root.1 ∙ ap (λ p. p ∷ []) (sym port.name))

  pub one_spot : (i j : ℕ) → i < length r.spots → j < length r.spots → named (nth_spot r.spots i) ≡ named (nth_spot r.spots j) → i ≡ j
  one_spot i j i_in j_in e = by_spots (nth_spot r.spots i) (nth_spot r.spots j) refl refl e
    where
      one_end : (a c : ℕ) → IsEnd (nth_spot r.spots i) a → IsEnd (nth_spot r.spots j) c → a ≡ c → i ≡ j
      one_end a c x y same = let one = h.body.net.read.numbered.end i a i_in x in let other = h.body.net.read.numbered.end j c j_in y in omega (arith, one.0, other.0, same)

      by_spots : (s u : TextSpot) → nth_spot r.spots i ≡ s → nth_spot r.spots j ≡ u → named s ≡ named u → i ≡ j
      by_spots (Port a k p) (Port c l q) x y same =
          let place : p ≡ q = cc in
          let port : k ≡ l = cc in
          let one = h.body.net.read.numbered.port i a k p i_in x in
          let other = h.body.net.read.numbered.port j c l q j_in y in
          let f = first_of i a k p i_in x in
          let g = first_of j c l q j_in y in
          let first = rising (nth_agent r.agents a).first (nth_agent r.agents c).first p f.0 g.0 f.1 (g.1 ∙ ap (λ q. q ∷ []) (sym place)) in
          let one_at = one.number in
          let other_at = other.number in
          omega (arith, one_at, other_at, first, port)
      by_spots (Port a k p) (Free c m) x y same = cc
      by_spots (Port a k p) (Occurrence m q) x y same = cc
      by_spots (Free a m) (Port c l q) x y same = cc
      by_spots (Free a m) (Free c k) x y same = let number : a ≡ c = cc in one_end a c (subst (λ s. IsEnd s a) (sym x) refl) (subst (λ s. IsEnd s c) (sym y) refl) number
      by_spots (Free a m) (End c) x y same = let number : a ≡ c = cc in one_end a c (subst (λ s. IsEnd s a) (sym x) refl) (subst (λ s. IsEnd s c) (sym y) refl) number
      by_spots (End a) (Free c k) x y same = let number : a ≡ c = cc in one_end a c (subst (λ s. IsEnd s a) (sym x) refl) (subst (λ s. IsEnd s c) (sym y) refl) number
      by_spots (End a) (End c) x y same = let number : a ≡ c = cc in one_end a c (subst (λ s. IsEnd s a) (sym x) refl) (subst (λ s. IsEnd s c) (sym y) refl) number
      by_spots (End a) (Port c l q) x y same = cc
      by_spots (End a) (Occurrence k q) x y same = cc
      by_spots (Port a k p) (End c) x y same = cc
      by_spots (Occurrence m p) (End c) x y same = cc
      by_spots (Free a m) (Occurrence k q) x y same = cc
      by_spots (Occurrence m p) (Port c l q) x y same = cc
      by_spots (Occurrence m p) (Free c k) x y same = cc
      by_spots (Occurrence m p) (Occurrence k q) x y same =
          let place : p ≡ q = cc in
          rising i j p i_in j_in (ap root_place x) (ap root_place y ∙ ap (λ q. q ∷ []) (sym place))

  -- ---- joints of places

  settled_turned : (x y : text.TextSpot) (p : Place) → IsSettled r x y p → IsSettled r y x p
  settled_turned x y p s =
      let back = h.body.net.read.linked.back s.spot s.inside in
      let to = ap (λ (l : Link). l.to) back in
      record {
        spot = (nth_link (links_of r) s.spot).to;
        inside = s.to_inside;
        linked = λ e. s.linked (sym e ∙ to);
        to_inside = subst (λ k. k < length r.spots) (sym to) s.inside;
        one = s.other;
        other = ap (λ k. named (nth_spot r.spots k)) to ∙ s.one;
        place = ap (λ (l : Link). l.place) back ∙ s.place;
      }

  argument_settled : (u v : Term) (i : ℕ) → IsTermOf b u → IsSome (number_in (name_of u) t.names) → slice_get (out-Term u).args i ≡ Some v → IsSettled r (text.port_at (place_of u) (suc i)) (spot_of t v) (place_of v)
  argument_settled u v i (IsTermOf.in_left e among part) symbol is = (h.body.equations e among).left.arguments u v i part symbol is
  argument_settled u v i (IsTermOf.in_right e among part) symbol is = (h.body.equations e among).right.arguments u v i part symbol is
  argument_settled u v i (IsTermOf.in_head g w among inside part) symbol is = ((h.body.heads g among).held w inside).arguments u v i part symbol is

  pub settled_of : (x y : text.TextSpot) (p : Place) → PlacedJoint t b x y p → IsSettled r x y p
  settled_of _ _ _ (PlacedJoint.of_equation e among) = (h.body.equations e among).joint
  settled_of _ _ _ (PlacedJoint.of_argument u v i there symbol is) = argument_settled u v i there symbol is
  settled_of _ _ _ (PlacedJoint.of_head g v i among is) = (h.body.heads g among).settled i v is
  settled_of _ _ _ (PlacedJoint.turned x y p joint) = settled_turned x y p (settled_of x y p joint)

  pub one_placed_joint : (x y z : text.TextSpot) (p q : Place) → PlacedJoint t b x y p → PlacedJoint t b x z q → (y ≡ z) × (p ≡ q)
  one_placed_joint x y z p q j k =
      let s = settled_of x y p j in
      let u = settled_of x z q k in
      let same : s.spot ≡ u.spot = one_spot s.spot u.spot s.inside u.inside (s.one ∙ sym u.one) in
      (sym s.other ∙ ap (λ i. named (nth_spot r.spots (nth_link (links_of r) i).to)) same ∙ u.other, sym s.place ∙ ap (λ i. (nth_link (links_of r) i).place) same ∙ u.place)

  -- ---- joints of names

  pub record IsTwin (x y : text.TextSpot) : Type 0 where
    pub one : ℕ
    pub other : ℕ
    pub number : ℕ
    pub one_in : one < length r.spots
    pub other_in : other < length r.spots
    pub apart : one ≢ other
    pub one_named : counting.name_of (nth_spot r.spots one) ≡ Some number
    pub other_named : counting.name_of (nth_spot r.spots other) ≡ Some number
    pub one_is : named (nth_spot r.spots one) ≡ x
    pub other_is : named (nth_spot r.spots other) ≡ y

  twin_turned : (x y : text.TextSpot) → IsTwin x y → IsTwin y x
  twin_turned x y s = record {
    one = s.other;
    other = s.one;
    number = s.number;
    one_in = s.other_in;
    other_in = s.one_in;
    apart = λ e. s.apart (sym e);
    one_named = s.other_named;
    other_named = s.one_named;
    one_is = s.other_is;
    other_is = s.one_is;
  }

  some_same : (f g : SourceFree) → Some f ≡ Some g → f ≡ g
  some_same f g e = cc

  pub twin_of : (x y : text.TextSpot) → NameJoint t b x y → IsTwin x y
  twin_of _ _ (NameJoint.of_variable u v there_u there_v variable same differ) =
      let one = h.names.held u there_u variable in
      let other = h.names.held v there_v (subst (λ z. number_in z t.names ≡ None) same variable) in
      let number : one.number ≡ other.number = h.apart one.number other.number one.known other.known (one.name ∙ same ∙ sym other.name) in
      record {
        one = one.spot;
        other = other.spot;
        number = one.number;
        one_in = one.inside;
        other_in = other.inside;
        apart = λ e. differ (place_same (place_of u) (place_of v) one.number other.number (sym one.is ∙ ap (nth_spot r.spots) e ∙ other.is));
        one_named = ap counting.name_of one.is;
        other_named = ap counting.name_of other.is ∙ ap Some (sym number);
        one_is = ap named one.is;
        other_is = ap named other.is;
      }
    where
      place_same : (p q : Place) (m k : ℕ) → Occurrence m p ≡ Occurrence k q → p ≡ q
      place_same p q m k e = cc
  twin_of _ _ (NameJoint.of_free k f u is there variable same) =
      let other = h.names.held u there variable in
      let k_in : k < length b.free = slice_get_within b.free k f is in
      let end = h.names.ends k k_in in
      let at : IsNamed t b r.names (Free k end.1.0) = subst (IsNamed t b r.names) end.1.1 (all_at (IsNamed t b r.names) r.spots k _ h.body.net.read.named_as end.0) in
      let same_end : f ≡ at.end = some_same f at.end (sym is ∙ at.declared) in
      let number : end.1.0 ≡ other.number = h.apart end.1.0 other.number at.inside other.known (at.name ∙ ap (λ (f : SourceFree). f.name.text) (sym same_end) ∙ sym same ∙ sym other.name) in
      record {
        one = k;
        other = other.spot;
        number = end.1.0;
        one_in = end.0;
        other_in = other.inside;
        apart = λ e. not_both k other.spot end.1.0 other.number end.1.1 other.is e;
        one_named = ap counting.name_of end.1.1;
        other_named = ap counting.name_of other.is ∙ ap Some (sym number);
        one_is = ap named end.1.1;
        other_is = ap named other.is;
      }
    where
      not_both : (i j m k_ : ℕ) → nth_spot r.spots i ≡ Free k m → nth_spot r.spots j ≡ Occurrence k_ (place_of u) → i ≡ j → ⊥
      not_both i j m k_ x y e = let wrong : Free k m ≡ Occurrence k_ (place_of u) = sym x ∙ ap (nth_spot r.spots) e ∙ y in cc
  twin_of _ _ (NameJoint.turned_name x y joint) = twin_turned x y (twin_of x y joint)

  name_at : (i m : ℕ) → i < length r.spots → counting.name_of (nth_spot r.spots i) ≡ Some m → m < length r.names
  name_at i m lt e = name_known t b r.names (nth_spot r.spots i) m (all_at (IsNamed t b r.names) r.spots i _ h.body.net.read.named_as lt) e

  pub one_name_joint : (x y z : text.TextSpot) → NameJoint t b x y → NameJoint t b x z → y ≡ z
  one_name_joint x y z j k =
      let s = twin_of x y j in
      let u = twin_of x z k in
      let same : s.one ≡ u.one = one_spot s.one u.one s.one_in u.one_in (s.one_is ∙ sym u.one_is) in
      let number : s.number ≡ u.number = same_Some s.number u.number (sym s.one_named ∙ ap (λ i. counting.name_of (nth_spot r.spots i)) same ∙ u.one_named) in
      let other : s.other ≡ u.other = other_is_one r.spots (length r.names) h.twice s.number s.one s.other u.other (name_at s.one s.number s.one_in s.one_named) s.one_in s.other_in u.other_in s.one_named s.other_named (u.other_named ∙ ap Some (sym number))
      s.apart (λ e. u.apart (sym same ∙ e)) in
      sym s.other_is ∙ ap (λ i. named (nth_spot r.spots i)) other ∙ u.other_is

  -- ---- chains

  -- a free end continues by its name, a boundary end by a joint of a place
  abbrev kind_from : text.TextSpot → Kind
  kind_from (text.port_at p i) = placed
  kind_from (text.free_end k) = cond (nat_lt k (length b.free)) of_name placed
  kind_from (text.occurrence p) = placed

  kind_free : (k : ℕ) → k < length b.free → of_name ≡ kind_from (text.free_end k)
  kind_free k lt = by_test (nat_lt k (length b.free)) refl
    where
      by_test : (c : Bool) → nat_lt k (length b.free) ≡ c → of_name ≡ cond c of_name placed
      by_test true is = refl
      by_test false is = absurd (let le = ltb-false k (length b.free) is in omega (arith, le, lt))

  kind_bound : (k : ℕ) → length b.free ≤ k → placed ≡ kind_from (text.free_end k)
  kind_bound k le = by_test (nat_lt k (length b.free)) refl
    where
      by_test : (c : Bool) → nat_lt k (length b.free) ≡ c → placed ≡ cond c of_name placed
      by_test true is = absurd (let lt = ltb-true k (length b.free) is in omega (arith, le, lt))
      by_test false is = refl

  named_port : (s : TextSpot) (m : ℕ) (p : Place) (i : ℕ) → counting.name_of s ≡ Some m → named s ≢ text.port_at p i
  named_port (Port a k q) m p i e f = cc
  named_port (Free k l) m p i e f = cc
  named_port (End k) m p i e f = cc
  named_port (Occurrence l q) m p i e f = cc

  -- a port and a boundary end have no joint of a name, and a free end has none of a place
  port_unnamed : (p : Place) (i : ℕ) (y : text.TextSpot) → NameJoint t b (text.port_at p i) y → ⊥
  port_unnamed p i y j = let s = twin_of (text.port_at p i) y j in named_port (nth_spot r.spots s.one) s.number p i s.one_named s.one_is

  named_free : (k : ℕ) (y : text.TextSpot) → NameJoint t b (text.free_end k) y → k < length b.free
  named_free k y j = by_spot (nth_spot r.spots s.one) refl s.one_named s.one_is
    where
      s : IsTwin (text.free_end k) y
      s = twin_of (text.free_end k) y j

      by_spot : (u : TextSpot) → nth_spot r.spots s.one ≡ u → counting.name_of u ≡ Some s.number → named u ≡ text.free_end k → k < length b.free
      by_spot (Port a i q) is e f = cc
      by_spot (End l) is e f = cc
      by_spot (Occurrence m q) is e f = cc
      by_spot (Free l m) is e f =
          let end = h.names.end s.one l m s.one_in is in
          let same : l ≡ k = cc in
          omega (arith, end.0, end.1, same)

  placed_bound : (k : ℕ) (y : text.TextSpot) (p : Place) → PlacedJoint t b (text.free_end k) y p → length b.free ≤ k
  placed_bound k y p j = by_spot (nth_spot r.spots s.spot) refl s.one
    where
      s : IsSettled r (text.free_end k) y p
      s = settled_of (text.free_end k) y p j

      at_end : (l : ℕ) → IsEnd (nth_spot r.spots s.spot) l → l ≡ k → (s.spot < length b.free) ⊎ (length b.free ≤ s.spot) → length b.free ≤ k
      at_end l e same (inl lt) = absurd (s.linked (ap (λ (l : Link). l.to) (h.body.net.alone s.spot lt)))
      at_end l e same (inr le) = let end = h.body.net.read.numbered.end s.spot l s.inside e in omega (arith, end.0, same, le)

      by_spot : (u : TextSpot) → nth_spot r.spots s.spot ≡ u → named u ≡ text.free_end k → length b.free ≤ k
      by_spot (Port a i q) e f = cc
      by_spot (Occurrence m q) e f = cc
      by_spot (Free l m) e f = let same : l ≡ k = cc in at_end l (subst (λ u. IsEnd u l) (sym e) refl) same (cases_lt s.spot (length b.free))
      by_spot (End l) e f = let same : l ≡ k = cc in at_end l (subst (λ u. IsEnd u l) (sym e) refl) same (cases_lt s.spot (length b.free))

  first_kind : (k l : Kind) (x y : text.TextSpot) (ps : List Place) → (IsOccurrence x → ⊥) → Chain t b k l x y ps → k ≡ kind_from x
  first_kind k l (text.occurrence p) y ps no_ chain = absurd (no_ tt)
  first_kind _ _ (text.port_at p i) _ _ no_ (Chain.one_placed _ y q joint) = refl
  first_kind _ _ (text.port_at p i) _ _ no_ (Chain.one_name _ y joint) = absurd (port_unnamed p i y joint)
  first_kind _ _ (text.port_at p i) _ _ no_ (Chain.then_name l _ o y q ps joint occurs rest) = refl
  first_kind _ _ (text.port_at p i) _ _ no_ (Chain.then_placed l _ o y ps joint occurs rest) = absurd (port_unnamed p i o joint)
  first_kind _ _ (text.free_end k) _ _ no_ (Chain.one_placed _ y q joint) = kind_bound k (placed_bound k y q joint)
  first_kind _ _ (text.free_end k) _ _ no_ (Chain.one_name _ y joint) = kind_free k (named_free k y joint)
  first_kind _ _ (text.free_end k) _ _ no_ (Chain.then_name l _ o y q ps joint occurs rest) = kind_bound k (placed_bound k o q joint)
  first_kind _ _ (text.free_end k) _ _ no_ (Chain.then_placed l _ o y ps joint occurs rest) = kind_free k (named_free k o joint)

  -- two chains that begin alike and can't be longer are equal
  pub one_chain : (k l m : Kind) (x y z : text.TextSpot) (ps qs : List Place) → (IsOccurrence y → ⊥) → (IsOccurrence z → ⊥) → Chain t b k l x y ps → Chain t b k m x z qs → (y ≡ z) × (ps ≡ qs)
  one_chain _ _ _ x _ _ _ _ no_y no_z (Chain.one_placed _ y p j) (Chain.one_placed _ z q g) = let same = one_placed_joint x y z p q j g in (same.0, ap (λ p. p ∷ []) same.1)
  one_chain _ _ _ x _ _ _ _ no_y no_z (Chain.one_placed _ y p j) (Chain.then_name m _ o z q qs g occurs rest) = absurd (no_y (subst IsOccurrence (sym (one_placed_joint x y o p q j g).0) occurs))
  one_chain _ _ _ x _ _ _ _ no_y no_z (Chain.one_name _ y j) (Chain.one_name _ z g) = (one_name_joint x y z j g, refl)
  one_chain _ _ _ x _ _ _ _ no_y no_z (Chain.one_name _ y j) (Chain.then_placed m _ o z qs g occurs rest) = absurd (no_y (subst IsOccurrence (sym (one_name_joint x y o j g)) occurs))
  one_chain _ _ _ x _ _ _ _ no_y no_z (Chain.then_name l _ o y p ps j occurs rest) (Chain.one_placed _ z q g) = absurd (no_z (subst IsOccurrence (one_placed_joint x o z p q j g).0 occurs))
  one_chain _ _ _ x _ _ _ _ no_y no_z (Chain.then_name l _ o y p ps j occurs rest) (Chain.then_name m _ u z q qs g occurs_u more) =
      let same = one_placed_joint x o u p q j g in
      let on = one_chain of_name l m o y z ps qs no_y no_z rest (subst (λ u. Chain t b of_name m u z qs) (sym same.0) more) in
      (on.0, ap (λ p. p ∷ ps) same.1 ∙ ap (λ ps. q ∷ ps) on.1)
  one_chain _ _ _ x _ _ _ _ no_y no_z (Chain.then_placed l _ o y ps j occurs rest) (Chain.one_name _ z g) = absurd (no_z (subst IsOccurrence (one_name_joint x o z j g) occurs))
  one_chain _ _ _ x _ _ _ _ no_y no_z (Chain.then_placed l _ o y ps j occurs rest) (Chain.then_placed m _ u z qs g occurs_u more) =
      let same = one_name_joint x o u j g in
      one_chain placed l m o y z ps qs no_y no_z rest (subst (λ u. Chain t b placed m u z qs) (sym same) more)

  -- a point leads to one other by a wire of the text
  pub one_wire : (x y z : text.TextSpot) (p q : Place) → IsWireOf t b x y p → IsWireOf t b x z q → y ≡ z
  one_wire x y z p q v w =
      let chain : Chain t b (kind_from x) v.last x y v.places = subst (λ k. Chain t b k v.last x y v.places) (first_kind v.first v.last x y v.places v.one v.chain) v.chain in
      let other : Chain t b (kind_from x) w.last x z w.places = subst (λ k. Chain t b k w.last x z w.places) (first_kind w.first w.last x z w.places w.one w.chain) w.chain in
      (one_chain (kind_from x) v.last w.last x y z v.places w.places v.other w.other chain other).0

  -- .. by joints at the same places
  pub one_way : (x y z : text.TextSpot) (p q : Place) (v : IsWireOf t b x y p) (w : IsWireOf t b x z q) → (y ≡ z) × (v.places ≡ w.places)
  one_way x y z p q v w =
      let chain : Chain t b (kind_from x) v.last x y v.places = subst (λ k. Chain t b k v.last x y v.places) (first_kind v.first v.last x y v.places v.one v.chain) v.chain in
      let other : Chain t b (kind_from x) w.last x z w.places = subst (λ k. Chain t b k w.last x z w.places) (first_kind w.first w.last x z w.places w.one w.chain) w.chain in
      one_chain (kind_from x) v.last w.last x y z v.places w.places v.other w.other chain other
