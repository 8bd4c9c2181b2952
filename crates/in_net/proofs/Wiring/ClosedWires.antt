-- When all names are joined, the first closed wire is found, if there is one.
use Rattle.std.proofs.Common.{◌≡◌, ◌⊎◌, inl, inr, ℕ, suc, ◌+◌, ◌<◌, ◌≤◌, List, [], ◌∷◌, length, refl, sym, ◌∙◌, ap, subst, arith}
use Rattle.std.specs.List.{AllByRecursion}
use Rattle.in_syntax.specs.declared.places.Place.{Place}
use Rattle.in_syntax.specs.Order.{Rises}
use Rattle.in_symbols.specs.Tables.{Tables}
use Rattle.in_net.specs.declared.reading.TextSpot.{TextSpot}
use Rattle.in_net.specs.declared.reading.TextSpot.TheVariants.{Port, Free, End, Occurrence}
use Rattle.in_net.specs.declared.reading.Reading.{Reading}
use Rattle.in_net.specs.declared.joining.Joining.{Joining}
use Rattle.in_net.specs.Counting as counting
use Rattle.in_net.specs.Counting.{none_seen, counted_from}
use Rattle.in_net.specs.Building.{AreTwice, nth_spot}
use Rattle.in_net.specs.Joining.{links_of, not_named, joins, joins_from, joining_of}
use Rattle.in_net.specs.TextNet as text
use Rattle.in_base.specs.Lists.{IsAmong}
use Rattle.in_net.specs.TextNet.{Body, Kind, placed, of_name, IsOccurrence, Chain, IsClosedWireOf}
use Rattle.in_net.proofs.Wiring.Joined.{last_here, seen_named, nth_none, of_text, begun, all_met}
use Rattle.in_net.proofs.Texts.Known.{AreDifferent}
use Rattle.in_net.proofs.Wiring.Loops.{other_kind, follow}
use Rattle.in_net.proofs.Texts.NamedSpots.{AreNamesRead}
use Rattle.in_net.proofs.Wiring.Naming.{AreOfText, step_on}
use Rattle.in_net.proofs.Texts.NetRead.{IsNetRead}
use Rattle.in_net.proofs.Texts.Order.{root_places}
use Rattle.in_net.proofs.Wiring.Outs.{IsFoundBy, IsRound, AreOut, step_out}
use Rattle.in_net.proofs.Wiring.Single.{IsReadWhole, settled_of}
use Rattle.in_net.proofs.Wiring.Sound.{named}
use Rattle.in_net.proofs.Wiring.Ways.{IsMet, kind_of, IsOpen, IsJoiningAt}

module _ (t : Tables) (b : Body) (names : List (List ℕ)) (spots : List TextSpot) (of : AreOfText t b names spots) where
  -- all spots from one on
  outs_on : (at : ℕ) (ss : List TextSpot) (j : Joining) → at + length ss ≡ length spots → ((i : ℕ) → i < length ss → nth_spot ss i ≡ nth_spot spots (at + i)) → AreTwice spots (counted_from at ss j.seen) →
      IsJoiningAt t b spots (length names) at j → AreOut t b spots j.seen j.closed → AreOut t b spots (joins_from at ss j).seen (joins_from at ss j).closed
  outs_on at [] j count same twice h outs = outs
  outs_on at (s ∷ ss) j count same twice h outs =
      let zero_on : at + 0 ≡ at = omega arith in
      let here : s ≡ nth_spot spots at = same 0 (omega arith) ∙ ap (nth_spot spots) zero_on in
      let last = last_here t b names spots of at s ss j.seen h.count count same twice in
      let next : IsJoiningAt t b spots (length names) (at + 1) (joins j at s) = subst (λ s. IsJoiningAt t b spots (length names) (at + 1) (joins j at s)) (sym here) (step_on t b names spots of at j h (omega (arith, count)) last) in
      let more : AreOut t b spots (joins j at s).seen (joins j at s).closed = subst (λ s. AreOut t b spots (joins j at s).seen (joins j at s).closed) (sym here) (step_out t b names spots of at j h (omega (arith, count)) last outs) in
      outs_on (at + 1) ss (joins j at s) (omega (arith, count)) (λ i lt. let e : at + suc i ≡ at + 1 + i = omega arith in same (suc i) (omega (arith, lt)) ∙ ap (nth_spot spots) e)
      (subst (λ z. AreTwice spots (counted_from (at + 1) ss z)) (sym (seen_named j at (counting.name_of s))) twice) next more

all_among : (p : Place) (ps : List Place) (d : Place) → AllByRecursion (λ q. q.from ≤ p.from) ps → IsAmong d ps → d.from ≤ p.from
all_among p [] d all m = absurd m
all_among p (x ∷ ps) d all (inl e) = let le = all.0 in let same = ap (λ (x : Place). x.from) e in omega (arith, le, same)
all_among p (x ∷ ps) d all (inr m) = all_among p ps d all.1 m

placed_by : (s : TextSpot) → IsOccurrence (named s) → kind_of s ≡ placed
placed_by (Port a i p) h = absurd h
placed_by (Free k m) h = absurd h
placed_by (End k) h = absurd h
placed_by (Occurrence m p) h = refl

module _ (t : Tables) (b : Body) (free count : ℕ) (r : Reading) (net : IsNetRead t b free count r) (names : AreNamesRead t b r) (differ : AreDifferent b) (up : Rises (root_places r.spots))
    (twice : AreTwice r.spots (counted_from 0 r.spots (none_seen (length r.names)))) (whole : IsReadWhole t b r) where
  abbrev spots : List TextSpot
  spots = r.spots

  outs_at : AreOut t b spots (joining_of r).seen (joining_of r).closed
  outs_at =
      outs_on t b r.names spots (of_text t b free count r net names differ up) 0 spots (not_named (links_of r) (length r.names)) (omega arith) (λ i lt. let e : i ≡ 0 + i = omega arith in ap (nth_spot spots) e) twice
      (begun t b free count r net names differ up) (λ i n x lt is met. absurd (subst IsMet (nth_none (length r.names) n) met))

  is_met : (i m : ℕ) (p : Place) → i < length spots → nth_spot spots i ≡ Occurrence m p → IsOpen (joining_of r).seen (nth_spot spots i) → ⊥
  is_met i m p lt is open_ = subst (IsOpen (joining_of r).seen) is open_ (all_met t b free count r net names differ up twice i m lt (ap counting.name_of is))

  -- the spot where a closed wire begins
  record IsBegunAt (x : text.TextSpot) : Type 0 where
    pub spot : ℕ
    pub inside : spot < length spots
    pub is : named (nth_spot spots spot) ≡ x

  begun_at : (x z : text.TextSpot) (ps : List Place) → Chain t b placed of_name x z ps → IsBegunAt x
  begun_at x _ _ (Chain.then_name _ _ o z p ps joint occurs rest) = let s = settled_of t b r whole x o p joint in record { spot = s.spot; inside = s.inside; is = s.one }

  -- the wire is followed to the spot of its name that was met last, and from there round the wire that was found
  no_later : (q : Place) (x : text.TextSpot) (k : ℕ) (along ps : List Place) → k < length spots → IsOccurrence x → Chain t b placed (kind_of (nth_spot spots k)) x (named (nth_spot spots k)) along → Chain t b placed of_name x x ps →
      AllByRecursion (λ p. p.from ≤ q.from) ps → IsOpen (joining_of r).seen (nth_spot spots k) ⊎ IsRound t b (joining_of r).closed (named (nth_spot spots k)) → IsFoundBy (joining_of r).closed q
  no_later q x k along ps lt at chain loop all (inl open_) = absurd (no_end (nth_spot spots k) refl (follow t b r whole placed (kind_of (nth_spot spots k)) x (named (nth_spot spots k)) along ps at chain loop).occurs)
    where
      no_end : (s : TextSpot) → nth_spot spots k ≡ s → IsOccurrence (named s) → ⊥
      no_end (Port a i p) is h = h
      no_end (Free l m) is h = h
      no_end (End l) is h = h
      no_end (Occurrence m p) is h = is_met k m p lt is open_
  no_later q x k along ps lt at chain loop all (inr round) =
      let on = follow t b r whole placed (kind_of (nth_spot spots k)) x (named (nth_spot spots k)) along ps at chain loop in
      let back : Chain t b of_name placed (named (nth_spot spots k)) (named (nth_spot spots k)) on.round =
      subst (λ l. Chain t b (other_kind l) l (named (nth_spot spots k)) (named (nth_spot spots k)) on.round) (placed_by (nth_spot spots k) on.occurs) on.loop in
      let same = follow t b r whole of_name placed (named (nth_spot spots k)) (named (nth_spot spots k)) round.places on.round on.occurs round.loop back in
      let le = all_among q ps round.last all (on.inside round.last (same.within round.last round.last_is.0)) in
      record { found = round.found; is = round.closed_is; no_later = omega (arith, le, round.no_later) }

  -- the found place is no later than any closed wire
  pub found_first : (q : Place) → IsClosedWireOf t b q → IsFoundBy (joining_of r).closed q
  found_first q wire = by_spot (nth_spot spots at.spot) refl (subst IsOccurrence (sym at.is) wire.occurs)
    where
      at : IsBegunAt wire.through
      at = begun_at wire.through wire.through wire.places wire.chain

      by_spot : (s : TextSpot) → nth_spot spots at.spot ≡ s → IsOccurrence (named (nth_spot spots at.spot)) → IsFoundBy (joining_of r).closed q
      by_spot (Port a i p) is h = absurd (subst (λ s. IsOccurrence (named s)) is h)
      by_spot (Free l m) is h = absurd (subst (λ s. IsOccurrence (named s)) is h)
      by_spot (End l) is h = absurd (subst (λ s. IsOccurrence (named s)) is h)
      by_spot (Occurrence m p) is h =
          let out = outs_at at.spot m p at.inside is (all_met t b free count r net names differ up twice at.spot m at.inside (ap counting.name_of is)) in
          no_later q wire.through out.spot out.places wire.places out.inside wire.occurs (subst (λ s. Chain t b placed (kind_of (nth_spot spots out.spot)) s (named (nth_spot spots out.spot)) out.places) at.is out.chain) wire.chain wire.place.1 out.end
