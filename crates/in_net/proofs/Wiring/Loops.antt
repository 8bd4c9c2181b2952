-- A chain that begins on a closed wire follows it.
use Rattle.std.proofs.Common.{◌≡◌, ◌⊎◌, inl, inr, List, [], ◌∷◌, ◌++◌, sym, ap, subst}
use Rattle.in_syntax.specs.declared.places.Place.{Place}
use Rattle.in_symbols.specs.Tables.{Tables}
use Rattle.in_net.specs.declared.reading.Reading.{Reading}
use Rattle.in_base.specs.Lists.{IsAmong}
use Rattle.in_net.specs.TextNet.{Body, TextSpot, Kind, placed, of_name, PlacedJoint, NameJoint, IsOccurrence, Chain}
use Rattle.in_net.proofs.Wiring.Chains.{to_name}
use Rattle.in_net.proofs.Wiring.Single.{IsReadWhole, one_placed_joint, one_name_joint}

abbrev pub other_kind : Kind → Kind
other_kind placed = of_name
other_kind of_name = placed

-- on by a joint of a place
to_place : (t : Tables) (b : Body) (k : Kind) (x o u : TextSpot) (p : Place) (ps : List Place) → Chain t b k of_name x o ps → IsOccurrence o → PlacedJoint t b o u p → Chain t b k placed x u (ps ++ p ∷ [])
to_place t b _ _ _ u p _ (Chain.one_name x o name) occurs joint = Chain.then_placed placed x o u (p ∷ []) name occurs (Chain.one_placed o u p joint)
to_place t b _ _ _ u p _ (Chain.then_name _ x o1 o q ps step occurs_1 rest) occurs joint = Chain.then_name placed x o1 u q (ps ++ p ∷ []) step occurs_1 (to_place t b of_name o1 o u p ps rest occurs joint)
to_place t b _ _ _ u p _ (Chain.then_placed _ x o1 o ps name occurs_1 rest) occurs joint = Chain.then_placed placed x o1 u (ps ++ p ∷ []) name occurs_1 (to_place t b placed o1 o u p ps rest occurs joint)

among_turned : (d p : Place) (ps : List Place) → IsAmong d (ps ++ p ∷ []) → IsAmong d (p ∷ ps)
among_turned d p [] h = h
among_turned d p (q ∷ ps) (inl e) = inr (inl e)
among_turned d p (q ∷ ps) (inr h) = by_rest (among_turned d p ps h)
  where
    by_rest : IsAmong d (p ∷ ps) → IsAmong d (p ∷ q ∷ ps)
    by_rest (inl e) = inl e
    by_rest (inr h) = inr (inr h)

-- a chain to this spot, with the places `along`, stays on a closed wire with the places `ps`: the wire continues from there, and leads back
pub record IsFollowed (t : Tables) (b : Body) (l : Kind) (y : TextSpot) (along ps : List Place) : Type 0 where
  pub occurs : IsOccurrence y
  pub within : (d : Place) → IsAmong d along → IsAmong d ps
  pub round : List Place
  pub loop : Chain t b (other_kind l) l y y round
  pub inside : (d : Place) → IsAmong d round → IsAmong d ps

module _ (t : Tables) (b : Body) (r : Reading) (h : IsReadWhole t b r) where
  -- the next spot of a chain, and the rest of it
  record IsPlacedOn (o z : TextSpot) (p : Place) (ps : List Place) : Type 0 where
    pub occurs : IsOccurrence o
    pub rest : List Place
    pub is : p ∷ rest ≡ ps
    pub chain : Chain t b of_name of_name o z rest

  placed_on : (x z o : TextSpot) (p : Place) (ps : List Place) → PlacedJoint t b x o p → Chain t b placed of_name x z ps → IsPlacedOn o z p ps
  placed_on x _ o p _ joint (Chain.then_name _ _ u z q qs step occurs rest) =
      let same = one_placed_joint t b r h x o u p q joint step in
      record {
        occurs = subst IsOccurrence (sym same.0) occurs;
        rest = qs;
        is = ap (λ p. p ∷ qs) same.1;
        chain = subst (λ u. Chain t b of_name of_name u z qs) (sym same.0) rest;
      }

  record IsNamedOn (o z : TextSpot) (ps : List Place) : Type 0 where
    pub occurs : IsOccurrence o
    pub chain : Chain t b placed placed o z ps

  named_on : (x z o : TextSpot) (ps : List Place) → NameJoint t b x o → Chain t b of_name placed x z ps → IsNamedOn o z ps
  named_on x _ o _ joint (Chain.then_placed _ _ u z qs step occurs rest) =
      let same = one_name_joint t b r h x o u joint step in
      record { occurs = subst IsOccurrence (sym same) occurs; chain = subst (λ u. Chain t b placed placed u z qs) (sym same) rest }

  -- after one joint the closed wire is turned
  placed_loop : (x o : TextSpot) (p : Place) (ps : List Place) → IsOccurrence x → PlacedJoint t b x o p → Chain t b placed of_name x x ps → IsFollowed t b placed o (p ∷ []) ps
  placed_loop x o p ps at joint loop =
      let on = placed_on x x o p ps joint loop in
      record {
        occurs = on.occurs;
        within = λ d m. subst (IsAmong d) on.is (only d on.rest m);
        round = on.rest ++ p ∷ [];
        loop = to_place t b of_name o x o p on.rest on.chain at joint;
        inside = λ d m. subst (IsAmong d) on.is (among_turned d p on.rest m);
      }
    where
      only : (d : Place) (qs : List Place) → IsAmong d (p ∷ []) → IsAmong d (p ∷ qs)
      only d qs (inl e) = inl e
      only d qs (inr m) = absurd m

  named_loop : (x o : TextSpot) (ps : List Place) → IsOccurrence x → NameJoint t b x o → Chain t b of_name placed x x ps → IsFollowed t b of_name o [] ps
  named_loop x o ps at joint loop =
      let on = named_on x x o ps joint loop in
      record { occurs = on.occurs; within = λ d m. absurd m; round = ps; loop = to_name t b placed o x o ps on.chain at joint; inside = λ d m. m }

  -- a joint, and the chain after it
  after : (l : Kind) (o y : TextSpot) (one along ps qs : List Place) → ((d : Place) → IsAmong d one → IsAmong d ps) → ((d : Place) → IsAmong d qs → IsAmong d ps) → IsFollowed t b l y along qs → IsFollowed t b l y (one ++ along) ps
  after l o y one along ps qs first inside on = record {
    occurs = on.occurs;
    within = λ d m. by_part d (parts d one m);
    round = on.round;
    loop = on.loop;
    inside = λ d m. inside d (on.inside d m);
  }
    where
      parts : (d : Place) (xs : List Place) → IsAmong d (xs ++ along) → IsAmong d xs ⊎ IsAmong d along
      parts d [] m = inr m
      parts d (x ∷ xs) (inl e) = inl (inl e)
      parts d (x ∷ xs) (inr m) = deeper (parts d xs m)
        where
          deeper : IsAmong d xs ⊎ IsAmong d along → IsAmong d (x ∷ xs) ⊎ IsAmong d along
          deeper (inl m) = inl (inr m)
          deeper (inr m) = inr m

      by_part : (d : Place) → IsAmong d one ⊎ IsAmong d along → IsAmong d ps
      by_part d (inl m) = first d m
      by_part d (inr m) = inside d (on.within d m)

  pub follow : (k l : Kind) (x y : TextSpot) (along ps : List Place) → IsOccurrence x → Chain t b k l x y along → Chain t b k (other_kind k) x x ps → IsFollowed t b l y along ps
  follow _ _ _ _ _ ps at (Chain.one_placed x y p joint) loop = placed_loop x y p ps at joint loop
  follow _ _ _ _ _ ps at (Chain.one_name x y joint) loop = named_loop x y ps at joint loop
  follow _ _ _ _ _ ps at (Chain.then_name l x o y p along joint occurs rest) loop =
      let one = placed_loop x o p ps at joint loop in
      after l o y (p ∷ []) along ps one.round one.within one.inside (follow of_name l o y along one.round occurs rest one.loop)
  follow _ _ _ _ _ ps at (Chain.then_placed l x o y along joint occurs rest) loop =
      let one = named_loop x o ps at joint loop in
      after l o y [] along ps one.round one.within one.inside (follow placed l o y along one.round occurs rest one.loop)
