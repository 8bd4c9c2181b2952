-- Chains that are put together at a name.
use Rattle.std.proofs.Common.{◌≡◌, Bool, true, false, cond, nat_lt, List, [], ◌++◌, refl, arith, ltb-false, ltb-true}
use Rattle.in_syntax.specs.declared.places.Place.{Place}
use Rattle.in_symbols.specs.Tables.{Tables}
use Rattle.in_net.specs.Joining.{later_of}
use Rattle.in_net.specs.TextNet.{Body, TextSpot, Kind, placed, of_name, NameJoint, IsOccurrence, Chain, IsLastOf}
use Rattle.in_base.proofs.Among.{among_left, among_right}
use Rattle.in_base.proofs.Each.{all_map, all_append}

-- on through a name
pub through : (t : Tables) (b : Body) (k l : Kind) (x o u y : TextSpot) (ps qs : List Place) → Chain t b k placed x o ps → IsOccurrence o → NameJoint t b o u → IsOccurrence u → Chain t b placed l u y qs → Chain t b k l x y (ps ++ qs)
through t b _ l _ _ u y _ qs (Chain.one_placed x o p joint) occurs name occurs_u chain = Chain.then_name l x o y p qs joint occurs (Chain.then_placed l o u y qs name occurs_u chain)
through t b _ l _ _ u y _ qs (Chain.then_name _ x o1 o p ps joint occurs_1 rest) occurs name occurs_u chain =
    Chain.then_name l x o1 y p (ps ++ qs) joint occurs_1 (through t b of_name l o1 o u y ps qs rest occurs name occurs_u chain)
through t b _ l _ _ u y _ qs (Chain.then_placed _ x o1 o ps joint occurs_1 rest) occurs name occurs_u chain =
    Chain.then_placed l x o1 y (ps ++ qs) joint occurs_1 (through t b placed l o1 o u y ps qs rest occurs name occurs_u chain)

-- to the end that a name joins
pub to_name : (t : Tables) (b : Body) (k : Kind) (x o u : TextSpot) (ps : List Place) → Chain t b k placed x o ps → IsOccurrence o → NameJoint t b o u → Chain t b k of_name x u ps
to_name t b _ _ _ u _ (Chain.one_placed x o p joint) occurs name = Chain.then_name of_name x o u p [] joint occurs (Chain.one_name o u name)
to_name t b _ _ _ u _ (Chain.then_name _ x o1 o p ps joint occurs_1 rest) occurs name = Chain.then_name of_name x o1 u p ps joint occurs_1 (to_name t b of_name o1 o u ps rest occurs name)
to_name t b _ _ _ u _ (Chain.then_placed _ x o1 o ps joint occurs_1 rest) occurs name = Chain.then_placed of_name x o1 u ps joint occurs_1 (to_name t b placed o1 o u ps rest occurs name)

later_by : (p q : Place) (ps qs : List Place) (b : Bool) → nat_lt q.from p.from ≡ b → IsLastOf p ps → IsLastOf q qs → IsLastOf (cond b p q) (ps ++ qs)
later_by p q ps qs true is h k =
    let less = ltb-true q.from p.from is in
    (among_left p ps qs h.0, all_append _ ps qs h.1 (all_map _ _ (λ x le. omega (arith, le, less)) qs k.1))
later_by p q ps qs false is h k =
    let less = ltb-false q.from p.from is in
    (among_right q ps qs k.0, all_append _ ps qs (all_map _ _ (λ x le. omega (arith, le, less)) ps h.1) k.1)

-- the later of two last places is the last of all
pub later_last : (p q : Place) (ps qs : List Place) → IsLastOf p ps → IsLastOf q qs → IsLastOf (later_of p q) (ps ++ qs)
later_last p q ps qs h k = later_by p q ps qs (nat_lt q.from p.from) refl h k

-- and in the other order
pub later_first : (p q : Place) (ps qs : List Place) → IsLastOf p ps → IsLastOf q qs → IsLastOf (later_of p q) (qs ++ ps)
later_first p q ps qs h k = first_by (nat_lt q.from p.from) refl
  where
    first_by : (b : Bool) → nat_lt q.from p.from ≡ b → IsLastOf (cond b p q) (qs ++ ps)
    first_by true is =
        let less = ltb-true q.from p.from is in
        (among_right p qs ps h.0, all_append _ qs ps (all_map _ _ (λ x le. omega (arith, le, less)) qs k.1) h.1)
    first_by false is =
        let less = ltb-false q.from p.from is in
        (among_left q qs ps k.0, all_append _ qs ps k.1 (all_map _ _ (λ x le. omega (arith, le, less)) ps h.1))
