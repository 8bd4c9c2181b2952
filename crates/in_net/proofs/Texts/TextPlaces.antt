-- The places of terms, joints and chains of a body.
use Rattle.std.proofs.Common.{inl, inr, List, ◌∷◌, ◌++◌, map, refl, sym, subst}
use Rattle.std.specs.List.{flat_map}
use Rattle.in_syntax.specs.declared.places.Place.{Place}
use Rattle.in_syntax.specs.declared.tree.Equation.{Equation}
use Rattle.in_syntax.specs.declared.tree.Term.{Term, out-Term}
use Rattle.in_base.specs.Lists.{IsAmong}
use Rattle.in_syntax.specs.Order.{term_places, equation_places}
use Rattle.in_base.proofs.Among.{among_left, among_right, among_at, in_flat, in_map}
use Rattle.in_syntax.proofs.Public.{places_out}
use Rattle.in_symbols.specs.Tables.{Tables}
use Rattle.in_net.specs.TextNet as text
use Rattle.in_net.specs.TextNet.{Body, LeftHead, IsPartOf, itself, deeper, IsTermOf, in_left, in_right, in_head, PlacedJoint, of_equation, of_argument, of_head, turned, Chain, one_placed, one_name, then_name, then_placed, Kind, place_of}

-- the places of names and ~ in a body: the names of its heads' terms, and each equation's names and ~
abbrev pub text_places : Body → List Place
text_places b = flat_map (λ h. flat_map term_places h.head.terms) b.heads ++ flat_map equation_places b.equations

-- .. and its free names, and its heads' names
abbrev pub all_places : Body → List Place
all_places b = map (λ f. f.name.place) b.free ++ (map (λ h. h.head.name.place) b.heads ++ text_places b)

part_on : (u v w : Term) → IsPartOf u v → IsPartOf v w → IsPartOf u w
part_on u v _ h (itself _) = h
part_on u v _ h (deeper _ x t among k) = deeper u x t among (part_on u v x h k)

pub part_place : (u w : Term) → IsPartOf u w → IsAmong (place_of u) (term_places w)
part_place _ _ (itself u) = subst (IsAmong (place_of u)) (sym (places_out u)) (inl refl)
part_place _ _ (deeper u v t among k) =
    subst (IsAmong (place_of u)) (sym (places_out t)) (inr (in_flat (λ (ps : List Place). ps) (map term_places (out-Term t).args) (term_places v) (place_of u) (in_map term_places (out-Term t).args v among) (part_place u v k)))

pub equation_place : (b : Body) (e : Equation) (p : Place) → IsAmong e b.equations → IsAmong p (equation_places e) → IsAmong p (text_places b)
equation_place b e p among h = among_right p (flat_map (λ (h : LeftHead). flat_map term_places h.head.terms) b.heads) (flat_map equation_places b.equations) (in_flat equation_places b.equations e p among h)

pub term_place : (b : Body) (u : Term) → IsTermOf b u → IsAmong (place_of u) (text_places b)
term_place b u (in_left e among part) = equation_place b e (place_of u) among (among_left (place_of u) (term_places e.left) (e.tilde ∷ term_places e.right) (part_place u e.left part))
term_place b u (in_right e among part) = equation_place b e (place_of u) among (among_right (place_of u) (term_places e.left) (e.tilde ∷ term_places e.right) (inr (part_place u e.right part)))
term_place b u (in_head h v among inside part) =
    among_left (place_of u) (flat_map (λ (h : LeftHead). flat_map term_places h.head.terms) b.heads) (flat_map equation_places b.equations)
    (in_flat (λ (h : LeftHead). flat_map term_places h.head.terms) b.heads h (place_of u) among (in_flat term_places h.head.terms v (place_of u) inside (part_place u v part)))

pub argument_of : (b : Body) (u v : Term) → IsTermOf b u → IsAmong v (out-Term u).args → IsTermOf b v
argument_of b u v (in_left e among part) h = in_left e among (part_on v u e.left (deeper v v u h (itself v)) part)
argument_of b u v (in_right e among part) h = in_right e among (part_on v u e.right (deeper v v u h (itself v)) part)
argument_of b u v (in_head g w among inside part) h = in_head g w among inside (part_on v u w (deeper v v u h (itself v)) part)

pub joint_place : (t : Tables) (b : Body) (x y : text.TextSpot) (p : Place) → PlacedJoint t b x y p → IsAmong p (text_places b)
joint_place t b _ _ _ (of_equation e among) = equation_place b e e.tilde among (among_right e.tilde (term_places e.left) (e.tilde ∷ term_places e.right) (inl refl))
joint_place t b _ _ _ (of_argument u v i there symbol is) = term_place b v (argument_of b u v there (among_at (out-Term u).args i v is))
joint_place t b _ _ _ (of_head h v i among is) = term_place b v (in_head h v among (among_at h.head.terms i v is) (itself v))
joint_place t b _ _ _ (turned x y p joint) = joint_place t b x y p joint

pub chain_place : (t : Tables) (b : Body) (k l : Kind) (x y : text.TextSpot) (ps : List Place) (p : Place) → Chain t b k l x y ps → IsAmong p ps → IsAmong p (text_places b)
chain_place t b _ _ _ _ _ p (one_placed x y q joint) (inl e) = subst (λ p. IsAmong p (text_places b)) e (joint_place t b x y q joint)
chain_place t b _ _ _ _ _ p (one_placed x y q joint) (inr h) = absurd h
chain_place t b _ _ _ _ _ p (one_name x y joint) h = absurd h
chain_place t b _ _ _ _ _ p (then_name k x o y q ps joint occurs rest) (inl e) = subst (λ p. IsAmong p (text_places b)) e (joint_place t b x o q joint)
chain_place t b _ _ _ _ _ p (then_name k x o y q ps joint occurs rest) (inr h) = chain_place t b text.of_name k o y ps p rest h
chain_place t b _ _ _ _ _ p (then_placed k x o y ps joint occurs rest) h = chain_place t b text.placed k o y ps p rest h
