-- A cycle after an interaction, laid out wire by wire, is cut into pieces at its boundary ends.
use Rattle.std.proofs.Common.{◌≡◌, ◌≢◌, ◌⊎◌, ℕ, Some, List, [], ◌∷◌, ◌++◌, map, refl, sym, subst, ap, inl, inr, ◌∙◌, append-nil}
use Rattle.std.specs.List.{AllByRecursion}
use Rattle.std.proofs.lemmas.List.{map-append}
use Rattle.in_base.specs.Graphs.{Passage, LeadsThrough, IsCrossing, AreApart}
use Rattle.in_net.specs.Graphs.{graph_of}
use Rattle.in_net.specs.Nets.{Port, Free, Signature, AreClasses, Net, IsNet}
use Rattle.in_net.specs.Interactions.{Redex, IsRedex, Side, Outer, Inner, other, open_port, open_member}
use Rattle.in_interaction.specs.Pieces.{Piece, Outside, Inside, begins, lies, IsPiece, passages_of, FollowInTurn, AreDifferent, PieceCycle, IsMadeOf, wholly_outside, wholly_inside, of_pieces, end_port, renamed, name_after}
use Rattle.in_base.proofs.Circuits.{apart_before}
use Rattle.in_interaction.proofs.Interactions.AtNets.{sides, are_sides}
use Rattle.in_interaction.proofs.Interactions.Compress.{outer_port, inner_port, IsOn, outer_inner}
use Rattle.in_interaction.proofs.Interactions.Places.{Place, Old, New, Boundary, wires}
use Rattle.in_interaction.proofs.Interactions.Cycles.{apart_turned, different_turned, apart_unnamed}
use Rattle.in_interaction.proofs.Interactions.Stops.{tour_to, tour_join, agents_join, boundary_join}
use Rattle.in_interaction.proofs.Interactions.Tours.{Stop, At_old, At_new, Through, enters, leaves, Passes, AnyPlace, IsCrossingStop, LaidOut, agents_of, boundary_of}
use Rattle.in_base.proofs.Each.{all_append, all_left, all_right}

-- the first boundary end on the way, and the stops before and after it
record FirstEnd {A B : Type 0} (ss : List (Stop A B)) : Type 0 where
  before : List (Stop A B)
  side : Side
  end : ℕ
  after : List (Stop A B)
  whole : ss ≡ before ++ Through side end ∷ after

abbrev IsAgent : {A B : Type 0} → Stop A B → Type 0
IsAgent (At_old x i j) = Unit {0}
IsAgent (At_new y i j) = Unit {0}
IsAgent (Through s e) = ⊥

find_end : {A B : Type 0} (ss : List (Stop A B)) → FirstEnd ss ⊎ AllByRecursion IsAgent ss
find_end [] = inr tt
find_end (Through s e ∷ ss) = inl (record { before = []; side = s; end = e; after = ss; whole = refl })
find_end (At_old x i j ∷ ss) = elim (find_end ss) [
  | inl f ↦ inl (record { before = At_old x i j ∷ f.before; side = f.side; end = f.end; after = f.after; whole = ap (λ r. At_old x i j ∷ r) f.whole })
  | inr h ↦ inr (tt, h)
]
find_end (At_new y i j ∷ ss) = elim (find_end ss) [
  | inl f ↦ inl (record { before = At_new y i j ∷ f.before; side = f.side; end = f.end; after = f.after; whole = ap (λ r. At_new y i j ∷ r) f.whole })
  | inr h ↦ inr (tt, h)
]

-- a cycle of stops, begun elsewhere
agents_turned : {A B : Type 0} (xs ys : List (Stop A B)) → AreApart (agents_of (xs ++ ys)) → AreApart (agents_of (ys ++ xs))
agents_turned xs ys h = subst AreApart (sym (agents_join ys xs)) (apart_turned (agents_of xs) (agents_of ys) (subst AreApart (agents_join xs ys) h))

ends_turned : {A B : Type 0} (xs ys : List (Stop A B)) → AreDifferent (boundary_of (xs ++ ys)) → AreDifferent (boundary_of (ys ++ xs))
ends_turned xs ys h = subst AreDifferent (sym (boundary_join ys xs)) (different_turned (boundary_of xs) (boundary_of ys) (subst AreDifferent (boundary_join xs ys) h))

module _ {A B : Type 0} (sig : Signature) (classed : AreClasses sig) (n : Net A) (x : Redex A B) (net : IsNet sig n) (inside : IsNet sig x.member) (redex : IsRedex sig n x) where
  -- the agents of a piece on a side, the piece, and the way from a place to the boundary end where it ends
  abbrev Agents : Side → Type 0
  Agents Outer = List (Passage A)
  Agents Inner = List (Passage B)

  abbrev piece : (s : Side) → ℕ → Agents s → ℕ → Piece A B
  piece Outer e ps f = Outside e ps f
  piece Inner e ps f = Inside e ps f

  abbrev Goes : (s : Side) → Place A B → Agents s → ℕ → Type 0
  Goes Outer p ps f = LeadsThrough (graph_of sig n) (outer_port (sides sig n x) p) ps (end_port sig x f) × AllByRecursion (IsCrossing (graph_of sig n)) ps × AllByRecursion (λ q. (q.node ≢ x.one) × (q.node ≢ x.two)) ps
  Goes Inner p ps f = LeadsThrough (open_member sig x) (inner_port (sides sig n x) p) (map (renamed (λ y. inl y)) ps) (open_port sig x (Free f)) × AllByRecursion (IsCrossing (graph_of sig x.member)) ps

  -- a walk to boundary end e, cut at its boundary ends: the rest of the piece in which it begins, and the later pieces
  record Cut (s : Side) (p : Place A B) (ss : List (Stop A B)) (t : Side) (e : ℕ) : Type 0 where
    here : Agents s
    to : ℕ
    later : List (Piece A B)
    goes : Goes s p here to
    turn : (b : ℕ) (ps : Agents s) (q : Piece A B) → begins q ≡ e → lies q ≡ other t → FollowInTurn (piece s b ps to) later q
    pieces : AllByRecursion (IsPiece sig n x) later
    agents : agents_of ss ≡ passages_of (piece s 0 here to ∷ later)
    bounds : boundary_of ss ≡ map begins later

  abbrev IsCut : List (Stop A B) → Type 0
  IsCut ss = AllByRecursion (IsCrossingStop sig n x) ss × AreApart (agents_of ss)

  -- the part after a boundary end is a piece
  outer_piece : (b : ℕ) (ss : List (Stop A B)) (t : Side) (e : ℕ) → AreApart (agents_of ss) → (r : Cut Outer (Boundary b) ss t e) → IsPiece sig n x (Outside b r.here r.to)
  outer_piece b ss t e apart r = record {
    leads = r.goes.0;
    crossing = r.goes.1;
    apart = apart_unnamed (λ (y : A). let m : A ⊎ B = inl y in m) r.here (apart_before (map (renamed (λ y. inl y)) r.here) (passages_of r.later) (subst AreApart r.agents apart));
    stays = r.goes.2;
  }

  inner_piece : (b : ℕ) (ss : List (Stop A B)) (t : Side) (e : ℕ) → AreApart (agents_of ss) → (r : Cut Inner (Boundary b) ss t e) → IsPiece sig n x (Inside b r.here r.to)
  inner_piece b ss t e apart r = record {
    leads = r.goes.0;
    crossing = r.goes.1;
    apart = apart_unnamed (λ (y : B). let m : A ⊎ B = inr y in m) r.here (apart_before (map (renamed (λ y. inr y)) r.here) (passages_of r.later) (subst AreApart r.agents apart));
  }

  cut : (ss : List (Stop A B)) (s : Side) (p : Place A B) (t : Side) (e : ℕ) → IsOn p → IsCut ss → Passes sig n x (s, p) ss (t, Boundary e) → Cut s p ss t e
  cut [] Outer p Outer e on h w = record { here = []; to = e; later = []; goes = ((are_sides sig n x net inside redex classed).outer p (Boundary e) on tt w.1, tt, tt); turn = λ b ps q k l. (sym k, l); pieces = tt; agents = refl; bounds = refl }
  cut [] Inner p Inner e on h w = record { here = []; to = e; later = []; goes = ((are_sides sig n x net inside redex classed).inner p (Boundary e) w.1, tt); turn = λ b ps q k l. (sym k, l); pieces = tt; agents = refl; bounds = refl }
  cut [] Outer p Inner e on h w = absurd (outer_inner w.0)
  cut [] Inner p Outer e on h w = absurd (outer_inner (sym w.0))
  cut (At_old y i j ∷ ss) Outer p t e on h w =
      let r = cut ss Outer (Old y j) t e tt (h.0.1, h.1.1) w.3 in
      let outer = are_sides sig n x net inside redex classed in
      let far = outer.old p y i w.0.1 in
      record {
        here = record { node = y; enter = i; leave = j } ∷ r.here;
        to = r.to;
        later = r.later;
        goes = ((outer.outer p (Old y i) on tt w.0.1, r.goes.0), (h.0.0, r.goes.1), ((far.0, far.1), r.goes.2));
        turn = λ b ps q k l. r.turn b ps q k l;
        pieces = r.pieces;
        agents = ap (λ z. record { node = inl y; enter = i; leave = j } ∷ z) r.agents;
        bounds = r.bounds;
      }
  cut (At_old y i j ∷ ss) Inner p t e on h w = absurd (outer_inner (sym w.0.0))
  cut (At_new y i j ∷ ss) Outer p t e on h w = absurd (outer_inner w.0.0)
  cut (At_new y i j ∷ ss) Inner p t e on h w =
      let r = cut ss Inner (New y j) t e tt (h.0.1, h.1.1) w.3 in
      record {
        here = record { node = y; enter = i; leave = j } ∷ r.here;
        to = r.to;
        later = r.later;
        goes = (((are_sides sig n x net inside redex classed).inner p (New y i) w.0.1, r.goes.0), (h.0.0, r.goes.1));
        turn = λ b ps q k l. r.turn b ps q k l;
        pieces = r.pieces;
        agents = ap (λ z. record { node = inr y; enter = i; leave = j } ∷ z) r.agents;
        bounds = r.bounds;
      }
  cut (Through Outer b ∷ ss) Outer p t e on h w =
      let r = cut ss Inner (Boundary b) t e tt (h.0.1, h.1) w.3 in
      record {
        here = [];
        to = b;
        later = Inside b r.here r.to ∷ r.later;
        goes = ((are_sides sig n x net inside redex classed).outer p (Boundary b) on tt w.0.1, tt, tt);
        turn = λ a ps q k l. ((refl, refl), r.turn b r.here q k l);
        pieces = (inner_piece b ss t e h.1 r, r.pieces);
        agents = r.agents;
        bounds = ap (λ z. b ∷ z) r.bounds;
      }
  cut (Through Inner b ∷ ss) Inner p t e on h w =
      let r = cut ss Outer (Boundary b) t e tt (h.0.1, h.1) w.3 in
      record {
        here = [];
        to = b;
        later = Outside b r.here r.to ∷ r.later;
        goes = ((are_sides sig n x net inside redex classed).inner p (Boundary b) w.0.1, tt);
        turn = λ a ps q k l. ((refl, refl), r.turn b r.here q k l);
        pieces = (outer_piece b ss t e h.1 r, r.pieces);
        agents = r.agents;
        bounds = ap (λ z. b ∷ z) r.bounds;
      }
  cut (Through Outer b ∷ ss) Inner p t e on h w = absurd (outer_inner (sym w.0.0))
  cut (Through Inner b ∷ ss) Outer p t e on h w = absurd (outer_inner w.0.0)

  -- a cycle that begins at a boundary end
  cycle : (s : Side) (e : ℕ) (ss : List (Stop A B)) → IsCut ss → AreDifferent (e ∷ boundary_of ss) → Passes sig n x (other s, Boundary e) ss (s, Boundary e) → (r : PieceCycle sig n x) × (agents_of ss ≡ passages_of (r.first ∷ r.rest))
  cycle Outer e ss h d w =
      let r = cut ss Inner (Boundary e) Outer e tt h w in (
        record {
          first = Inside e r.here r.to;
          rest = r.later;
          closed = r.turn e r.here (Inside e r.here r.to) refl refl;
          pieces = (inner_piece e ss Outer e h.1 r, r.pieces);
          agents = subst AreApart r.agents h.1;
          boundary = subst (λ z. AreDifferent (e ∷ z)) r.bounds d;
        },
        r.agents,
      )
  cycle Inner e ss h d w =
      let r = cut ss Outer (Boundary e) Inner e tt h w in (
        record {
          first = Outside e r.here r.to;
          rest = r.later;
          closed = r.turn e r.here (Outside e r.here r.to) refl refl;
          pieces = (outer_piece e ss Inner e h.1 r, r.pieces);
          agents = subst AreApart r.agents h.1;
          boundary = subst (λ z. AreDifferent (e ∷ z)) r.bounds d;
        },
        r.agents,
      )

  -- a walk without boundary ends goes by agents that stay alone, or by new agents alone
  outside : (ss : List (Stop A B)) (p : Place A B) (y : A) (i : ℕ) → IsOn p → AllByRecursion IsAgent ss → AllByRecursion (IsCrossingStop sig n x) ss → Passes sig n x (Outer, p) ss (Outer, Old y i) →
      (ps : List (Passage A)) × LeadsThrough (graph_of sig n) (outer_port (sides sig n x) p) ps (y, i) × AllByRecursion (IsCrossing (graph_of sig n)) ps × (agents_of ss ≡ map (renamed (λ y. inl y)) ps)
  outside [] p y i on a h w = ([], (are_sides sig n x net inside redex classed).outer p (Old y i) on tt w.1, tt, refl)
  outside (At_old z k j ∷ ss) p y i on a h w =
      let r = outside ss (Old z j) y i tt a.1 h.1 w.3 in
      (record { node = z; enter = k; leave = j } ∷ r.0, ((are_sides sig n x net inside redex classed).outer p (Old z k) on tt w.0.1, r.1), (h.0, r.2), ap (λ q. record { node = inl z; enter = k; leave = j } ∷ q) r.3)
  outside (At_new z k j ∷ ss) p y i on a h w = absurd (outer_inner w.0.0)
  outside (Through s e ∷ ss) p y i on a h w = absurd a.0

  inner_wire : (y z : B) (i j : ℕ) → wires sig n x Inner (New y i) (New z j) → x.member.partner (Port y i) ≡ Some (Port z j)
  inner_wire y z i j w = sym (ap x.member.partner w.2) ∙ w.4 ∙ ap (λ v. Some v) w.3

  within : (ss : List (Stop A B)) (z : B) (k : ℕ) (y : B) (i : ℕ) → AllByRecursion IsAgent ss → AllByRecursion (IsCrossingStop sig n x) ss → Passes sig n x (Inner, New z k) ss (Inner, New y i) →
      (ps : List (Passage B)) × LeadsThrough (graph_of sig x.member) (z, k) ps (y, i) × AllByRecursion (IsCrossing (graph_of sig x.member)) ps × (agents_of ss ≡ map (renamed (λ y. inr y)) ps)
  within [] z k y i a h w = ([], inner_wire z y k i w.1, tt, refl)
  within (At_new v l j ∷ ss) z k y i a h w =
      let r = within ss v j y i a.1 h.1 w.3 in
      (record { node = v; enter = l; leave = j } ∷ r.0, (inner_wire z v k l w.0.1, r.1), (h.0, r.2), ap (λ q. record { node = inr v; enter = l; leave = j } ∷ q) r.3)
  within (At_old v l j ∷ ss) z k y i a h w = absurd (outer_inner (sym w.0.0))
  within (Through s e ∷ ss) z k y i a h w = absurd a.0

  module _ (name : B → A) (circle : List (Passage A)) where
    abbrev names : List (Passage (A ⊎ B)) → List (Passage A)
    names ps = map (renamed (name_after name)) ps

    names_join : (xs ys : List (Stop A B)) → names (agents_of (xs ++ ys)) ≡ names (agents_of xs) ++ names (agents_of ys)
    names_join xs ys = ap names (agents_join xs ys) ∙ map-append (renamed (λ m. name_after name m)) (agents_of xs) (agents_of ys)

    named_out : (ps : List (Passage A)) → names (map (renamed (λ y. inl y)) ps) ≡ ps
    named_out [] = refl
    named_out (p ∷ ps) = ap (λ z. p ∷ z) (named_out ps)

    named_in : (ps : List (Passage B)) → names (map (renamed (λ y. inr y)) ps) ≡ map (renamed name) ps
    named_in [] = refl
    named_in (p ∷ ps) = ap (λ z. renamed name p ∷ z) (named_in ps)

    whole : (q : Stop A B) (ss : List (Stop A B)) → AllByRecursion IsAgent (q ∷ ss) → AllByRecursion (IsCrossingStop sig n x) (q ∷ ss) → AreApart (agents_of (q ∷ ss)) → Passes sig n x (leaves q) ss (enters q) → names (agents_of (q ∷ ss)) ≡ circle → IsMadeOf sig n x name circle
    whole (At_old y i j) ss a h apart w same =
        let r = outside ss (Old y j) y i tt a.1 h.1 w in
        let p : Passage A = record { node = y; enter = i; leave = j } in
        let all : agents_of (At_old y i j ∷ ss) ≡ map (renamed (λ y. inl y)) (p ∷ r.0) = ap (λ z. record { node = inl y; enter = i; leave = j } ∷ z) r.3 in
        wholly_outside (record { first = p; rest = r.0; closed = r.1; crossing = (h.0, r.2); apart = apart_unnamed (λ (y : A). let m : A ⊎ B = inl y in m) (p ∷ r.0) (subst AreApart all apart) })
        (sym (named_out (p ∷ r.0)) ∙ sym (ap names all) ∙ same)
    whole (At_new y i j) ss a h apart w same =
        let r = within ss y j y i a.1 h.1 w in
        let p : Passage B = record { node = y; enter = i; leave = j } in
        let all : agents_of (At_new y i j ∷ ss) ≡ map (renamed (λ y. inr y)) (p ∷ r.0) = ap (λ z. record { node = inr y; enter = i; leave = j } ∷ z) r.3 in
        wholly_inside (record { first = p; rest = r.0; closed = r.1; crossing = (h.0, r.2); apart = apart_unnamed (λ (y : B). let m : A ⊎ B = inr y in m) (p ∷ r.0) (subst AreApart all apart) })
        (sym (named_in (p ∷ r.0)) ∙ sym (ap names all) ∙ same)
    whole (Through s e) ss a h apart w same = absurd a.0

    -- a cycle of stops, begun at one of its boundary ends
    turned : (l : LaidOut sig n x) → FirstEnd l.rest → names (agents_of (l.first ∷ l.rest)) ≡ circle → IsMadeOf sig n x name circle
    turned l f same =
        let front = l.first ∷ f.before in
        let t = tour_to (wires sig n x) AnyPlace AnyPlace (leaves l.first) (enters l.first) f.before (Through f.side f.end) f.after (subst (λ ss. Passes sig n x (leaves l.first) ss (enters l.first)) f.whole l.closed) in
        let w = tour_join (wires sig n x) AnyPlace AnyPlace (other f.side, Boundary f.end) (f.side, Boundary f.end) f.after l.first f.before t.3 tt tt t.0 in
        let stops : l.first ∷ l.rest ≡ front ++ Through f.side f.end ∷ f.after = ap (λ z. l.first ∷ z) f.whole in
        let crossing = crossed front f.after (Through f.side f.end) (subst (AllByRecursion (IsCrossingStop sig n x)) stops l.crossing) in
        let apart = agents_turned front (Through f.side f.end ∷ f.after) (subst (λ z. AreApart (agents_of z)) stops l.agents) in
        let different = ends_turned front (Through f.side f.end ∷ f.after) (subst (λ z. AreDifferent (boundary_of z)) stops l.boundary) in
        let r = cycle f.side f.end (f.after ++ front) (crossing, apart) different w in
        of_pieces r.0 (
          names (agents_of front),
          names (agents_of f.after),
          sym same ∙ ap (λ z. names (agents_of z)) stops ∙ names_join front (Through f.side f.end ∷ f.after),
          sym (ap names r.1) ∙ names_join f.after front,
        )
      where
        crossed : (xs ys : List (Stop A B)) (q : Stop A B) → AllByRecursion (IsCrossingStop sig n x) (xs ++ q ∷ ys) → AllByRecursion (IsCrossingStop sig n x) (ys ++ xs)
        crossed xs ys q h = all_append (IsCrossingStop sig n x) ys xs (all_right (IsCrossingStop sig n x) xs (q ∷ ys) h).1 (all_left (IsCrossingStop sig n x) xs (q ∷ ys) h)

    -- .. that has one already at its head
    at_end : (s : Side) (e : ℕ) (l : LaidOut sig n x) → l.first ≡ Through s e → names (agents_of (l.first ∷ l.rest)) ≡ circle → IsMadeOf sig n x name circle
    at_end s e l is same =
        let stops : l.first ∷ l.rest ≡ Through s e ∷ l.rest = ap (λ q. q ∷ l.rest) is in
        let r = cycle s e l.rest (l.crossing.1, subst AreApart (ap agents_of stops) l.agents) (subst AreDifferent (ap boundary_of stops) l.boundary) (subst (λ q. Passes sig n x (leaves q) l.rest (enters q)) is l.closed) in
        of_pieces r.0 ([], circle, refl, ap names (sym r.1) ∙ sym (ap names (ap agents_of stops)) ∙ same ∙ sym (append-nil circle))

    pub falls_apart : (l : LaidOut sig n x) → names (agents_of (l.first ∷ l.rest)) ≡ circle → IsMadeOf sig n x name circle
    falls_apart l same = go (kind l.first)
      where
        kind : (q : Stop A B) → IsAgent q ⊎ ((s : Side) × (e : ℕ) × (q ≡ Through s e))
        kind (At_old y i j) = inl tt
        kind (At_new y i j) = inl tt
        kind (Through s e) = inr (s, e, refl)

        go : IsAgent l.first ⊎ ((s : Side) × (e : ℕ) × (l.first ≡ Through s e)) → IsMadeOf sig n x name circle
        go (inr r) = at_end r.0 r.1 l r.2 same
        go (inl a) = elim (find_end l.rest) [ inl f ↦ turned l f same | inr all ↦ whole l.first l.rest (a, all) l.crossing l.agents l.closed same ]
