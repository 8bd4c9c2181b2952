-- An interaction makes no crossing circle: one after it falls apart, and its pieces leave a closed walk inside, which shortens.
use Rattle.std.proofs.Common.{◌≡◌, ◌⊎◌, ℕ, Bool, List, [], ◌∷◌, map, refl, inl}
use Rattle.std.specs.List.{AllByRecursion}
use mathlib.Core.HLevel.{Discrete}
use Rattle.in_base.specs.Graphs.{Passage, LeadsThrough, CrossingCircle}
use Rattle.in_net.specs.Graphs.{graph_of}
use Rattle.in_net.specs.Nets.{Port, Signature, AreClasses, Net, IsNet}
use Rattle.in_net.specs.Interactions.{Redex, IsRedex, IsStep, open_member}
use Rattle.in_interaction.specs.Pieces.{Piece, Outside, Inside, IsPiece, IsPassage, IsMadeOf, wholly_outside, wholly_inside, of_pieces, renamed, name_after}
use Rattle.in_interaction.proofs.Interactions.ByPlaces.{by_places}
use Rattle.in_interaction.proofs.Interactions.FallsApart.{falls_apart}
use Rattle.in_interaction.proofs.Interactions.LaidOut.{laid_out}
use Rattle.in_interaction.proofs.Interactions.OuterPieces.{is_passage}
use Rattle.in_interaction.proofs.Interactions.CycleWalks.{crossing_in, closed_walk}
use Rattle.in_interaction.proofs.Interactions.Cycles.{apart_named}
use Rattle.in_interaction.proofs.Interactions.Rounds.{shortens}

-- a crossing circle of the right member is one of the open right member
module _ {A B : Type 0} (sig : Signature) (x : Redex A B) where
  leads_in : (y z : B) (i j : ℕ) (ps : List (Passage B)) → LeadsThrough (graph_of sig x.member) (y, i) ps (z, j) → LeadsThrough (open_member sig x) (inl y, i) (map (renamed (λ y. inl y)) ps) (inl z, j)
  leads_in y z i j [] w = (Port y i, Port z j, refl, refl, w)
  leads_in y z i j (p ∷ ps) w = ((Port y i, Port p.node p.enter, refl, refl, w.0), leads_in p.node z p.leave j ps w.1)

  same_agent : (y z : B) → ◌≡◌ {A = B ⊎ (Bool × ℕ)} (inl y) (inl z) → y ≡ z
  same_agent y z h = cc

  opened : CrossingCircle (graph_of sig x.member) → CrossingCircle (open_member sig x)
  opened c = record {
    first = renamed (λ y. inl y) c.first;
    rest = map (renamed (λ y. inl y)) c.rest;
    closed = leads_in c.first.node c.first.node c.first.leave c.first.enter c.rest c.closed;
    crossing = crossing_in sig x (c.first ∷ c.rest) c.crossing;
    apart = apart_named (λ (y : B). let m : B ⊎ (Bool × ℕ) = inl y in m) same_agent (c.first ∷ c.rest) c.apart;
  }

module _ {A B : Type 0} (sig : Signature) (classed : AreClasses sig) (n : Net A) (x : Redex A B) (net : IsNet sig n) (inside : IsNet sig x.member) (redex : IsRedex sig n x) (name : B → A) (after : Net A) (step : IsStep sig n x name after) where
  pub made_of : (c : CrossingCircle (graph_of sig after)) → IsMadeOf sig n x name (c.first ∷ c.rest)
  made_of c =
      let l = laid_out sig classed n x net inside redex (name_after name) after (by_places sig n x name net inside redex step.naming after step) c in
      falls_apart sig classed n x net inside redex name (c.first ∷ c.rest) l.0 l.1

  module _ (sameA : Discrete A) (sameB : Discrete B) (none : CrossingCircle (graph_of sig n) → ⊥) (none_inside : CrossingCircle (open_member sig x) → ⊥) where
    passages : (ps : List (Piece A B)) → AllByRecursion (IsPiece sig n x) ps → AllByRecursion (IsPassage sig x) ps
    passages [] h = tt
    passages (Outside e os f ∷ ps) h = (is_passage sig n x classed net redex sameA none e f os h.0, passages ps h.1)
    passages (Inside e is f ∷ ps) h = (tt, passages ps h.1)

    pub no_new_circle : CrossingCircle (graph_of sig after) → ⊥
    no_new_circle c = go (made_of c)
      where
        go : IsMadeOf sig n x name (c.first ∷ c.rest) → ⊥
        go (wholly_outside r same) = none r
        go (wholly_inside r same) = none_inside (opened sig x r)
        go (of_pieces r turned) = none_inside (shortens sig x sameB (closed_walk sig n x r (passages (r.first ∷ r.rest) r.pieces)))
