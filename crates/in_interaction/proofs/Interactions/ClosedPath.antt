-- A closed alternating path would be a crossing circle in the net before or in the open right member.
use Rattle.std.proofs.Common.{◌≡◌, ◌⊎◌, ◌≤◌, ℕ, zero, suc, Bool, List, [], ◌∷◌, ◌++◌, length, refl, sym, subst, ap, ◌∙◌, arith}
use mathlib.Core.HLevel.{Discrete}
use Rattle.std.proofs.lemmas.Option.{same_Some}
use Rattle.in_base.specs.Graphs.{CrossingCircle}
use Rattle.in_net.specs.Graphs.{graph_of}
use Rattle.in_net.specs.Nets.{Point, Port, Free, Signature, AreClasses, Net, IsNet}
use Rattle.in_net.specs.Interactions.{Redex, IsRedex, Side, Outer, Inner, other, end_agent, end_place, EndWire, EndPath, ClosedPath, open_member}
use Rattle.in_interaction.proofs.Interactions.Places.{Place, Old, New, Boundary, Loose, wires}
use Rattle.in_interaction.proofs.Interactions.Tours.{Stop, Through, Tour}
use Rattle.in_interaction.proofs.Interactions.Paths.{other_twice, other_side}
use Rattle.in_interaction.proofs.Interactions.Stops.{ClosedTour}
use Rattle.in_interaction.proofs.Interactions.Compress.{AreOneWay, circle_of_tour}
use Rattle.in_interaction.proofs.Interactions.AtNets.{sides, are_sides}
use Rattle.in_net.proofs.Public.{end_same, port_agent, port_place}

-- wires between boundary ends: one from each end on a side, there and back, and none from an end to itself
record AreEndWires (wire : Side → ℕ → ℕ → Type 0) : Type 0 where
  one : (s : Side) (e f g : ℕ) → wire s e f → wire s e g → f ≡ g
  back : (s : Side) (e f : ℕ) → wire s e f → wire s f e
  apart : (s : Side) (e : ℕ) → wire s e e → ⊥

module _ (wire : Side → ℕ → ℕ → Type 0) (wired : AreEndWires wire) where
  -- a path without its last wire
  but_last : (s : Side) (e k : ℕ) (ks : List ℕ) (t : Side) (f : ℕ) → EndPath wire s e (k ∷ ks) t f → (fs : List ℕ) × (g : ℕ) × EndPath wire s e fs (other t) g × wire t g f × (length ks ≡ length fs)
  but_last s e k [] t f w = ([], k, (sym (other_twice s) ∙ ap other w.1.0, w.0), subst (λ u. wire u k f) w.1.0 w.1.1, refl)
  but_last s e k (l ∷ ls) t f w =
      let r = but_last (other s) k l ls t f w.1 in
      (k ∷ r.0, r.1, (w.0, r.2), r.3, ap suc r.4)

  -- no path comes back to an end on the side on which it left: it would go back over its own wires
  never_back : (k : ℕ) (s : Side) (e : ℕ) (es : List ℕ) → length es ≤ k → EndPath wire s e es s e → ⊥
  never_back k s e [] h w = wired.apart s e w.1
  never_back zero s e (g ∷ gs) h w = omega arith
  never_back (suc k) s e (g ∷ []) h w = other_side s w.1.0
  never_back (suc k) s e (g ∷ l ∷ ls) h w =
      let r = but_last (other s) g l ls s e w.1 in
      let same : r.1 ≡ g = wired.one s e r.1 g (wired.back s r.1 e r.3) w.0 in
      let fewer = r.4 in
      never_back k (other s) g r.0 (omega arith) (subst (EndPath wire (other s) g r.0 (other s)) same r.2)

  never : (s : Side) (e : ℕ) (es : List ℕ) → EndPath wire s e es s e → ⊥
  never s e es w = never_back (length es) s e es (omega arith) w

  -- so paths from one end never reach one end on both sides
  one_side : (s : Side) (e : ℕ) (es : List ℕ) (t : Side) (f : ℕ) (fs : List ℕ) → EndPath wire s e es t f → EndPath wire s e fs (other t) f → ⊥
  one_side s e [] t f [] w v = other_side t (sym v.0 ∙ w.0)
  one_side s e [] t f (g ∷ gs) w v =
      let same : g ≡ f = wired.one s e g f v.0 w.1 in
      never (other t) f gs (subst (λ u. EndPath wire (other u) f gs (other t) f) w.0 (subst (λ g. EndPath wire (other s) g gs (other t) f) same v.1))
  one_side s e (g ∷ gs) t f [] w v =
      let same : g ≡ f = wired.one s e g f w.0 v.1 in
      let turn : other s ≡ t = ap other v.0 ∙ other_twice t in
      never t f gs (subst (λ u. EndPath wire u f gs t f) turn (subst (λ g. EndPath wire (other s) g gs t f) same w.1))
  one_side s e (g ∷ gs) t f (h ∷ hs) w v =
      let same : h ≡ g = wired.one s e h g v.0 w.0 in
      one_side (other s) g gs t f hs w.1 (subst (λ g. EndPath wire (other s) g hs (other t) f) same v.1)

  -- a path with one more wire
  one_more : (s : Side) (e : ℕ) (es : List ℕ) (t : Side) (f g : ℕ) → EndPath wire s e es t f → wire (other t) f g → EndPath wire s e (es ++ f ∷ []) (other t) g
  one_more s e [] t f g w v = (w.1, (ap other w.0, subst (λ u. wire u f g) (sym (ap other w.0)) v))
  one_more s e (k ∷ ks) t f g w v = (w.0, one_more (other s) k ks t f g w.1 v)

module _ {A B : Type 0} (sig : Signature) (classed : AreClasses sig) (n : Net A) (x : Redex A B) (net : IsNet sig n) (inside : IsNet sig x.member) (redex : IsRedex sig n x) where
  free_end : (e f : ℕ) → ◌≡◌ {A = Point B} (Free e) (Free f) → e ≡ f
  free_end e f h = cc

  end_wires : AreEndWires (EndWire sig n x)
  end_wires = record { one = one; back = back; apart = apart }
    where
      one : (s : Side) (e f g : ℕ) → EndWire sig n x s e f → EndWire sig n x s e g → f ≡ g
      one Outer e f g w v =
          let h = same_Some (Port (end_agent sig x f) (end_place sig x f)) (Port (end_agent sig x g) (end_place sig x g)) (sym w ∙ v) in
          end_same sig n x net inside redex f g (port_agent (end_agent sig x f) (end_agent sig x g) (end_place sig x f) (end_place sig x g) h) (port_place (end_agent sig x f) (end_agent sig x g) (end_place sig x f) (end_place sig x g) h)
      one Inner e f g w v = free_end f g (same_Some (Free f) (Free g) (sym w ∙ v))

      back : (s : Side) (e f : ℕ) → EndWire sig n x s e f → EndWire sig n x s f e
      back Outer e f w = net.back (Port (end_agent sig x e) (end_place sig x e)) (Port (end_agent sig x f) (end_place sig x f)) w
      back Inner e f w = inside.back (Free e) (Free f) w

      apart : (s : Side) (e : ℕ) → EndWire sig n x s e e → ⊥
      apart Outer e w = net.apart (Port (end_agent sig x e) (end_place sig x e)) w
      apart Inner e w = inside.apart (Free e) w

  module _ (side : Side) (first : ℕ) where
    -- a path from the first end reaches this one on this side
    abbrev Comes : Side → ℕ → Type 0
    Comes s e = (es : List ℕ) × EndPath (EndWire sig n x) side first es s e

    -- only boundary ends are passed
    abbrev En : Side → Place A B → Type 0
    En s (Old y i) = ⊥
    En s (New y i) = ⊥
    En s (Boundary e) = Comes s e
    En s (Loose k) = ⊥

    abbrev Le : Side → Place A B → Type 0
    Le s (Old y i) = ⊥
    Le s (New y i) = ⊥
    Le s (Boundary e) = Comes (other s) e
    Le s (Loose k) = ⊥

    wire_is : (s : Side) (e f : ℕ) → EndWire sig n x s e f → wires sig n x s (Boundary e) (Boundary f)
    wire_is Outer e f w = (Port (end_agent sig x e) (end_place sig x e), Port (end_agent sig x f) (end_place sig x f), refl, refl, w)
    wire_is Inner e f w = (Free e, Free f, refl, refl, w)

    -- it is left by the other side than the one on which it is entered
    leaves_it : (s : Side) (e : ℕ) → Comes s e → Comes (other (other s)) e
    leaves_it s e c = subst (λ t. Comes t e) (sym (other_twice s)) c

    goes_on : (s : Side) (e f : ℕ) → Comes s e → EndWire sig n x (other s) e f → Comes (other s) f
    goes_on s e f c w = (c.0 ++ e ∷ [], one_more (EndWire sig n x) end_wires side first c.0 s e f c.1 w)

    stops : (s : Side) (e : ℕ) (es : List ℕ) (t : Side) (f : ℕ) → ((g : ℕ) → EndWire sig n x s e g → Comes s g) → EndPath (EndWire sig n x) s e es t f → (ss : List (Stop A B)) × Tour (wires sig n x) En Le (s, Boundary e) ss (t, Boundary f)
    stops s e [] t f c w = ([], (w.0, wire_is s e f w.1))
    stops s e (g ∷ gs) t f c w =
        let here : Comes s g = c g w.0 in
        let r = stops (other s) g gs t f (λ h v. goes_on s g h here v) w.1 in
        (Through s g ∷ r.0, ((refl, wire_is s e g w.0), here, leaves_it s g here, r.1))

    one_way : (sameA : Discrete A) (sameC : Discrete (Bool × ℕ)) → AreOneWay (sides sig n x) (wires sig n x) (are_sides sig n x net inside redex classed) sameA sameC En Le
    one_way sameA sameC = record {
      old = λ y i j e l. absurd e;
      new = λ y i j e l. absurd e;
      ends = λ t e h k. one_side (EndWire sig n x) end_wires side first h.0 t e k.0 h.1 k.1;
    }

  tour : (s : Side) (e : ℕ) (es : List ℕ) → EndPath (EndWire sig n x) s e es (other s) e → ClosedTour (wires sig n x) (En s e) (Le s e)
  tour Outer e es w = record { first = Through Inner e; rest = r.0; enter = (es, w); leave = (es, w); closed = r.1 }
    where
      r : (ss : List (Stop A B)) × Tour (wires sig n x) (En Outer e) (Le Outer e) (Outer, Boundary e) ss (Inner, Boundary e)
      r = stops Outer e Outer e es Inner e (λ g v. ([], (refl, v))) w
  tour Inner e es w = record { first = Through Outer e; rest = r.0; enter = (es, w); leave = (es, w); closed = r.1 }
    where
      r : (ss : List (Stop A B)) × Tour (wires sig n x) (En Inner e) (Le Inner e) (Inner, Boundary e) ss (Outer, Boundary e)
      r = stops Inner e Inner e es Outer e (λ g v. ([], (refl, v))) w

  pub no_closed_path : Discrete A → Discrete B → Discrete (Bool × ℕ) → ClosedPath sig n x → CrossingCircle (graph_of sig n) ⊎ CrossingCircle (open_member sig x)
  no_closed_path sameA sameB sameC p =
      circle_of_tour (sides sig n x) (wires sig n x) (are_sides sig n x net inside redex classed) sameA sameC (En p.side p.first) (Le p.side p.first) sameB (one_way p.side p.first sameA sameC)
      (tour p.side p.first p.rest p.closed)
