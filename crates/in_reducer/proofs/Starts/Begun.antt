-- A reducer at its start: tools that hold nothing, and the other ends of its free ends.
use Rattle.std.proofs.Common.{◌≡◌, ◌<◌, ◌≤◌, ◌+◌, ℕ, zero, suc, Some, List, [], ◌∷◌, ◌++◌, length, map, take, set, slice_get, vec_capacity, sym, ap, subst, ◌∙◌}
use Rattle.std.proofs.lemmas.List.{map-append, take_more, take_more_set}
use Rattle.std.proofs.lemmas.Option.{same_Some}
use Rattle.in_arena.specs.Arenas.{ArenaView}
use Rattle.in_arena.specs.Bags.{empty_bag}
use Rattle.in_arena.specs.declared.content.CellNo.{CellNo}
use Rattle.in_arena.specs.declared.content.End.{End}
use Rattle.in_arena.proofs.Public.{empty_is_of}
use Rattle.in_net.specs.declared.nets.FreeEnd.{FreeEnd}
use Rattle.in_syntax.specs.TextLimits.{most_member_agents}
use Rattle.in_check.specs.Programs.{Program}
use Rattle.in_compile.specs.declared.joints.Joint.{Joint}
use Rattle.in_compile.specs.Placing.{PlacedParts}
use Rattle.in_compile.proofs.Public.{none_in_empty, mapped_more}
use Rattle.in_reducer.specs.declared.body.OwnEnd.{OwnEnd}
use Rattle.in_reducer.specs.declared.body.OwnEnd.TheVariants.{Named}
use Rattle.in_reducer.specs.declared.tools.Tools.{Tools}
use Rattle.in_reducer.specs.Inside.{AreTools, declared_as, most_ends, most_points}
use Rattle.in_reducer.specs.Placed.{IsNoneOf}
use Rattle.in_reducer.specs.Sides.{inner_of}

none_of : (b a : ArenaView) → b ≡ empty_bag a → IsNoneOf b a
none_of b a e = subst (λ (v : ArenaView). IsNoneOf v a) (sym e) ((empty_is_of a).0, none_in_empty a)

-- tools of an arena that hold nothing
pub are_tools : (x : Tools) (a : ArenaView) (room : ℕ) → x.placed ≡ record { cells = []; bag = empty_bag a; room = room } → most_member_agents ≤ room → x.made.items ≡ [] → most_ends ≤ vec_capacity x.made
    → most_points ≤ length x.points.items → AreTools x a
are_tools x a room placed fits none made points = record {
  placed = none_of x.placed.bag a (ap (λ (p : PlacedParts). p.bag) placed);
  room = subst (λ (n : ℕ). most_member_agents ≤ n) (sym (ap (λ (p : PlacedParts). p.room) placed)) fits;
  made = none;
  made_room = made;
  points = points;
}

-- one more free end leads where its joint does
pub one_more_end : (ns : List CellNo) (joints : List Joint) (k : ℕ) (j : Joint) (es : List End) (v : End) → slice_get joints k ≡ Some j → k < length es → v ≡ inner_of ns 0 j →
    take k es ≡ map (inner_of ns 0) (take k joints) → take (k + 1) (set es k v) ≡ map (inner_of ns 0) (take (k + 1) joints)
one_more_end ns joints k j es v stands low is before =
    mapped_more (inner_of ns 0) joints k j [] (take k es) (take (k + 1) (set es k v)) stands before (take_more_set es k v low ∙ ap (λ (z : End). take k es ++ z ∷ []) is)

-- ---- free ends

-- a property of each element, and of one more
pub each_push : {X : Type 0} (P : X → Type 0) (xs : List X) (x : X) → ((j : ℕ) (y : X) → slice_get xs j ≡ Some y → P y) → P x → (j : ℕ) (y : X) → slice_get (xs ++ x ∷ []) j ≡ Some y → P y
each_push P [] x each here zero y e = subst P (same_Some x y e) here
each_push P [] x each here (suc j) y e = cc
each_push P (z ∷ zs) x each here zero y e = each zero y e
each_push P (z ∷ zs) x each here (suc j) y e = each_push P zs x (λ k w f. each (suc k) w f) here j y e

-- one free end of the program more
pub one_more_free : (p : Program) (k : ℕ) (es more : List OwnEnd) → k < length p.net.free → map (declared_as p) es ≡ take k p.net.free → more ≡ es ++ Named k ∷ [] → map (declared_as p) more ≡ take (k + 1) p.net.free
one_more_free p k es more low before is =
    ap (map (declared_as p)) is ∙ map-append (declared_as p) es (Named k ∷ []) ∙ ap (λ (fs : List FreeEnd). fs ++ declared_as p (Named k) ∷ []) before ∙ sym (take_more p.net.free k _ low)
