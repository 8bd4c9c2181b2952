-- The words at points after an end is written at one.
use Rattle.std.proofs.Common.{◌≡◌, ◌≢◌, ◌<◌, ℕ, List, length, slice_get, Some, refl, sym, ap, subst, ◌∙◌, arith, get_or-set_same, get_or-set_other, length-set}
use native.Mathlib.Decide.{ℕ_discrete}
use Rattle.in_base.proofs.Places.{set_here, set_there}
use Rattle.in_arena.specs.Arenas.{ArenaView, state_at, changed}
use Rattle.in_arena.specs.EndWords.{IsNear}
use Rattle.in_arena.specs.States.{State, Vacant, Leased, Live, places, end_at, with_end}
use Rattle.in_arena.specs.declared.content.CellNo.{CellNo}
use Rattle.in_arena.specs.declared.content.End.{End}
use Rattle.in_arena.specs.declared.content.End.TheVariants as end
use Rattle.in_arena.proofs.Public.{state_inside, placed_here}
use Rattle.in_net.specs.Nets.{Point, Port, Free}
use Rattle.in_cells.specs.Cells.{KeepsCells}
use Rattle.in_cells.specs.Shown.{point_of, end_of, stands_at, IsPlaceAt, IsWritten, AreExchanged}
use Rattle.in_cells.proofs.Kept.{keeps, keep_on, place_written, places_kept}

pub point_end : (x : End) → end_of (point_of x) ≡ x
point_end (end.Cell c i) = refl
point_end (end.Free k) = refl

pub end_point : (u : Point ℕ) → point_of (end_of u) ≡ u
end_point (Port y i) = refl
end_point (Free k) = refl

-- ---- one place of one cell

end_here : (s : State) (i : ℕ) (x : End) → i < places s → end_at (with_end s i x) i ≡ Some x
end_here Vacant i x h = absurd (omega (arith, h))
end_here Leased i x h = absurd (omega (arith, h))
end_here (Live word ends) i x h = set_here ends i x h

end_there : (s : State) (i j : ℕ) (x : End) → j ≢ i → end_at (with_end s i x) j ≡ end_at s j
end_there Vacant i j x h = refl
end_there Leased i j x h = refl
end_there (Live word ends) i j x h = set_there ends i j x h

-- ---- one write

pub stands_here : (at x : End) (a : ArenaView) (es : List End) (b : ArenaView) (fs : List End) → IsPlaceAt a es at → IsWritten at x a es b fs → stands_at b fs (point_of at) ≡ Some x
stands_here (end.Cell c i) x a es b fs h w =
    let inside = state_inside a c.0 (placed_here (state_at a c.0) i h) in
    ap (λ (b : ArenaView). end_at (state_at b c.0) i) w.0
    ∙ ap (λ (s : State). end_at s i) (get_or-set_same a.states c.0 (with_end (state_at a c.0) i x) Leased inside)
    ∙ end_here (state_at a c.0) i x h
stands_here (end.Free k) x a es b fs h w = ap (λ (fs : List End). slice_get fs k) w.1 ∙ set_here es k x h

pub stands_there : (at x : End) (a : ArenaView) (es : List End) (b : ArenaView) (fs : List End) (u : Point ℕ) → IsPlaceAt a es at → IsWritten at x a es b fs → u ≢ point_of at → stands_at b fs u ≡ stands_at a es u
stands_there (end.Cell c i) x a es b fs (Free k) h w differ = ap (λ (fs : List End). slice_get fs k) w.1
stands_there (end.Cell c i) x a es b fs (Port y j) h w differ = ap (λ (b : ArenaView). end_at (state_at b y) j) w.0 ∙ go (ℕ_discrete y c.0)
  where
    go : Dec (y ≡ c.0) → end_at (state_at (changed a c.0 (with_end (state_at a c.0) i x)) y) j ≡ end_at (state_at a y) j
    go (no other) = ap (λ (s : State). end_at s j) (get_or-set_other a.states c.0 y (with_end (state_at a c.0) i x) Leased other)
    go (yes same) =
        let inside = state_inside a c.0 (placed_here (state_at a c.0) i h) in
        ap (λ (y : ℕ). end_at (state_at (changed a c.0 (with_end (state_at a c.0) i x)) y) j) same
        ∙ ap (λ (s : State). end_at s j) (get_or-set_same a.states c.0 (with_end (state_at a c.0) i x) Leased inside)
        ∙ end_there (state_at a c.0) i j x (λ e. differ (ap (λ (y : ℕ). Port y j) same ∙ ap (λ (j : ℕ). Port c.0 j) e))
        ∙ ap (λ (y : ℕ). end_at (state_at a y) j) (sym same)
stands_there (end.Free k) x a es b fs (Port y j) h w differ = ap (λ (b : ArenaView). end_at (state_at b y) j) w.0
stands_there (end.Free k) x a es b fs (Free j) h w differ =
    ap (λ (fs : List End). slice_get fs j) w.1 ∙ set_there es k j x (λ e. differ (ap (λ (j : ℕ). Free j) e))

pub write_keeps : (at x : End) (a : ArenaView) (es : List End) (b : ArenaView) (fs : List End) → IsWritten at x a es b fs → KeepsCells a b × (length fs ≡ length es)
write_keeps (end.Cell c i) x a es b fs w = (place_written a b c.0 i x w.0, ap length w.1)
write_keeps (end.Free k) x a es b fs w = (subst (λ (b : ArenaView). KeepsCells a b) (sym w.0) (keeps a), ap length w.1 ∙ length-set es k x)

pub place_stays : (at : End) (a : ArenaView) (es : List End) (b : ArenaView) (fs : List End) → KeepsCells a b → length fs ≡ length es → IsPlaceAt a es at → IsPlaceAt b fs at
place_stays (end.Cell c i) a es b fs k long h = subst (λ (n : ℕ). i < n) (sym (places_kept a b k c.0)) h
place_stays (end.Free j) a es b fs k long h = subst (λ (n : ℕ). j < n) (sym long) h

-- at a place that is near, there is a cell
pub near_place : (at : End) (a : ArenaView) (es : List End) → IsPlaceAt a es at → (c : CellNo) (p : ℕ) → at ≡ end.Cell c p → p < places (state_at a c.0)
near_place at a es h c p e = subst (IsPlaceAt a es) e h

pub near_written : (at x : End) (a : ArenaView) (es : List End) (b : ArenaView) → IsNear at → ((c : CellNo) (p : ℕ) → at ≡ end.Cell c p → b ≡ changed a c.0 (with_end (state_at a c.0) p x)) → IsWritten at x a es b es
near_written at x a es b near now = subst (λ (e : End). IsWritten e x a es b es) (sym near.2) (now near.0 near.1 near.2, refl)

-- ---- each of two ends is written at the other

module _ (x y : End) (a : ArenaView) (es : List End) (b : ArenaView) (fs : List End) (at_x : IsPlaceAt a es x) (at_y : IsPlaceAt a es y) (w : AreExchanged x y a es b fs) where
  still_y : IsPlaceAt w.middle w.list y
  still_y = let k = write_keeps x y a es w.middle w.list w.first in place_stays y a es w.middle w.list k.0 k.1 at_y

  pub exchange_keeps : KeepsCells a b × (length fs ≡ length es)
  exchange_keeps =
      let k = write_keeps x y a es w.middle w.list w.first in
      let l = write_keeps y x w.middle w.list b fs w.second in
      (keep_on a w.middle b k.0 l.0, l.1 ∙ k.1)

  pub stands_one : point_of x ≢ point_of y → stands_at b fs (point_of x) ≡ Some y
  stands_one differ = stands_there y x w.middle w.list b fs (point_of x) still_y w.second differ ∙ stands_here x y a es w.middle w.list at_x w.first

  pub stands_two : stands_at b fs (point_of y) ≡ Some x
  stands_two = stands_here y x w.middle w.list b fs still_y w.second

  pub stands_still : (u : Point ℕ) → u ≢ point_of x → u ≢ point_of y → stands_at b fs u ≡ stands_at a es u
  stands_still u one two = stands_there y x w.middle w.list b fs u still_y w.second two ∙ stands_there x y a es w.middle w.list u at_x w.first one

-- ---- one outcome

written_one : (at x : End) (a : ArenaView) (es : List End) (b c : ArenaView) (fs gs : List End) → IsWritten at x a es b fs → IsWritten at x a es c gs → (b ≡ c) × (fs ≡ gs)
written_one (end.Cell d i) x a es b c fs gs v w = (v.0 ∙ sym w.0, v.1 ∙ sym w.1)
written_one (end.Free k) x a es b c fs gs v w = (v.0 ∙ sym w.0, v.1 ∙ sym w.1)

pub exchange_one : (x y : End) (a b c : ArenaView) (es fs gs : List End) → AreExchanged x y a es b fs → AreExchanged x y a es c gs → (b ≡ c) × (fs ≡ gs)
exchange_one x y a b c es fs gs v w =
    let e = written_one x y a es v.middle w.middle v.list w.list v.first w.first in
    written_one y x w.middle w.list b c fs gs (subst (λ (z : ArenaView × List End). IsWritten y x z.0 z.1 b fs) (λ i. (e.0 i, e.1 i)) v.second) w.second
