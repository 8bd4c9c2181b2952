-- A wire that is cut in cells: the net that the cells and the list of ends show before and after.
use Rattle.std.proofs.Common.{◌≡◌, ◌≢◌, ◌⊎◌, inl, inr, ◌<◌, ◌≤◌, ◌+◌, ℕ, suc, Option, Some, None, List, length, take, slice_get, refl, sym, ap, subst, ◌∙◌, arith}
use Rattle.std.specs.Prelude.{option_map}
use Rattle.std.proofs.lemmas.List.{length-take-le}
use Rattle.std.proofs.lemmas.Option.{same_Some, slice_get_within}
use Rattle.in_arena.specs.Arenas.{ArenaView, state_at}
use Rattle.in_arena.specs.States.{end_at}
use Rattle.in_arena.specs.declared.content.End.{End}
use Rattle.in_arena.specs.declared.content.End.TheVariants as end
use Rattle.in_net.specs.Nets.{Point, Port, Free, Net, IsPoint, Signature}
use Rattle.in_cells.specs.Cells.{KeepsCells}
use Rattle.in_cells.specs.Shown.{point_of, stands_at, IsPlaceAt, IsShown, AreExchanged}
use Rattle.in_cells.proofs.AllShown.{take_at, place_within}
use Rattle.in_cells.proofs.Kept.{keep_on, word_kept}
use Rattle.in_cells.proofs.Writes.{exchange_keeps, place_stays, stands_one, stands_two}
use Rattle.in_cells.proofs.Writes.{stands_still}
use Rattle.in_cells.specs.Cutting.{Shows, IsCutAt}
use Rattle.in_interaction.proofs.Public.{same_free, same_point}

-- a point that leads somewhere has an end
pub stands_some : (o : Option End) (v : Point ℕ) → option_map point_of o ≡ Some v → (e : End) × (o ≡ Some e) × (point_of e ≡ v)
stands_some None v h = cc
stands_some (Some e) v h = (e, refl, same_Some (point_of e) v h)

module _ (sig : Signature) (f : ℕ) (a : ArenaView) (es : List End) (w : Net ℕ) (before : Shows sig f a es w) (long : f + 2 ≤ length es) (c i : ℕ) (other : End) (at : end_at (state_at a c) i ≡ Some other)
    (a1 : ArenaView) (es1 : List End) (first : AreExchanged (end.Cell (record { 0 = c }) i) (end.Free f) a es a1 es1) where
  abbrev here : Point ℕ
  here = Port c i

  abbrev there : Point ℕ
  there = point_of other

  abbrev one : End
  one = end.Cell (record { 0 = c }) i

  pub wire : w.partner here ≡ Some there
  wire = before.shown.wires here ∙ ap (option_map point_of) at

  back : w.partner there ≡ Some here
  back = before.net.back here there wire

  -- a free end with a partner is before the new free ends
  below : (u v : Point ℕ) (k : ℕ) → w.partner u ≡ Some v → u ≡ Free k → k < f
  below u v k h is =
      let p = subst (IsPoint sig w) is (before.net.points u v h) in
      let m = before.many in
      let q : k < length w.free = p in
      omega (arith, q, m)

  there_new : (k : ℕ) → f ≤ k → there ≢ Free k
  there_new k l is = let b = below there here k back is in omega (arith, b, l)

  apart : here ≢ there
  apart same = before.net.apart here (wire ∙ ap (λ (z : Point ℕ). Some z) (sym same))

  -- ---- points that can be written

  at_one : IsPlaceAt a es one
  at_one = place_within (state_at a c) i other at

  at_first : IsPlaceAt a es (end.Free f)
  at_first = omega (arith, long)

  kept1 : KeepsCells a a1 × (length es1 ≡ length es)
  kept1 = exchange_keeps one (end.Free f) a es a1 es1 at_one at_first first

  pub at_other : IsPlaceAt a1 es1 other
  at_other = place_stays other a es a1 es1 kept1.0 kept1.1 (go other refl)
    where
      go : (o : End) → other ≡ o → IsPlaceAt a es o
      go (end.Cell d j) is =
          let led = stands_some (end_at (state_at a d.0) j) here (sym (before.shown.wires (Port d.0 j)) ∙ ap w.partner (ap point_of (sym is)) ∙ back) in
          place_within (state_at a d.0) j led.0 led.1
      go (end.Free k) is = let b = below there here k back (ap point_of is) in omega (arith, b, long)

  at_second : IsPlaceAt a1 es1 (end.Free (suc f))
  at_second = let k = kept1.1 in omega (arith, long, k)

  module _ (a2 : ArenaView) (es2 : List End) (second : AreExchanged other (end.Free (suc f)) a1 es1 a2 es2) where
    kept2 : KeepsCells a1 a2 × (length es2 ≡ length es1)
    kept2 = exchange_keeps other (end.Free (suc f)) a1 es1 a2 es2 at_other at_second second

    pub kept : KeepsCells a a2
    kept = keep_on a a1 a2 kept1.0 kept2.0

    pub as_long : length es2 ≡ length es
    as_long = kept2.1 ∙ kept1.1

    -- ---- the ends afterwards

    abbrev after : Point ℕ → Option End
    after = stands_at a2 es2

    not_first : ◌≢◌ {A = Point ℕ} (Free f) there
    not_first is = there_new f (omega arith) (sym is)

    not_second : ◌≢◌ {A = Point ℕ} (Free (suc f)) there
    not_second is = there_new (suc f) (omega arith) (sym is)

    two_new : ◌≢◌ {A = Point ℕ} (Free f) (Free (suc f))
    two_new is = let e = same_free f (suc f) is in omega (arith, e)

    still : (u : Point ℕ) → u ≢ there → u ≢ Free (suc f) → after u ≡ stands_at a1 es1 u
    still u differ new = stands_still other (end.Free (suc f)) a1 es1 a2 es2 at_other at_second second u differ new

    at_here : after here ≡ Some (end.Free f)
    at_here = still here apart (λ is. cc) ∙ stands_one one (end.Free f) a es a1 es1 at_one at_first first (λ is. cc)

    at_there : after there ≡ Some (end.Free (suc f))
    at_there = stands_one other (end.Free (suc f)) a1 es1 a2 es2 at_other at_second second (λ is. not_second (sym is))

    at_new : after (Free f) ≡ Some one
    at_new = still (Free f) not_first two_new ∙ stands_two one (end.Free f) a es a1 es1 at_one at_first first

    at_last : after (Free (suc f)) ≡ Some other
    at_last = stands_two other (end.Free (suc f)) a1 es1 a2 es2 at_other at_second second

    at_else : (u : Point ℕ) → u ≢ here → u ≢ there → u ≢ Free f → u ≢ Free (suc f) → after u ≡ stands_at a es u
    at_else u h d x y = still u d y ∙ stands_still one (end.Free f) a es a1 es1 at_one at_first first u h x

    -- ---- the net after

    module _ (m : Net ℕ) (shown : IsShown a2 (take (f + 2) es2) m) where
      abbrev Within : Point ℕ → Type 0
      Within (Port y j) = Unit {0}
      Within (Free n) = n < f + 2

      led : (u : Point ℕ) → Within u → m.partner u ≡ option_map point_of (after u)
      led (Port y j) h = shown.wires (Port y j)
      led (Free n) h = shown.wires (Free n) ∙ ap (option_map point_of) (take_at (f + 2) n es2 h)

      within : (u v : Point ℕ) → m.partner u ≡ Some v → Within u
      within (Port y j) v h = tt
      within (Free n) v h =
          let s = stands_some (slice_get (take (f + 2) es2) n) v (sym (shown.wires (Free n)) ∙ h) in
          let l = slice_get_within (take (f + 2) es2) n s.0 s.1 in
          let many : length (take (f + 2) es2) ≡ f + 2 = length-take-le (f + 2) es2 (let e = as_long in omega (arith, long, e)) in
          omega (arith, l, many)

      -- before: a point that isn't one of the new ones
      led_before : (u : Point ℕ) → Within u → u ≢ Free f → u ≢ Free (suc f) → w.partner u ≡ option_map point_of (stands_at a es u)
      led_before (Port y j) h one_new two = before.shown.wires (Port y j)
      led_before (Free n) h one_new two =
          let low : n < f = (let d : n ≡ f → ⊥ = λ e. one_new (ap (λ (z : ℕ). Free z) e) in let s : n ≡ suc f → ⊥ = λ e. two (ap (λ (z : ℕ). Free z) e) in omega (arith, h, d, s)) in
          before.shown.wires (Free n) ∙ ap (option_map point_of) (take_at f n es low)

      value : (u : Point ℕ) (e : End) → Within u → after u ≡ Some e → m.partner u ≡ Some (point_of e)
      value u e h is = led u h ∙ ap (option_map point_of) is

      within_there : Within there
      within_there = go there refl
        where
          go : (u : Point ℕ) → there ≡ u → Within u
          go (Port y j) is = tt
          go (Free n) is = let b = below there here n back is in omega (arith, b)

      abbrev Cut : Point ℕ → Point ℕ → Type 0
      Cut x y = ((x ≢ here) × (x ≢ there) × (w.partner x ≡ Some y)) ⊎ ((x ≡ here) × (y ≡ Free f)) ⊎ ((x ≡ Free f) × (y ≡ here)) ⊎ ((x ≡ there) × (y ≡ Free (suc f))) ⊎ ((x ≡ Free (suc f)) × (y ≡ there))

      cut_forth : (x y : Point ℕ) → m.partner x ≡ Some y → Cut x y
      cut_forth x y h = go (same_point x here) (same_point x there) (same_point x (Free f)) (same_point x (Free (suc f)))
        where
          is : (u v : Point ℕ) (e : End) → x ≡ u → Within u → after u ≡ Some e → point_of e ≡ v → y ≡ v
          is u v e s inside stands there_is = sym (same_Some v y (ap (λ (z : Point ℕ). Some z) (sym there_is) ∙ sym (value u e inside stands) ∙ ap m.partner (sym s) ∙ h))

          go : Dec (x ≡ here) → Dec (x ≡ there) → Dec (x ≡ Free f) → Dec (x ≡ Free (suc f)) → Cut x y
          go (yes s) d p q = inr (inl (s, is here (Free f) (end.Free f) s tt at_here refl))
          go (no n) (yes s) p q = inr (inr (inr (inl (s, is there (Free (suc f)) (end.Free (suc f)) s within_there at_there refl))))
          go (no n) (no d) (yes s) q = inr (inr (inl (s, is (Free f) here one s (omega arith) at_new refl)))
          go (no n) (no d) (no p) (yes s) = inr (inr (inr (inr (s, is (Free (suc f)) there other s (omega arith) at_last refl))))
          go (no n) (no d) (no p) (no q) =
              let inside = within x y h in
              inl (n, d, led_before x inside p q ∙ ap (option_map point_of) (sym (at_else x n d p q)) ∙ sym (led x inside) ∙ h)

      cut_back : (x y : Point ℕ) → Cut x y → m.partner x ≡ Some y
      cut_back x y (inl (n, d, h)) =
          let new : (k : ℕ) → f ≤ k → x ≢ Free k = λ k l is. (let b = below x y k h is in omega (arith, b, l)) in
          let p = new f (omega arith) in
          let q = new (suc f) (omega arith) in
          let inside = inside_before x y h in
          led x inside ∙ ap (option_map point_of) (at_else x n d p q) ∙ sym (led_before x inside p q) ∙ h
        where
          inside_before : (x y : Point ℕ) → w.partner x ≡ Some y → Within x
          inside_before (Port z j) y h = tt
          inside_before (Free n) y h = let b = below (Free n) y n h refl in omega (arith, b)
      cut_back x y (inr (inl (s, r))) = ap m.partner s ∙ value here (end.Free f) tt at_here ∙ ap (λ (z : Point ℕ). Some z) (sym r)
      cut_back x y (inr (inr (inl (s, r)))) = ap m.partner s ∙ value (Free f) one (omega arith) at_new ∙ ap (λ (z : Point ℕ). Some z) (sym r)
      cut_back x y (inr (inr (inr (inl (s, r))))) = ap m.partner s ∙ value there (end.Free (suc f)) within_there at_there ∙ ap (λ (z : Point ℕ). Some z) (sym r)
      cut_back x y (inr (inr (inr (inr (s, r))))) = ap m.partner s ∙ value (Free (suc f)) other (omega arith) at_last ∙ ap (λ (z : Point ℕ). Some z) (sym r)

      pub is_cut : IsCutAt w c i f m
      is_cut = record {
        other = there;
        wire = wire;
        cut = record {
          agents = λ y s. (
            (λ h. shown.agents y ∙ word_kept a a2 kept y ∙ sym (before.shown.agents y) ∙ h),
            (λ h. before.shown.agents y ∙ sym (word_kept a a2 kept y) ∙ sym (shown.agents y) ∙ h),
          );
          wires = λ x y. ((λ h. cut_forth x y h), (λ h. cut_back x y h));
        };
      }
