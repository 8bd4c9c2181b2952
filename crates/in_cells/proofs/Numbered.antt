-- Free ends get their new numbers, one after another.
use Rattle.std.proofs.Common.{◌≡◌, ◌≢◌, ◌⊎◌, inl, inr, ◌≤◌, ◌<◌, ◌+◌, ◌*◌, ℕ, zero, suc, cond, Some, None, List, [], ◌∷◌, length, map, option_map, set, slice_get, refl, sym, ap, subst, ◌∙◌, get_or-set_same, get_or-set_other, arith}
use Rattle.std.proofs.lemmas.Bool.{cases_eq, cases_lt, le-ltb, lt-ltb}
use Rattle.std.proofs.lemmas.List.{length-map, length-set}
use Rattle.std.proofs.lemmas.Option.{same_Some, slice_get_within}
use Rattle.in_arena.specs.Arenas.{ArenaView, NoneLeased, changed, free_of, state_at}
use Rattle.in_arena.specs.Changes.{HasAllCells, LeasedStay}
use Rattle.in_arena.specs.Classes.{Holds, IsNumberOf, all_of}
use Rattle.in_arena.specs.States.{State, Vacant, Leased, Live, IsLive, IsLeased, end_at, places, with_end, word_of}
use Rattle.in_arena.specs.declared.content.CellNo.{CellNo}
use Rattle.in_arena.specs.declared.content.End.{End}
use Rattle.in_arena.specs.declared.content.End.TheVariants.{Cell, Free as FreeEnd}
use Rattle.in_arena.proofs.Public.{live_inside, live_in}
use Rattle.in_net.specs.Nets.{Port, Free, Net}
use Rattle.in_gluing.proofs.Public.{mapped}
use Rattle.in_gluing.specs.Joining.{WiresLeadBack}
use Rattle.in_cells.specs.Shown.{IsShown, point_of}
use Rattle.in_cells.specs.Copying.{ArePart, moved, moved_end}
use Rattle.in_cells.specs.Laws.{AreRenumbered, AreTakenOut}
use Rattle.in_cells.specs.TakingOut.{AreClassed, AreLedTo, AreNumberedAnew, AreRetired}
use Rattle.in_cells.specs.TakingOutSteps.{number_below}
use Rattle.in_cells.proofs.Shown.{NamedOr, named_or, end_live, word_moved}
use Rattle.in_cells.proofs.Written.{live_keeps_free, moved_live}

-- ---- the list of ends of a net that is shown

free_of_point : (e : End) (k : ℕ) → point_of e ≡ Free k → e ≡ FreeEnd k
free_of_point (Cell c i) k h = cc
free_of_point (FreeEnd j) k h = cc

cell_of_point : (e : End) (y i : ℕ) → point_of e ≡ Port y i → e ≡ Cell (record { 0 = y }) i
cell_of_point (Cell c j) y i h =
    let one : c.0 ≡ y = cc in
    let two : j ≡ i = cc in
    ap (λ (z : ℕ). Cell (record { 0 = z }) j) one ∙ ap (Cell (record { 0 = y })) two
cell_of_point (FreeEnd j) y i h = cc

pub led_to : (a : ArenaView) (ends : List End) (n : Net ℕ) → IsShown a ends n → WiresLeadBack n → AreLedTo a ends
led_to a ends n shown back = record {
  back = λ k i c s. (
      let t = mapped point_of (end_at (state_at a c.0) i) (Free k) (sym (shown.wires (Port c.0 i)) ∙ back.0 (Free k) (Port c.0 i) (shown.wires (Free k) ∙ ap (option_map point_of) s)) in
      t.1 ∙ ap (λ (e : End). Some e) (free_of_point t.0 k t.2)
      );
  all = λ y i k s. (
      let t = mapped point_of (slice_get ends k) (Port y i) (sym (shown.wires (Free k)) ∙ back.0 (Port y i) (Free k) (shown.wires (Port y i) ∙ ap (option_map point_of) s)) in
      t.1 ∙ ap (λ (e : End). Some e) (cell_of_point t.0 y i t.2)
      );
}

-- ---- numbers that agree on all free ends to which places lead

end_agrees : (f g : ℕ → ℕ) (e : End) → ((k : ℕ) → e ≡ FreeEnd k → f k ≡ g k) → moved_end (λ z. z) f e ≡ moved_end (λ z. z) g e
end_agrees f g (Cell c i) same = refl
end_agrees f g (FreeEnd k) same = ap FreeEnd (same k refl)

ends_agree : (f g : End → End) (es : List End) → ((i : ℕ) (e : End) → slice_get es i ≡ Some e → f e ≡ g e) → map f es ≡ map g es
ends_agree f g [] same = refl
ends_agree f g (e ∷ es) same = ap (λ d. d ∷ map f es) (same 0 e refl) ∙ ap (λ ds. g e ∷ ds) (ends_agree f g es (λ i d h. same (suc i) d h))

state_agrees : (f g : ℕ → ℕ) (x : State) → ((i k : ℕ) → end_at x i ≡ Some (FreeEnd k) → f k ≡ g k) → moved (λ z. z) f x ≡ moved (λ z. z) g x
state_agrees f g Vacant same = refl
state_agrees f g Leased same = refl
state_agrees f g (Live w es) same = ap (Live w) (ends_agree (moved_end (λ z. z) f) (moved_end (λ z. z) g) es (λ i e h. end_agrees f g e (λ k is. same i k (h ∙ ap (λ (d : End). Some d) is))))

-- .. and one of them is written
ends_written : (f g : End → End) (es : List End) (i : ℕ) (e : End) → slice_get es i ≡ Some e → ((j : ℕ) (d : End) → j ≢ i → slice_get es j ≡ Some d → f d ≡ g d) → set (map f es) i (g e) ≡ map g es
ends_written f g [] i e at same = absurd (let h : None ≡ Some e = at in cc)
ends_written f g (d ∷ es) zero e at same = ap (λ z. g z ∷ map f es) (same_Some e d (sym at)) ∙ ap (λ ds. g d ∷ ds) (ends_agree f g es (λ j c h. same (suc j) c (λ z. omega (arith, z)) h))
ends_written f g (d ∷ es) (suc i) e at same = ap (λ z. z ∷ set (map f es) i (g e)) (same 0 d (λ z. omega (arith, z)) refl) ∙ ap (λ ds. g d ∷ ds) (ends_written f g es i e at (λ j c ne h. same (suc j) c (λ z. ne (omega (arith, z))) h))

state_written : (f g : ℕ → ℕ) (x : State) (i n : ℕ) → end_at x i ≡ Some (FreeEnd n) → ((j k : ℕ) → j ≢ i → end_at x j ≡ Some (FreeEnd k) → f k ≡ g k) → with_end (moved (λ z. z) f x) i (FreeEnd (g n)) ≡ moved (λ z. z) g x
state_written f g Vacant i n at same = refl
state_written f g Leased i n at same = refl
state_written f g (Live w es) i n at same =
    ap (Live w) (ends_written (moved_end (λ z. z) f) (moved_end (λ z. z) g) es i (FreeEnd n) at (λ j d ne h. end_agrees f g d (λ k is. same j k ne (h ∙ ap (λ (e : End). Some e) is))))

number_is : (number : ℕ → ℕ) (x k : ℕ) → k < x → number_below number x k ≡ number k
number_is number x k less = ap (λ b. cond b (number k) k) (lt-ltb k x less)

number_stays : (number : ℕ → ℕ) (x k : ℕ) → x ≤ k → number_below number x k ≡ k
number_stays number x k le = ap (λ b. cond b (number k) k) (le-ltb k x le)

number_next : (number : ℕ → ℕ) (x k : ℕ) → k ≢ x → number_below number x k ≡ number_below number (x + 1) k
number_next number x k ne = go (cases_lt k x)
  where
    go : (k < x) ⊎ (x ≤ k) → number_below number x k ≡ number_below number (x + 1) k
    go (inl less) = number_is number x k less ∙ sym (number_is number (x + 1) k (omega (arith, less)))
    go (inr le) = number_stays number x k le ∙ sym (number_stays number (x + 1) k (omega (arith, le, ne)))

-- ---- one free end after another

pub ends_same : (es : List End) → es ≡ map (moved_end (λ z. z) (λ z. z)) es
ends_same [] = refl
ends_same (Cell c i ∷ es) = ap (λ ds. Cell c i ∷ ds) (ends_same es)
ends_same (FreeEnd k ∷ es) = ap (λ ds. FreeEnd k ∷ ds) (ends_same es)

pub state_same : (x : State) → x ≡ moved (λ z. z) (λ z. z) x
state_same Vacant = refl
state_same Leased = refl
state_same (Live w es) = ap (Live w) (ends_same es)

pub none_numbered : (number : ℕ → ℕ) (old : ArenaView) → AreNumberedAnew (number_below number 0) old old
none_numbered number old = record {
  each = λ y. state_same (state_at old y) ∙ state_agrees (λ z. z) (number_below number 0) (state_at old y) (λ i k h. sym (number_stays number 0 k (omega arith)));
  free = λ d. refl;
  memory = refl;
  cells = refl;
  many = refl;
}

module _ (number : ℕ → ℕ) (old : ArenaView) (ends : List End) (led : AreLedTo old ends) where
  pub all_numbered : (new : ArenaView) → AreNumberedAnew (number_below number (length ends)) old new → AreNumberedAnew number old new
  all_numbered new h = record {
    each = λ y. h.each y ∙ state_agrees (number_below number (length ends)) number (state_at old y) (λ i k s. (let at = led.all y i k s in number_is number (length ends) k (slice_get_within ends k (Cell (record { 0 = y }) i) at)));
    free = h.free;
    memory = h.memory;
    cells = h.cells;
    many = h.many;
  }

  module _ (x : ℕ) (now : ArenaView) (h : AreNumberedAnew (number_below number x) old now) where
    -- no place leads to a free end that leads to another one
    pub none_to_number : (e : End) → slice_get ends x ≡ Some e → ((c : CellNo) (i : ℕ) → e ≡ Cell c i → ⊥) → AreNumberedAnew (number_below number (x + 1)) old now
    none_to_number e at none = record {
      each = λ y. h.each y ∙ state_agrees (number_below number x) (number_below number (x + 1)) (state_at old y) (λ i k s. number_next number x k (other y i k s));
      free = h.free;
      memory = h.memory;
      cells = h.cells;
      many = h.many;
    }
      where
        other : (y i k : ℕ) → end_at (state_at old y) i ≡ Some (FreeEnd k) → k ≢ x
        other y i k s f = none (record { 0 = y }) i (same_Some e (Cell (record { 0 = y }) i) (sym at ∙ ap (slice_get ends) (sym f) ∙ led.all y i k s))

    module _ (c : CellNo) (p : ℕ) (at : slice_get ends x ≡ Some (Cell c p)) where
      here : end_at (state_at old c.0) p ≡ Some (FreeEnd x)
      here = led.back x p c at

      -- it alone leads there
      alone : (y i : ℕ) → end_at (state_at old y) i ≡ Some (FreeEnd x) → (y ≡ c.0) × (i ≡ p)
      alone y i s =
          let is : Cell (record { 0 = y }) i ≡ Cell c p = same_Some (Cell (record { 0 = y }) i) (Cell c p) (sym (led.all y i x s) ∙ at) in
          let one : record { 0 = y } ≡ c = cc in
          let two : i ≡ p = cc in
          (ap (λ (z : CellNo). z.0) one, two)

      live_now : IsLive (state_at now c.0)
      live_now = subst IsLive (sym (h.each c.0)) (moved_live (λ z. z) (number_below number x) (state_at old c.0) (end_live (state_at old c.0) p (FreeEnd x) here))

      pub place_there : p < places (state_at now c.0)
      place_there = subst (λ z. p < places z) (sym (h.each c.0)) (place_within (state_at old c.0) here)
        where
          place_within : (z : State) → end_at z p ≡ Some (FreeEnd x) → p < places (moved (λ z. z) (number_below number x) z)
          place_within Vacant s = absurd (let f : None ≡ Some (FreeEnd x) = s in cc)
          place_within Leased s = absurd (let f : None ≡ Some (FreeEnd x) = s in cc)
          place_within (Live w es) s = let l = slice_get_within es p (FreeEnd x) s in let m = length-map es (moved_end (λ z. z) (number_below number x)) in omega (arith, l, m)

      module _ (all : HasAllCells old) (now' : ArenaView) (e : now' ≡ changed now c.0 (with_end (state_at now c.0) p (FreeEnd (number x)))) where
        all_now : HasAllCells now
        all_now = h.many ∙ all ∙ ap all_of (sym h.cells)

        abbrev new : State
        new = with_end (state_at now c.0) p (FreeEnd (number x))

        new_is : new ≡ moved (λ z. z) (number_below number (x + 1)) (state_at old c.0)
        new_is =
            ap (λ z. with_end z p (FreeEnd (number x))) (h.each c.0) ∙ ap (λ k. with_end (moved (λ z. z) (number_below number x) (state_at old c.0)) p (FreeEnd k)) (sym (number_is number (x + 1) x (omega arith)))
            ∙ state_written (number_below number x) (number_below number (x + 1)) (state_at old c.0) p x here (λ j k ne s. number_next number x k (λ f. ne (alone c.0 j (s ∙ ap (λ (z : ℕ). Some (FreeEnd z)) f)).1))

        new_live : IsLive new
        new_live = subst IsLive (sym new_is) (moved_live (λ z. z) (number_below number (x + 1)) (state_at old c.0) (end_live (state_at old c.0) p (FreeEnd x) here))

        each_by : (y : ℕ) → (y ≡ c.0) ⊎ (y ≢ c.0) → state_at now' y ≡ moved (λ z. z) (number_below number (x + 1)) (state_at old y)
        each_by y (inl is) = subst (λ z. state_at now' z ≡ moved (λ z. z) (number_below number (x + 1)) (state_at old z)) (sym is) (ap (λ v. state_at v c.0) e ∙ get_or-set_same now.states c.0 new Leased (live_inside now c.0 live_now) ∙ new_is)
        each_by y (inr ne) =
            ap (λ v. state_at v y) e ∙ get_or-set_other now.states c.0 y new Leased ne ∙ h.each y
            ∙ state_agrees (number_below number x) (number_below number (x + 1)) (state_at old y) (λ i k s. number_next number x k (λ f. ne (alone y i (s ∙ ap (λ (z : ℕ). Some (FreeEnd z)) f)).0))

        pub one_more_numbered : AreNumberedAnew (number_below number (x + 1)) old now'
        one_more_numbered = record {
          each = λ y. each_by y (cases_eq y c.0);
          free = λ d. ap (λ v. free_of v d) e ∙ live_keeps_free now c.0 new all_now live_now new_live d ∙ h.free d;
          memory = ap (λ (v : ArenaView). v.memory) e ∙ h.memory;
          cells = ap (λ (v : ArenaView). v.cells) e ∙ h.cells;
          many = ap (λ (v : ArenaView). length v.states) e ∙ length-set now.states c.0 new ∙ h.many;
        }

-- ---- properties that stay under other numbers of free ends

live_before : (name number : ℕ → ℕ) (x : State) → IsLive (moved name number x) → IsLive x
live_before name number Vacant live = live
live_before name number Leased live = live
live_before name number (Live w es) live = tt

places_moved : (name number : ℕ → ℕ) (x : State) → places (moved name number x) ≡ places x
places_moved name number Vacant = refl
places_moved name number Leased = refl
places_moved name number (Live w es) = length-map es (moved_end name number)

pub leased_after : (name number : ℕ → ℕ) (x : State) → IsLeased x → IsLeased (moved name number x)
leased_after name number Vacant leased = leased
leased_after name number Leased leased = leased
leased_after name number (Live w es) leased = leased

pub leased_before : (name number : ℕ → ℕ) (x : State) → IsLeased (moved name number x) → IsLeased x
leased_before name number Vacant leased = leased
leased_before name number Leased leased = leased
leased_before name number (Live w es) leased = leased

module _ (number : ℕ → ℕ) (a b : ArenaView) (h : AreNumberedAnew number a b) where
  pub numbered_live : (y : ℕ) → IsLive (state_at a y) → IsLive (state_at b y)
  numbered_live y live = subst IsLive (sym (h.each y)) (moved_live (λ z. z) number (state_at a y) live)

  pub numbered_was_live : (y : ℕ) → IsLive (state_at b y) → IsLive (state_at a y)
  numbered_was_live y live = live_before (λ z. z) number (state_at a y) (subst IsLive (h.each y) live)

  pub numbered_word : (y : ℕ) → word_of (state_at b y) ≡ word_of (state_at a y)
  numbered_word y = ap word_of (h.each y) ∙ word_moved (λ z. z) number (state_at a y)

  pub numbered_places : (y : ℕ) → places (state_at b y) ≡ places (state_at a y)
  numbered_places y = ap places (h.each y) ∙ places_moved (λ z. z) number (state_at a y)

  pub numbered_leased_stays : LeasedStay a b
  numbered_leased_stays n leased = subst IsLeased (sym (h.each n)) (leased_after (λ z. z) number (state_at a n) leased)

  pub numbered_was_leased : (n : ℕ) → IsLeased (state_at b n) → IsLeased (state_at a n)
  numbered_was_leased n leased = leased_before (λ z. z) number (state_at a n) (subst IsLeased (h.each n) leased)

  pub numbered_none_leased : NoneLeased a → NoneLeased b
  numbered_none_leased none n less leased = none n (let m = h.many in omega (arith, less, m)) (numbered_was_leased n leased)

  pub numbered_part : (agents : List CellNo) → ArePart a agents → ArePart b agents
  numbered_part agents part = record { live = λ k c s. numbered_live c.0 (part.live k c s); once = part.once }

  pub numbered_classed : (agents : List CellNo) → AreClassed a agents → AreClassed b agents
  numbered_classed agents classed k c d s is = subst (Holds d) (sym (numbered_places c.0)) (classed k c d s (subst (λ z. IsNumberOf z d c.0) h.cells is))

  pub numbered_anew : AreRenumbered number a b
  numbered_anew y = h.each y

  pub numbered_taken_out : (agents : List CellNo) (c : ArenaView) → AreRetired agents b c → AreTakenOut agents number a c
  numbered_taken_out agents c out = record { gone = out.gone; others = λ y none. out.others y none ∙ h.each y }

module _ (agents : List CellNo) (b c : ArenaView) (out : AreRetired agents b c) where
  pub retired_leased_stays : ArePart b agents → LeasedStay b c
  retired_leased_stays part n leased = subst IsLeased (sym (out.others n (λ k s. live_in (state_at b n) (part.live k (record { 0 = n }) s) leased))) leased

  pub retired_was_leased : (n : ℕ) → IsLeased (state_at c n) → IsLeased (state_at b n)
  retired_was_leased n leased = go (named_or agents (λ z. z) n)
    where
      go : NamedOr agents (λ z. z) n → IsLeased (state_at b n)
      go (inl at) = absurd (subst IsLeased (ap (state_at c) (sym at.3) ∙ out.gone at.0 at.1 at.2) leased)
      go (inr other) = subst IsLeased (out.others n (λ k s. other k (record { 0 = n }) s refl)) leased

  pub retired_none_leased : NoneLeased b → NoneLeased c
  retired_none_leased none n less leased = none n (let m = out.many in omega (arith, less, m)) (retired_was_leased n leased)
