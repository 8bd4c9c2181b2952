-- If all boundary ends are joined, the cells and the net's own free ends show the net after the interaction.
use Rattle.std.proofs.Common.{◌≡◌, ◌↔◌, ◌<◌, ℕ, zero, suc, List, [], ◌∷◌, take, slice_get, Option, Some, None, option_map, refl, sym, ap, ◌∙◌, inl, inr, arith}
use Rattle.std.proofs.lemmas.Option.{slice_get_within}
use Rattle.std.proofs.lemmas.List.{length-take-le}
use Rattle.in_arena.specs.Arenas.{ArenaView, state_at}
use Rattle.in_arena.specs.States.{State, Vacant, Leased, Live, places, word_of, end_at}
use Rattle.in_arena.specs.declared.content.End.{End}
use Rattle.in_gluing.proofs.Public.{ends_from_none_to_all, all_joined_is_step}
use Rattle.in_base.proofs.Places.{is_some as some_here}
use Rattle.in_interaction.proofs.Public.{has_value}
use Rattle.in_net.specs.Nets.{Point, Port, Free, Net, signature_of}
use Rattle.in_symbols.specs.Tables.{Tables}
use Rattle.in_gluing.specs.AsGluing.{ends_from}
use Rattle.in_cells.specs.Between.{Interaction, before, redex_of, IsBetween, IsDone}
use Rattle.in_cells.specs.Shown.{point_of, stands_at, IsSideBelow, IsPointUpTo, IsShown, IsShownUpTo}
use Rattle.in_cells.specs.Start.{ShownIsStep}
use Rattle.in_cells.proofs.Writes.{end_point}

-- two options with the same values are one
pub same_option : {X : Type 0} (o p : Option X) → ((x : X) → (o ≡ Some x) ↔ (p ≡ Some x)) → o ≡ p
same_option None None h = refl
same_option (Some x) p h = sym ((h x).0 refl)
same_option None (Some x) h = (h x).1 refl

pub take_at : {X : Type 0} (n k : ℕ) (xs : List X) → k < n → slice_get (take n xs) k ≡ slice_get xs k
take_at zero k xs low = absurd (omega (arith, low))
take_at (suc n) k [] low = refl
take_at (suc n) zero (x ∷ xs) low = refl
take_at (suc n) (suc k) (x ∷ xs) low = take_at n k xs (omega (arith, low))

pub place_within : (s : State) (i : ℕ) (x : End) → end_at s i ≡ Some x → i < places s
place_within Vacant i x h = cc
place_within Leased i x h = cc
place_within (Live word ends) i x h = slice_get_within ends i x h

module _ (own many : ℕ) (a : ArenaView) (es : List End) (m : Net ℕ) (shown : IsShownUpTo own many zero a es m) where
  no_side : (u : Point ℕ) → IsSideBelow own many zero u → ⊥
  no_side (Port y i) h = h
  no_side (Free k) h = let l = h.1 in omega (arith, l)

  first_stand : (u : Point ℕ) → IsPointUpTo a own many zero u → stands_at a (take own es) u ≡ stands_at a es u
  first_stand (Port y i) h = refl
  first_stand (Free k) (inl h) = take_at own k es h
  first_stand (Free k) (inr h) = absurd (no_side (Free k) h)

  point_there : (u : Point ℕ) (x : End) → stands_at a (take own es) u ≡ Some x → IsPointUpTo a own many zero u
  point_there (Port y i) x h = place_within (state_at a y) i x h
  point_there (Free k) x h = let l = slice_get_within (take own es) k x h in let n = length-take-le own es in inl (omega (arith, l, n))

  leads : (u : Point ℕ) (o : Option (Point ℕ)) → m.partner u ≡ o → o ≡ option_map point_of (stands_at a (take own es) u)
  leads u (Some v) h = sym (
      ap (option_map point_of) (first_stand u ((shown.points u).0 (some_here (m.partner u) v h)) ∙ shown.wires u v h (inr (no_side v)))
      ∙ ap (λ (v : Point ℕ). Some v) (end_point v)
      )
  leads u None h = go (stands_at a (take own es) u) refl
    where
      go : (o : Option End) → stands_at a (take own es) u ≡ o → None ≡ option_map point_of o
      go None e = refl
      go (Some x) e =
          let v = has_value (m.partner u) ((shown.points u).1 (point_there u x e)) in
          let no : None ≡ Some v.0 = sym h ∙ v.1 in
          cc

  pub shown_all : IsShown a (take own es) m
  shown_all = record {
    agents = λ y. same_option (m.symbol y) (word_of (state_at a y)) (shown.agents y);
    wires = λ u. leads u (m.partner u) refl;
  }

pub all_done : (t : Tables) (x : Interaction) (own many : ℕ) (a : ArenaView) (es : List End) → IsBetween t x own many zero a es → IsDone t x own a es
all_done t x own many a es h = record {
  after = h.net;
  step = all_joined_is_step (signature_of t) (before x) (redex_of x) x.name (ends_from (redex_of x) zero) h.net h.given.can h.joined (ends_from_none_to_all (redex_of x)).1 h.free;
  shown = shown_all own many a es h.net h.shown;
}

-- any other net that they show
pub shown_is_step : ShownIsStep
shown_is_step t x own a ends m done shown same = record {
  naming = done.step.naming;
  agents = λ y s. ((λ h. (done.step.agents y s).0 (agent y ∙ h)), (λ h. sym (agent y) ∙ (done.step.agents y s).1 h));
  wires = λ u v. ((λ h. (done.step.wires u v).0 (wire u ∙ h)), (λ h. sym (wire u) ∙ (done.step.wires u v).1 h));
  free = same;
}
  where
    agent : (y : ℕ) → done.after.symbol y ≡ m.symbol y
    agent y = done.shown.agents y ∙ sym (shown.agents y)

    wire : (u : Point ℕ) → done.after.partner u ≡ m.partner u
    wire u = done.shown.wires u ∙ sym (shown.wires u)
