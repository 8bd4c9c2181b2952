-- The conditions of the code of one joint, and of the loop over joints.
use Rattle.std.proofs.Common.{◌≡◌, ◌≢◌, ◌+◌, ◌-◌, ◌<◌, ◌≤◌, ℕ, suc, List, length, get_or, sym, ap, subst, ◌∙◌, arith}
use Rattle.std.proofs.lemmas.Option.{get_or_from_slice_get}
use Rattle.in_arena.specs.Arenas.{ArenaView, state_at}
use Rattle.in_arena.specs.declared.content.End.{End}
use Rattle.in_arena.specs.declared.content.End.TheVariants as end
use Rattle.in_arena.proofs.Public.{places_live}
use Rattle.in_symbols.specs.Tables.{Tables}
use Rattle.in_cells.specs.Between.{Interaction, IsReadyToJoin, IsBetween, IsDone, HasMade, AddsMade}
use Rattle.in_cells.specs.Cells.{KeepsCells, HasSymbols}
use Rattle.in_cells.specs.Pairs.{IsAtLive, AddsPair}
use Rattle.in_cells.specs.Shown.{point_of, end_of, IsPlaceAt, AreExchanged}
use Rattle.in_cells.proofs.AllShown.{all_done}
use Rattle.in_cells.proofs.JointsMade.{sides, between_next, made_next, begins, none_made, all_made}
use Rattle.in_cells.proofs.Kept.{keeps, keep_on, word_kept, places_kept}
use Rattle.in_cells.proofs.OneJoint.{AreAtSides}
use Rattle.in_cells.proofs.Writes.{end_point, exchange_keeps}

pub live_after : (x : End) (a : ArenaView) (es : List End) (b : ArenaView) → KeepsCells a b → IsPlaceAt a es x → IsAtLive b x
live_after (end.Cell c i) a es b kept h = places_live (state_at b c.0) i (subst (λ (n : ℕ). i < n) (sym (places_kept a b kept c.0)) h)
live_after (end.Free k) a es b kept h = tt

pub symbols_kept : (t : Tables) (a b : ArenaView) → KeepsCells a b → HasSymbols t a → HasSymbols t b
symbols_kept t a b kept h y s e = h y s (sym (word_kept a b kept y) ∙ e)

-- ---- one joint

module _ (t : Tables) (x : Interaction) (own many e : ℕ) (a : ArenaView) (es : List End) (h : IsBetween t x own many (e + 1) a es) (low : e < many) (outer inner : End) (outer_read : outer ≡ get_or es (own + e) outer) (inner_read : inner ≡ get_or es (own + many + e) inner) where
  abbrev next_end : IsBetween t x own many (suc e) a es
  next_end = let s : e + 1 ≡ suc e = omega arith in subst (λ (k : ℕ). IsBetween t x own many k a es) s h

  abbrev at : AreAtSides own many e a es next_end.net
  at = sides t x own many e a es next_end low

  outer_is : outer ≡ end_of at.p
  outer_is = outer_read ∙ get_or_from_slice_get es (own + e) (end_of at.p) outer at.stands_outer

  inner_is : inner ≡ end_of at.q
  inner_is = inner_read ∙ get_or_from_slice_get es (own + many + e) (end_of at.q) inner at.stands_inner

  pub outer_place : IsPlaceAt a es outer
  outer_place = subst (λ (z : End). IsPlaceAt a es z) (sym outer_is) at.at_p

  pub inner_place : IsPlaceAt a es inner
  inner_place = subst (λ (z : End). IsPlaceAt a es z) (sym inner_is) at.at_q

  pub sides_differ : outer ≢ inner
  sides_differ s = at.differ (sym (end_point at.p) ∙ ap point_of (sym outer_is ∙ s ∙ inner_is) ∙ end_point at.q)

  module _ (b : ArenaView) (fs : List End) (written : AreExchanged outer inner a es b fs) where
    pub written_keeps : KeepsCells a b × (length fs ≡ length es)
    written_keeps = exchange_keeps outer inner a es b fs outer_place inner_place written

    at_sides : AreExchanged (end_of at.p) (end_of at.q) a es b fs
    at_sides = subst (λ (z : End). AreExchanged z (end_of at.q) a es b fs) outer_is (subst (λ (z : End). AreExchanged outer z a es b fs) inner_is written)

    pub joined_next : IsBetween t x own many e b fs
    joined_next = between_next t x own many e a es next_end low b fs at_sides

    pub pair_next : (first old new : List (ℕ × ℕ)) → HasMade t x (e + 1) first old → AddsPair t b outer inner old new → HasMade t x e first new
    pair_next first old new made added =
        let s : e + 1 ≡ suc e = omega arith in
        made_next t x own many e a es next_end low b written_keeps.0 first old new
        (subst (λ (k : ℕ). HasMade t x k first old) s made)
        (subst (λ (z : End). AddsPair t b z (end_of at.q) old new) outer_is (subst (λ (z : End). AddsPair t b outer z old new) inner_is added))

-- ---- the loop

-- the boundary ends from this one on are joined
pub record IsOnTheWay (t : Tables) (own many e : ℕ) (a : ArenaView) (es : List End) (old : List (ℕ × ℕ)) (b : ArenaView) (fs : List End) (new : List (ℕ × ℕ)) : Type 0 where
  pub between : (x : Interaction) → IsReadyToJoin t x own many a es → IsBetween t x own many e b fs
  pub made : (x : Interaction) → IsReadyToJoin t x own many a es → HasMade t x e old new
  pub kept : KeepsCells a b

pub starts : (t : Tables) (own many : ℕ) (a : ArenaView) (es : List End) (old : List (ℕ × ℕ)) → IsOnTheWay t own many many a es old a es old
starts t own many a es old = record {
  between = λ x h. begins t x own many a es h;
  made = λ x h. none_made t x own many h.given old;
  kept = keeps a;
}

module _ (t : Tables) (own many : ℕ) (a : ArenaView) (es : List End) (old : List (ℕ × ℕ)) (k : ℕ) (b : ArenaView) (fs : List End) (new : List (ℕ × ℕ)) (way : IsOnTheWay t own many k a es old b fs new) where
  pub goes_on : (c : ArenaView) (gs : List End) (newer : List (ℕ × ℕ)) → 0 < k →
      ((x : Interaction) → IsBetween t x own many (k - 1 + 1) b fs → IsBetween t x own many (k - 1) c gs) →
      ((x : Interaction) (first : List (ℕ × ℕ)) → IsBetween t x own many (k - 1 + 1) b fs → HasMade t x (k - 1 + 1) first new → HasMade t x (k - 1) first newer) →
      KeepsCells b c → IsOnTheWay t own many (k - 1) a es old c gs newer
  goes_on c gs newer some between made kept = record {
    between = λ x h. between x (here x h);
    made = λ x h. made x old (here x h) (subst (λ (k : ℕ). HasMade t x k old new) same (way.made x h));
    kept = keep_on a b c way.kept kept;
  }
    where
      same : k ≡ k - 1 + 1
      same = omega (arith, some)

      here : (x : Interaction) → IsReadyToJoin t x own many a es → IsBetween t x own many (k - 1 + 1) b fs
      here x h = subst (λ (k : ℕ). IsBetween t x own many k b fs) same (way.between x h)

  pub ends_done : k ≤ 0 → ((x : Interaction) → IsReadyToJoin t x own many a es → IsDone t x own b fs) × ((x : Interaction) → IsReadyToJoin t x own many a es → AddsMade t x old new)
  ends_done none = (
    (λ x h. all_done t x own many b fs (subst (λ (k : ℕ). IsBetween t x own many k b fs) zero_left (way.between x h))),
    (λ x h. all_made t x own many old new (subst (λ (k : ℕ). HasMade t x k old new) zero_left (way.made x h))),
  )
    where
      zero_left : k ≡ 0
      zero_left = omega (arith, none)
