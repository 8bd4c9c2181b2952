-- The sides of boundary ends, set one by one.
use Rattle.std.proofs.Common.{◌≡◌, ◌≢◌, ◌<◌, ◌≤◌, ◌+◌, ℕ, Some, List, length, set, slice_get, refl, sym, ap, ◌∙◌, below_more, arith}
use Rattle.std.specs.Prelude.{option_map}
use Rattle.std.proofs.lemmas.List.{length-set, take-set-le}
use Rattle.std.proofs.lemmas.Option.{same_Some}
use Rattle.in_base.proofs.Places.{set_here, set_there}
use Rattle.in_arena.specs.Arenas.{ArenaView, state_at}
use Rattle.in_arena.specs.States.{end_at, places}
use Rattle.in_arena.specs.declared.content.CellNo.{CellNo}
use Rattle.in_arena.specs.declared.content.End.{End}
use Rattle.in_arena.specs.declared.content.End.TheVariants.{Cell}
use Rattle.in_cells.proofs.Public.{place_within}
use Rattle.in_compile.specs.declared.joints.Joint.{Joint}
use Rattle.in_reducer.specs.declared.sides.Pair.{Pair}
use Rattle.in_reducer.specs.Sides.{port_at, end_there, outer_of, inner_of, AreSetBelow, HasPort}

-- ---- the port of a boundary end

module _ (a : ArenaView) (p : Pair) (e : ℕ) (port : HasPort a p e) (q : CellNo × ℕ) (is : q ≡ port_at p e) where
  stands : end_at (state_at a q.0.0) q.1 ≡ Some port.end
  stands = ap (end_there a) is ∙ port.stands

  pub has_place : q.1 < places (state_at a q.0.0)
  has_place = place_within (state_at a q.0.0) q.1 port.end stands

  module _ (u : End) (read : end_at (state_at a q.0.0) q.1 ≡ Some u) where
    same : u ≡ port.end
    same = same_Some u port.end (sym read ∙ stands)

    pub not_one : u ≢ Cell p.one 0
    not_one f = port.one (sym same ∙ f)

    pub not_other : u ≢ Cell p.other 0
    not_other f = port.other (sym same ∙ f)

    -- the outer side is that of the end that is read there
    pub outer_read : (from : ℕ) (w : End) → w ≡ outer_of p from u → Some w ≡ option_map (outer_of p from) (end_there a (port_at p e))
    outer_read from w f = ap (λ (z : End). Some z) f ∙ ap (option_map (outer_of p from)) (sym read ∙ ap (end_there a) is)

-- ---- one after another

module _ (p : Pair) (a : ArenaView) (joints : List Joint) (ns : List CellNo) (own : ℕ) (old : List End) where
  pub none_set : AreSetBelow p a joints ns own (length joints) 0 old old
  none_set = record { long = refl; first = refl; outer = λ e l. absurd (omega (arith, l)); inner = λ e l. absurd (omega (arith, l)) }

  module _ (x : ℕ) (es : List End) (h : AreSetBelow p a joints ns own (length joints) x old es) (low : x < length joints) (room : own + length joints + length joints ≤ length old) where
    module _ (u v : End) where
      abbrev once : List End
      once = set es (own + x) u

      abbrev twice : List End
      twice = set once (own + length joints + x) v

      length_once : length once ≡ length old
      length_once = length-set es (own + x) u ∙ h.long

      outer_here : slice_get twice (own + x) ≡ Some u
      outer_here =
          let other : own + x ≢ own + length joints + x = (λ f. omega (arith, f, low)) in
          let l = h.long in
          set_there once (own + length joints + x) (own + x) v other ∙ set_here es (own + x) u (omega (arith, low, room, l))

      outer_kept : (e : ℕ) → e < x → slice_get twice (own + e) ≡ slice_get es (own + e)
      outer_kept e l =
          let first : own + e ≢ own + length joints + x = (λ f. omega (arith, f, l)) in
          let second : own + e ≢ own + x = (λ f. omega (arith, f, l)) in
          set_there once (own + length joints + x) (own + e) v first ∙ set_there es (own + x) (own + e) u second

      inner_here : slice_get twice (own + length joints + x) ≡ Some v
      inner_here = let l = length_once in set_here once (own + length joints + x) v (omega (arith, low, room, l))

      inner_kept : (e : ℕ) → e < x → slice_get twice (own + length joints + e) ≡ slice_get es (own + length joints + e)
      inner_kept e l =
          let first : own + length joints + e ≢ own + length joints + x = (λ f. omega (arith, f, l)) in
          let second : own + length joints + e ≢ own + x = (λ f. omega (arith, f, l, low)) in
          set_there once (own + length joints + x) (own + length joints + e) v first ∙ set_there es (own + x) (own + length joints + e) u second

      pub one_more_set : Some u ≡ option_map (outer_of p own) (end_there a (port_at p x)) → Some v ≡ option_map (inner_of ns (own + length joints)) (slice_get joints x) →
          AreSetBelow p a joints ns own (length joints) (x + 1) old twice
      one_more_set outer inner = record {
        long = length-set once (own + length joints + x) v ∙ length_once;
        first = take-set-le own once (own + length joints + x) v (omega arith) ∙ take-set-le own es (own + x) u (omega arith) ∙ h.first;
        outer = below_more (λ (e : ℕ). slice_get twice (own + e) ≡ option_map (outer_of p own) (end_there a (port_at p e))) x (λ e l. outer_kept e l ∙ h.outer e l) (outer_here ∙ outer);
        inner = below_more (λ (e : ℕ). slice_get twice (own + length joints + e) ≡ option_map (inner_of ns (own + length joints)) (slice_get joints e)) x (λ e l. inner_kept e l ∙ h.inner e l) (inner_here ∙ inner);
      }
