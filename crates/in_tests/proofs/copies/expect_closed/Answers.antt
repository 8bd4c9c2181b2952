use Rattle.std.proofs.Common.{◌≡◌, ◌≢◌, ◌⊎◌, inl, inr, ◌<◌, ◌+◌, ℕ, Some, List, slice_get, ap, sym, ◌∙◌, arith}
use Rattle.std.specs.Prelude.{slice_index_or}
use Rattle.std.proofs.lemmas.Bool.{cases_eq}
use Rattle.std.proofs.lemmas.Option.{same_Some, slice_get-get_or, slice_get_within}
use Rattle.in_arena.specs.Arenas.{ArenaView, state_at}
use Rattle.in_arena.specs.States.{end_at}
use Rattle.in_arena.specs.declared.content.CellNo.{CellNo}
use Rattle.in_arena.specs.declared.content.End.{End}
use Rattle.in_cells.specs.Copying.{LeadsInto}
use Rattle.in_tests.proofs.copies.expect_closed.Goals as goal

one_more : (a : ArenaView) (agents : List CellNo) (many x : ℕ) (c : CellNo) → slice_get agents x ≡ Some c → ((i : ℕ) (e : End) → end_at (state_at a c.0) i ≡ Some e → LeadsInto agents many e)
    → ((k i : ℕ) (d : CellNo) (e : End) → k < x → slice_get agents k ≡ Some d → end_at (state_at a d.0) i ≡ Some e → LeadsInto agents many e)
    → (k i : ℕ) (d : CellNo) (e : End) → k < x + 1 → slice_get agents k ≡ Some d → end_at (state_at a d.0) i ≡ Some e → LeadsInto agents many e
one_more a agents many x c at this before k i d e less s stands = go (cases_eq k x)
  where
    go : (k ≡ x) ⊎ (k ≢ x) → LeadsInto agents many e
    go (inl same) = this i e (ap (λ (z : CellNo). end_at (state_at a z.0) i) (same_Some c d (sym at ∙ ap (slice_get agents) (sym same) ∙ s)) ∙ stands)
    go (inr other) = before k i d e (omega (arith, less, other)) s stands

pub loop-number-preserved : goal.loop-number-preserved
loop-number-preserved g c =
    let agents = c.args.agents.now in let x = c.loop-number.number in
    one_more c.args.from.now agents c.args.many x (slice_index_or agents x (record { 0 = 0 })) (slice_get-get_or agents x (record { 0 = 0 }) c.loop-number-test.true) c.expect_inside.ensures c.loop-number.invariant

pub returns : goal.returns
returns g c = λ k i d e s stands.
    c.loop-number.invariant k i d e (let l = slice_get_within c.args.agents.now k d s in let t = c.loop-number-test.false in omega (arith, l, t)) s stands
