use Rattle.std.proofs.Common.{◌≡◌, ◌⊎◌, ℕ, ◌+◌, ◌<◌, ◌≤◌, inl, inr, subst, arith}
use Rattle.std.proofs.lemmas.Bool.{cases_lt}
use Rattle.in_symbols.specs.Tables.{Tables}
use Rattle.in_cover.specs.Covering.{HasNoGapBelow, HasNoGapIn}
use Rattle.in_cover.specs.Table.{Cells}
use Rattle.in_cover.proofs.covering.gap.Goals as goal

no_gap_more : (t : Tables) (table : Cells) (n : ℕ) → HasNoGapIn t table n → HasNoGapBelow t table n n → (c : ℕ) → c < n + 1 → (c < n) ⊎ (n ≤ c) → HasNoGapBelow t table c c
no_gap_more t table n before here c lt (inl less) = before c less
no_gap_more t table n before here c lt (inr le) =
    let same : n ≡ c = omega (arith, lt, le) in
    subst (λ x. HasNoGapBelow t table x x) same here

pub loop-number-preserved : goal.loop-number-preserved
loop-number-preserved c =
    λ x lt. no_gap_more c.args.symbols.now c.args.table.now c.loop-number.number c.loop-number.invariant c.in_default.ensures x lt (cases_lt x c.loop-number.number)
