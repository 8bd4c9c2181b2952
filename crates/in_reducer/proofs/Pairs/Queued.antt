-- A member's own pairs go to the end of a queue.
use Rattle.std.proofs.Common.{◌≡◌, ◌+◌, ℕ, Some, List, [], ◌∷◌, ◌++◌, map, take, slice_get, sym, ap, ◌∙◌}
use Rattle.std.proofs.lemmas.Option.{get_or_from_slice_get}
use Rattle.in_arena.specs.declared.content.CellNo.{CellNo}
use Rattle.in_interaction.specs.Queues.{both}
use Rattle.in_compile.proofs.Public.{mapped_more}
use Rattle.in_reducer.specs.Interacting.{named}

-- a pair goes by the cells that its agents have
pub one_more_own : (ns : List CellNo) (pairs : List (ℕ × ℕ)) (k : ℕ) (q : ℕ × ℕ) (one other : CellNo) (old before after : List (ℕ × ℕ)) → slice_get pairs k ≡ Some q → slice_get ns q.0 ≡ Some one → slice_get ns q.1 ≡ Some other →
    before ≡ old ++ map (both (named ns)) (take k pairs) → after ≡ before ++ (one.0, other.0) ∷ [] → after ≡ old ++ map (both (named ns)) (take (k + 1) pairs)
one_more_own ns pairs k q one other old before after stands first second is last =
    let f : named ns q.0 ≡ one.0 = ap (λ (n : CellNo). n.0) (get_or_from_slice_get ns q.0 one (record { 0 = 0 }) first) in
    let g : named ns q.1 ≡ other.0 = ap (λ (n : CellNo). n.0) (get_or_from_slice_get ns q.1 other (record { 0 = 0 }) second) in
    let same : both (named ns) q ≡ (one.0, other.0) = (λ i. (f i, g i)) in
    mapped_more (both (named ns)) pairs k q old before after stands is (last ∙ ap (λ (z : ℕ × ℕ). before ++ z ∷ []) (sym same))
