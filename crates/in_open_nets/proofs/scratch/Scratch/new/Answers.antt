use Rattle.std.proofs.Common.{◌≡◌, ◌≤◌, ◌-◌, ◌++◌, ◌∙◌, ℕ, zero, suc, List, [], get_or, length, replicate, sym, subst, ap, arith}
use Rattle.std.proofs.Math.ListN.{take}
use Rattle.std.proofs.lemmas.List.{length-replicate}
use Rattle.std.specs.Vec.{vec_len}
use Rattle.in_open_nets.proofs.PartsOf.Absent.{resized}
use Rattle.in_open_nets.proofs.PartsOf.Marks.{marks_first, none_marked}
use Rattle.in_open_nets.proofs.scratch.Scratch.new.Goals as goal

zeros : (n i : ℕ) → get_or (replicate n 0) i 0 ≤ 0
zeros zero i = omega arith
zeros (suc n) zero = omega arith
zeros (suc n) (suc i) = zeros n i

-- the marks that were made
made : (n k : ℕ) (ms : List ℕ) → k ≡ n → ms ≡ take n [] ++ replicate k 0 → ms ≡ replicate n 0
made n k ms same e = e ∙ resized 0 n k same

pub invariant_of-result : goal.invariant_of-result
invariant_of-result c =
    let n = c.args.count in
    let k = n - vec_len c.new-marks.result in
    let l = c.new-marks.ensures.len in
    let e = made n k _ (omega arith) (c.from_vec.ensures ∙ c.in_ok-resize.ensures.items ∙ ap (λ z. take n z ++ replicate k 0) c.new-marks.ensures.items) in
    let f = c.ranges.count in
    marks_first n _ (omega arith) (ap length e ∙ length-replicate n 0) (λ i. subst (λ z. get_or z i 0 ≤ 0) (sym e) (zeros n i))

pub returns-clause-none : goal.returns-clause-none
returns-clause-none c =
    let n = c.args.count in
    let k = n - vec_len c.new-marks.result in
    let l = c.new-marks.ensures.len in
    let e = made n k _ (omega arith) (c.from_vec.ensures ∙ c.in_ok-resize.ensures.items ∙ ap (λ z. take n z ++ replicate k 0) c.new-marks.ensures.items) in
    none_marked 0 _ (λ i. subst (λ z. get_or z i 0 ≤ 0) (sym e) (zeros n i))
