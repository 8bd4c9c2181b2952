use Rattle.std.proofs.Common.{◌≡◌, ◌+◌, ℕ, length, ap, sym, subst, ◌∙◌, arith}
use Rattle.in_arena.specs.declared.content.CellClass.TheVariants.{Small}
use Rattle.in_check.specs.Programs.{Program}
use Rattle.in_compile.specs.Cells.{agents_of}
use Rattle.in_reducer.specs.Parting.{ReducesTo}
use Rattle.in_reducer.proofs.Public.{reductions_go_on}
use Rattle.in_phases.proofs.Coming.{comes_reduced}
use Rattle.in_phases.proofs.Counts.{counts_with_one}
use Rattle.in_phases.proofs.phases.+phases.Goals as goal

pub share_out-returns-in_default-clause-reduces : goal.share_out-returns-in_default-clause-reduces
share_out-returns-in_default-clause-reduces g t c =
    let k = c.alone-in_default.result.interactions in
    let n = c.alone-in_default.new.reducer in
    subst (λ (z : ℕ). ReducesTo c.args.reducer.now z n) (let z : 0 + k ≡ k = omega arith in z)
    (reductions_go_on c.args.reducer.now c.take_part.new.reducer n 0 k c.in_default.ensures.taken.0 c.alone-in_default.ensures.reduces)

pub share_out-overflow_add-rest : goal.share_out-overflow_add-rest
share_out-overflow_add-rest g t c =
    let taken = c.in-Some.ensures.taken in
    let of = taken.0.split.of_rest.cells in
    let free = taken.1 Small in
    let all = of.2 Small in
    let few = of.1 in
    omega (arith, free, all, few)

pub share_out-bring_back-requires : goal.share_out-bring_back-requires
share_out-bring_back-requires g t c =
    let m = c.args.reducer.now in
    let taken = c.in-Some.ensures.taken in
    let i = c.at_once-one.result.1.interactions in
    let j = c.at_once-one.result.0 in
    record {
      names = (
          let fits = c.in-Some.ensures.fits in
          let same = c.at_once-one.ensures.room.1 in
          let lent = ap length c.as_mut_slice.ensures.value in
          omega (arith, fits, same, lent)
          );
      back = (
        m,
        i + j,
        comes_reduced m c.take_part.new.reducer c.at_once-one.new.reducer c.at_once-one.new.part c.in-Some.taken i j c.args.sharing.floor taken.0 c.at_once-one.ensures.reduces c.at_once-one.ensures.part_reduces
            c.at_once-one.ensures.floor,
      );
    }

pub share_out-returns-clause-reduces : goal.share_out-returns-clause-reduces
share_out-returns-clause-reduces g t c =
    let m = c.args.reducer.now in
    let taken = c.in-Some.ensures.taken in
    let i = c.at_once-one.result.1.interactions in
    let j = c.at_once-one.result.0 in
    subst (λ (z : ℕ). ReducesTo m z c.bring_back.new.reducer) (let z : i + j ≡ j + i = omega arith in z)
    (c.bring_back.ensures.reduces m (i + j)
    (comes_reduced m c.take_part.new.reducer c.at_once-one.new.reducer c.at_once-one.new.part c.in-Some.taken i j c.args.sharing.floor taken.0 c.at_once-one.ensures.reduces c.at_once-one.ensures.part_reduces
    c.at_once-one.ensures.floor))

pub share_out-returns-clause-floor : goal.share_out-returns-clause-floor
share_out-returns-clause-floor g t c = λ d.
    (
    let taken = c.in-Some.ensures.taken in
    let back = c.bring_back.ensures.vacant d in
    let free = c.at_once-one.ensures.floor d in
    let many = c.at_once-one.ensures.part_reduces.cells d in
    let size = taken.0.split.split.but_queues.part_cells d in
    let split = taken.0.split.split.but_queues.two in
    let rest = c.at_once-one.ensures.reduces.program in
    let part = c.at_once-one.new.part in
    let tables = ap (λ (p : Program). agents_of p.tables d part.agents) (rest ∙ split.program_rest ∙ sym split.program_part) in
    omega (arith, back, free, many, size, tables)
    )

pub share_out-returns-clause-counts : goal.share_out-returns-clause-counts
share_out-returns-clause-counts g t c =
    let max = c.max.ensures in
    let w = c.at_once-one.result.1 in
    let one = c.at_once-one.result.0 in
    counts_with_one w one c.max.result c.at_once-one.ensures.counts (omega (arith, max)) (omega (arith, max)) (omega (arith, max))
