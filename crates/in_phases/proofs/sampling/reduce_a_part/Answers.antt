use Rattle.std.proofs.Common.{◌≡◌, ◌+◌, ℕ, length, ap, sym, subst, ◌∙◌, arith}
use Rattle.in_check.specs.Programs.{Program}
use Rattle.in_compile.specs.Cells.{agents_of}
use Rattle.in_reducer.specs.Parting.{ReducesTo}
use Rattle.in_reducer.proofs.Public.{stays_reduce}
use Rattle.in_phases.proofs.Coming.{comes_reduced}
use Rattle.in_phases.proofs.Counts.{few_gathered}
use Rattle.in_phases.proofs.sampling.reduce_a_part.Goals as goal

pub bring_back-requires : goal.bring_back-requires
bring_back-requires c =
    let m = c.args.reducer.now in
    let taken = c.in-Some.ensures.taken in
    let n = c.take_part.new.reducer in
    let k = c.take_newest-interactions.result in
    record {
      names = (
          let fits = c.in-Some.ensures.fits in
          let lent = ap length c.as_mut_slice.ensures.value in
          omega (arith, fits, lent)
          );
      back = (
        m,
        0 + k,
        comes_reduced m n n c.take_newest-interactions.new.self c.in-Some.taken 0 k c.args.sharing.floor taken.0 (stays_reduce n) c.take_newest-interactions.ensures.reduces taken.1,
      );
    }

pub returns-clause-reduces : goal.returns-clause-reduces
returns-clause-reduces c =
    let m = c.args.reducer.now in
    let taken = c.in-Some.ensures.taken in
    let n = c.take_part.new.reducer in
    let k = c.take_newest-interactions.result in
    subst (λ (z : ℕ). ReducesTo m z c.bring_back.new.reducer) (let z : 0 + k ≡ k = omega arith in z)
    (c.bring_back.ensures.reduces m (0 + k)
    (comes_reduced m n n c.take_newest-interactions.new.self c.in-Some.taken 0 k c.args.sharing.floor taken.0 (stays_reduce n) c.take_newest-interactions.ensures.reduces taken.1))

pub returns-clause-floor : goal.returns-clause-floor
returns-clause-floor c = λ d.
    (
    let taken = c.in-Some.ensures.taken in
    let back = c.bring_back.ensures.vacant d in
    let free = taken.1 d in
    let many = c.take_newest-interactions.ensures.reduces.cells d in
    let size = taken.0.split.split.but_queues.part_cells d in
    let split = taken.0.split.split.but_queues.two in
    let part = c.take_newest-interactions.new.self in
    let tables = ap (λ (p : Program). agents_of p.tables d part.agents) (split.program_rest ∙ sym split.program_part) in
    omega (arith, back, free, many, size, tables)
    )

pub returns-clause-agents : goal.returns-clause-agents
returns-clause-agents c =
    let b = c.take_part.new.room.branch in
    let few = few_gathered c.args.reducer.now b.agents.items b.marks.items c.in-Some.ensures.branch in
    omega (arith, few)
