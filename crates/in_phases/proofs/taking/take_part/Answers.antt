use Rattle.std.proofs.Common.{◌≡◌, ◌≤◌, length, sym, ap, subst, ◌∙◌, arith}
use Rattle.in_arena.proofs.Public.{class_few}
use Rattle.in_check.specs.Programs.{Program}
use Rattle.in_arena.specs.declared.content.CellClass.{CellClass}
use Rattle.in_arena.specs.declared.content.CellClass.TheVariants.{Small}
use Rattle.in_compile.specs.declared.cells.Need.{Need}
use Rattle.in_compile.specs.Cells.{agents_of, count_of}
use Rattle.in_compile.specs.Templates.{AreTemplatesOf}
use Rattle.in_reducer.specs.Machines.{MachineParts}
use Rattle.in_reducer.specs.Parting.{ReducesTo}
use Rattle.in_reducer.proofs.Public.{stays_reduce}
use Rattle.std.specs.Vec.{with_items}
use Rattle.in_phases.proofs.Coming.{comes_at_once, lent_back}
use Rattle.in_phases.proofs.CutTimes.{ends_more, gathered_on, times_stay}
use Rattle.in_phases.specs.declared.branch.Branch.{Branch}
use Rattle.in_phases.specs.Branches.{IsBranch}
use Rattle.in_phases.proofs.taking.take_part.Goals as goal

pub split-requires-clause-branch : goal.split-requires-clause-branch
split-requires-clause-branch c =
    let b = c.reach_names.new.room.branch in
    gathered_on c.args.reducer.now c.cut_off-cuts.new.reducer (times_stay c.args.reducer.now c.cut_off-cuts.new.reducer c.cut_off-cuts.result c.cut_off-cuts.ensures.cuts) b.agents.items b.marks.items
    (subst (λ (z : Branch). IsBranch c.args.reducer.now z) (sym c.reach_names.ensures.branch) c.in-Ok.ensures.branch)

pub split-requires-clause-cuts : goal.split-requires-clause-cuts
split-requires-clause-cuts c =
    let more = ends_more c.args.reducer.now c.cut_off-cuts.new.reducer c.cut_off-cuts.result c.cut_off-cuts.ensures.cuts in
    omega (arith, more)

pub returns-in_default : goal.returns-in_default
returns-in_default c = record { taken = (stays_reduce c.args.reducer.now, c.requires.floor); templates = c.requires.templates; part_templates = tt; room = c.gather.ensures.grown; fits = tt; branch = tt; few = tt }

pub returns-then-len-most-clause-taken : goal.returns-then-len-most-clause-taken
returns-then-len-most-clause-taken c = (stays_reduce c.args.reducer.now, c.requires.floor)

pub returns-in_default-reach_names-clause-taken : goal.returns-in_default-reach_names-clause-taken
returns-in_default-reach_names-clause-taken c = (stays_reduce c.args.reducer.now, c.requires.floor)

pub join_up-requires : goal.join_up-requires
join_up-requires c =
    let m = c.args.reducer.now in
    let cut = c.cut_off-cuts.new.reducer in
    let same : c.split.new.reducer ≡ cut = c.in_default-split.ensures.split in
    record { cut = (m, cut, 0, c.pairs.ensures.reducer, c.cut_off-cuts.ensures.cuts, subst (λ (z : MachineParts). ReducesTo cut 0 z) (sym same) (stays_reduce cut)) }

pub returns-in_default-split : goal.returns-in_default-split
returns-in_default-split c =
    let m = c.args.reducer.now in
    let cut = c.cut_off-cuts.new.reducer in
    let same : c.split.new.reducer ≡ cut = c.in_default-split.ensures.split in
    let vacant = c.join_up.ensures.vacant ∙ ap (λ (z : MachineParts). z.vacant) same ∙ (times_stay m cut c.cut_off-cuts.result c.cut_off-cuts.ensures.cuts).vacant in
    let reduced = c.join_up.ensures.reduces m cut 0 c.pairs.ensures.reducer c.cut_off-cuts.ensures.cuts (subst (λ (z : MachineParts). ReducesTo cut 0 z) (sym same) (stays_reduce cut)) in
    record {
      taken = (reduced, subst (λ (n : Need). (d : CellClass) → c.args.floor ≤ count_of n d) (sym vacant) c.requires.floor);
      templates = subst (λ (p : Program). AreTemplatesOf p c.args.templates.now) (sym reduced.program) c.requires.templates;
      part_templates = tt;
      room = (
        (let gathered = c.gather.ensures.grown.0 in let reached = c.reach_names.ensures.grown.0 in omega (arith, gathered, reached)),
        (let gathered = c.gather.ensures.grown.1 in let grown = c.reach_names.ensures.grown.1 in let lent = lent_back c.reach_names.new.room.names c.split.new.names (c.in_default-split.ensures.names ∙ ap length c.as_mut_slice-names.ensures.value) in omega (arith, gathered, grown, lent)),
      );
      fits = tt;
      branch = tt;
      few = tt;
    }

pub overflow_add-floor : goal.overflow_add-floor
overflow_add-floor c =
    let of = c.pairs.ensures.reducer.cells in
    let floor = c.requires.floor Small in
    let all = of.2 Small in
    let most = class_few of.0 of.1 Small in
    let split = c.in-Some.ensures.split.1 in
    let part = split.of_part.cells in
    let there = part.2 Small in
    let size = split.split.but_queues.part_cells Small in
    let few = class_few part.0 part.1 Small in
    omega (arith, floor, all, most.0, there, size, few.0)

pub bring_back-requires : goal.bring_back-requires
bring_back-requires c =
    let m = c.args.reducer.now in
    let cut = c.cut_off-cuts.new.reducer in
    let t = c.in-Some.taken in
    let once = lent_back c.reach_names.new.room.names c.split.new.names (c.in-Some.ensures.names ∙ ap length c.as_mut_slice-names.ensures.value) in
    let same = ap length c.as_mut_slice.ensures.value in
    let long = c.in-Some.ensures.names ∙ ap length c.as_mut_slice-names.ensures.value in
    let fits = c.in-Some.ensures.fits in
    record { names = omega (arith, once, same, long, fits); back = (m, 0, comes_at_once m cut c.split.new.reducer t c.pairs.ensures.reducer c.pairs-2.ensures.reducer c.cut_off-cuts.result c.cut_off-cuts.ensures.cuts c.in-Some.ensures.split.0 c.in-Some.ensures.split.1) }

pub returns : goal.returns
returns c =
    let m = c.args.reducer.now in
    let cut = c.cut_off-cuts.new.reducer in
    let now = c.split.new.reducer in
    let t = c.in-Some.taken in
    let split = c.in-Some.ensures.split.1 in
    let reduced = c.bring_back.ensures.reduces m 0 (comes_at_once m cut now t c.pairs.ensures.reducer c.pairs-2.ensures.reducer c.cut_off-cuts.result c.cut_off-cuts.ensures.cuts c.in-Some.ensures.split.0 split) in
    record {
      taken = (
        reduced,
        λ d. (
            let back = c.bring_back.ensures.vacant d in
            let out = split.split.but_queues.vacant d in
            let same = ap (λ (p : Program). agents_of p.tables d t.part.agents) split.split.but_queues.two.program_rest in
            let before = ap (λ (n : Need). count_of n d) (times_stay m cut c.cut_off-cuts.result c.cut_off-cuts.ensures.cuts).vacant in
            let floor = c.requires.floor d in
            omega (arith, back, out, same, before, floor)
            ),
      );
      templates = subst (λ (p : Program). AreTemplatesOf p c.args.templates.now) (sym reduced.program) c.requires.templates;
      part_templates = tt;
      room = (
        (let gathered = c.gather.ensures.grown.0 in let reached = c.reach_names.ensures.grown.0 in omega (arith, gathered, reached)),
        (
            let gathered = c.gather.ensures.grown.1 in
            let grown = c.reach_names.ensures.grown.1 in
            let lent = lent_back c.reach_names.new.room.names c.split.new.names (c.in-Some.ensures.names ∙ ap length c.as_mut_slice-names.ensures.value) in
            let back = lent_back (with_items c.reach_names.new.room.names c.split.new.names) c.bring_back.new.names (c.bring_back.ensures.names ∙ ap length c.as_mut_slice.ensures.value) in
            omega (arith, gathered, grown, lent, back)
            ),
      );
      fits = tt;
      branch = tt;
      few = tt;
    }

-- a part and the rest are of the program
pub returns-then-least_free-floor-clause-templates : goal.returns-then-least_free-floor-clause-templates
returns-then-least_free-floor-clause-templates c =
    let split = c.in-Some.ensures.split.1.split.but_queues.two in
    let s = times_stay c.args.reducer.now c.cut_off-cuts.new.reducer c.cut_off-cuts.result c.cut_off-cuts.ensures.cuts in
    subst (λ (p : Program). AreTemplatesOf p c.args.templates.now) (sym (split.program_rest ∙ s.program)) c.requires.templates

pub returns-then-least_free-floor-clause-part_templates : goal.returns-then-least_free-floor-clause-part_templates
returns-then-least_free-floor-clause-part_templates c =
    let split = c.in-Some.ensures.split.1.split.but_queues.two in
    let s = times_stay c.args.reducer.now c.cut_off-cuts.new.reducer c.cut_off-cuts.result c.cut_off-cuts.ensures.cuts in
    subst (λ (p : Program). AreTemplatesOf p c.args.templates.now) (sym (split.program_part ∙ s.program)) c.requires.templates
