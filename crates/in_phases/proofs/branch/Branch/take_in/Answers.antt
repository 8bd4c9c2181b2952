use Rattle.std.proofs.Common.{◌≡◌, List, Bool, true, false, set, Some, slice_get, sym, ap, subst, ◌∙◌}
use Rattle.in_arena.specs.declared.content.CellNo.{CellNo}
use Rattle.in_phases.specs.Branches.{AreOfBranch}
use Rattle.in_phases.proofs.Gathered.{one_more_gathered}
use Rattle.in_phases.proofs.branch.Branch.take_in.Goals as goal

pub returns-in_ok-push-clause-branch : goal.returns-in_ok-push-clause-branch
returns-in_ok-push-clause-branch c =
    let m = c.args.reducer.now in
    let b = c.args.self.now in
    let fresh : slice_get b.marks.items c.args.cell.0 ≡ Some false = c.has.ensures ∙ ap (λ (z : Bool). Some z) c.if-not-has.true in
    subst (λ (z : List CellNo). AreOfBranch m z (set b.marks.items c.args.cell.0 true)) (sym c.in_ok-push.ensures.items)
    (one_more_gathered m b.agents.items b.marks.items c.requires.branch c.args.cell c.requires.there fresh)
