use Rattle.std.proofs.Common.{◌≡◌, ◌+◌, ◌∷◌, ◌++◌, [], ℕ, List, Option, length, length-append, sym, subst, ap, ◌∙◌, arith}
use Rattle.in_interaction.specs.After.{IsCellAfter, cell_at}
use Rattle.in_interaction.specs.Following.{IsSite}
use Rattle.in_interaction.specs.Interacting.{numbers_after}
use Rattle.in_net.specs.declared.nets.Cell.{Cell}
use Rattle.in_interaction.proofs.Stepping.Cells.{numbers_fit, more_cells, all_cells}
use Rattle.in_interaction.proofs.following.Site.cells.Goals as goal

pub overflow_cast-number : goal.overflow_cast-number
overflow_cast-number c =
    let fit = numbers_fit c.args.self.now (subst IsSite c.self.view_is c.self.invariant) in
    omega (arith, fit, c.loop-number-test.true, c.numbers-number-end.ensures)

pub loop-number-preserved : goal.loop-number-preserved
loop-number-preserved c =
    let s = c.args.self.now in
    let old = c.loop-number.cells in
    let o = c.in_ok-cell.field-0 in
    let many = c.loop-number.invariant.many in
    let pushed : c.push.new.self ≡ old ++ o ∷ [] = (c.in_ok-push.ensures {u = tt}).ok in
    let grown = length-append old (o ∷ []) in
    let here : IsCellAfter s (length old) o = subst (λ (y : ℕ). IsCellAfter s y o) (sym many) (c.in_ok-cell.ensures {u = tt}) in
    record {
      many = ap length pushed ∙ (let n : length (old ++ o ∷ []) ≡ c.loop-number.number + 1 = omega (arith, grown, many) in n);
      each = λ y lt. subst (λ (cs : List (Option Cell)). IsCellAfter s y (cell_at cs y)) (sym pushed)
          (more_cells s old o c.loop-number.invariant.each here y (let n = ap length pushed in omega (arith, n, grown, lt)));
    }

pub returns : goal.returns
returns c =
    let s = c.args.self.now in
    let many : length c.loop-number.cells ≡ numbers_after s.net.cells (length s.rule.member.cells) = omega (arith, c.loop-number.invariant.many, c.loop-number-test.false, c.loop-number.auto.number-end, c.numbers-number-end.ensures) in
    (many, all_cells s (subst IsSite c.self.view_is c.self.invariant) c.loop-number.cells many c.loop-number.invariant.each)
