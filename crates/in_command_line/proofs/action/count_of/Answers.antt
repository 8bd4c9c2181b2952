use Rattle.std.proofs.Common.{◌≡◌, ◌∙◌, Bool, true, false, cond, sym, subst}
use Rattle.std.specs.Prelude.{codes}
use Rattle.clap.specs.Walk.{has_row}
use Rattle.clap.specs.Words.{found_of, rows_of}
use Rattle.in_command_line.specs.Asking.{IsOptionGiven}
use Rattle.in_command_line.proofs.Numbers.{row_if_matched}
use Rattle.in_command_line.proofs.action.count_of.Goals as goal

pub returns-then-contains_id : goal.returns-then-contains_id
returns-then-contains_id c =
    let found = found_of c.args.options.now in
    let name = c.args.name.now in
    let own : has_row name (rows_of found) ≡ true = row_if_matched found name ∙ sym c.contains_id.ensures ∙ c.if-contains_id.true in
    subst (λ (b : Bool). IsOptionGiven (cond b name (codes "cells")) (rows_of found) c.number_of.result) (sym own) c.number_of.ensures

pub returns-else-contains_id : goal.returns-else-contains_id
returns-else-contains_id c =
    let found = found_of c.args.options.now in
    let name = c.args.name.now in
    let own : has_row name (rows_of found) ≡ false = row_if_matched found name ∙ sym c.contains_id.ensures ∙ c.if-contains_id.false in
    subst (λ (b : Bool). IsOptionGiven (cond b name (codes "cells")) (rows_of found) c.number_of-else-contains_id.result) (sym own) c.number_of-else-contains_id.ensures
