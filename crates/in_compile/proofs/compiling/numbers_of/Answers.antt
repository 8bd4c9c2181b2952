use Rattle.std.proofs.Common.{◌≡◌, List, Result, Ok, Err, sym, subst}
use Rattle.std.specs.Prelude.{IfOk}
use Rattle.in_symbols.specs.Tables.{Tables}
use Rattle.in_net.specs.Rules.{RuleParts}
use Rattle.in_cover.specs.Cover.{IsTableOf}
use Rattle.in_cover.specs.Table.{Cells}
use Rattle.in_compile.proofs.Compiled.Accepted.{table}
use Rattle.in_compile.proofs.compiling.numbers_of.Goals as goal

-- a copy of the rules' table is theirs
copied : {E : Type 0} (t : Tables) (rules : List RuleParts) (own : Cells) → IsTableOf t rules own → (r : Result Cells E) → IfOk r (λ c. c ≡ own) → IfOk r (IsTableOf t rules)
copied t rules own is (Ok c) same = subst (IsTableOf t rules) (sym same) is
copied t rules own is (Err e) same = tt

pub returns : goal.returns
returns c =
    let p = c.args.checked.now.program in
    copied p.tables p.rules c.numbers.result.now (subst (IsTableOf p.tables p.rules) (sym c.numbers.ensures) (table c.is_accepted.ensures.accepted.0 c.is_accepted.ensures.accepted.1 p c.is_accepted.ensures.accepted.2)) c.copy.result c.copy.ensures
