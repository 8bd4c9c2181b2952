use Rattle.std.proofs.Common.{ap, ◌∙◌}
use Rattle.in_compile.specs.declared.cells.Need.{Need}
use Rattle.in_compile.specs.Cells.{count_of}
use Rattle.in_reducer.proofs.reducer.Reducer.need_of.Goals as goal

pub returns : goal.returns
returns c =
    let at = c.template.ensures in
    record {
      pair = at.pair;
      stands = at.stands;
      number = at.number;
      rule = at.rule;
      is_rule = at.is_rule;
      is_need = λ class. ap (λ (n : Need). count_of n class) c.need.ensures ∙ at.template.member.need class;
    }
