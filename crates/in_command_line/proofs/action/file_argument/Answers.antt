use Rattle.std.proofs.Common.{◌∙◌, ap}
use Rattle.std.specs.Prelude.{Some}
use Rattle.clap.specs.Words.{Rule, rule_of}
use Rattle.clap.specs.declared.builder.action.ArgAction.TheVariants.{Set}
use Rattle.clap.specs.declared.builder.arg.Arg.{Arg}
use Rattle.in_command_line.proofs.action.file_argument.Goals as goal

pub returns-clause-rule : goal.returns-clause-rule
returns-clause-rule c =
    ap rule_of c.action.ensures
    ∙ ap (λ (r : Rule). record r { action = Some Set }) (ap rule_of c.help.ensures ∙ ap rule_of c.value_name.ensures)
    ∙ ap (λ (r : Rule). record r { action = Some Set; value_names = 1 }) c.new.ensures.rule

pub returns-clause-local : goal.returns-clause-local
returns-clause-local c =
    ap (λ (a : Arg). a.global) c.action.ensures ∙ ap (λ (a : Arg). a.global) c.help.ensures
    ∙ ap (λ (a : Arg). a.global) c.value_name.ensures ∙ c.new.ensures.optional.1
