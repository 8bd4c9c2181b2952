use Rattle.std.proofs.Common.{◌≡◌, ◌∙◌, ap, rules}
use Rattle.std.specs.Prelude.{Option, Some}
use Rattle.clap.specs.Walk.{texts}
use Rattle.clap.specs.Words.{Rule, new_rule, rule_of}
use Rattle.clap.specs.declared.builder.action.ArgAction.TheVariants.{Set}
use Rattle.clap.specs.declared.builder.arg.Arg.{Arg}
use Rattle.clap.specs.declared.builder.value_parser.ValueParser.{ValueParser}
use Rattle.clap.specs.declared.builder.value_parser.ValueParser.TheVariants.{Unsigned}
use Rattle.in_command_line.proofs.action.number_option.Goals as goal

pub returns-clause-rule : goal.returns-clause-rule
returns-clause-rule c =
    let name = c.args.name.now in
    let bounds : c.value_parser.result.value_parser ≡ Some (Unsigned c.args.least c.args.most) = search rules in
    let long : rule_of c.long.result ≡ record (new_rule name) { long = Some name }
    = ap rule_of c.long.ensures ∙ ap (λ (r : Rule). record r { long = Some name }) c.new.ensures.rule in
    let named : rule_of c.help.result ≡ record (new_rule name) { long = Some name; value_names = 1 }
    = ap rule_of c.help.ensures ∙ ap rule_of c.value_name.ensures ∙ ap (λ (r : Rule). record r { value_names = 1 }) long in
    ap rule_of c.default_values.ensures
    ∙ ap (λ (r : Rule). record r { defaults = texts c.args.usual.now })
    (ap rule_of c.value_parser.ensures.others
    ∙ ap (λ (p : Option ValueParser). rule_of (record c.action.result { value_parser = p })) bounds
    ∙ ap (λ (a : Arg). rule_of (record a { value_parser = Some (Unsigned c.args.least c.args.most) })) c.action.ensures
    ∙ ap (λ (r : Rule). record r { action = Some Set; parser = Some (Unsigned c.args.least c.args.most) }) named)

pub returns-clause-local : goal.returns-clause-local
returns-clause-local c =
    ap (λ (a : Arg). a.global) c.default_values.ensures ∙ ap (λ (a : Arg). a.global) c.value_parser.ensures.others
    ∙ ap (λ (a : Arg). a.global) c.action.ensures ∙ ap (λ (a : Arg). a.global) c.help.ensures
    ∙ ap (λ (a : Arg). a.global) c.value_name.ensures ∙ ap (λ (a : Arg). a.global) c.long.ensures ∙ c.new.ensures.optional.1
